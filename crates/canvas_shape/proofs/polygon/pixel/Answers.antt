use Rattle.std.specs.Int.{w32}
use Rattle.std.proofs.Common.{FitsSigned, rules, pos, ◌+ℤ◌}
use Rattle.canvas_shape.proofs.Held.{end-is, end-fits, pixel-end}
use Rattle.canvas_shape.proofs.polygon.pixel.Goals as goal

pub overflow_cast-result-2 : goal.overflow_cast-result-2
overflow_cast-result-2 c =
    let row = c.args.row in
    let left : FitsSigned w32 row.left = search rules in
    let right : FitsSigned w32 row.right = search rules in
    end-fits row.left c.from.result c.args.at left (record { sfits = c.from.type_inv }) c.ranges.at.fits c.from.ensures (pixel-end (row.left +ℤ pos c.args.at) row.right right c.requires)

pub returns : goal.returns
returns c =
    let row = c.args.row in
    let left : FitsSigned w32 row.left = search rules in
    let right : FitsSigned w32 row.right = search rules in
    end-is row.left c.from.result c.args.at left (record { sfits = c.from.type_inv }) c.ranges.at.fits c.from.ensures (pixel-end (row.left +ℤ pos c.args.at) row.right right c.requires)
