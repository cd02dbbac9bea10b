use Rattle.std.proofs.Common.{FitsSigned, rules}
use Rattle.std.specs.Int.{w64}
use Rattle.std.proofs.lemmas.Int.{to_z-of_z}
use Rattle.canvas_shape.proofs.EllipseRow.{near-row, empty-row}
use Rattle.canvas_shape.proofs.Mirrors.{side-kept, side-near}
use Rattle.canvas_shape.proofs.ellipse.row_ends.Goals as goal

pub returns-then-m-h : goal.returns-then-m-h
returns-then-m-h c = λ x.
    let b = c.args.shape.now in
    let y = c.ranges.y in
    let l : FitsSigned w64 c.args.shape.now.left = search rules in
    let r : FitsSigned w64 c.args.shape.now.right = search rules in
    let t : FitsSigned w64 c.args.shape.now.top = search rules in
    let u : FitsSigned w64 c.args.shape.now.bottom = search rules in
    near-row c.args.shape.now x c.args.y c.side-w.result c.side-h.result c.way-m.result c.reach.result c.ends_at.result.from c.ends_at.result.to
    (simp to_z-of_z at c.side-w.ensures.value) (simp to_z-of_z at c.side-h.ensures.value) (simp to_z-of_z at c.way-m.ensures.value)
    c.reach.ensures.value c.reach.ensures.bound (simp to_z-of_z at c.ends_at.ensures.from) (simp to_z-of_z at c.ends_at.ensures.to)

pub returns-else-m-h : goal.returns-else-m-h
returns-else-m-h c = λ x.
    let y = c.ranges.y in
    let l : FitsSigned w64 c.args.shape.now.left = search rules in
    let r : FitsSigned w64 c.args.shape.now.right = search rules in
    let t : FitsSigned w64 c.args.shape.now.top = search rules in
    let u : FitsSigned w64 c.args.shape.now.bottom = search rules in
    empty-row c.args.shape.now x c.args.y c.side-w.result c.side-h.result c.way-m.result
    (simp to_z-of_z at c.side-w.ensures.value) (simp to_z-of_z at c.side-h.ensures.value) (simp to_z-of_z at c.way-m.ensures.value)
    c.side-w.ensures.least c.if-m-h.false

pub side-w-requires : goal.side-w-requires
side-w-requires c = let shape = c.args.shape.now in side-kept shape.left shape.right c.requires.across

pub side-h-requires : goal.side-h-requires
side-h-requires c = let shape = c.args.shape.now in side-kept shape.top shape.bottom c.requires.down

pub way-m-requires-clause-near : goal.way-m-requires-clause-near
way-m-requires-clause-near c = let shape = c.args.shape.now in side-near shape.top shape.bottom c.requires.down

pub ends_at-requires-clause-near : goal.ends_at-requires-clause-near
ends_at-requires-clause-near c = let shape = c.args.shape.now in side-near shape.left shape.right c.requires.across
