use Rattle.canvas_shape.proofs.Grids.{inside-right, inside-left}
use Rattle.std.specs.Int.{w64}
use Rattle.std.proofs.Common.{FitsSigned, rules, ap}
use Rattle.canvas_shape.proofs.grid.Grid.has_inside.Goals as goal

pub returns-then-self-edge : goal.returns-then-self-edge
returns-then-self-edge c =
    let grid = c.args.self.now in
    let left : FitsSigned w64 grid.covered.left = search rules in
    let right : FitsSigned w64 grid.covered.right = search rules in
    inside-right grid.covered.left grid.covered.right c.args.edge _ _ left right c.ranges.edge (ap (λ b. b.left) grid.exact) (ap (λ b. b.right) grid.exact) c.if-self-edge.true

pub returns-else-self-edge : goal.returns-else-self-edge
returns-else-self-edge c =
    let grid = c.args.self.now in
    let left : FitsSigned w64 grid.covered.left = search rules in
    inside-left grid.covered.left c.args.edge _ _ left c.ranges.edge (ap (λ b. b.left) grid.exact) c.if-self-edge.false
