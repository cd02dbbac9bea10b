use Rattle.std.proofs.Common.{◌≡◌, ◌++◌, length}
use Rattle.std.specs.Prelude.{option_map}
use Rattle.canvas_json.specs.Given.{items_view}
use Rattle.canvas_json.specs.Shapes.{points_in}
use Rattle.canvas_json.proofs.shape.points_in.Given as goal

abbrev pub invariant-loop-value : goal.invariant-loop-value
invariant-loop-value l = record { rest : option_map (λ after. l.points ++ after) (points_in (items_view l.left)) ≡ points_in (items_view l.fn.items) }

abbrev pub decreases-loop-value : goal.decreases-loop-value
decreases-loop-value l = length l.left
