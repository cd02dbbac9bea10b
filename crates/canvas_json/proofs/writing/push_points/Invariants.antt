use Rattle.std.proofs.Common.{◌≡◌, ◌++◌, drop, false}
use Rattle.canvas_json.specs.Texts.{list_text, point_text}
use Rattle.canvas_json.proofs.writing.push_points.Given as goal

abbrev pub invariant-loop-point : goal.invariant-loop-point
invariant-loop-point l = l.out.items ++ list_text point_text l.later (drop l.point-index l.points) ≡ l.fn.out.items ++ list_text point_text false l.points
