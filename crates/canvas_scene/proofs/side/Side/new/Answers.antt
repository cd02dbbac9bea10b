use Rattle.std.specs.Int.{w64}
use Rattle.std.proofs.lemmas.Int.{to_z-of_z}
use Rattle.canvas_scene.proofs.Sides.{all-cells}
use Rattle.canvas_scene.proofs.side.Side.new.Goals as goal

pub invariant_of-result-clause-short : goal.invariant_of-result-clause-short
invariant_of-result-clause-short c = all-cells c.args.start c.args.end _ _ c.args.level c.from.result (to_z-of_z w64 c.args.start c.ranges.start) (to_z-of_z w64 c.args.end c.ranges.end) c.from.ensures c.requires.short
