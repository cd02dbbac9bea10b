use Rattle.canvas_doors.proofs.Passing.{passed_same}
use Rattle.canvas_doors.proofs.gated.Passage.flush.Goals as goal

pub invariant_of-self : goal.invariant_of-self
invariant_of-self g c = record { has_passed = passed_same _ _ _ _ _ c.args.self.now.has_passed c.flush.ensures.bytes }
