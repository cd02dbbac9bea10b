use Rattle.canvas_doors.proofs.Passing.{passed_more, passed_same}
use Rattle.canvas_doors.proofs.gated.Passage.pass_two.Goals as goal

pub invariant_of-self : goal.invariant_of-self
invariant_of-self g c = record { has_passed = passed_same _ _ _ _ _ c.args.self.now.has_passed c.in_err-sent.ensures.bytes }

pub invariant_of-self-2 : goal.invariant_of-self-2
invariant_of-self-2 g c =
    record { has_passed = passed_more _ _ _ _ _ _ _ c.args.self.now.has_passed c.requires.settled c.in_ok-sent.ensures.bound c.in_ok-sent.ensures.bytes }
