use Rattle.std.proofs.Common.{arith}
use Rattle.canvas_doors.proofs.Begun.{brought, long_told}
use Rattle.canvas_doors.proofs.first_line.read_first.Goals as goal

pub returns-in-Some-told_by-clause-read : goal.returns-in-Some-told_by-clause-read
returns-in-Some-told_by-clause-read g c = brought _ _ _ c.loop-first.first.items c.read_more.new.first.items c.in_ok-read_more.field-0 c.in-Some.field-0 c.in-Some.is c.loop-first.invariant.read c.in_ok-read_more.ensures

pub loop-first-preserved : goal.loop-first-preserved
loop-first-preserved g c = record {
  read = brought _ _ _ c.loop-first.first.items c.read_more.new.first.items c.in_ok-read_more.field-0 c.in-Some.field-0 c.in-Some.is c.loop-first.invariant.read c.in_ok-read_more.ensures;
  unended = rw c.deref.ensures.value at c.in_default.ensures.unended;
  untold = rw c.deref.ensures.value at c.in_default.ensures.untold;
}

pub returns-clause-told : goal.returns-clause-told
returns-clause-told g c = long_told c.loop-first.first.items _ c.loop-first.invariant.unended (omega (arith, c.len.ensures, c.loop-first-test.false)) c.loop-first.invariant.untold
