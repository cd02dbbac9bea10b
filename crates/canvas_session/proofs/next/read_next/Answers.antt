use Rattle.std.proofs.Common.{◌≡◌, ◌≤◌, ℕ, List, length, ap, sym, subst, ◌∙◌}
use Rattle.canvas_session.specs.Line.{LacksLf, HasNoLf}
use Rattle.canvas_session.proofs.Taking.{ended_empty, lacks_on, longer_on, takes_on}
use Rattle.canvas_session.proofs.next.read_next.Goals as goal

pub returns-in_err-fill-clause-takes : goal.returns-in_err-fill-clause-takes
returns-in_err-fill-clause-takes g c = takes_on _ _ _ c.args.pending.now c.loop-n.pending c.fill.new.self c.loop-n.invariant.takes c.fill.ensures.takes

pub returns-then-seen-eq0-clause-takes : goal.returns-then-seen-eq0-clause-takes
returns-then-seen-eq0-clause-takes g c = takes_on _ _ _ c.args.pending.now c.loop-n.pending c.fill.new.self c.loop-n.invariant.takes c.fill.ensures.takes

pub returns-else-seen-eq0-clause-takes : goal.returns-else-seen-eq0-clause-takes
returns-else-seen-eq0-clause-takes g c = takes_on _ _ _ c.args.pending.now c.loop-n.pending c.fill.new.self c.loop-n.invariant.takes c.fill.ensures.takes

pub returns-then-seen-eq0-clause-next : goal.returns-then-seen-eq0-clause-next
returns-then-seen-eq0-clause-next g c =
    ended_empty _ c.loop-n.pending c.fill.new.self c.in_ok-fill.field-0 c.if-not-branch.true c.in_ok-fill.ensures.more (sym (ap length c.as_slice-bytes.ensures.bytes) ∙ c.if-seen-eq0.true)

pub loop-n-preserved : goal.loop-n-preserved
loop-n-preserved g c =
    let bytes : c.as_slice-bytes.result.now ≡ c.loop-n.pending = c.as_slice-bytes.ensures.bytes in
    record {
      takes = takes_on _ _ _ c.args.pending.now c.loop-n.pending c.fill.new.self c.loop-n.invariant.takes c.fill.ensures.takes;
      fits = c.fill.ensures.fits;
      within = subst (λ (l : List ℕ). length l ≤ length c.fill.new.self) (sym bytes) (longer_on _ _ c.loop-n.pending c.fill.new.self c.fill.ensures.takes);
      before = subst (λ (l : List ℕ). LacksLf (length l) c.fill.new.self) (sym bytes) (lacks_on _ _ c.loop-n.pending c.fill.new.self c.fill.ensures.takes (subst HasNoLf bytes c.in_default.ensures.none));
    }
