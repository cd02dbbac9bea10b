use Rattle.std.proofs.Common.{◌≡◌, ◌∙◌, ◌+◌, ◌<◌, None, Some, ap, sym, arith, get_or, length}
use Rattle.std.proofs.lemmas.Option.{get_or_from_slice_get, slice_get-get_or}
use Rattle.canvas_list.proofs.Runs.{end-of-run, read-run}
use Rattle.canvas_list.proofs.list.SharedList.found_behind.Goals as goal
use Rattle.canvas_list.proofs.list.SharedList.found_behind.Goals.{in_default-via-in-Some+else-passes, in_default-via-in_default, else-passed-eq0-via-then-passed-eq0+else-at-gt0, else-passed-eq0-via-else-passed-eq0}

pub returns-then-passed-run-clause-item : goal.returns-then-passed-run-clause-item
returns-then-passed-run-clause-item g c = read-run c.args.self.now c.args.run.now.items.now c.args.run.now.start c.args.passed c.index-run-passed.result c.requires.run c.if-passed-run.true

pub returns-then-passed-run-clause-end : goal.returns-then-passed-run-clause-end
returns-then-passed-run-clause-end g c =
    λ p by end.
    end-of-run p c.args.self.now c.args.run.now.items.now c.args.run.now.start c.args.passed c.requires.run c.requires.passed
    (λ none. elim c.else-passed-eq0.branch [
      | else-passed-eq0-via-then-passed-eq0+else-at-gt0 w ↦ omega (arith, w.if-at-gt0.false)
      | else-passed-eq0-via-else-passed-eq0 w ↦ absurd (w.if-passed-eq0.false none)
    ])
    (λ x all. let inside : c.args.passed < length c.args.run.now.items.now = c.if-passed-run.true in absurd (omega arith)) end

pub returns-in_default-clause-end : goal.returns-in_default-clause-end
returns-in_default-clause-end g c =
    λ p by end.
    end-of-run p c.args.self.now c.args.run.now.items.now c.args.run.now.start c.args.passed c.requires.run c.requires.passed
    (λ none. elim c.else-passed-eq0.branch [
      | else-passed-eq0-via-then-passed-eq0+else-at-gt0 w ↦ omega (arith, w.if-at-gt0.false)
      | else-passed-eq0-via-else-passed-eq0 w ↦ absurd (w.if-passed-eq0.false none)
    ])
    (λ x all within. elim c.in_default.branch [
      | in_default-via-in-Some+else-passes w ↦ ap p (get_or_from_slice_get c.args.self.now (c.args.run.now.start + c.args.passed) w.in-Some.next.now x (sym w.in-Some.ensures)) ∙ sym (w.passes.ensures p by) ∙ w.if-passes.false
      | in_default-via-in_default w ↦ (let clash : None ≡ Some (get_or c.args.self.now (c.args.run.now.start + c.args.passed) x) = w.in_default.ensures ∙ slice_get-get_or c.args.self.now (c.args.run.now.start + c.args.passed) x within in cc)
    ]) end
