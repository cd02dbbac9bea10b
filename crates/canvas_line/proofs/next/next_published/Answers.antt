use Rattle.std.proofs.Common.{◌≡◌, ◌+◌, ◌<◌, ap, sym, length, ◌∙◌, subst, ◌∷◌, [], ◌++◌}
use Rattle.std.specs.Arc.{arc_value}
use Rattle.std.proofs.lemmas.List.{length_push}
use Rattle.logbook.specs.Pages.{Book}
use Rattle.canvas_record.specs.Contents.{Contents}
use Rattle.canvas_record.specs.Decision.{decision_of}
use Rattle.canvas_record.specs.History.{replay_of}
use Rattle.canvas_line.specs.Standing.{Shown}
use Rattle.canvas_line.specs.Trails.{Facts, Trail}
use Rattle.canvas_line.specs.declared.version.Version.{Version}
use Rattle.canvas_line.specs.Lines.{Follows}
use Rattle.canvas_line.proofs.Versions.{version_more}
use Rattle.canvas_line.proofs.next.next_published.Goals as goal

pub invariant_of-next : goal.invariant_of-next
invariant_of-next c =
    let w = arc_value c.in_ok-after.after.version in
    let limit = c.now.inside.limit in
    let change = c.in_ok-after.after.change.value in
    let h : Follows (arc_value c.now.inside.version) limit c.args.edit.now change w = subst (λ (v : Version). Follows v limit c.args.edit.now change w) c.deref.ensures c.in_ok-after.ensures.follows.0 in
    let is = version_more (arc_value c.now.inside.opening).document limit c.now.inside.trace.changes change (arc_value c.now.inside.version) w c.now.invariant h.1 h.2 h.3 h.4 h.5 h.6 in
    let changes : c.add.new.self.changes ≡ c.now.inside.trace.changes ++ change ∷ [] =
    ap (λ t. t.changes) c.if-not-add.ensures ∙ ap (λ t. t.changes ++ change ∷ []) c.again-trace.ensures in
    rw (c.in_ok-opening.ensures, changes) is

pub returns-clause-next : goal.returns-clause-next
returns-clause-next c =
    let w = arc_value c.in_ok-after.after.version in
    let limit = c.now.inside.limit in
    let change = c.in_ok-after.after.change.value in
    let h : Follows (arc_value c.now.inside.version) limit c.args.edit.now change w = subst (λ (v : Version). Follows v limit c.args.edit.now change w) c.deref.ensures c.in_ok-after.ensures.follows.0 in
    let changes : c.add.new.self.changes ≡ c.now.inside.trace.changes ++ change ∷ [] =
    ap (λ t. t.changes) c.if-not-add.ensures ∙ ap (λ t. t.changes ++ change ∷ []) c.again-trace.ensures in
    let book : c.add.new.self.book ≡ c.now.inside.trace.book = ap (λ (t : Trail). t.book) (c.if-not-add.ensures) ∙ ap (λ (t : Trail). t.book) c.again-trace.ensures in
    let facts : Book → Contents → Facts = λ book opening. record { book = book; opening = opening; limit = limit } in
    let number : w.number ≡ length c.now.inside.trace.changes + 1 = h.3 ∙ ap (λ n. n + 1) c.now.invariant.number in (
      change,
      sym (ap (decision_of c.args.edit.now) (c.now.invariant.document ∙ ap (λ (s : Shown). replay_of s.facts.opening s.changes) c.now.view_is)) ∙ h.0,
      subst (λ (s : Shown). length s.changes < s.facts.limit) c.now.view_is (subst (λ n. n < limit) c.now.invariant.number h.2),
      ap (λ b. facts b (arc_value c.in_ok-opening.opening).document) book ∙ (ap (λ (v : Version). facts c.now.inside.trace.book v.document) c.in_ok-opening.ensures ∙ ap (λ (s : Shown). s.facts) c.now.view_is),
      changes ∙ ap (λ (s : Shown). s.changes ++ change ∷ []) c.now.view_is,
      c.in_ok-after.ensures.follows.1 ∙ number ∙ sym (ap length changes ∙ length_push c.now.inside.trace.changes change),
      c.in_ok-after.ensures.follows.2,
    )
