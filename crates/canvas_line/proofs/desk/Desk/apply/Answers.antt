use Rattle.std.proofs.Common.{◌≡◌, ap, ◌∙◌, rules}
use Rattle.std.specs.Mem.{manually_drop_value}
use Rattle.canvas_line.specs.Standing.{Shown}
use Rattle.canvas_line.specs.Trails.{Facts}
use Rattle.canvas_line.proofs.Accepting.{accepts}
use Rattle.canvas_line.proofs.Recording.{recorded}
use Rattle.canvas_line.proofs.desk.Desk.apply.Goals as goal

-- the published history has one change more, and so has what is recorded
pub invariant_of-self-2 : goal.invariant_of-self-2
invariant_of-self-2 g c =
    let line = g.B.Lines.line c.self.inside.name in
    let i = c.self.invariant in
    let old = (manually_drop_value c.self.inside.writer).desk.shown.value in
    let new = (manually_drop_value c.publish_at.new.writer).desk.shown.value in
    let n = c.in_ok-next.ensures.next in
    let shows : c.published.result.now ≡ old = search rules in
    let published : new ≡ c.in_ok-next.next = c.if-not-publish_at.ensures.value in
    let facts : c.published.result.now.facts ≡ line = ap (λ (s : Shown). s.facts) shows ∙ i.1 in
    let records = recorded line.opening c.published.result.now.facts.opening old.changes c.published.result.now.changes new.changes c.self.inside.recorder.taken c.next_published.new.recorder.taken c.add.new.self.taken
    c.self.inside.recorder.edits.items c.next_published.new.recorder.edits.items c.add.new.self.edits.items c.args.edit.now n.0
    i.4
    (ap (λ (f : Facts). f.opening) facts)
    (ap (λ (s : Shown). s.changes) shows)
    n.1
    (ap (λ (s : Shown). s.changes) published ∙ n.4)
    c.in_ok-next.ensures.taken
    c.in_ok-next.ensures.edits
    c.add.ensures.taken
    (c.add.ensures.edits c.args.edit.now c.in_ok-next.ensures.copy) in
    (c.publish_at.ensures.view line i.0, ap (λ (s : Shown). s.facts) published ∙ n.3 ∙ facts, i.2, i.3, records)

pub returns-clause-accepted : goal.returns-clause-accepted
returns-clause-accepted g c =
    let line = g.B.Lines.line c.self.inside.name in
    let old = (manually_drop_value c.self.inside.writer).desk.shown.value in
    let new = (manually_drop_value c.publish_at.new.writer).desk.shown.value in
    let shows : c.published.result.now ≡ old = search rules in
    accepts c.args.self.now c.self.inside.name line old.changes new.changes c.self.inside.recorder.taken c.add.new.self.taken c.published.result.now c.in_ok-next.next c.args.edit.now c.in_ok-next.edited
    c.self.view_is
    c.in_ok-next.ensures.next
    (ap (λ (s : Shown). s.facts) shows ∙ c.self.invariant.1)
    (ap (λ (s : Shown). s.changes) shows)
    (ap (λ (s : Shown). s.changes) c.if-not-publish_at.ensures.value)
    (c.add.ensures.taken ∙ c.in_ok-next.ensures.taken)
