use Rattle.std.proofs.Common.{ap, ◌∙◌, rules}
use Rattle.std.specs.Mem.{manually_drop_value}
use Rattle.left_right.specs.Sides.{view as seat_view}
use Rattle.canvas_line.proofs.Knowing.{knows_same}
use Rattle.canvas_line.proofs.Turns.{admits, forks, merges}
use Rattle.canvas_line.proofs.desk.Desk.viewer.Goals as goal

pub reader-requires : goal.reader-requires
reader-requires g c = admits

pub tell-requires : goal.tell-requires
tell-requires g c = forks _ _

pub learn-requires-clause-rule : goal.learn-requires-clause-rule
learn-requires-clause-rule g c = merges _ _ _ _

pub invariant_of-self : goal.invariant_of-self
invariant_of-self g c =
    let line = g.B.Lines.line c.self.inside.name in
    let i = c.self.invariant in
    let own = seat_view (manually_drop_value c.self.inside.writer).desk.place in
    let here = seat_view c.deref_mut-writer.result.now.desk.place in
    let same = ap (λ w. seat_view w.desk.place) c.deref_mut-writer.ensures.value in
    (knows_same own here line same i.0, ap (λ w. w.desk.shown.value.facts) c.deref_mut-writer.ensures.value ∙ i.1, i.2, i.3, search rules)

pub new-requires : goal.new-requires
new-requires g c =
    let line = g.B.Lines.line c.self.inside.name in
    let own = seat_view (manually_drop_value c.self.inside.writer).desk.place in
    let told = c.tell.ensures.given.1 ∙ ap (λ w. seat_view w.desk.place) c.deref_mut-writer.ensures.value in
    knows_same own (seat_view c.learn.new.self.place) line (c.learn.ensures.1 ∙ told) c.self.invariant.0

pub invariant_of-self-2 : goal.invariant_of-self-2
invariant_of-self-2 g c =
    let line = g.B.Lines.line c.self.inside.name in
    let i = c.self.invariant in
    let own = seat_view (manually_drop_value c.self.inside.writer).desk.place in
    let view = c.tell.ensures.kept.3 ∙ ap (λ w. seat_view w.desk.place) c.deref_mut-writer.ensures.value in
    let shown = ap (λ s. s.value.facts) c.tell.ensures.kept.0 ∙ ap (λ w. w.desk.shown.value.facts) c.deref_mut-writer.ensures.value in
    (knows_same own (seat_view c.tell.new.self.desk.place) line view i.0, shown ∙ i.1, i.2, i.3, search rules)
