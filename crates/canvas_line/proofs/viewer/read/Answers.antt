use Rattle.std.proofs.Common.{◌≡◌, IfOk, refl, ap, ◌∙◌, subst}
use Rattle.std.specs.Arc.{arc_value}
use Rattle.left_right.specs.Sides.{view as seat_view}
use Rattle.canvas_line.specs.Trails.{Facts}
use Rattle.canvas_line.specs.Standing.{Shown, IsVersionOf}
use Rattle.canvas_line.proofs.Knowing.{facts_seen, knows_next, knows_same, ok_some}
use Rattle.canvas_line.proofs.Turns.{turns}
use Rattle.canvas_line.proofs.viewer.read.Goals as goal

pub enter_as-requires : goal.enter_as-requires
enter_as-requires c x = turns _ _ x x refl

pub returns-in-Ok : goal.returns-in-Ok
returns-in-Ok c f k =
    let before = seat_view c.args.reader.place in
    let inside = seat_view c.in-Ok.reading.place in
    let x = c.in-Ok.reading.part.value in
    let facts : c.get.result.now.facts ≡ f = ap (λ (p : Shown). p.facts) c.get.ensures ∙ facts_seen before inside x f k c.in-Ok.ensures.1 in
    let latest = subst (λ (g : Facts). IfOk c.latest.result (λ l. (l.trace.book ≡ g.book) × IsVersionOf g.opening g.limit l.trace.changes (arc_value l.version))) facts c.latest.ensures in (
      knows_same inside (seat_view c.leave.result.place) f c.leave.ensures.1 (knows_next before inside x f k c.in-Ok.ensures.1),
      ok_some (λ l. (l.trace.book ≡ f.book) × IsVersionOf f.opening f.limit l.trace.changes (arc_value l.version)) c.latest.result c.ok-latest.result c.ok-latest.ensures.value latest,
    )

pub returns-in-Err : goal.returns-in-Err
returns-in-Err c f k = (knows_same (seat_view c.args.reader.place) (seat_view c.in-Err.reader.place) f c.in-Err.ensures.1 k, tt)
