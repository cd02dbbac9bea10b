use Rattle.std.proofs.Common.{◌≡◌, MatchResult, [], fold, drop, ap, sym, ◌∙◌, subst}
use Rattle.left_right.specs.Sides.{view as seat_view}
use Rattle.canvas_line.specs.Rule.{Seen}
use Rattle.canvas_line.specs.Standing.{Shown}
use Rattle.canvas_line.proofs.Knowing.{knows_next, knows_same}
use Rattle.canvas_line.proofs.Turns.{turns, fold_last}
use Rattle.canvas_line.proofs.writer.publish.Goals as goal

pub publish_as-writer-requires : goal.publish_as-writer-requires
publish_as-writer-requires g c next is =
    let now = c.append.new.self.desk.shown.value in
    let old = drop c.args.writer.behind c.args.writer.log.items in
    let same : next ≡ c.args.next = is ∙ (ap (λ xs. fold (λ (s x : Shown). x) now xs) c.in-Ok.ensures.pending ∙ fold_last now old c.args.next) in
    turns _ _ now next (ap (λ p. p.facts) same ∙ (c.requires ∙ sym (ap (λ d. d.shown.value.facts) c.append.ensures.desk)))

pub returns-in-Ok-done-clause-known : goal.returns-in-Ok-done-clause-known
returns-in-Ok-done-clause-known g c =
    let q = c.append.new.self in
    let p = c.publish_as-writer.result.0 in
    let v = seat_view q.desk.place in
    let w = seat_view p.desk.place in
    let old = drop c.args.writer.behind c.args.writer.log.items in
    let seen = subst (λ r. MatchResult r (λ _. Seen v q.desk.shown.value p.desk.shown.value w) (λ _. w ≡ v)) c.in-Ok-done.is c.publish_as-writer.ensures.rule in
    let values = subst (λ r. MatchResult r (λ _. (p.desk.shown.value ≡ fold (λ (s x : Shown). x) q.desk.shown.value (drop q.behind q.log.items)) × (drop p.behind p.log.items ≡ [])) (λ _. (p.desk.shown.value ≡ q.desk.shown.value) × (drop p.behind p.log.items ≡ drop q.behind q.log.items))) c.in-Ok-done.is c.publish_as-writer.ensures.values in
    let same : p.desk.shown.value ≡ c.args.next = values.0 ∙ (ap (λ xs. fold (λ (s x : Shown). x) q.desk.shown.value xs) c.in-Ok.ensures.pending ∙ fold_last q.desk.shown.value old c.args.next) in
    (p.desk.shown.value, seen.0, ap (λ (s : Shown). s.facts) same)

pub returns-in-Ok-done-clause-view : goal.returns-in-Ok-done-clause-view
returns-in-Ok-done-clause-view g c f k =
    let q = c.append.new.self in
    let p = c.publish_as-writer.result.0 in
    let v = seat_view q.desk.place in
    let w = seat_view p.desk.place in
    let seen = subst (λ r. MatchResult r (λ _. Seen v q.desk.shown.value p.desk.shown.value w) (λ _. w ≡ v)) c.in-Ok-done.is c.publish_as-writer.ensures.rule in
    let same = ap (λ d. seat_view d.place) c.append.ensures.desk in
    knows_next v w p.desk.shown.value f (knows_same (seat_view c.args.writer.desk.place) v f same k) seen

pub returns-in-Err-done-clause-view : goal.returns-in-Err-done-clause-view
returns-in-Err-done-clause-view g c f k =
    let q = c.append.new.self in
    let p = c.publish_as-writer.result.0 in
    let v = seat_view q.desk.place in
    let w = seat_view p.desk.place in
    let kept = subst (λ r. MatchResult r (λ _. Seen v q.desk.shown.value p.desk.shown.value w) (λ _. w ≡ v)) c.in-Err-done.is c.publish_as-writer.ensures.rule in
    let same = ap (λ d. seat_view d.place) c.append.ensures.desk in
    knows_same (seat_view c.args.writer.desk.place) w f (kept ∙ same) k

pub returns-in-Err-clause-view : goal.returns-in-Err-clause-view
returns-in-Err-clause-view g c f k =
    knows_same (seat_view c.args.writer.desk.place) (seat_view c.append.new.self.desk.place) f (ap (λ d. seat_view d.place) c.append.ensures.desk) k

pub returns-in-Ok-done-clause-value : goal.returns-in-Ok-done-clause-value
returns-in-Ok-done-clause-value g c =
    let q = c.append.new.self in
    let p = c.publish_as-writer.result.0 in
    let old = drop c.args.writer.behind c.args.writer.log.items in
    let values = subst (λ r. MatchResult r (λ _. (p.desk.shown.value ≡ fold (λ (s x : Shown). x) q.desk.shown.value (drop q.behind q.log.items)) × (drop p.behind p.log.items ≡ [])) (λ _. (p.desk.shown.value ≡ q.desk.shown.value) × (drop p.behind p.log.items ≡ drop q.behind q.log.items))) c.in-Ok-done.is c.publish_as-writer.ensures.values in
    values.0 ∙ (ap (λ xs. fold (λ (s x : Shown). x) q.desk.shown.value xs) c.in-Ok.ensures.pending ∙ fold_last q.desk.shown.value old c.args.next)
