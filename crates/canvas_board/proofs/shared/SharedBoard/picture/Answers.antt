use Rattle.std.proofs.Common.{true, ◌≡◌, rules, ap, sym, ◌∙◌, subst}
use Rattle.std.specs.Arc.{arc_value}
use Rattle.canvas_record.specs.Contents.{Contents}
use Rattle.canvas_paint.specs.Workers.{are_workers}
use Rattle.canvas_line.specs.declared.version.Version.{Version}
use Rattle.canvas_line.specs.Lines.{Sight}
use Rattle.canvas_line.specs.Standing.{IsVersionOf}
use Rattle.canvas_look.specs.Raster.{file_of}
use Rattle.canvas_look.specs.Seen.{Seen, Grows, document_of}
use Rattle.canvas_board.specs.Shared.{board_at}
use Rattle.canvas_board.proofs.Lasting.{looks-at}
use Rattle.canvas_board.proofs.Seats.{looks-grow, looks-document, looks-number}
use Rattle.canvas_board.proofs.Showing.{board-stays, goes-by-look, goes-nowhere, told-within, within-on}
use Rattle.canvas_board.proofs.shared.SharedBoard.picture.Goals as goal

pub picture_at-answer-requires-clause-at : goal.picture_at-answer-requires-clause-at
picture_at-answer-requires-clause-at g c =
    let seat = c.look.new.self in
    let at : IsVersionOf seat.opening seat.limit seat.front c.deref.result.now =
    subst (IsVersionOf seat.opening seat.limit seat.front) (sym c.deref.ensures) (looks-at c.self.inside.seat seat (arc_value c.in-Ok.version) c.in-Ok.ensures) in
    λ κs outlives. at

pub invariant_of-self : goal.invariant_of-self
invariant_of-self g c =
    let i = c.self.inside in
    within-on i.seat c.look.new.self i.known (goes-nowhere i.seat c.look.new.self c.in_default.ensures.1) c.self.invariant

pub invariant_of-self-in-Ok-answer : goal.invariant_of-self-in-Ok-answer
invariant_of-self-in-Ok-answer g c =
    let version = arc_value c.in-Ok.version in
    let n = c.deref-in-Ok-answer.result.now.number in
    let told : n ≡ version.number = ap (λ (v : Version). v.number) c.deref-in-Ok-answer.ensures in
    told-within c.self.inside.seat c.look.new.self version n c.in-Ok.ensures told

pub returns-in-Ok-answer : goal.returns-in-Ok-answer
returns-in-Ok-answer g c =
    let i = c.self.inside in
    let seat = c.look.new.self in
    let version = arc_value c.in-Ok.version in
    let n = c.deref-in-Ok-answer.result.now.number in
    let picture = c.in-Ok-answer.answer.picture in
    let told : n ≡ version.number = ap (λ (v : Version). v.number) c.deref-in-Ok-answer.ensures in
    let shows = c.in-Ok-answer.ensures in
    let named : picture.version ≡ n = shows.0 ∙ ap (λ (v : Version). v.number) c.deref.ensures ∙ sym told in
    let shown : c.deref.result.now.document ≡ document_of (board_at seat n) = ap (λ (v : Version). v.document) c.deref.ensures ∙ looks-document i.seat seat n version c.in-Ok.ensures told in
    let grows : Grows c.args.self.now (board_at seat n) = subst (λ (s : Seen). Grows s (board_at seat n)) c.self.view_is (looks-grow i.seat seat i.known n version c.in-Ok.ensures told) in
    let workers : are_workers c.args.workers ≡ true = search rules in
    (grows, workers, named ∙ looks-number i.seat seat n version c.in-Ok.ensures told, subst (λ (d : Contents). (arc_value picture.bytes).items ≡ file_of d c.args.window.now) shown shows.1)

pub invariant_of-self-in-Err : goal.invariant_of-self-in-Err
invariant_of-self-in-Err g c =
    let i = c.self.inside in
    within-on i.seat c.look.new.self i.known (goes-by-look i.seat c.look.new.self (arc_value c.in-Ok.version) c.in-Ok.ensures) c.self.invariant

pub returns : goal.returns
returns g c =
    let i = c.self.inside in
    let seat = c.look.new.self in
    let workers : are_workers c.args.workers ≡ true = search rules in
    (board-stays i.seat seat i.known (goes-by-look i.seat seat (arc_value c.in-Ok.version) c.in-Ok.ensures) c.self.invariant ∙ c.self.view_is, workers)

pub returns-in_default : goal.returns-in_default
returns-in_default g c =
    let workers : are_workers c.args.workers ≡ true = search rules in
    (ap (λ (s : Sight). board_at s c.self.inside.known) c.in_default.ensures.1 ∙ c.self.view_is, workers, ap (λ (s : Seen). s.alone) (sym c.self.view_is))
