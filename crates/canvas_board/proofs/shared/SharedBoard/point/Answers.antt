use Rattle.std.proofs.Common.{◌≡◌, rules, ap, ◌∙◌, subst}
use Rattle.std.specs.Arc.{arc_value}
use Rattle.canvas_record.specs.Contents.{Contents}
use Rattle.canvas_record.specs.Picture.{colour}
use Rattle.canvas_line.specs.declared.version.Version.{Version}
use Rattle.canvas_line.specs.Seats.{Looks}
use Rattle.canvas_look.specs.Seen.{Seen, Grows, document_of}
use Rattle.canvas_board.specs.Shared.{board_at}
use Rattle.canvas_board.proofs.Seats.{looks-grow, looks-document, looks-number}
use Rattle.canvas_board.proofs.Showing.{goes-nowhere, told-within, within-on}
use Rattle.canvas_board.proofs.shared.SharedBoard.point.Goals as goal

pub returns : goal.returns
returns g c =
    let i = c.self.inside in
    let seat = c.look.new.self in
    let version = arc_value c.in-Ok.version in
    let n = c.deref-2.result.now.number in
    let looks : Looks i.seat seat version = c.in-Ok.ensures in
    let told : n ≡ version.number = ap (λ (v : Version). v.number) c.deref-2.ensures in
    let shown : c.deref.result.now.document ≡ document_of (board_at seat n) = ap (λ (v : Version). v.document) c.deref.ensures ∙ looks-document i.seat seat n version looks told in
    let grows : Grows c.args.self.now (board_at seat n) = subst (λ (s : Seen). Grows s (board_at seat n)) c.self.view_is (looks-grow i.seat seat i.known n version looks told) in
    (grows, looks-number i.seat seat n version looks told, subst (λ (d : Contents). c.colour_at-colour.result ≡ colour d.records c.args.x c.args.y) shown (search rules))

pub invariant_of-self : goal.invariant_of-self
invariant_of-self g c =
    let i = c.self.inside in
    within-on i.seat c.look.new.self i.known (goes-nowhere i.seat c.look.new.self c.in_default.ensures.1) c.self.invariant

pub invariant_of-self-2 : goal.invariant_of-self-2
invariant_of-self-2 g c =
    let version = arc_value c.in-Ok.version in
    let told : c.deref-2.result.now.number ≡ version.number = ap (λ (v : Version). v.number) c.deref-2.ensures in
    told-within c.self.inside.seat c.look.new.self version c.deref-2.result.now.number c.in-Ok.ensures told
