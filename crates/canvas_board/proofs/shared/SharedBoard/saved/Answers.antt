use Rattle.std.proofs.Common.{◌≡◌, sym, ap, ◌∙◌, subst}
use Rattle.std.specs.Arc.{arc_value}
use Rattle.canvas_record.specs.Contents.{Contents}
use Rattle.canvas_record.specs.History.{replay_of}
use Rattle.canvas_json.specs.Saved.{saved_text_of}
use Rattle.canvas_line.specs.declared.version.Version.{Version}
use Rattle.canvas_line.specs.Lines.{Sight}
use Rattle.canvas_line.specs.Seats.{Looks}
use Rattle.canvas_look.specs.Seen.{Seen, Grows, document_of}
use Rattle.canvas_board.specs.Shared.{board_at}
use Rattle.canvas_board.proofs.Seats.{looks-grow, looks-document, looks-number}
use Rattle.canvas_board.proofs.Showing.{front-document, goes-by-look, goes-nowhere, told-within, within-on}
use Rattle.canvas_board.proofs.shared.SharedBoard.saved.Goals as goal

-- the mark is that of the version that was looked at
pub text_at-requires : goal.text_at-requires
text_at-requires g c =
    let i = c.self.inside in
    let seat = c.look.new.self in
    let version = arc_value c.in-Ok.version in
    ap (λ (v : Version). v.document) c.deref.ensures ∙ front-document i.seat seat version c.in-Ok.ensures ∙ sym (ap (λ (s : Sight). replay_of s.opening s.front) c.mark-mark.ensures)

pub returns-in-Ok-text_at : goal.returns-in-Ok-text_at
returns-in-Ok-text_at g c =
    let i = c.self.inside in
    let seat = c.look.new.self in
    let version = arc_value c.in-Ok.version in
    let n = c.deref-in-Ok-text_at.result.now.number in
    let looks : Looks i.seat seat version = c.in-Ok.ensures in
    let told : n ≡ version.number = ap (λ (v : Version). v.number) c.deref-in-Ok-text_at.ensures in
    let shown : c.deref.result.now.document ≡ document_of (board_at seat n) = ap (λ (v : Version). v.document) c.deref.ensures ∙ looks-document i.seat seat n version looks told in
    let grows : Grows c.args.self.now (board_at seat n) = subst (λ (s : Seen). Grows s (board_at seat n)) c.self.view_is (looks-grow i.seat seat i.known n version looks told) in
    (grows, looks-number i.seat seat n version looks told, subst (λ (d : Contents). (arc_value c.in-Ok-text_at.text).items ≡ saved_text_of d) shown c.in-Ok-text_at.ensures.saved)

pub invariant_of-self : goal.invariant_of-self
invariant_of-self g c =
    let i = c.self.inside in
    within-on i.seat c.look.new.self i.known (goes-nowhere i.seat c.look.new.self c.in_default.ensures.1) c.self.invariant

pub invariant_of-self-in-Ok-text_at : goal.invariant_of-self-in-Ok-text_at
invariant_of-self-in-Ok-text_at g c =
    let version = arc_value c.in-Ok.version in
    let told : c.deref-in-Ok-text_at.result.now.number ≡ version.number = ap (λ (v : Version). v.number) c.deref-in-Ok-text_at.ensures in
    told-within c.self.inside.seat c.look.new.self version c.deref-in-Ok-text_at.result.now.number c.in-Ok.ensures told

pub invariant_of-self-in-Err : goal.invariant_of-self-in-Err
invariant_of-self-in-Err g c =
    let i = c.self.inside in
    within-on i.seat c.look.new.self i.known (goes-by-look i.seat c.look.new.self (arc_value c.in-Ok.version) c.in-Ok.ensures) c.self.invariant
