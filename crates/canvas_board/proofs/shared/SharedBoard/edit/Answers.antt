use Rattle.std.proofs.Common.{◌≡◌, ℕ, ◌≤◌, length, Err, sym, ap, ◌∙◌, subst}
use Rattle.canvas_look.specs.declared.fault.BoardFault.{BoardFault}
use Rattle.canvas_look.specs.Seen.{Seen}
use Rattle.canvas_look.specs.Steps.{Edits}
use Rattle.canvas_board.specs.Shared.{board_at, known_after, told_as}
use Rattle.canvas_board.proofs.Seats.{edits-seat}
use Rattle.canvas_board.proofs.Showing.{goes-by-answer, known-within, within-on}
use Rattle.canvas_board.proofs.shared.SharedBoard.edit.Goals.{in-Ok, in-Err}
use Rattle.canvas_board.proofs.shared.SharedBoard.edit.Goals as goal

pub returns : goal.returns
returns g c =
    let i = c.self.inside in
    let seat = c.edit-answer.new.self in
    let known = c.known_after-self-inside.result in
    let all : known ≡ known_after i.known (length seat.front) c.edit-answer.result = c.known_after-self-inside.ensures ∙ ap (λ (n : ℕ). known_after i.known n c.edit-answer.result) c.number.ensures in
    let told : c.match-answer.result ≡ told_as c.edit-answer.result = elim c.match-answer.branch [
      | in-Ok w ↦ w.result-is ∙ sym (ap told_as w.in-Ok.is)
      | in-Err w ↦ w.result-is ∙ ap (λ (f : BoardFault). Err f) w.board_fault_of.ensures ∙ sym (ap told_as w.in-Err.is)
    ] in
    subst (λ (s : Seen). Edits s c.args.edit.now c.match-answer.result (board_at seat known)) c.self.view_is
    (edits-seat i.seat seat i.known known c.args.edit.now c.edit-answer.result c.match-answer.result c.self.invariant all c.edit-answer.ensures.accepted c.edit-answer.ensures.refused told)

pub invariant_of-self : goal.invariant_of-self
invariant_of-self g c =
    let i = c.self.inside in
    let seat = c.edit-answer.new.self in
    let answer = c.edit-answer.result in
    let on = goes-by-answer i.seat seat c.args.edit.now answer c.edit-answer.ensures.accepted c.edit-answer.ensures.refused in
    let all : c.known_after-self-inside.result ≡ known_after i.known (length seat.front) answer = c.known_after-self-inside.ensures ∙ ap (λ (n : ℕ). known_after i.known n answer) c.number.ensures in
    let within : known_after i.known (length seat.front) answer ≤ length seat.front = known-within i.known (length seat.front) answer (within-on i.seat seat i.known on c.self.invariant) in
    subst (λ (n : ℕ). n ≤ length seat.front) (sym all) within
