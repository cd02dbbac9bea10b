-- Steps of a board over a seat.
use Rattle.std.proofs.Common.{◌≡◌, ℕ, ◌<◌, ◌≤◌, List, [], ◌∷◌, ◌++◌, length, take, Result, Ok, Err, IfOk, MatchResult, refl, sym, ap, ◌∙◌, arith, subst}
use mathlib.Core.List.{IsPrefix}
use Rattle.canvas_record.specs.declared.edits.Change.{Change}
use Rattle.canvas_record.specs.declared.edits.Edit.{Edit}
use Rattle.canvas_record.specs.Decision.{decision_of}
use Rattle.canvas_record.specs.History.{replay_of, AllFit}
use Rattle.canvas_record.proofs.Histories.{all_fit-front}
use Rattle.canvas_line.specs.declared.version.Version.{Version}
use Rattle.canvas_look.specs.declared.answers.Edited.{Edited}
use Rattle.canvas_line.specs.declared.fault.LineFault.{LineFault}
use Rattle.canvas_line.specs.declared.fault.LineFault.TheVariants as line
use Rattle.canvas_line.specs.Lines.{Sight, with_front}
use Rattle.canvas_line.specs.Seats.{EditAccepted, EditRefused, GoesOn, Looks}
use Rattle.canvas_look.proofs.Prefixes.{prefix_trans, take_prefix, take_all, length_take_within}
use Rattle.canvas_look.specs.Seen.{Seen, Grows, document_of}
use Rattle.canvas_look.specs.declared.fault.BoardFault.{BoardFault}
use Rattle.canvas_board.specs.Fault.{board_fault_of}
use Rattle.canvas_board.specs.Shared.{shared_board, board_at, known_after, told_as}
use Rattle.canvas_look.specs.Steps.{Accepts, Edits, WantsMemory}

-- the board goes on to a history that begins with its seat's front
pub grows-seat : (s : Sight) (known : ℕ) (h : List Change) → IsPrefix s.front h → AllFit s.opening h → length h ≤ s.limit → Grows (board_at s known) (shared_board s.opening s.limit h)
grows-seat s known h begins fits within =
    let more = prefix_trans (take known s.front) s.front h (take_prefix known s.front) begins in
    record { more = more.0; same = ap (shared_board s.opening s.limit) (sym more.1); sound = record { fits = fits; within = within }; alone = λ e. absurd cc }

-- the board that has answered about all that its seat has seen
pub board-whole : (s t : Sight) (h : List Change) (n : ℕ) → t ≡ with_front s h → n ≡ length t.front → board_at t n ≡ shared_board s.opening s.limit h
board-whole s t h n is all =
    ap (shared_board t.opening t.limit) (take_all n t.front all) ∙ ap (λ (x : Sight). shared_board x.opening x.limit x.front) is

-- an edit is accepted
pub accepts-seat : (s t : Sight) (known n : ℕ) (edit : Edit) (edited : Edited) → EditAccepted s edit t edited → n ≡ length t.front → Accepts (board_at s known) edit edited (board_at t n)
accepts-seat s t known n edit edited a all =
    let h = a.0 in
    let c = a.1 in
    let is : t ≡ with_front s (h ++ c ∷ []) = a.5 in
    let front : t.front ≡ h ++ c ∷ [] = ap (λ (x : Sight). x.front) is in
    let fits = all_fit-front s.opening h (c ∷ []) (subst (AllFit s.opening) front a.6) in
    let room : length h < s.limit = a.3 in
    subst (λ (b : Seen). Accepts (board_at s known) edit edited b) (sym (board-whole s t (h ++ c ∷ []) n is all)) (record {
      h = shared_board s.opening s.limit h;
      begins = grows-seat s known h a.2 fits.0 (omega (arith, room));
      room = room;
      change = c;
      decided = a.4;
      fits = fits.1.0;
      after = refl;
      number = a.7 ∙ ap length front;
      id = a.8;
    })

-- the board goes on with its seat
pub grows-on : (s t : Sight) (known n : ℕ) → GoesOn s t → n ≡ length t.front → Grows (board_at s known) (board_at t n)
grows-on s t known n g all =
    subst (Grows (board_at s known)) (sym (board-whole s t t.front n g.2 all)) (grows-seat s known t.front g.0 g.1.0 g.1.1)

-- nothing was answered, and the seat is as it was
pub board-same : (s t : Sight) (known n : ℕ) → t ≡ s → n ≡ known → board_at t n ≡ board_at s known
board-same s t known n is all = ap (λ (x : Sight). board_at x n) is ∙ ap (board_at s) all

-- memory is wanted where a change was decided after the seat's front
pub wants-seat : (s : Sight) (known : ℕ) (edit : Edit) (h : List Change) (c : Change) → IsPrefix s.front h → AllFit s.opening h → length h < s.limit → decision_of edit (replay_of s.opening h) ≡ Ok c → WantsMemory (board_at s known) edit
wants-seat s known edit h c begins fits room decided = record {
  h = shared_board s.opening s.limit h;
  begins = grows-seat s known h begins fits (omega (arith, room));
  room = room;
  change = c;
  decided = decided;
}

-- an edit is refused
pub refused-seat : (s t : Sight) (known n : ℕ) (edit : Edit) (fault : LineFault) → known ≤ length s.front → EditRefused s edit t fault → n ≡ known_after known (length t.front) (Err fault)
    → Edits (board_at s known) edit (Err (board_fault_of fault)) (board_at t n)
refused-seat s t known n edit line.OutOfMemory within r told = (board-same s t known n r.0 told, wants-seat s known edit r.1.0 r.1.1 r.1.2 r.1.3.0 r.1.4 r.1.5)
refused-seat s t known n edit line.VersionsSpent within r told =
    subst (λ (b : Seen). Grows (board_at s known) b × (length b.front ≡ b.limit)) (sym (board-whole s t t.front n r.0.2 told))
    (grows-seat s known t.front r.0.0 r.0.1.0 r.0.1.1, r.1)
refused-seat s t known n edit (line.Refused why) within r told =
    subst (λ (b : Seen). Grows (board_at s known) b × (length b.front < b.limit) × (decision_of edit (document_of b) ≡ Err why)) (sym (board-whole s t t.front n r.0.2 told))
    (grows-seat s known t.front r.0.0 r.0.1.0 r.0.1.1, r.1, r.2)
refused-seat s t known n edit (line.Behind desk front) within r told = (board-same s t known n r.0 told, refl, omega (arith, within, r.1, length_take_within known s.front within), r.2)
refused-seat s t known n edit (line.Strangers own found) within r told = (board-same s t known n r.0 told, refl, λ e. r.2 (sym e ∙ r.1))
refused-seat s t known n edit line.NoSeats within r told = absurd r
refused-seat s t known n edit line.BadSetting within r told = absurd r
refused-seat s t known n edit line.NoView within r told = absurd r

-- an edit is answered
pub edits-seat : (s t : Sight) (known n : ℕ) (edit : Edit) (answer : Result Edited LineFault) (told : Result Edited BoardFault) → known ≤ length s.front → n ≡ known_after known (length t.front) answer
    → IfOk answer (λ edited. EditAccepted s edit t edited) → MatchResult answer (λ _. Unit {0}) (λ fault. EditRefused s edit t fault) → told ≡ told_as answer
    → Edits (board_at s known) edit told (board_at t n)
edits-seat s t known n edit (Ok edited) told within all accepted refused is =
    subst (λ (r : Result Edited BoardFault). Edits (board_at s known) edit r (board_at t n)) (sym is) (accepts-seat s t known n edit edited accepted all)
edits-seat s t known n edit (Err fault) told within all accepted refused is =
    subst (λ (r : Result Edited BoardFault). Edits (board_at s known) edit r (board_at t n)) (sym is) (refused-seat s t known n edit fault within refused all)

-- a look that was answered
pub looks-grow : (s t : Sight) (known n : ℕ) (v : Version) → Looks s t v → n ≡ v.number → Grows (board_at s known) (board_at t n)
looks-grow s t known n v l told = grows-on s t known n l.0 (told ∙ l.1.number)

pub looks-document : (s t : Sight) (n : ℕ) (v : Version) → Looks s t v → n ≡ v.number → v.document ≡ document_of (board_at t n)
looks-document s t n v l told = l.1.document ∙ sym (ap document_of (board-whole s t t.front n l.0.2 (told ∙ l.1.number)))

pub looks-number : (s t : Sight) (n : ℕ) (v : Version) → Looks s t v → n ≡ v.number → n ≡ length (take n t.front)
looks-number s t n v l told = told ∙ l.1.number ∙ sym (ap length (take_all n t.front (told ∙ l.1.number)))
