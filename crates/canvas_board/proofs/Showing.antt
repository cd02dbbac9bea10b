-- What a seat and its board go on to show.
use Rattle.std.proofs.Common.{◌≡◌, ℕ, ◌≤◌, List, [], ◌∷◌, ◌++◌, length, Result, Ok, Err, IfOk, MatchResult, refl, sym, ap, ◌∙◌, arith, subst}
use mathlib.Core.List.{IsPrefix}
use Rattle.canvas_record.specs.declared.edits.Change.{Change}
use Rattle.canvas_record.specs.declared.edits.Edit.{Edit}
use Rattle.canvas_record.specs.History.{replay_of}
use Rattle.canvas_line.specs.declared.version.Version.{Version}
use Rattle.canvas_look.specs.declared.answers.Edited.{Edited}
use Rattle.canvas_line.specs.declared.fault.LineFault.{LineFault}
use Rattle.canvas_line.specs.declared.fault.LineFault.TheVariants as line
use Rattle.canvas_line.specs.Lines.{Sight, with_front}
use Rattle.canvas_line.specs.Seats.{Begins, EditAccepted, EditRefused, Looks}
use Rattle.canvas_look.proofs.Prefixes.{prefix_self, prefix_trans, prefix_length, take_more_same}
use Rattle.canvas_board.specs.Shared.{board_at, known_after, shared_board}

pub goes-nowhere : (s t : Sight) → t ≡ s → Begins s t
goes-nowhere s t is = subst (λ (x : Sight). Begins s x) (sym is) (prefix_self s.front, refl)

pub goes-by-look : (s t : Sight) (v : Version) → Looks s t v → Begins s t
goes-by-look s t v l = (l.0.0, l.0.2)

-- what the board shows of the old front stays
pub board-stays : (s t : Sight) (known : ℕ) → Begins s t → known ≤ length s.front → board_at t known ≡ board_at s known
board-stays s t known goes within = ap (λ (x : Sight). board_at x known) goes.1 ∙ ap (shared_board s.opening s.limit) (take_more_same known s.front t.front goes.0 within)

goes-by-edit : (s t : Sight) (edit : Edit) (edited : Edited) → EditAccepted s edit t edited → Begins s t
goes-by-edit s t edit edited a =
    let more : List Change = a.0 ++ a.1 ∷ [] in
    let is : t ≡ with_front s more = a.5 in
    let front : t.front ≡ more = ap (λ (x : Sight). x.front) is in
    (subst (IsPrefix s.front) (sym front) (prefix_trans s.front a.0 more a.2 (a.1 ∷ [], refl)), is ∙ ap (with_front s) (sym front))

goes-by-refusal : (s t : Sight) (edit : Edit) (fault : LineFault) → EditRefused s edit t fault → Begins s t
goes-by-refusal s t edit line.OutOfMemory r = goes-nowhere s t r.0
goes-by-refusal s t edit line.VersionsSpent r = (r.0.0, r.0.2)
goes-by-refusal s t edit (line.Refused why) r = (r.0.0, r.0.2)
goes-by-refusal s t edit (line.Behind desk front) r = goes-nowhere s t r.0
goes-by-refusal s t edit (line.Strangers own found) r = goes-nowhere s t r.0
goes-by-refusal s t edit line.NoSeats r = absurd r
goes-by-refusal s t edit line.BadSetting r = absurd r
goes-by-refusal s t edit line.NoView r = absurd r

pub goes-by-answer : (s t : Sight) (edit : Edit) (answer : Result Edited LineFault) → IfOk answer (λ edited. EditAccepted s edit t edited) → MatchResult answer (λ _. Unit {0}) (λ fault. EditRefused s edit t fault) → Begins s t
goes-by-answer s t edit (Ok edited) accepted refused = goes-by-edit s t edit edited accepted
goes-by-answer s t edit (Err fault) accepted refused = goes-by-refusal s t edit fault refused

-- the version's document is the one after the front
pub front-document : (s t : Sight) (v : Version) → Looks s t v → v.document ≡ replay_of t.opening t.front
front-document s t v l = l.1.document ∙ ap (λ (x : Sight). replay_of x.opening t.front) (sym l.0.2)

pub known-within : (known seen : ℕ) (answer : Result Edited LineFault) → known ≤ seen → known_after known seen answer ≤ seen
known-within known seen (Ok edited) le = omega arith
known-within known seen (Err line.VersionsSpent) le = omega arith
known-within known seen (Err (line.Refused why)) le = omega arith
known-within known seen (Err line.OutOfMemory) le = le
known-within known seen (Err (line.Behind desk front)) le = le
known-within known seen (Err (line.Strangers own found)) le = le
known-within known seen (Err line.NoSeats) le = le
known-within known seen (Err line.BadSetting) le = le
known-within known seen (Err line.NoView) le = le

pub within-on : (s t : Sight) (known : ℕ) → Begins s t → known ≤ length s.front → known ≤ length t.front
within-on s t known on le = omega (arith, le, prefix_length s.front t.front on.0)

-- a board that has answered about a version
pub told-within : (s t : Sight) (v : Version) (n : ℕ) → Looks s t v → n ≡ v.number → n ≤ length t.front
told-within s t v n l told = omega (arith, told, l.1.number)
