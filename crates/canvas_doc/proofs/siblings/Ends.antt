-- The two ends of a part of a list of records, one shape left out.
use Rattle.std.proofs.Common.{◌≡◌, ◌≢◌, ℕ, ◌+◌, ◌-◌, ◌<◌, ◌≤◌, ◌==◌, List, [], ◌∷◌, ◌++◌, false, Some, refl, ap, ◌∙◌, arith, length, get_or, take, drop, reverse}
use Rattle.std.proofs.lemmas.Bool.{eq-eqb}
use Rattle.std.proofs.lemmas.List.{reverse-append}
use Rattle.canvas_record.specs.declared.records.Record.{Record}
use Rattle.canvas_doc.specs.Ends.{first_index, last_index}
use Rattle.canvas_doc.proofs.places.ChildrenInOrder.{one-more, first-and-rest}
use Rattle.canvas_doc.proofs.tree.Found.{other-id}

-- the last record of a part
last-of : (l : List Record) (low high : ℕ) (r d : Record) → low < high → high ≤ length l → r ≡ get_or l (high - 1) d → take (high - low) (drop low l) ≡ take (high - 1 - low) (drop low l) ++ r ∷ []
last-of l low high r d h k e =
    let same : high ≡ high - 1 + 1 = omega arith in
    ap (λ n. take (n - low) (drop low l)) same ∙ one-more l low (high - 1) r d (omega arith) (omega arith) e

first-taken : (own : ℕ) (r : Record) (l : List Record) → r.id ≢ own → first_index own (r ∷ l) ≡ Some r.place.index
first-taken own r l h = let n : (r.id == own) ≡ false = other-id r.id own h in rw n refl

first-passed : (own : ℕ) (r : Record) (l : List Record) → r.id ≡ own → first_index own (r ∷ l) ≡ first_index own l
first-passed own r l h = rw (eq-eqb r.id own h) refl

pub first-found : (own : ℕ) (l : List Record) (low high : ℕ) (r d : Record) → low < high → high ≤ length l → r ≡ get_or l low d → r.id ≢ own → first_index own (take (high - low) (drop low l)) ≡ Some r.place.index
first-found own l low high r d h k e n = ap (first_index own) (first-and-rest l low high r d h k e) ∙ first-taken own r (take (high - (low + 1)) (drop (low + 1) l)) n

pub first-later : (own : ℕ) (l : List Record) (low high : ℕ) (r d : Record) → low < high → high ≤ length l → r ≡ get_or l low d → r.id ≡ own → first_index own (take (high - low) (drop low l)) ≡ first_index own (take (high - (low + 1)) (drop (low + 1) l))
first-later own l low high r d h k e n = ap (first_index own) (first-and-rest l low high r d h k e) ∙ first-passed own r (take (high - (low + 1)) (drop (low + 1) l)) n

last-push : (own : ℕ) (r : Record) (l : List Record) → last_index own (l ++ r ∷ []) ≡ first_index own (r ∷ reverse l)
last-push own r l = ap (first_index own) (reverse-append l (r ∷ []))

pub last-found : (own : ℕ) (l : List Record) (low high : ℕ) (r d : Record) → low < high → high ≤ length l → r ≡ get_or l (high - 1) d → r.id ≢ own → last_index own (take (high - low) (drop low l)) ≡ Some r.place.index
last-found own l low high r d h k e n =
    ap (last_index own) (last-of l low high r d h k e) ∙ last-push own r (take (high - 1 - low) (drop low l)) ∙ first-taken own r (reverse (take (high - 1 - low) (drop low l))) n

pub last-earlier : (own : ℕ) (l : List Record) (low high : ℕ) (r d : Record) → low < high → high ≤ length l → r ≡ get_or l (high - 1) d → r.id ≡ own → last_index own (take (high - low) (drop low l)) ≡ last_index own (take (high - 1 - low) (drop low l))
last-earlier own l low high r d h k e n =
    ap (last_index own) (last-of l low high r d h k e) ∙ last-push own r (take (high - 1 - low) (drop low l)) ∙ first-passed own r (reverse (take (high - 1 - low) (drop low l))) n
