use Rattle.std.proofs.Common.{◌≡◌, ℕ, ◌+◌, ◌-◌, ◌<◌, ◌≤◌, List, length, get_or, drop, refl, sym, ap, ◌∙◌, arith, length-drop, inl, inr, Option, Some, None, IfSome, IfNone}
use Rattle.std.proofs.lemmas.Bool.{cases_lt}
use Rattle.std.proofs.lemmas.Bool.Decides.{nat_tests}
use Rattle.std.proofs.lemmas.List.{get_or-drop}
use Rattle.memchr.specs.Find.{IsFirstByte, is_byte}
use Rattle.canvas_session.specs.Line.{LacksLf, HasNoLf}

-- no LF in the first s bytes, nor in the n after them
pub lacks_more : (xs : List ℕ) (s n : ℕ) → LacksLf s xs → LacksLf n (drop s xs) → LacksLf (s + n) xs
lacks_more xs s n before after k lt e =
    elim (cases_lt k s) [
      | inl below ↦ before k below e
      | inr above ↦
          let whole : s + (k - s) ≡ k = omega arith in
          let at : get_or (drop s xs) (k - s) 0 ≡ 10 = get_or-drop s xs (k - s) 0 ∙ ap (λ j. get_or xs j 0) whole ∙ e in
          after (k - s) (omega arith) at
    ]

pub none_at_all : (xs : List ℕ) (s : ℕ) → s ≤ length xs → LacksLf s xs → HasNoLf (drop s xs) → HasNoLf xs
none_at_all xs s within before after =
    let whole : s + length (drop s xs) ≡ length xs = omega (arith, length-drop s xs) in
    rw (← whole) (lacks_more xs s (length (drop s xs)) before after)

-- what a search for an LF answers
pub lf_found : (xs : List ℕ) (r : Option ℕ) → IsFirstByte (is_byte 10) xs r → IfSome r (λ n. (n < length xs) × LacksLf n xs × (get_or xs n 0 ≡ 10))
lf_found xs None h = tt
lf_found xs (Some n) h = (h.0.high, λ k lt e. h.0.before k (omega arith) lt (rw e refl), grind (arith, nat_tests, h.1))

pub lf_none : (xs : List ℕ) (r : Option ℕ) → IsFirstByte (is_byte 10) xs r → IfNone r (HasNoLf xs)
lf_none xs None h = λ k lt e. h k (omega arith) lt (rw e refl)
lf_none xs (Some n) h = tt

-- the same, of the rest behind the first s bytes
pub none_after : (xs rest : List ℕ) (s : ℕ) → rest ≡ drop s xs → s ≤ length xs → LacksLf s xs → HasNoLf rest → HasNoLf xs
none_after xs rest s e within before none = none_at_all xs s within before (rw e at none)

pub found_after : (xs rest : List ℕ) (s n : ℕ) → rest ≡ drop s xs → s ≤ length xs → LacksLf s xs → (n < length rest) × LacksLf n rest × (get_or rest n 0 ≡ 10)
    → (s + n < length xs) × LacksLf (s + n) xs × (get_or xs (s + n) 0 ≡ 10)
found_after xs rest s n e within before found =
    let f : (n < length (drop s xs)) × LacksLf n (drop s xs) × (get_or (drop s xs) n 0 ≡ 10) = rw e at found in (
      omega (arith, f.0, length-drop s xs),
      lacks_more xs s n before f.1,
      sym (get_or-drop s xs n 0) ∙ f.2,
    )
