-- What a crash might leave over some calls.
use Rattle.std.proofs.Common.{◌≡◌, inl, inr, ⊎_elim, ℕ, List, ◌∷◌, length, sym, ◌∙◌, ap, subst, arith}
use Rattle.canvas_journal.specs.Device.{Elapses}
use Rattle.canvas_journal_file.specs.Events.{Event}
use Rattle.canvas_journal_file.specs.Calls.{may_leave, left_since, counts}

abbrev Passes : List Event → List Event → Type 0
Passes one two = Elapses (length one) (length two) (left_since one) (left_since two) (may_leave two)

-- one call
passes : (e : Event) (es : List Event) → Passes es (e ∷ es)
passes e es = record {
  later = omega arith;
  nothing_else = λ t c le left. ⊎_elim (λ now. inr now.1) (λ before. inl before) left;
  keeps = λ t c le left. inr left;
}

-- and one more, where those before it add nothing to what might have been left at first
goes_on : (first es : List Event) (e : Event) → Passes first es → ((c : List ℕ) → may_leave es c → may_leave first c) → Passes first (e ∷ es)
goes_on first es e so_far nothing = record {
  later = omega (arith, so_far.later);
  nothing_else = λ t c le left.
      ⊎_elim (λ now. inr now.1) (λ before. inl (⊎_elim (λ past. past) (λ now. counts first t c le (nothing c now)) (so_far.nothing_else t c le before))) left;
  keeps = λ t c le left. inr (so_far.keeps t c le left);
}

-- three calls, of which the last one alone changes what might be left
pub third_changes : (old inside one two three : List Event) (p q r : Event) → inside ≡ old → one ≡ p ∷ inside → two ≡ q ∷ one → three ≡ r ∷ two
    → ((c : List ℕ) → may_leave (p ∷ old) c → may_leave old c) → ((c : List ℕ) → may_leave (q ∷ p ∷ old) c → may_leave old c) → Passes old three
third_changes old inside one two three p q r seen first second third nothing still_nothing =
    let is : three ≡ r ∷ q ∷ p ∷ old = third ∙ ap (λ (l : List Event). r ∷ l) (second ∙ ap (λ (l : List Event). q ∷ l) (first ∙ ap (λ (l : List Event). p ∷ l) seen)) in
    subst (Passes old) (sym is) (goes_on old (q ∷ p ∷ old) r (goes_on old (p ∷ old) q (passes p old) nothing) still_nothing)
