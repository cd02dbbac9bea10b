-- Cuts of a row: places, counted from the row's left end, at which it goes from held to not held or back.
use Rattle.std.specs.Prelude.{ℕ, zero, suc, ◌≤◌, List, [], ◌∷◌, ◌++◌, ℤ, pos, ◌+ℤ◌, ◌≤ℤ◌, ◌<ℤ◌, ◌≡◌, All, Bool, false, not, int_lt, nat_lt, ◌&&◌, cond}
use Rattle.canvas_plane.specs.Motion.{not_same}
use Rattle.canvas_shape.specs.declared.Span.{Span}

abbrev pub is_odd : ℕ → Bool
is_odd zero = false
is_odd (suc n) = not (is_odd n)

-- an odd number of the cuts are to the right of x
abbrev pub is_odd_above : ℤ → List ℕ → ℤ → Bool
is_odd_above left [] x = false
is_odd_above left (c ∷ cs) x = not_same (int_lt x (left +ℤ pos c)) (is_odd_above left cs x)

-- the span from one place up to another, if it is to be held and is not empty
abbrev pub piece : ℤ → Bool → ℕ → ℕ → List Span
piece left inside start cut = cond (inside && nat_lt start cut) (record { from = left +ℤ pos start; to = left +ℤ pos cut } ∷ []) []

-- the spans between cuts, from one place on, inside or outside at first
abbrev pub spans_of : ℤ → Bool → ℕ → List ℕ → List Span
spans_of left inside start [] = []
spans_of left inside start (c ∷ cs) = piece left inside start c ++ spans_of left (not inside) c cs

-- each cut is no less than the one before
abbrev pub AreRisingFrom : ℕ → List ℕ → Type 0
AreRisingFrom start [] = Unit {0}
AreRisingFrom start (c ∷ cs) = (start ≤ c) × AreRisingFrom c cs

-- each cut is in the row
abbrev pub AreWithin : ℤ → ℤ → List ℕ → Type 0
AreWithin left right cs = All (λ c. (left +ℤ pos c) ≤ℤ right) cs

-- one more test goes into the count of a row, where it is true up to one place
pub record AddsCut (left right : ℤ) (old new : List ℕ) (test : ℤ → Bool) : Type 0 where
  pub toggles : (x : ℤ) → left ≤ℤ x → x <ℤ right → is_odd_above left new x ≡ not_same (is_odd_above left old x) (test x)
  pub inside : AreWithin left right old → AreWithin left right new

-- the cuts of a row count as a test does
pub record AreCuts (left right : ℤ) (cs : List ℕ) (test : ℤ → Bool) : Type 0 where
  pub exact : (x : ℤ) → left ≤ℤ x → x <ℤ right → is_odd_above left cs x ≡ test x
  pub inside : AreWithin left right cs
