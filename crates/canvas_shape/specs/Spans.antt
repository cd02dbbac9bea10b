-- Spans of a row of pixels.
use Rattle.std.specs.Prelude.{◌≡◌, List, [], ◌∷◌, ℤ, ◌<ℤ◌, ◌≤ℤ◌, Bool, false, ◌&&◌, ◌||◌, cond, int_le, int_lt, length, take, drop}
use Rattle.canvas_shape.specs.declared.Span.{Span}

-- x is from the one up to the other
abbrev pub is_from_to : ℤ → ℤ → ℤ → Bool
is_from_to from x to = int_le from x && int_lt x to

-- one of the spans has x
abbrev pub covers : List Span → ℤ → Bool
covers [] x = false
covers (s ∷ ss) x = is_from_to s.from x s.to || covers ss x

-- the next one begins there or later
abbrev pub StartsFrom : ℤ → List Span → Type 0
StartsFrom to [] = Unit {0}
StartsFrom to (s ∷ ss) = to ≤ℤ s.from

-- not empty, apart, and each to the right of the one before
abbrev pub AreRising : List Span → Type 0
AreRising [] = Unit {0}
AreRising (s ∷ ss) = (s.from <ℤ s.to) × StartsFrom s.to ss × AreRising ss

-- rising spans, which have exactly the x at which the test is true
pub record IsSpans (spans : List Span) (test : ℤ → Bool) : Type 0 where
  pub rising : AreRising spans
  pub exact : (x : ℤ) → covers spans x ≡ test x

-- new is old and then the spans of a test
pub record AppendsSpans (old new : List Span) (test : ℤ → Bool) : Type 0 where
  pub kept : take (length old) new ≡ old
  pub spans : IsSpans (drop (length old) new) test

-- z, held between two ends
abbrev pub held : ℤ → ℤ → ℤ → ℤ
held left z right = cond (int_lt z left) left (cond (int_lt right z) right z)

-- x is in the range and passes the test
abbrev pub within : ℤ → ℤ → (ℤ → Bool) → ℤ → Bool
within left right test x = is_from_to left x right && test x
