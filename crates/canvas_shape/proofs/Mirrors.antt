-- The mirror image of a row, as it is worked out in words.
use Rattle.std.proofs.Common.{◌≡◌, ◌≤◌, ◌<◌, ◌^◌, ℤ, pos, negsuc, ◌+ℤ◌, ◌-ℤ◌, ◌≤ℤ◌, ◌<ℤ◌, sym, ap, ◌∙◌, subst, arith, FitsSigned, to_z, of_z, lit<, lt_of_le_of_lt}
use Rattle.std.specs.Prelude.{unsigned_abs}
use Rattle.std.specs.Int.{w32, w64}
use Rattle.std.proofs.lemmas.Int.{ints, to_z-of_z, fits_signed_from_abs}
use Rattle.canvas_shape.specs.Ellipse.{IsSide}
use Rattle.canvas_shape.proofs.Sizes.{size-kept, widened}

small-fits : (z : ℤ) → unsigned_abs z ≤ 4294967296 → FitsSigned w64 z
small-fits z le = fits_signed_from_abs w64 z (lt_of_le_of_lt le (lit< tt))

row-size : (y : ℤ) → FitsSigned w32 y → unsigned_abs y ≤ 2147483648
row-size (pos n) fits = let h : n < 2 ^ 31 = fits.sfits in omega (arith, h)
row-size (negsuc n) fits = let h : n < 2 ^ 31 = fits.sfits in omega (arith, h)

top-size : (t : ℤ) → unsigned_abs t ≤ 268435456 → unsigned_abs t ≤ 4294967296
top-size t near = omega (arith, near)

bottom-size : (t b : ℤ) → unsigned_abs t ≤ 268435456 → t <ℤ b → (b -ℤ t) ≤ℤ pos 65536 → unsigned_abs b ≤ 4294967296
bottom-size t b near wide most = omega (arith, ints)

sum-size : (t b : ℤ) → unsigned_abs t ≤ 268435456 → t <ℤ b → (b -ℤ t) ≤ℤ pos 65536 → unsigned_abs (t +ℤ b) ≤ 1073741824
sum-size t b near wide most = omega (arith, ints)

less-one : (s : ℤ) → unsigned_abs s ≤ 1073741824 → unsigned_abs (s -ℤ pos 1) ≤ 2147483648
less-one s small = omega (arith, ints)

less-row : (s y : ℤ) → unsigned_abs s ≤ 2147483648 → unsigned_abs y ≤ 2147483648 → unsigned_abs (s -ℤ y) ≤ 4294967296
less-row s y small row = omega (arith, ints)

sum-fits : (s : ℤ) → unsigned_abs s ≤ 1073741824 → FitsSigned w64 s
sum-fits s small = fits_signed_from_abs w64 s (lt_of_le_of_lt small (lit< tt))

less-fits : (s : ℤ) → unsigned_abs s ≤ 2147483648 → FitsSigned w64 s
less-fits s small = fits_signed_from_abs w64 s (lt_of_le_of_lt small (lit< tt))

mirror-size : (t b y : ℤ) → IsSide t b → FitsSigned w32 y → unsigned_abs (t +ℤ b -ℤ pos 1 -ℤ y) ≤ 4294967296
mirror-size t b y side fits = less-row (t +ℤ b -ℤ pos 1) y (less-one (t +ℤ b) (sum-size t b side.near side.wide side.most)) (row-size y fits)

ends-words : (t b : ℤ) → IsSide t b → to_z w64 (of_z w64 t) +ℤ to_z w64 (of_z w64 b) ≡ t +ℤ b
ends-words t b side =
    ap (λ z. z +ℤ to_z w64 (of_z w64 b)) (to_z-of_z w64 t (small-fits t (top-size t side.near)))
    ∙ ap (λ z. t +ℤ z) (to_z-of_z w64 b (small-fits b (bottom-size t b side.near side.wide side.most)))

less-words : (t b : ℤ) → IsSide t b → to_z w64 (of_z w64 (to_z w64 (of_z w64 t) +ℤ to_z w64 (of_z w64 b))) -ℤ pos 1 ≡ t +ℤ b -ℤ pos 1
less-words t b side =
    ap (λ z. to_z w64 (of_z w64 z) -ℤ pos 1) (ends-words t b side)
    ∙ ap (λ z. z -ℤ pos 1) (to_z-of_z w64 (t +ℤ b) (sum-fits (t +ℤ b) (sum-size t b side.near side.wide side.most)))

mirror-words : (t b y r : ℤ) → IsSide t b → FitsSigned w32 y → FitsSigned w64 r → r ≡ to_z w32 (of_z w32 y) → to_z w64 (of_z w64 (to_z w64 (of_z w64 (to_z w64 (of_z w64 t) +ℤ to_z w64 (of_z w64 b))) -ℤ pos 1)) -ℤ to_z w64 (of_z w64 r) ≡ t +ℤ b -ℤ pos 1 -ℤ y
mirror-words t b y r side fy fr e =
    let less = t +ℤ b -ℤ pos 1 in
    ap (λ z. to_z w64 (of_z w64 z) -ℤ to_z w64 (of_z w64 r)) (less-words t b side)
    ∙ ap (λ z. z -ℤ to_z w64 (of_z w64 r)) (to_z-of_z w64 less (less-fits less (less-one (t +ℤ b) (sum-size t b side.near side.wide side.most))))
    ∙ ap (λ z. less -ℤ z) (widened y r fy fr e)

pub mirror-fits : (t b y r : ℤ) → IsSide t b → FitsSigned w32 y → FitsSigned w64 r → r ≡ to_z w32 (of_z w32 y) → FitsSigned w64 (to_z w64 (of_z w64 (to_z w64 (of_z w64 (to_z w64 (of_z w64 t) +ℤ to_z w64 (of_z w64 b))) -ℤ pos 1)) -ℤ to_z w64 (of_z w64 r))
mirror-fits t b y r side fy fr e = subst (FitsSigned w64) (sym (mirror-words t b y r side fy fr e)) (small-fits (t +ℤ b -ℤ pos 1 -ℤ y) (mirror-size t b y side fy))

pub mirror-is : (t b y r : ℤ) → IsSide t b → FitsSigned w32 y → FitsSigned w64 r → r ≡ to_z w32 (of_z w32 y) → to_z w64 (of_z w64 (to_z w64 (of_z w64 (to_z w64 (of_z w64 (to_z w64 (of_z w64 t) +ℤ to_z w64 (of_z w64 b))) -ℤ pos 1)) -ℤ to_z w64 (of_z w64 r))) ≡ t +ℤ b -ℤ pos 1 -ℤ y
mirror-is t b y r side fy fr e = to_z-of_z w64 _ (mirror-fits t b y r side fy fr e) ∙ mirror-words t b y r side fy fr e

pub mirror-small : (t b y r : ℤ) → IsSide t b → FitsSigned w32 y → FitsSigned w64 r → r ≡ to_z w32 (of_z w32 y) → unsigned_abs (to_z w64 (of_z w64 (to_z w64 (of_z w64 (to_z w64 (of_z w64 (to_z w64 (of_z w64 t) +ℤ to_z w64 (of_z w64 b))) -ℤ pos 1)) -ℤ to_z w64 (of_z w64 r)))) ≤ 4294967296
mirror-small t b y r side fy fr e = subst (λ z. unsigned_abs z ≤ 4294967296) (sym (mirror-is t b y r side fy fr e)) (mirror-size t b y side fy)

-- ---- sides of a box
bottom-fits : (t b : ℤ) → IsSide t b → FitsSigned w64 b
bottom-fits t b side = small-fits b (bottom-size t b side.near side.wide side.most)

pub side-kept : (t b : ℤ) → IsSide t b → IsSide (to_z w64 (of_z w64 t)) (to_z w64 (of_z w64 b))
side-kept t b side =
    subst (λ z. IsSide z (to_z w64 (of_z w64 b))) (sym (to_z-of_z w64 t (small-fits t (top-size t side.near))))
    (subst (λ z. IsSide t z) (sym (to_z-of_z w64 b (bottom-fits t b side))) side)

pub side-near : (t b : ℤ) → IsSide t b → unsigned_abs (to_z w64 (of_z w64 t)) ≤ 268435456
side-near t b side = size-kept t 268435456 (small-fits t (top-size t side.near)) side.near
