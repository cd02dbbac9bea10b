-- Sizes of numbers that are read back from machine words.
use lib.IntN.{neg_ℤ}
use Rattle.std.proofs.Common.{ℕ, ◌≤◌, ◌<◌, pos, ◌≤ℤ◌, ◌<ℤ◌, ◌-ℤ◌, arith, Fits, lt_trans, ◌≡◌, ℤ, ap, ◌∙◌, sym, subst, FitsSigned, to_z, of_z, lit<, le_trans, lt_of_le_of_lt, negsuc, ◌^◌, ◌+ℤ◌, ◌+◌, ◌*ℤ◌, ◌*◌, Bool}
use Rattle.std.specs.Prelude.{unsigned_abs, int_lt}
use Rattle.std.specs.Int.{w32, w64}
use Rattle.std.proofs.lemmas.Int.{ints, to_z-of_z, fits_signed_from_abs}
use Rattle.std.proofs.Math.Nat.{le-max_left, le-max_right}
use Rattle.canvas_plane.specs.declared.Point.{Point}
use Rattle.std.specs.Int.Signed.{non_neg, yes_non_neg, pos-nat_abs}
use Rattle.std.proofs.Math.Facts.{Fits-of_lt}
use lib.Dec.{T}
use Rattle.canvas_plane.specs.declared.PageBox.{PageBox}
use Rattle.canvas_plane.specs.Page.{is_in}
use Rattle.canvas_shape.specs.Box.{AreSideEnds}
use Rattle.canvas_plane.specs.Motion.{size_of}

pub size-kept : (z : ℤ) (n : ℕ) → FitsSigned w64 z → unsigned_abs z ≤ n → unsigned_abs (to_z w64 (of_z w64 z)) ≤ n
size-kept z n fits small = subst (λ u. unsigned_abs u ≤ n) (sym (to_z-of_z w64 z fits)) small

near-fits : (z : ℤ) → unsigned_abs z ≤ 134217728 → FitsSigned w64 z
near-fits z near = fits_signed_from_abs w64 z (lt_of_le_of_lt near (lit< tt))

pub x-size : (p : Point) (n : ℕ) → size_of p ≤ n → unsigned_abs p.x ≤ n
x-size p n le = le_trans (le-max_left (unsigned_abs p.x) (unsigned_abs p.y)) le

pub y-size : (p : Point) (n : ℕ) → size_of p ≤ n → unsigned_abs p.y ≤ n
y-size p n le = le_trans (le-max_right (unsigned_abs p.x) (unsigned_abs p.y)) le

-- the coordinates of a point that is near
pub x-fits : (p : Point) → size_of p ≤ 134217728 → FitsSigned w64 p.x
x-fits p near = near-fits p.x (x-size p 134217728 near)

pub y-fits : (p : Point) → size_of p ≤ 134217728 → FitsSigned w64 p.y
y-fits p near = near-fits p.y (y-size p 134217728 near)

pub x-near : (p : Point) → size_of p ≤ 134217728 → unsigned_abs (to_z w64 (of_z w64 p.x)) ≤ 134217728
x-near p near = size-kept p.x 134217728 (x-fits p near) (x-size p 134217728 near)

pub y-near : (p : Point) → size_of p ≤ 134217728 → unsigned_abs (to_z w64 (of_z w64 p.y)) ≤ 134217728
y-near p near = size-kept p.y 134217728 (y-fits p near) (y-size p 134217728 near)

pub ends-kept : (s t : ℤ) → FitsSigned w64 s → FitsSigned w64 t → AreSideEnds s t → AreSideEnds (to_z w64 (of_z w64 s)) (to_z w64 (of_z w64 t))
ends-kept s t fs ft ends = subst (λ z. AreSideEnds z (to_z w64 (of_z w64 t))) (sym (to_z-of_z w64 s fs)) (subst (λ z. AreSideEnds s z) (sym (to_z-of_z w64 t ft)) ends)

-- a pixel's place, read as a wider number
pub widened : (z r : ℤ) → FitsSigned w32 z → FitsSigned w64 r → r ≡ to_z w32 (of_z w32 z) → to_z w64 (of_z w64 r) ≡ z
widened z r fz fr e = to_z-of_z w64 r fr ∙ e ∙ to_z-of_z w32 z fz

pub pixel-in : (b : PageBox) (x y u v : ℤ) → FitsSigned w32 x → FitsSigned w32 y → FitsSigned w64 u → FitsSigned w64 v → u ≡ to_z w32 (of_z w32 x) → v ≡ to_z w32 (of_z w32 y) → is_in b (to_z w64 (of_z w64 u)) (to_z w64 (of_z w64 v)) ≡ is_in b x y
pixel-in b x y u v fx fy fu fv eu ev = ap (λ z. is_in b z (to_z w64 (of_z w64 v))) (widened x u fx fu eu) ∙ ap (is_in b x) (widened y v fy fv ev)

pub difference-words : (a b : ℤ) → FitsSigned w64 a → FitsSigned w64 b → to_z w64 (of_z w64 a) -ℤ to_z w64 (of_z w64 b) ≡ a -ℤ b
difference-words a b fa fb = ap (λ z. z -ℤ to_z w64 (of_z w64 b)) (to_z-of_z w64 a fa) ∙ ap (λ z. a -ℤ z) (to_z-of_z w64 b fb)

-- ---- a difference that is not below zero, as an unsigned number
low-size : (d : ℤ) → pos 0 ≤ℤ d → d <ℤ pos 4294967296 → unsigned_abs d < 4294967296
low-size d least most = omega (arith, ints)

pub low-fits : (d : ℤ) → pos 0 ≤ℤ d → d <ℤ pos 4294967296 → FitsSigned w64 d
low-fits d least most = fits_signed_from_abs w64 d (lt_trans (low-size d least most) (lit< tt))

low-read : (v d : ℤ) → v ≡ d → pos 0 ≤ℤ d → d <ℤ pos 4294967296 → to_z w64 (of_z w64 v) ≡ d
low-read v d e least most = ap (λ z. to_z w64 (of_z w64 z)) e ∙ to_z-of_z w64 d (low-fits d least most)

pub unsigned-fits : (v d : ℤ) → v ≡ d → pos 0 ≤ℤ d → d <ℤ pos 4294967296 → T (non_neg (to_z w64 (of_z w64 v))) × Fits w64 (unsigned_abs (to_z w64 (of_z w64 v)))
unsigned-fits v d e least most =
    subst (λ z. T (non_neg z) × Fits w64 (unsigned_abs z)) (sym (low-read v d e least most)) (yes_non_neg least, Fits-of_lt (lt_trans (low-size d least most) (lit< tt)))

pub unsigned-is : (v d : ℤ) → v ≡ d → pos 0 ≤ℤ d → d <ℤ pos 4294967296 → pos (unsigned_abs (to_z w64 (of_z w64 v))) ≡ d
unsigned-is v d e least most = ap (λ z. pos (unsigned_abs z)) (low-read v d e least most) ∙ pos-nat_abs d (yes_non_neg least)

unsigned-most : (v d : ℤ) (n : ℕ) → v ≡ d → pos 0 ≤ℤ d → d <ℤ pos 4294967296 → d ≤ℤ pos n → unsigned_abs (to_z w64 (of_z w64 v)) ≤ n
unsigned-most v d n e least most le = subst (λ z. unsigned_abs z ≤ n) (sym (low-read v d e least most)) (omega (arith, ints))

unsigned-some : (v d : ℤ) → v ≡ d → pos 0 <ℤ d → d <ℤ pos 4294967296 → 0 < unsigned_abs (to_z w64 (of_z w64 v))
unsigned-some v d e some most = subst (λ z. 0 < unsigned_abs z) (sym (low-read v d e (omega (arith, ints)) most)) (omega (arith, ints))

gap-some : (from to : ℤ) → from <ℤ to → pos 0 <ℤ (to -ℤ from)
gap-some from to lt = omega (arith, ints)

gap-least : (from to : ℤ) → from <ℤ to → pos 0 ≤ℤ (to -ℤ from)
gap-least from to lt = omega (arith, ints)

gap-low : (d : ℤ) → d ≤ℤ pos 268435456 → d <ℤ pos 4294967296
gap-low d le = omega (arith, ints)

-- the way from one number up to another, as an unsigned number
pub gap-unsigned : (from to : ℤ) → FitsSigned w64 from → FitsSigned w64 to → from <ℤ to → (to -ℤ from) ≤ℤ pos 268435456 → T (non_neg (to_z w64 (of_z w64 (to_z w64 (of_z w64 to) -ℤ to_z w64 (of_z w64 from))))) × Fits w64 (unsigned_abs (to_z w64 (of_z w64 (to_z w64 (of_z w64 to) -ℤ to_z w64 (of_z w64 from)))))
gap-unsigned from to ff ft lt le = unsigned-fits _ (to -ℤ from) (difference-words to from ft ff) (gap-least from to lt) (gap-low (to -ℤ from) le)

pub gap-is : (from to : ℤ) → FitsSigned w64 from → FitsSigned w64 to → from <ℤ to → (to -ℤ from) ≤ℤ pos 268435456 → pos (unsigned_abs (to_z w64 (of_z w64 (to_z w64 (of_z w64 to) -ℤ to_z w64 (of_z w64 from))))) ≡ to -ℤ from
gap-is from to ff ft lt le = unsigned-is _ (to -ℤ from) (difference-words to from ft ff) (gap-least from to lt) (gap-low (to -ℤ from) le)

pub gap-most : (from to : ℤ) (n : ℕ) → FitsSigned w64 from → FitsSigned w64 to → from <ℤ to → (to -ℤ from) ≤ℤ pos 268435456 → (to -ℤ from) ≤ℤ pos n → unsigned_abs (to_z w64 (of_z w64 (to_z w64 (of_z w64 to) -ℤ to_z w64 (of_z w64 from)))) ≤ n
gap-most from to n ff ft lt le most = unsigned-most _ (to -ℤ from) n (difference-words to from ft ff) (gap-least from to lt) (gap-low (to -ℤ from) le) most

pub gap-positive : (from to : ℤ) → FitsSigned w64 from → FitsSigned w64 to → from <ℤ to → (to -ℤ from) ≤ℤ pos 268435456 → 0 < unsigned_abs (to_z w64 (of_z w64 (to_z w64 (of_z w64 to) -ℤ to_z w64 (of_z w64 from))))
gap-positive from to ff ft lt le = unsigned-some _ (to -ℤ from) (difference-words to from ft ff) (gap-some from to lt) (gap-low (to -ℤ from) le)

pub side-gap : (d : ℤ) → d ≤ℤ pos 65536 → d ≤ℤ pos 268435456
side-gap d le = omega (arith, ints)

pub near-gap : (from to : ℤ) → unsigned_abs from ≤ 134217728 → unsigned_abs to ≤ 134217728 → (to -ℤ from) ≤ℤ pos 268435456
near-gap from to nf nt = omega (arith, ints)

-- ---- places of pixels
pub wide-fits : (z : ℤ) → FitsSigned w32 z → FitsSigned w64 z
wide-fits (pos n) fits = let h : n < 2 ^ 31 = fits.sfits in record { sfits = lt_trans h (lit< tt) }
wide-fits (negsuc n) fits = let h : n < 2 ^ 31 = fits.sfits in record { sfits = lt_trans h (lit< tt) }

pub place-most : (z : ℤ) → FitsSigned w32 z → z ≤ℤ pos 2147483647
place-most (pos n) fits = let h : n < 2 ^ 31 = fits.sfits in omega (arith, ints, h)
place-most (negsuc n) fits = omega (arith, ints)

place-least : (z : ℤ) → FitsSigned w32 z → neg_ℤ (pos 2147483648) ≤ℤ z
place-least (pos n) fits = omega (arith, ints)
place-least (negsuc n) fits = let h : n < 2 ^ 31 = fits.sfits in omega (arith, ints, h)

pixels-low : (from to : ℤ) → neg_ℤ (pos 2147483648) ≤ℤ from → to ≤ℤ pos 2147483647 → (to -ℤ from) <ℤ pos 4294967296
pixels-low from to least most = omega (arith, ints)

pixels-least : (from to : ℤ) → from ≤ℤ to → pos 0 ≤ℤ (to -ℤ from)
pixels-least from to le = omega (arith, ints)

pixels-words : (from to u v : ℤ) → FitsSigned w32 from → FitsSigned w32 to → FitsSigned w64 u → FitsSigned w64 v → u ≡ to_z w32 (of_z w32 from) → v ≡ to_z w32 (of_z w32 to) → to_z w64 (of_z w64 v) -ℤ to_z w64 (of_z w64 u) ≡ to -ℤ from
pixels-words from to u v ff ft fu fv eu ev = ap (λ z. z -ℤ to_z w64 (of_z w64 u)) (widened to v ft fv ev) ∙ ap (λ z. to -ℤ z) (widened from u ff fu eu)

pub pixels-fit : (from to u v : ℤ) → FitsSigned w32 from → FitsSigned w32 to → FitsSigned w64 u → FitsSigned w64 v → u ≡ to_z w32 (of_z w32 from) → v ≡ to_z w32 (of_z w32 to) → from ≤ℤ to → FitsSigned w64 (to_z w64 (of_z w64 v) -ℤ to_z w64 (of_z w64 u))
pixels-fit from to u v ff ft fu fv eu ev le =
    subst (FitsSigned w64) (sym (pixels-words from to u v ff ft fu fv eu ev))
    (low-fits (to -ℤ from) (pixels-least from to le) (pixels-low from to (place-least from ff) (place-most to ft)))

pub pixels-unsigned : (from to u v : ℤ) → FitsSigned w32 from → FitsSigned w32 to → FitsSigned w64 u → FitsSigned w64 v → u ≡ to_z w32 (of_z w32 from) → v ≡ to_z w32 (of_z w32 to) → from ≤ℤ to → T (non_neg (to_z w64 (of_z w64 (to_z w64 (of_z w64 v) -ℤ to_z w64 (of_z w64 u))))) × Fits w32 (unsigned_abs (to_z w64 (of_z w64 (to_z w64 (of_z w64 v) -ℤ to_z w64 (of_z w64 u)))))
pixels-unsigned from to u v ff ft fu fv eu ev le =
    let least = pixels-least from to le in
    let most = pixels-low from to (place-least from ff) (place-most to ft) in
    subst (λ z. T (non_neg z) × Fits w32 (unsigned_abs z)) (sym (low-read _ (to -ℤ from) (pixels-words from to u v ff ft fu fv eu ev) least most))
    (yes_non_neg least, Fits-of_lt (low-size (to -ℤ from) least most))

back : (from to : ℤ) → from +ℤ (to -ℤ from) ≡ to
back from to = omega (arith, ints)

pub pixels-is : (from to u v : ℤ) → FitsSigned w32 from → FitsSigned w32 to → FitsSigned w64 u → FitsSigned w64 v → u ≡ to_z w32 (of_z w32 from) → v ≡ to_z w32 (of_z w32 to) → from ≤ℤ to → from +ℤ pos (unsigned_abs (to_z w64 (of_z w64 (to_z w64 (of_z w64 v) -ℤ to_z w64 (of_z w64 u))))) ≡ to
pixels-is from to u v ff ft fu fv eu ev le =
    ap (λ z. from +ℤ z) (unsigned-is _ (to -ℤ from) (pixels-words from to u v ff ft fu fv eu ev) (pixels-least from to le) (pixels-low from to (place-least from ff) (place-most to ft)))
    ∙ back from to

-- a vertex that is carried is near
pub carried-near : (n s r : ℕ) → n ≤ s + r → s ≤ 1048576 → r ≤ 67108864 → n ≤ 134217728
carried-near n s r h k l = omega (arith, h, k, l)

-- ---- a number that is worked out in a word, where it is small enough
pub word-fits : (v d : ℤ) (n : ℕ) → v ≡ d → unsigned_abs d ≤ n → n < 2 ^ 63 → FitsSigned w64 v
word-fits v d n e small low = subst (FitsSigned w64) (sym e) (fits_signed_from_abs w64 d (lt_of_le_of_lt small low))

pub word-is : (v d : ℤ) (n : ℕ) → v ≡ d → unsigned_abs d ≤ n → n < 2 ^ 63 → to_z w64 (of_z w64 v) ≡ d
word-is v d n e small low = to_z-of_z w64 v (word-fits v d n e small low) ∙ e

pub word-small : (v d : ℤ) (n : ℕ) → v ≡ d → unsigned_abs d ≤ n → n < 2 ^ 63 → unsigned_abs (to_z w64 (of_z w64 v)) ≤ n
word-small v d n e small low = subst (λ z. unsigned_abs z ≤ n) (sym (word-is v d n e small low)) small

pub sum-words : (a b : ℤ) → FitsSigned w64 a → FitsSigned w64 b → to_z w64 (of_z w64 a) +ℤ to_z w64 (of_z w64 b) ≡ a +ℤ b
sum-words a b fa fb = ap (λ z. z +ℤ to_z w64 (of_z w64 b)) (to_z-of_z w64 a fa) ∙ ap (λ z. a +ℤ z) (to_z-of_z w64 b fb)

pub double-words : (a : ℤ) → FitsSigned w64 a → pos 2 *ℤ to_z w64 (of_z w64 a) ≡ pos 2 *ℤ a
double-words a fa = ap (λ z. pos 2 *ℤ z) (to_z-of_z w64 a fa)

pub difference-size : (a b : ℤ) (m n : ℕ) → unsigned_abs a ≤ m → unsigned_abs b ≤ n → unsigned_abs (a -ℤ b) ≤ m + n
difference-size a b m n h k = omega (arith, ints)

pub sum-size : (a b : ℤ) → unsigned_abs (a +ℤ b) ≤ unsigned_abs a + unsigned_abs b
sum-size a b = omega (arith, ints)

pub sum-low : (m n : ℕ) → m ≤ 68719476736 → n ≤ 4611967493404098560 → m + n < 2 ^ 63
sum-low m n h k = omega (arith, h, k)

pub double-size : (a : ℤ) (n : ℕ) → unsigned_abs a ≤ n → unsigned_abs (pos 2 *ℤ a) ≤ 2 * n
double-size a n h = omega (arith, ints)

-- ---- the centre of a pixel, doubled
twice-size : (z : ℤ) → neg_ℤ (pos 2147483648) ≤ℤ z → z ≤ℤ pos 2147483647 → unsigned_abs (pos 2 *ℤ z) ≤ 4294967296
twice-size z h k = omega (arith, ints)

centre-near : (z : ℤ) → neg_ℤ (pos 2147483648) ≤ℤ z → z ≤ℤ pos 2147483647 → unsigned_abs (pos 2 *ℤ z +ℤ pos 1) ≤ 4294967296
centre-near z h k = omega (arith, ints)

pub centre-size : (z : ℤ) → FitsSigned w32 z → unsigned_abs (pos 2 *ℤ z +ℤ pos 1) ≤ 4294967296
centre-size z fits = centre-near z (place-least z fits) (place-most z fits)

pub centre-words : (z r : ℤ) → FitsSigned w32 z → FitsSigned w64 r → r ≡ to_z w32 (of_z w32 z) → to_z w64 (of_z w64 (pos 2 *ℤ to_z w64 (of_z w64 r))) +ℤ pos 1 ≡ pos 2 *ℤ z +ℤ pos 1
centre-words z r fz fr e =
    ap (λ u. u +ℤ pos 1) (word-is (pos 2 *ℤ to_z w64 (of_z w64 r)) (pos 2 *ℤ z) 4294967296 (ap (λ u. pos 2 *ℤ u) (widened z r fz fr e)) (twice-size z (place-least z fz) (place-most z fz)) (lit< tt))

-- two ends of an edge, one above the other
pub order-read : (p q : Point) (b : Bool) → size_of p ≤ 134217728 → size_of q ≤ 134217728 → int_lt (to_z w64 (of_z w64 p.y)) (to_z w64 (of_z w64 q.y)) ≡ b → int_lt p.y q.y ≡ b
order-read p q b np nq h = ap (λ z. int_lt z q.y) (sym (to_z-of_z w64 p.y (y-fits p np))) ∙ ap (int_lt (to_z w64 (of_z w64 p.y))) (sym (to_z-of_z w64 q.y (y-fits q nq))) ∙ h
