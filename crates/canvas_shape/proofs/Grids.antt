-- Columns and rows that a window shows.
use Rattle.canvas_shape.proofs.Sizes.{difference-words, low-fits, unsigned-fits, unsigned-is}
use lib.Dec.{T}
use Rattle.std.specs.Int.Signed.{non_neg}
use Rattle.std.specs.Int.{w64}
use Rattle.std.proofs.Common.{◌^◌, ◌≡◌, ℕ, ◌+◌, ◌*◌, ◌/◌, ◌-◌, ◌<◌, ◌≤◌, ℤ, pos, ◌+ℤ◌, ◌*ℤ◌, ◌<ℤ◌, ◌≤ℤ◌, sym, ap, ◌∙◌, arith, inl, inr, FitsSigned, Fits, to_z, of_z, subst, true, false, ◌-ℤ◌}
use Rattle.std.specs.Prelude.{int_lt, nat_lt, min, int_le, unsigned_abs}
use Rattle.std.proofs.lemmas.Bool.{cases_lt, lt-ltb, le-ltb, false≢true}
use Rattle.std.proofs.lemmas.Int.{ints, to_z-of_z}
use Rattle.std.proofs.lemmas.Nat.{div_below, le-div, mul-le, pow_pos}
use Rattle.std.proofs.Math.Nat.{div-mul-le_self, mul-lt-mul_of_pos_right, pow-le-pow_right}
use Rattle.canvas_plane.specs.Sides.{scale_of}
use Rattle.canvas_plane.specs.Window.{column_shown, row_shown}
use Rattle.canvas_plane.specs.declared.windows.Window.{Window}
use Rattle.canvas_shape.proofs.Edge.{lt-lt_test, le-lt_test, times-add, lt_test-true, le_test-true, le-le_test}

below-of : (edge from : ℤ) (n m : ℕ) → from +ℤ pos n +ℤ pos 1 ≡ edge → edge ≤ℤ (from +ℤ pos m) → n < m
below-of edge from n m e le = omega (arith, ints)

-- a place before an edge lies fewer steps away than any place that is not
pub steps-most : (edge from : ℤ) (n s k : ℕ) → 0 < s → from +ℤ pos n +ℤ pos 1 ≡ edge → edge ≤ℤ (from +ℤ pos (k * s)) → n / s < k
steps-most edge from n s k h e le = div_below n s k h (below-of edge from n (k * s) e le)

step-inside : (edge from : ℤ) (n m : ℕ) → from +ℤ pos n +ℤ pos 1 ≡ edge → m ≤ n → (from +ℤ pos m) <ℤ edge
step-inside edge from n m e le = omega (arith, ints)

step-beyond : (edge from : ℤ) (n m : ℕ) → from +ℤ pos n +ℤ pos 1 ≡ edge → n < m → edge ≤ℤ (from +ℤ pos m)
step-beyond edge from n m e lt = omega (arith, ints)

times-within : (n s k : ℕ) → k ≤ n / s → k * s ≤ n
times-within n s k le = let a = mul-le k s (n / s) s le (omega arith) in let b = div-mul-le_self n s in omega (arith, a, b)

times-beyond : (n s k : ℕ) → 0 < s → n / s < k → n < k * s
times-beyond n s k h lt = elim (cases_lt n (k * s)) [
  | inl below ↦ below
  | inr le ↦ let q = le-div k n s h le in absurd (omega (arith, q))
]

-- the steps that a place before an edge is away
pub steps-before : (edge from : ℤ) (n s k : ℕ) → 0 < s → from +ℤ pos n +ℤ pos 1 ≡ edge → nat_lt k (n / s + 1) ≡ int_lt (from +ℤ pos (k * s)) edge
steps-before edge from n s k h e = elim (cases_lt k (n / s + 1)) [
  | inl lt ↦ lt-ltb k (n / s + 1) lt ∙ sym (lt-lt_test (from +ℤ pos (k * s)) edge (step-inside edge from n (k * s) e (times-within n s k (omega (arith, lt)))))
  | inr ge ↦ le-ltb k (n / s + 1) ge ∙ sym (le-lt_test (from +ℤ pos (k * s)) edge (step-beyond edge from n (k * s) e (times-beyond n s k h (omega (arith, ge)))))
]

pub scale-positive : (level : ℕ) → 0 < scale_of level
scale-positive level = pow_pos level

pub scale-most : (level : ℕ) → level ≤ 6 → scale_of level ≤ 64
scale-most level le = let two : 0 < 2 = omega arith in pow-le-pow_right two le

no-more : (z : ℤ) → z +ℤ pos 0 ≡ z
no-more z = omega (arith, ints)

-- what a window shows lies so many steps behind its first
pub shown-steps : (x : ℤ) (k s : ℕ) → (x +ℤ pos k) *ℤ pos s ≡ (x +ℤ pos 0) *ℤ pos s +ℤ pos (k * s)
shown-steps x k s = times-add x (pos k) s ∙ ap (λ z. z *ℤ pos s +ℤ pos k *ℤ pos s) (sym (no-more x))

-- no column lies left of the first
pub columns-from : (window : Window) (i : ℕ) → column_shown window 0 ≤ℤ column_shown window i
columns-from window i = let a = shown-steps window.x i (scale_of window.level) in omega (arith, ints, a)

-- columns rise
pub columns-rise : (window : Window) (i k : ℕ) → i < k → column_shown window i <ℤ column_shown window k
columns-rise window i k lt =
    let s = scale_of window.level in
    let a = shown-steps window.x i s in let b = shown-steps window.x k s in
    let c : i * s < k * s = mul-lt-mul_of_pos_right {k = s} lt (scale-positive window.level) in
    omega (arith, ints, a, b, c)

-- and one step behind the one before it
pub shown-next : (y : ℤ) (j s : ℕ) → (y +ℤ pos (j + 1)) *ℤ pos s ≡ (y +ℤ pos j) *ℤ pos s +ℤ pos s
shown-next y j s = let a = shown-steps y (j + 1) s in let b = shown-steps y j s in let c : (j + 1) * s ≡ j * s + s = omega arith in omega (arith, ints, a, b, c)

steps-near : (w s : ℕ) → w ≤ 256 → s ≤ 64 → w * s ≤ 16384
steps-near w s h k = mul-le w s 256 64 h k

-- the steps from the left edge to a column
pub shown-from : (left x : ℤ) (k l level : ℕ) → left ≡ (x +ℤ pos 0) *ℤ pos (scale_of level) → l ≡ level → left +ℤ pos (k * scale_of l) ≡ (x +ℤ pos k) *ℤ pos (scale_of level)
shown-from left x k l level el e = ap (λ n. left +ℤ pos (k * scale_of n)) e ∙ ap (λ z. z +ℤ pos (k * scale_of level)) el ∙ sym (shown-steps x k (scale_of level))

near-by : (edge left : ℤ) (n m : ℕ) → edge ≤ℤ (left +ℤ pos n) → n ≤ m → edge ≤ℤ (left +ℤ pos m)
near-by edge left n m h le = omega (arith, ints)

-- a threshold in a window lies at most 16,384 behind its left edge
pub edge-near : (edge left : ℤ) (w level : ℕ) → w ≤ 256 → level ≤ 6 → edge ≤ℤ (left +ℤ pos (w * scale_of level)) → edge ≤ℤ (left +ℤ pos 16384)
edge-near edge left w level h k le = near-by edge left (w * scale_of level) 16384 le (steps-near w (scale_of level) h (scale-most level k))

-- the next row that a window shows
pub row-next : (window : Window) (first k apart : ℕ) → apart ≡ scale_of window.level → row_shown window (first + k) +ℤ pos apart ≡ row_shown window (first + (k + 1))
row-next window first k apart e =
    let one : first + (k + 1) ≡ (first + k) + 1 = omega arith in
    ap (λ n. row_shown window (first + k) +ℤ pos n) e ∙ sym (ap (row_shown window) one ∙ shown-next window.y (first + k) (scale_of window.level))

min-less : (a b k : ℕ) → k < b → nat_lt k (min a b) ≡ nat_lt k a
min-less a b k lt = grind arith

minus-less : (n first k : ℕ) → nat_lt k (n - first) ≡ nat_lt (first + k) n
minus-less n first k = grind arith

-- rows that are counted from a later one
pub rows-less : (n first count k : ℕ) → k < count → nat_lt k (min (n - first) count) ≡ nat_lt (first + k) n
rows-less n first count k lt = min-less (n - first) count k lt ∙ minus-less n first k

-- a row before a count of rows is one that the window shows
pub row-inside : (first k count h : ℕ) → k < count → first + count ≤ h → first + k < h
row-inside first k count h lt le = omega arith

-- ---- ways before an edge, as machine words
way-least : (edge from : ℤ) → from <ℤ edge → pos 0 ≤ℤ (edge -ℤ from -ℤ pos 1)
way-least edge from lt = omega (arith, ints)

way-most : (edge from : ℤ) → edge ≤ℤ (from +ℤ pos 16384) → (edge -ℤ from -ℤ pos 1) <ℤ pos 4294967296
way-most edge from le = omega (arith, ints)

way-gap : (edge from : ℤ) → edge ≤ℤ (from +ℤ pos 16384) → (edge -ℤ from) <ℤ pos 4294967296
way-gap edge from le = omega (arith, ints)

way-there : (edge from : ℤ) → from <ℤ edge → pos 0 ≤ℤ (edge -ℤ from)
way-there edge from lt = omega (arith, ints)

way-words : (edge from : ℤ) → FitsSigned w64 edge → FitsSigned w64 from → from <ℤ edge → edge ≤ℤ (from +ℤ pos 16384) → to_z w64 (of_z w64 (to_z w64 (of_z w64 edge) -ℤ to_z w64 (of_z w64 from))) -ℤ pos 1 ≡ edge -ℤ from -ℤ pos 1
way-words edge from fe ff lt le =
    ap (λ z. to_z w64 (of_z w64 z) -ℤ pos 1) (difference-words edge from fe ff)
    ∙ ap (λ z. z -ℤ pos 1) (to_z-of_z w64 (edge -ℤ from) (low-fits (edge -ℤ from) (way-there edge from lt) (way-gap edge from le)))

pub way-fits : (edge from : ℤ) → FitsSigned w64 edge → FitsSigned w64 from → from <ℤ edge → edge ≤ℤ (from +ℤ pos 16384) → FitsSigned w64 (to_z w64 (of_z w64 (to_z w64 (of_z w64 edge) -ℤ to_z w64 (of_z w64 from))) -ℤ pos 1)
way-fits edge from fe ff lt le = subst (FitsSigned w64) (sym (way-words edge from fe ff lt le)) (low-fits (edge -ℤ from -ℤ pos 1) (way-least edge from lt) (way-most edge from le))

pub way-unsigned : (edge from : ℤ) → FitsSigned w64 edge → FitsSigned w64 from → from <ℤ edge → edge ≤ℤ (from +ℤ pos 16384) → T (non_neg (to_z w64 (of_z w64 (to_z w64 (of_z w64 (to_z w64 (of_z w64 edge) -ℤ to_z w64 (of_z w64 from))) -ℤ pos 1)))) × Fits w64 (unsigned_abs (to_z w64 (of_z w64 (to_z w64 (of_z w64 (to_z w64 (of_z w64 edge) -ℤ to_z w64 (of_z w64 from))) -ℤ pos 1))))
way-unsigned edge from fe ff lt le = unsigned-fits _ (edge -ℤ from -ℤ pos 1) (way-words edge from fe ff lt le) (way-least edge from lt) (way-most edge from le)

way-back : (edge from : ℤ) → from +ℤ (edge -ℤ from -ℤ pos 1) +ℤ pos 1 ≡ edge
way-back edge from = omega (arith, ints)

pub way-is : (edge from : ℤ) → FitsSigned w64 edge → FitsSigned w64 from → from <ℤ edge → edge ≤ℤ (from +ℤ pos 16384) → from +ℤ pos (unsigned_abs (to_z w64 (of_z w64 (to_z w64 (of_z w64 (to_z w64 (of_z w64 edge) -ℤ to_z w64 (of_z w64 from))) -ℤ pos 1)))) +ℤ pos 1 ≡ edge
way-is edge from fe ff lt le =
    ap (λ z. from +ℤ z +ℤ pos 1) (unsigned-is _ (edge -ℤ from -ℤ pos 1) (way-words edge from fe ff lt le) (way-least edge from lt) (way-most edge from le)) ∙ way-back edge from

-- ---- whether an edge is inside
left-test : (left edge l : ℤ) → FitsSigned w64 left → FitsSigned w64 edge → left ≡ l → int_lt (to_z w64 (of_z w64 left)) (to_z w64 (of_z w64 edge)) ≡ int_lt l edge
left-test left edge l fl fe e = ap (λ z. int_lt z (to_z w64 (of_z w64 edge))) (to_z-of_z w64 left fl ∙ e) ∙ ap (int_lt l) (to_z-of_z w64 edge fe)

right-test : (right edge r : ℤ) → FitsSigned w64 right → FitsSigned w64 edge → right ≡ r → int_le (to_z w64 (of_z w64 edge)) (to_z w64 (of_z w64 right)) ≡ int_le edge r
right-test right edge r fr fe e = ap (λ z. int_le z (to_z w64 (of_z w64 right))) (to_z-of_z w64 edge fe) ∙ ap (int_le edge) (to_z-of_z w64 right fr ∙ e)

pub inside-right : (left right edge l r : ℤ) → FitsSigned w64 left → FitsSigned w64 right → FitsSigned w64 edge → left ≡ l → right ≡ r → int_lt (to_z w64 (of_z w64 left)) (to_z w64 (of_z w64 edge)) ≡ true → (int_le (to_z w64 (of_z w64 edge)) (to_z w64 (of_z w64 right)) ≡ true → (l <ℤ edge) × (edge ≤ℤ r)) × ((l <ℤ edge) × (edge ≤ℤ r) → int_le (to_z w64 (of_z w64 edge)) (to_z w64 (of_z w64 right)) ≡ true)
inside-right left right edge l r fl fr fe el er h =
    let t = right-test right edge r fr fe er in
    (λ k. (lt_test-true l edge (sym (left-test left edge l fl fe el) ∙ h), le_test-true edge r (sym t ∙ k)), λ p. t ∙ le-le_test edge r p.1)

pub inside-left : (left edge l r : ℤ) → FitsSigned w64 left → FitsSigned w64 edge → left ≡ l → int_lt (to_z w64 (of_z w64 left)) (to_z w64 (of_z w64 edge)) ≡ false → (int_lt (to_z w64 (of_z w64 left)) (to_z w64 (of_z w64 edge)) ≡ true → (l <ℤ edge) × (edge ≤ℤ r)) × ((l <ℤ edge) × (edge ≤ℤ r) → int_lt (to_z w64 (of_z w64 left)) (to_z w64 (of_z w64 edge)) ≡ true)
inside-left left edge l r fl fe el h = (λ k. absurd (false≢true (sym h ∙ k)), λ p. left-test left edge l fl fe el ∙ lt-lt_test l edge p.0)

-- the same of steps of a level
pub steps-level : (edge from : ℤ) (n l level k : ℕ) → l ≡ level → from +ℤ pos n +ℤ pos 1 ≡ edge → edge ≤ℤ (from +ℤ pos (k * scale_of level)) → n / 2 ^ l < k
steps-level edge from n l level k e h le = subst (λ i. n / 2 ^ i < k) (sym e) (steps-most edge from n (scale_of level) k (scale-positive level) h le)
