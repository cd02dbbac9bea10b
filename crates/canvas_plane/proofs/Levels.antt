-- Places on the page that a window of a level shows.
use Rattle.std.proofs.Common.{◌≡◌, ◌∙◌, ◌≤◌, ◌<◌, ◌+◌, ◌*◌, ◌^◌, ℕ, ℤ, pos, negsuc, zero, suc, ◌+ℤ◌, ◌*ℤ◌, ◌≤ℤ◌, ◌<ℤ◌, ◌-ℤ◌, true, false, FitsSigned, w32, w64, ◌↔◌, ◌/◌, arith, ap}
use Rattle.std.proofs.lemmas.Int.{fits_signed_mul, ints, to_z-of_z}
use Rattle.std.specs.Int.{cast_signed, cast_unsigned}
use Rattle.std.specs.Prelude.{int_le, int_lt, nat_le, nat_lt, unsigned_abs}
use Rattle.std.proofs.Math.Nat.{one-le-pow, le-mul_of_pos_right, le-div_iff_mul-le, mul-lt-mul_of_pos_right, mul-le-mul_right}
use Rattle.std.proofs.Math.Pow.{pow_mono}
use Rattle.std.proofs.Math.IntN.{+ℤ-suc_ℤ, suc_ℤ-*ℤ, pos-*ℤ-pos, negsuc-*ℤ-pos}
use Rattle.canvas_plane.specs.Sides.{IsWindowSide, scale_of}
use lib.IntN.{neg_ℤ, suc_ℤ, nat_abs}

pub scale-least : (level : ℕ) → 1 ≤ scale_of level
scale-least level = one-le-pow level 2 (omega arith)

pub scale-most : (level : ℕ) → level ≤ 6 → scale_of level ≤ 64
scale-most level h = pow_mono h

-- so many places further lie so many times the scale further
pub along : (x : ℤ) (k s : ℕ) → (x +ℤ pos k) *ℤ pos s ≡ x *ℤ pos s +ℤ pos (k * s)
along x zero s =
    let e : x +ℤ pos zero ≡ x = omega (arith, ints) in
    let z : zero * s ≡ 0 = omega arith in
    let p : x *ℤ pos s ≡ x *ℤ pos s +ℤ pos (zero * s) = omega (arith, ints) in
    ap (λ y. y *ℤ pos s) e ∙ p
along x (suc k) s =
    let e : x +ℤ pos (suc k) ≡ suc_ℤ (x +ℤ pos k) = +ℤ-suc_ℤ x (pos k) in
    let p : suc k * s ≡ k * s + s = omega arith in
    let i = along x k s in
    let t : (x +ℤ pos k) *ℤ pos s +ℤ pos s ≡ x *ℤ pos s +ℤ pos (suc k * s) = omega (arith, ints) in
    ap (λ y. y *ℤ pos s) e ∙ suc_ℤ-*ℤ (x +ℤ pos k) (pos s) ∙ t

-- a place is not farther from the origin than where it is stretched to
pub least-place : (b : ℕ) (x : ℤ) (s : ℕ) → 1 ≤ s → neg_ℤ (pos b) ≤ℤ (x *ℤ pos s) → neg_ℤ (pos b) ≤ℤ x
least-place b (pos n) s h near = omega (arith, ints)
least-place b (negsuc n) s h near =
    let e = negsuc-*ℤ-pos n s in
    let m : suc n ≤ suc n * s = le-mul_of_pos_right (suc n) h in
    omega (arith, ints)

pub most-place : (b : ℕ) (x : ℤ) (s : ℕ) → 1 ≤ s → (x *ℤ pos s) ≤ℤ pos b → x ≤ℤ pos b
most-place b (pos n) s h far =
    let e = pos-*ℤ-pos n s in
    let m : n ≤ n * s = le-mul_of_pos_right n h in
    omega (arith, ints)
most-place b (negsuc n) s h far = omega (arith, ints)

never : (n : ℕ) → pos 0 ≤ℤ negsuc n → ⊥
never n h = omega (arith, ints)

-- so many steps are within a distance where its quotient is not less
pub whole-steps : (level : ℕ) (d : ℤ) → pos 0 ≤ℤ d → (k : ℕ) → (k ≤ nat_abs d / 2 ^ level) ↔ (pos (k * scale_of level) ≤ℤ d)
whole-steps level (pos n) h k =
    let i : (k ≤ n / 2 ^ level) ↔ (k * 2 ^ level ≤ n) = le-div_iff_mul-le (scale-least level) in
    ((λ a. let m : k * 2 ^ level ≤ n = i.0 a in omega (arith, ints)), (λ b. let m : k * 2 ^ level ≤ n = omega (arith, ints) in i.1 m))
whole-steps level (negsuc n) h k = absurd (never n h)

pub is-le : (a b : ℤ) → int_le a b ≡ true → a ≤ℤ b
is-le a b h = grind (arith, ints)

pub is-lt : (a b : ℤ) → int_le a b ≡ false → b <ℤ a
is-lt a b h = grind (arith, ints)

turned : (k n : ℕ) (a b : ℤ) → nat_lt k n ≡ int_lt a b → nat_le n k ≡ int_le b a
turned k n a b h = grind (arith, ints)

test : (k n : ℕ) (a b : ℤ) → (k < n → a <ℤ b) → (a <ℤ b → k < n) → nat_lt k n ≡ int_lt a b
test k n a b there back = grind (arith, ints)

short : (n size : ℕ) → (size ≤ n → size < size) → n + 1 ≤ size
short n size h = grind arith

-- the first of so many places are those before an edge
abbrev pub AreBefore : ℤ → ℕ → ℕ → ℕ → ℤ → Type 0
AreBefore x s size n edge = (k : ℕ) → k < size → nat_lt k n ≡ int_lt ((x +ℤ pos k) *ℤ pos s) edge

-- the others are those that are not
pub after : (x : ℤ) (s size n : ℕ) (edge : ℤ) → AreBefore x s size n edge → (k : ℕ) → k < size → nat_le n k ≡ int_le edge ((x +ℤ pos k) *ℤ pos s)
after x s size n edge h k within = turned k n ((x +ℤ pos k) *ℤ pos s) edge (h k within)

pub none-before : (x : ℤ) (s size : ℕ) (edge : ℤ) → edge ≤ℤ ((x +ℤ pos 0) *ℤ pos s) → AreBefore x s size 0 edge
none-before x s size edge h k within =
    let a = along x 0 s in
    let b = along x k s in
    let z : 0 * s ≡ 0 = omega arith in
    test k 0 ((x +ℤ pos k) *ℤ pos s) edge (λ never. omega (arith, ints)) (λ never. omega (arith, ints))

pub all-before : (x : ℤ) (s size : ℕ) (edge : ℤ) → 1 ≤ s → ((x +ℤ pos size) *ℤ pos s) ≤ℤ edge → AreBefore x s size size edge
all-before x s size edge least h k within =
    let a = along x size s in
    let b = along x k s in
    let m : k * s < size * s = mul-lt-mul_of_pos_right within least in
    test k size ((x +ℤ pos k) *ℤ pos s) edge (λ _. omega (arith, ints)) (λ _. within)

pub some-before : (x : ℤ) (s size n : ℕ) (edge d : ℤ) → d ≡ edge -ℤ ((x +ℤ pos 0) *ℤ pos s) -ℤ pos 1 → ((k : ℕ) → (k ≤ n) ↔ (pos (k * s) ≤ℤ d)) → AreBefore x s size (n + 1) edge
some-before x s size n edge d e h k within =
    let a = along x 0 s in
    let b = along x k s in
    let z : 0 * s ≡ 0 = omega arith in
    test k (n + 1) ((x +ℤ pos k) *ℤ pos s) edge
    (λ l. let o : k ≤ n = omega arith in let m = (h k).0 o in omega (arith, ints))
    (λ l. let m : pos (k * s) ≤ℤ d = omega (arith, ints) in let o = (h k).1 m in omega arith)

-- where the last is not before the edge, not all are
pub within-size : (x : ℤ) (s size n : ℕ) (edge d : ℤ) → d ≡ edge -ℤ ((x +ℤ pos 0) *ℤ pos s) -ℤ pos 1 → ((k : ℕ) → (k ≤ n) ↔ (pos (k * s) ≤ℤ d)) → edge <ℤ ((x +ℤ pos size) *ℤ pos s) → n + 1 ≤ size
within-size x s size n edge d e h last =
    let a = along x 0 s in
    let b = along x size s in
    let z : 0 * s ≡ 0 = omega arith in
    short n size (λ l. let m = (h size).0 l in omega (arith, ints))

-- a place of a window's side is within 2^21
pub place-near : (s : ℕ) (from : ℤ) (size k : ℕ) → IsWindowSide s from size → k < size → (neg_ℤ (pos (2 ^ 21)) ≤ℤ ((from +ℤ pos k) *ℤ pos s)) × (((from +ℤ pos k) *ℤ pos s) ≤ℤ pos (2 ^ 21))
place-near s from size k side within =
    let a = along from k s in
    let b = along from size s in
    let m : k * s ≤ size * s = mul-le-mul_right s (omega arith) in
    let near = side.near in
    let far = side.far in
    ((omega (arith, ints)), (omega (arith, ints)))

-- what lies within 2^22 fits the type that places are kept in
pub small-fits : (z : ℤ) → neg_ℤ (pos (2 ^ 22)) ≤ℤ z → z ≤ℤ pos (2 ^ 22) → FitsSigned w32 z
small-fits (pos n) near far = let m : n ≤ 2 ^ 22 = omega (arith, ints) in record { sfits = omega arith }
small-fits (negsuc n) near far = let m : n < 2 ^ 22 = omega (arith, ints) in record { sfits = omega arith }

-- an edge of a window fits the type that it is kept in
pub edge-fits : (s : ℕ) (from : ℤ) (size : ℕ) → 1 ≤ s → IsWindowSide s from size → FitsSigned w32 from
edge-fits s from size least side =
    let near = least-place (2 ^ 21) from s least side.near in
    let far = most-place (2 ^ 21) (from +ℤ pos size) s least side.far in
    small-fits from (omega (arith, ints)) (omega (arith, ints))

pub size-within : (z : ℤ) (n : ℕ) → neg_ℤ (pos n) ≤ℤ z → z ≤ℤ pos n → unsigned_abs z ≤ n
size-within z n h k = omega (arith, ints)

-- a place of a window times its scale fits 64 bits
pub product-fits : (place scale : ℤ) → neg_ℤ (pos (2 ^ 41)) ≤ℤ place → place ≤ℤ pos (2 ^ 41) → pos 1 ≤ℤ scale → scale ≤ℤ pos 64 → FitsSigned w64 (place *ℤ scale)
product-fits place scale h k least most =
    let l : neg_ℤ (pos 64) ≤ℤ scale = omega (arith, ints) in
    fits_signed_mul w64 place scale (2 ^ 41) 64 (size-within place (2 ^ 41) h k) (size-within scale 64 l most) (omega arith)

-- and the machine's is the same
pub product-kept : (place scale : ℤ) → FitsSigned w64 place → FitsSigned w64 scale → cast_signed w64 (cast_unsigned w64 place) *ℤ cast_signed w64 (cast_unsigned w64 scale) ≡ place *ℤ scale
product-kept place scale f g = ap (λ z. z *ℤ cast_signed w64 (cast_unsigned w64 scale)) (to_z-of_z w64 place f) ∙ ap (λ z. place *ℤ z) (to_z-of_z w64 scale g)
