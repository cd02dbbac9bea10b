-- Places on the sides of what a window covers, and the cells in which they lie.
use Rattle.std.proofs.Common.{◌≡◌, ℕ, Bool, refl, ⊎_elim, ◌+◌, ◌-◌, ◌*◌, ◌/◌, ◌^◌, ◌<◌, ◌≤◌, ℤ, ◌-ℤ◌, ◌+ℤ◌, ◌*ℤ◌, ◌≤ℤ◌, pos, true, false, sym, ap, ◌∙◌, arith}
use Rattle.std.specs.Prelude.{int_le, int_lt, nat_le, unsigned_abs}
use Rattle.std.proofs.lemmas.Bool.{cases_lt}
use Rattle.std.proofs.lemmas.Int.{ints}
use Rattle.std.proofs.lemmas.Nat.{div-mul-add, pow-add, pow_pos}
use Rattle.std.proofs.Math.Nat.{div-mul-le_self, lt-div-mul-add, mul-le-mul_right}
use Rattle.std.proofs.Math.Pow.{pow_mono, shr_mono}
use Rattle.canvas_plane.specs.Sides.{scale_of}
use Rattle.canvas_plane.proofs.Levels.{along}
use Rattle.canvas_shape.specs.Spans.{is_from_to}
use Rattle.canvas_scene.specs.Places.{cell_of, is_among}

pub among : (first end k : ℕ) → is_among first end k ≡ true → (first ≤ k) × (k < end)
among first end k h = (grind arith, grind arith)

pub is-among : (first end k : ℕ) → first ≤ k → k < end → is_among first end k ≡ true
is-among first end k p q = grind arith

-- ---- cells of 2 ^ s places

pub small : (s : ℕ) → s ≤ 9 → 2 ^ s ≤ 512
small s h = pow_mono h

-- 32 cells have at most 16384 places
pub near : (start end : ℤ) (s : ℕ) → s ≤ 9 → end ≤ℤ (start +ℤ pos (32 * 2 ^ s)) → end ≤ℤ (start +ℤ pos 16384)
near start end s h e = omega (arith, ints, small s h, e)

pub before : (start end at : ℤ) → end ≤ℤ (start +ℤ pos 16384) → int_lt at end ≡ true → at ≤ℤ (start +ℤ pos 16384)
before start end at e lt = grind (arith, ints)

pub begun-most : (s a : ℕ) → a ≤ 32 * 2 ^ s → (a + (2 ^ s - 1)) / 2 ^ s ≤ 32
begun-most s a h =
    let up : (a + (2 ^ s - 1)) / 2 ^ s ≤ (32 * 2 ^ s + (2 ^ s - 1)) / 2 ^ s = shr_mono s (omega (arith, h)) in
    let most : (32 * 2 ^ s + (2 ^ s - 1)) / 2 ^ s ≡ 32 = div-mul-add 32 (2 ^ s) (2 ^ s - 1) (omega (arith, pow_pos s)) in
    omega (arith, up, most)

pub ended-most : (s a : ℕ) → a ≤ 32 * 2 ^ s → a / 2 ^ s ≤ 32
ended-most s a h =
    let up : a / 2 ^ s ≤ (a + (2 ^ s - 1)) / 2 ^ s = shr_mono s (omega arith) in
    omega (arith, up, begun-most s a h)

-- a place behind the cells that begin before another is not before that
past : (s a n : ℕ) → (a + (2 ^ s - 1)) / 2 ^ s ≤ n / 2 ^ s → a ≤ n
past s a n h =
    let low : a + (2 ^ s - 1) < (a + (2 ^ s - 1)) / 2 ^ s * 2 ^ s + 2 ^ s = lt-div-mul-add (pow_pos s) in
    let mid : (a + (2 ^ s - 1)) / 2 ^ s * 2 ^ s ≤ n / 2 ^ s * 2 ^ s = mul-le-mul_right (2 ^ s) h in
    let high : n / 2 ^ s * 2 ^ s ≤ n = div-mul-le_self n (2 ^ s) in
    omega (arith, low, mid, high, pow_pos s)

from-nat : (a b : ℕ) → nat_le a b ≡ true → a ≤ b
from-nat a b h = grind arith

to-nat : (a b : ℕ) → a ≤ b → nat_le a b ≡ true
to-nat a b h = grind arith

pub begun-past : (start at x : ℤ) (s a : ℕ) → int_le at x ≡ nat_le a (unsigned_abs (x -ℤ start)) → (a + (2 ^ s - 1)) / 2 ^ s ≤ cell_of start s x → int_le at x ≡ true
begun-past start at x s a e h = let n = unsigned_abs (x -ℤ start) in e ∙ to-nat a n (past s a n h)

pub ended-before : (start at x : ℤ) (s a : ℕ) → int_le at x ≡ nat_le a (unsigned_abs (x -ℤ start)) → int_le at x ≡ true → a / 2 ^ s ≤ cell_of start s x
ended-before start at x s a e h = shr_mono s (from-nat a (unsigned_abs (x -ℤ start)) (sym e ∙ h))

-- ---- runs of cells

-- a place is at one or past it, and before another
between : (from to x : ℤ) → int_le from x ≡ true → int_le to x ≡ false → is_from_to from x to ≡ true
between from to x p q = grind (arith, ints)

from-between : (from to x : ℤ) → is_from_to from x to ≡ true → (int_le from x ≡ true) × (int_le to x ≡ false)
from-between from to x h = (grind (arith, ints), grind (arith, ints))

not-past : (end cell : ℕ) (b : Bool) → (b ≡ true → end ≤ cell) → cell < end → b ≡ false
not-past end cell true h lt = absurd (omega (arith, h refl, lt))
not-past end cell false h lt = refl

not-behind : (end cell : ℕ) (b : Bool) → (end ≤ cell → b ≡ true) → b ≡ false → cell < end
not-behind end cell b h e =
    ⊎_elim
    (λ (lt : cell < end). lt)
    (λ (le : end ≤ cell). let z : true ≡ false = sym (h le) ∙ e in cc)
    (cases_lt cell end)

pub run-within : (from to x : ℤ) (first end cell : ℕ) → (first ≤ cell → int_le from x ≡ true) → (int_le to x ≡ true → end ≤ cell) → is_among first end cell ≡ true → is_from_to from x to ≡ true
run-within from to x first end cell p q h =
    let both = among first end cell h in
    between from to x (p both.0) (not-past end cell (int_le to x) q both.1)

pub run-touched : (from to x : ℤ) (first end cell : ℕ) → (int_le from x ≡ true → first ≤ cell) → (end ≤ cell → int_le to x ≡ true) → is_from_to from x to ≡ true → is_among first end cell ≡ true
run-touched from to x first end cell p q h =
    let both = from-between from to x h in
    is-among first end cell (p both.0) (not-behind end cell (int_le to x) q both.1)

-- no place of a side lies past its end
pub none-past : (start end at x : ℤ) → end ≤ℤ at → is_from_to start x end ≡ true → int_le at x ≡ false
none-past start end at x e h = grind (arith, ints)

-- 32 cells of 8 pixels are 256 pixels, at each level
pub all-cells : (start end from to : ℤ) (level n : ℕ) → from ≡ start → to ≡ end → n ≡ level → end ≤ℤ (start +ℤ pos (256 * 2 ^ level)) → to ≤ℤ (from +ℤ pos (32 * 2 ^ (n + 3)))
all-cells start end from to level n es ee same h =
    let e : 2 ^ (n + 3) ≡ 2 ^ n * 8 = pow-add 2 n 3 in
    let f : 2 ^ n ≡ 2 ^ level = ap (λ m. 2 ^ m) same in
    omega (arith, ints, e, f, h, es, ee)

-- ---- the sides of what a window covers

pub side-order : (x : ℤ) (size level : ℕ) → ((x +ℤ pos 0) *ℤ pos (scale_of level)) ≤ℤ ((x +ℤ pos size) *ℤ pos (scale_of level))
side-order x size level =
    let s = scale_of level in
    let first = along x 0 s in
    let last = along x size s in
    let none : 0 * s ≡ 0 = omega arith in
    omega (arith, ints, first, last, none)

pub side-short : (x : ℤ) (size level : ℕ) → size ≤ 256 → ((x +ℤ pos size) *ℤ pos (scale_of level)) ≤ℤ (((x +ℤ pos 0) *ℤ pos (scale_of level)) +ℤ pos (256 * 2 ^ level))
side-short x size level h =
    let s = scale_of level in
    let first = along x 0 s in
    let last = along x size s in
    let none : 0 * s ≡ 0 = omega arith in
    let most : size * s ≤ 256 * s = mul-le-mul_right s h in
    omega (arith, ints, first, last, none, most)

-- ---- how far a place lies from the start

pub from-start : (start end at x : ℤ) (n : ℕ) → start +ℤ pos n ≡ at → is_from_to start x end ≡ true → int_le at x ≡ nat_le n (unsigned_abs (x -ℤ start))
from-start start end at x n e on = grind (arith, ints)

-- no place of the side lies so far from its start
pub from-start-to-end : (start end at x : ℤ) (n : ℕ) → start +ℤ pos n ≡ end → int_lt at end ≡ false → is_from_to start x end ≡ true → int_le at x ≡ nat_le n (unsigned_abs (x -ℤ start))
from-start-to-end start end at x n e past on = grind (arith, ints)

pub none-after : (start end at x : ℤ) (n : ℕ) → int_le end at ≡ true → is_from_to start x end ≡ true → int_le at x ≡ true → 32 ≤ n
none-after start end at x n e on h = grind (arith, ints)
