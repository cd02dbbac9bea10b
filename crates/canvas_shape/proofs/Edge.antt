-- Where an edge stops to count.
use Rattle.std.proofs.Common.{◌≡◌, ℕ, zero, suc, ◌+◌, ◌*◌, ◌≤◌, ◌<◌, ℤ, pos, negsuc, ◌+ℤ◌, ◌-ℤ◌, ◌*ℤ◌, ◌≤ℤ◌, ◌<ℤ◌, Bool, true, false, cond, sym, ap, ◌∙◌, arith, inl, inr}
use Rattle.std.specs.Prelude.{int_le, int_lt}
use Rattle.std.proofs.lemmas.Int.{ints}
use Rattle.std.proofs.lemmas.Bool.{cases_Bool, true≢false, false≢true}
use lib.IntN.{neg_ℤ, suc_ℤ-*ℤ, *ℤ_comm, *ℤ-negsuc, *ℤ-zero}
use Rattle.canvas_plane.specs.declared.Point.{Point}
use Rattle.canvas_shape.specs.Edges.{side_of, is_right_of, crosses_row}
use Rattle.canvas_plane.specs.Motion.{not_same}
use Rattle.canvas_shape.specs.Spans.{held}

-- z times one more
pub times-suc : (z : ℤ) (n : ℕ) → z *ℤ pos (suc n) ≡ z *ℤ pos n +ℤ z
times-suc z n = *ℤ_comm z (pos (suc n)) ∙ suc_ℤ-*ℤ (pos n) z ∙ ap (λ t. t +ℤ z) (*ℤ_comm (pos n) z)

pub times-add : (a b : ℤ) (n : ℕ) → (a +ℤ b) *ℤ pos n ≡ a *ℤ pos n +ℤ b *ℤ pos n
times-add a b zero = *ℤ-zero (a +ℤ b) ∙ sym (ap (λ t. t +ℤ b *ℤ pos zero) (*ℤ-zero a) ∙ ap (λ t. pos zero +ℤ t) (*ℤ-zero b))
times-add a b (suc n) =
    let s = times-suc (a +ℤ b) n in let p = times-suc a n in let q = times-suc b n in let h = times-add a b n in
    omega (arith, ints, s, p, q, h)

pub times-positive : (a : ℤ) (n : ℕ) → pos 0 ≤ℤ a → pos 0 ≤ℤ (a *ℤ pos n)
times-positive a zero h = let z = *ℤ-zero a in omega (arith, ints, z)
times-positive a (suc n) h = let s = times-suc a n in let k = times-positive a n h in omega (arith, ints, s, k)

pub times-negative : (a : ℤ) (n : ℕ) → a ≤ℤ pos 0 → (a *ℤ pos n) ≤ℤ pos 0
times-negative a zero h = let z = *ℤ-zero a in omega (arith, ints, z)
times-negative a (suc n) h = let s = times-suc a n in let k = times-negative a n h in omega (arith, ints, s, k)

pub lt_test-true : (a b : ℤ) → int_lt a b ≡ true → a <ℤ b
lt_test-true a b h = grind (arith, ints)

pub lt_test-false : (a b : ℤ) → int_lt a b ≡ false → b ≤ℤ a
lt_test-false a b h = grind (arith, ints)

pub lt-lt_test : (a b : ℤ) → a <ℤ b → int_lt a b ≡ true
lt-lt_test a b h = grind (arith, ints)

pub le-lt_test : (a b : ℤ) → b ≤ℤ a → int_lt a b ≡ false
le-lt_test a b h = grind (arith, ints)

pub le_test-true : (a b : ℤ) → int_le a b ≡ true → a ≤ℤ b
le_test-true a b h = grind (arith, ints)

pub le_test-false : (a b : ℤ) → int_le a b ≡ false → b <ℤ a
le_test-false a b h = grind (arith, ints)

pub le-le_test : (a b : ℤ) → a ≤ℤ b → int_le a b ≡ true
le-le_test a b h = grind (arith, ints)

pub lt-le_test : (a b : ℤ) → b <ℤ a → int_le a b ≡ false
lt-le_test a b h = grind (arith, ints)

-- two tests of an order give one answer
pub lt-same : (a b c d : ℤ) → (a <ℤ b → c <ℤ d) → (b ≤ℤ a → d ≤ℤ c) → int_lt a b ≡ int_lt c d
lt-same a b c d f g = elim (cases_Bool (int_lt a b)) [ inl t ↦ t ∙ sym (lt-lt_test c d (f (lt_test-true a b t))) | inr t ↦ t ∙ sym (le-lt_test c d (g (lt_test-false a b t))) ]

twice-and-one : (x z : ℤ) → pos 2 *ℤ x -ℤ pos 2 *ℤ z -ℤ pos 1 ≡ ((x -ℤ z -ℤ pos 1) +ℤ (x -ℤ z -ℤ pos 1)) +ℤ pos 1
twice-and-one x z = omega (arith, ints)

one-times : (n : ℕ) → pos 1 *ℤ pos n ≡ pos n
one-times n = omega (arith, ints)

-- twice a place and one, times the height, in parts
pub in-parts : (x z : ℤ) (d : ℕ) → (pos 2 *ℤ x -ℤ pos 2 *ℤ z -ℤ pos 1) *ℤ pos d ≡ ((x -ℤ z -ℤ pos 1) *ℤ pos d +ℤ (x -ℤ z -ℤ pos 1) *ℤ pos d) +ℤ pos d
in-parts x z d =
    let j = x -ℤ z -ℤ pos 1 in
    ap (λ t. t *ℤ pos d) (twice-and-one x z) ∙ times-add (j +ℤ j) (pos 1) d ∙ ap (λ t. t +ℤ pos 1 *ℤ pos d) (times-add j j d) ∙ ap (λ t. (j *ℤ pos d +ℤ j *ℤ pos d) +ℤ t) (one-times d)

-- linear steps over plain products: u is j times d, v is t times d
step-right : (u v m s : ℤ) (d : ℕ) → pos 0 ≤ℤ (u +ℤ v) → (v +ℤ v) ≤ℤ m → s ≡ ((u +ℤ u) +ℤ pos d) +ℤ ((m +ℤ pos 1) -ℤ pos d) → pos 0 <ℤ s
step-right u v m s d h k e = omega (arith, ints)

step-left : (u v m s : ℤ) (d : ℕ) → ((u +ℤ v) +ℤ pos d) ≤ℤ pos 0 → m <ℤ ((v +ℤ v) +ℤ (pos d +ℤ pos d)) → s ≡ ((u +ℤ u) +ℤ pos d) +ℤ ((m +ℤ pos 1) -ℤ pos d) → s ≤ℤ pos 0
step-left u v m s d h k e = omega (arith, ints)

past-parts : (a u lean : ℤ) (d : ℕ) → a ≡ (u +ℤ u) +ℤ pos d → a +ℤ lean ≡ ((u +ℤ u) +ℤ pos d) +ℤ ((((lean +ℤ pos d) -ℤ pos 1) +ℤ pos 1) -ℤ pos d)
past-parts a u lean d e = omega (arith, ints)

sum-positive : (j t : ℤ) (d : ℕ) → pos 0 ≤ℤ (j +ℤ t) → pos 0 ≤ℤ ((j *ℤ pos d) +ℤ (t *ℤ pos d))
sum-positive j t d h = let k = times-positive (j +ℤ t) d h in let e = times-add j t d in rw e at k

sum-negative : (j t : ℤ) (d : ℕ) → ((j +ℤ t) +ℤ pos 1) ≤ℤ pos 0 → (((j *ℤ pos d) +ℤ (t *ℤ pos d)) +ℤ pos d) ≤ℤ pos 0
sum-negative j t d h =
    let k = times-negative ((j +ℤ t) +ℤ pos 1) d h in
    let e : ((j +ℤ t) +ℤ pos 1) *ℤ pos d ≡ ((j *ℤ pos d) +ℤ (t *ℤ pos d)) +ℤ pos d = times-add (j +ℤ t) (pos 1) d ∙ ap (λ u. u +ℤ pos 1 *ℤ pos d) (times-add j t d) ∙ ap (λ u. ((j *ℤ pos d) +ℤ (t *ℤ pos d)) +ℤ u) (one-times d) in
    rw e at k

past-left : (x z t : ℤ) → z <ℤ (x +ℤ t) → pos 0 ≤ℤ ((x -ℤ z -ℤ pos 1) +ℤ t)
past-left x z t h = omega (arith, ints)

past-right : (x z t : ℤ) → (x +ℤ t) ≤ℤ z → (((x -ℤ z -ℤ pos 1) +ℤ t) +ℤ pos 1) ≤ℤ pos 0
past-right x z t h = omega (arith, ints)

-- where the place t holds the lean, less one, of a height: z is to the left of x + t where the side is above 0
pub first-past : (x z lean t : ℤ) (d : ℕ) → ((t *ℤ pos d) +ℤ (t *ℤ pos d)) ≤ℤ ((lean +ℤ pos d) -ℤ pos 1) → ((lean +ℤ pos d) -ℤ pos 1) <ℤ (((t *ℤ pos d) +ℤ (t *ℤ pos d)) +ℤ (pos d +ℤ pos d)) → int_lt z (x +ℤ t) ≡ int_lt (pos 0) ((pos 2 *ℤ x -ℤ pos 2 *ℤ z -ℤ pos 1) *ℤ pos d +ℤ lean)
first-past x z lean t d least most =
    let j = x -ℤ z -ℤ pos 1 in
    let e = in-parts x z d in
    let s = (pos 2 *ℤ x -ℤ pos 2 *ℤ z -ℤ pos 1) *ℤ pos d +ℤ lean in
    let f : s ≡ (((j *ℤ pos d) +ℤ (j *ℤ pos d)) +ℤ pos d) +ℤ ((((lean +ℤ pos d) -ℤ pos 1) +ℤ pos 1) -ℤ pos d) = past-parts ((pos 2 *ℤ x -ℤ pos 2 *ℤ z -ℤ pos 1) *ℤ pos d) (j *ℤ pos d) lean d e in
    lt-same z (x +ℤ t) (pos 0) s
    (λ h. step-right (j *ℤ pos d) (t *ℤ pos d) ((lean +ℤ pos d) -ℤ pos 1) s d (sum-positive j t d (past-left x z t h)) least f)
    (λ h. step-left (j *ℤ pos d) (t *ℤ pos d) ((lean +ℤ pos d) -ℤ pos 1) s d (sum-negative j t d (past-right x z t h)) most f)

pub times-neg : (a : ℤ) (n : ℕ) → a *ℤ neg_ℤ (pos n) ≡ neg_ℤ (a *ℤ pos n)
times-neg a zero = *ℤ-zero a ∙ sym (ap neg_ℤ (*ℤ-zero a))
times-neg a (suc n) = *ℤ-negsuc a n

neg-turned : (s u lean : ℤ) → s ≡ neg_ℤ u +ℤ lean → int_lt s (pos 0) ≡ int_lt (pos 0) (u +ℤ neg_ℤ lean)
neg-turned s u lean e = lt-same s (pos 0) (pos 0) (u +ℤ neg_ℤ lean) (λ h. omega (arith, ints)) (λ h. omega (arith, ints))

-- an edge that runs downward on the page
pub down-edge : (p q : Point) (x y lean t : ℤ) (d : ℕ) → p.y <ℤ q.y → pos d ≡ q.y -ℤ p.y → lean ≡ (pos 2 *ℤ y +ℤ pos 1 -ℤ pos 2 *ℤ p.y) *ℤ (q.x -ℤ p.x) → int_lt x t ≡ int_lt (pos 0) ((pos 2 *ℤ p.x -ℤ pos 2 *ℤ x -ℤ pos 1) *ℤ pos d +ℤ lean) → is_right_of p q x y ≡ int_lt x t
down-edge p q x y lean t d below ed el et =
    let a = pos 2 *ℤ p.x -ℤ pos 2 *ℤ x -ℤ pos 1 in
    let f : a *ℤ pos d +ℤ lean ≡ side_of p q x y = ap (λ u. a *ℤ u +ℤ lean) ed ∙ ap (λ u. a *ℤ (q.y -ℤ p.y) +ℤ u) el in
    ap (λ b. cond b (int_lt (pos 0) (side_of p q x y)) (int_lt (side_of p q x y) (pos 0))) (lt-lt_test p.y q.y below)
    ∙ sym (et ∙ ap (λ s. int_lt (pos 0) s) f)

-- an edge that runs upward
pub up-edge : (p q : Point) (x y lean t : ℤ) (d : ℕ) → q.y ≤ℤ p.y → pos d ≡ p.y -ℤ q.y → lean ≡ (pos 2 *ℤ y +ℤ pos 1 -ℤ pos 2 *ℤ p.y) *ℤ (q.x -ℤ p.x) → int_lt x t ≡ int_lt (pos 0) ((pos 2 *ℤ p.x -ℤ pos 2 *ℤ x -ℤ pos 1) *ℤ pos d +ℤ neg_ℤ lean) → is_right_of p q x y ≡ int_lt x t
up-edge p q x y lean t d above ed el et =
    let a = pos 2 *ℤ p.x -ℤ pos 2 *ℤ x -ℤ pos 1 in
    let g : q.y -ℤ p.y ≡ neg_ℤ (pos d) = omega (arith, ints) in
    let f : side_of p q x y ≡ neg_ℤ (a *ℤ pos d) +ℤ lean = ap (λ u. a *ℤ u +ℤ (pos 2 *ℤ y +ℤ pos 1 -ℤ pos 2 *ℤ p.y) *ℤ (q.x -ℤ p.x)) g ∙ ap (λ u. u +ℤ (pos 2 *ℤ y +ℤ pos 1 -ℤ pos 2 *ℤ p.y) *ℤ (q.x -ℤ p.x)) (times-neg a d) ∙ ap (λ u. neg_ℤ (a *ℤ pos d) +ℤ u) (sym el) in
    ap (λ b. cond b (int_lt (pos 0) (side_of p q x y)) (int_lt (side_of p q x y) (pos 0))) (le-lt_test p.y q.y above)
    ∙ neg-turned (side_of p q x y) (a *ℤ pos d) lean f ∙ sym et

same-level : (s t : Bool) → s ≡ t → not_same s t ≡ true → ⊥
same-level true true e c = false≢true c
same-level false false e c = false≢true c
same-level true false e c = true≢false e
same-level false true e c = false≢true e

level : (a b y : ℤ) → a ≤ℤ b → b ≤ℤ a → not_same (int_le a y) (int_le b y) ≡ true → ⊥
level a b y h k c = let e : a ≡ b = omega (arith, ints) in same-level (int_le a y) (int_le b y) (ap (λ z. int_le z y) e) c

-- ends on two sides of a row are not level
pub not-level : (p q : Point) (y : ℤ) → crosses_row p q y ≡ true → q.y ≤ℤ p.y → q.y <ℤ p.y
not-level p q y c h = elim (cases_Bool (int_lt q.y p.y)) [ inl t ↦ lt_test-true q.y p.y t | inr t ↦ let e : p.y ≤ℤ q.y = lt_test-false q.y p.y t in absurd (level p.y q.y y e h c) ]

floor-low : (a : ℤ) (n k : ℕ) → a ≡ pos n → 2 * k ≤ n → (pos k +ℤ pos k) ≤ℤ a
floor-low a n k e h = omega (arith, ints)

floor-high : (a : ℤ) (n k b : ℕ) → a ≡ pos n → n < 2 * k + 2 * b → a <ℤ ((pos k +ℤ pos k) +ℤ (pos b +ℤ pos b))
floor-high a n k b e h = omega (arith, ints)

-- the floor of a quotient by twice b
pub floor-positive : (a : ℤ) (n q b : ℕ) → a ≡ pos n → q * (2 * b) ≤ n → n < q * (2 * b) + 2 * b → (((pos q *ℤ pos b) +ℤ (pos q *ℤ pos b)) ≤ℤ a) × (a <ℤ (((pos q *ℤ pos b) +ℤ (pos q *ℤ pos b)) +ℤ (pos b +ℤ pos b)))
floor-positive a n q b e least most = (let l : 2 * (q * b) ≤ n = omega arith in floor-low a n (q * b) e l, let m : n < 2 * (q * b) + 2 * b = omega arith in floor-high a n (q * b) b e m)

below-low : (a u : ℤ) (n k b : ℕ) → a ≡ negsuc n → u ≡ neg_ℤ (pos (k + b)) → n < 2 * k + 2 * b → (u +ℤ u) ≤ℤ a
below-low a u n k b e f h = omega (arith, ints)

below-high : (a u : ℤ) (n k b : ℕ) → a ≡ negsuc n → u ≡ neg_ℤ (pos (k + b)) → 2 * k ≤ n → a <ℤ ((u +ℤ u) +ℤ (pos b +ℤ pos b))
below-high a u n k b e f h = omega (arith, ints)

-- the same below zero, where n is -1 - a
pub floor-negative : (a z : ℤ) (n q b : ℕ) → a ≡ negsuc n → z ≡ negsuc q → q * (2 * b) ≤ n → n < q * (2 * b) + 2 * b → (((z *ℤ pos b) +ℤ (z *ℤ pos b)) ≤ℤ a) × (a <ℤ (((z *ℤ pos b) +ℤ (z *ℤ pos b)) +ℤ (pos b +ℤ pos b)))
floor-negative a z n q b e ez least most =
    let f : z *ℤ pos b ≡ neg_ℤ (pos (suc q * b)) = ap (λ u. u *ℤ pos b) ez in
    let s : suc q * b ≡ q * b + b = omega arith in
    let l : 2 * (q * b) ≤ n = omega arith in
    let m : n < 2 * (q * b) + 2 * b = omega arith in
    (below-low a (z *ℤ pos b) n (q * b) b e (f ∙ ap (λ u. neg_ℤ (pos u)) s) m, below-high a (z *ℤ pos b) n (q * b) b e (f ∙ ap (λ u. neg_ℤ (pos u)) s) l)

-- a place held in a range is as good as the place, within the range
pub held-place : (left right edge x : ℤ) → left ≤ℤ x → x <ℤ right → int_lt x edge ≡ int_lt x (held left edge right)
held-place left right edge x h k = grind (arith, ints)
