-- A polygon lies in each box that has its vertices.
use Rattle.std.proofs.Common.{◌≡◌, ℕ, zero, suc, ◌+◌, ◌*◌, ◌<◌, List, [], ◌∷◌, ℤ, pos, negsuc, ◌+ℤ◌, ◌-ℤ◌, ◌*ℤ◌, ◌≤ℤ◌, ◌<ℤ◌, Bool, true, false, ◌&&◌, cond, refl, sym, ap, ◌∙◌, arith, inl, inr, All, ◌⊎◌}
use Rattle.std.specs.Prelude.{int_le, int_lt}
use Rattle.std.proofs.lemmas.Int.{ints}
use Rattle.std.proofs.lemmas.Bool.{cases_Bool, false≢true}
use Rattle.std.proofs.lemmas.List.Elements.{All-head, All-tail}
use lib.IntN.{neg_ℤ, *ℤ_comm, neg_ℤ-neg_ℤ, neg_ℤ-+ℤ}
use Rattle.canvas_plane.specs.declared.Point.{Point}
use Rattle.canvas_plane.specs.Motion.{not_same}
use Rattle.canvas_shape.specs.Edges.{side_of, is_right_of, crosses_row, counts, is_odd_along, last_of, is_in_polygon}
use Rattle.canvas_shape.proofs.Edge.{times-add, times-neg, times-positive, times-negative, in-parts, lt-lt_test, le-lt_test, le_test-true, le_test-false}

times-zero : (a : ℤ) → a *ℤ pos 0 ≡ pos 0
times-zero a = omega (arith, ints)

-- a sum of naturals as the factor
times-sum : (a : ℤ) (m n : ℕ) → a *ℤ pos (m + n) ≡ a *ℤ pos m +ℤ a *ℤ pos n
times-sum a m n = omega (arith, ints)

neg-times : (a : ℤ) (n : ℕ) → neg_ℤ a *ℤ pos n ≡ neg_ℤ (a *ℤ pos n)
neg-times (pos zero) n = omega (arith, ints)
neg-times (pos (suc m)) n = refl
neg-times (negsuc m) n = sym (neg_ℤ-neg_ℤ (pos (suc m * n)))

joined : (a m jd je jf ke : ℤ) (d : ℕ) → a ≡ (jd +ℤ jd) +ℤ pos d → jd +ℤ jd ≡ je +ℤ jf → m ≡ ke +ℤ neg_ℤ je → a +ℤ m ≡ (jf +ℤ ke) +ℤ pos d
joined a m jd je jf ke d p q r = omega (arith, ints)

-- the side, where e and f are the parts of twice the height above and below the row's centre line
side-parts : (x1 x2 x : ℤ) (d e f : ℕ) → d + d ≡ e + f → (pos 2 *ℤ x1 -ℤ pos 2 *ℤ x -ℤ pos 1) *ℤ pos d +ℤ pos e *ℤ (x2 -ℤ x1) ≡ ((x1 -ℤ x -ℤ pos 1) *ℤ pos f +ℤ (x2 -ℤ x -ℤ pos 1) *ℤ pos e) +ℤ pos d
side-parts x1 x2 x d e f h =
    let j = x1 -ℤ x -ℤ pos 1 in
    let k = x2 -ℤ x -ℤ pos 1 in
    let a : (pos 2 *ℤ x1 -ℤ pos 2 *ℤ x -ℤ pos 1) *ℤ pos d ≡ ((j *ℤ pos d) +ℤ (j *ℤ pos d)) +ℤ pos d = in-parts x1 x d in
    let b : j *ℤ pos (d + d) ≡ (j *ℤ pos d) +ℤ (j *ℤ pos d) = times-sum j d d in
    let c : j *ℤ pos (e + f) ≡ (j *ℤ pos e) +ℤ (j *ℤ pos f) = times-sum j e f in
    let g : j *ℤ pos (d + d) ≡ j *ℤ pos (e + f) = ap (λ n. j *ℤ pos n) h in
    let w : x2 -ℤ x1 ≡ k +ℤ neg_ℤ j = omega (arith, ints) in
    let m : pos e *ℤ (x2 -ℤ x1) ≡ (k *ℤ pos e) +ℤ (neg_ℤ j *ℤ pos e) = *ℤ_comm (pos e) (x2 -ℤ x1) ∙ ap (λ u. u *ℤ pos e) w ∙ times-add k (neg_ℤ j) e in
    let n : neg_ℤ j *ℤ pos e ≡ neg_ℤ (j *ℤ pos e) = neg-times j e in
    joined ((pos 2 *ℤ x1 -ℤ pos 2 *ℤ x -ℤ pos 1) *ℤ pos d) (pos e *ℤ (x2 -ℤ x1)) (j *ℤ pos d) (j *ℤ pos e) (j *ℤ pos f) (k *ℤ pos e) d a (sym b ∙ g ∙ c) (m ∙ ap (λ u. (k *ℤ pos e) +ℤ u) n)

one-times : (n : ℕ) → pos 1 *ℤ pos n ≡ pos n
one-times n = omega (arith, ints)

sum-above : (u v s : ℤ) (d : ℕ) → 0 < d → pos 0 ≤ℤ u → pos 0 ≤ℤ v → s ≡ (u +ℤ v) +ℤ pos d → pos 0 <ℤ s
sum-above u v s d p a b es = omega (arith, ints)

sum-below : (u v uf ve s : ℤ) (d e f : ℕ) → 0 < d → d + d ≡ e + f → uf ≤ℤ pos 0 → ve ≤ℤ pos 0 → uf ≡ u +ℤ pos f → ve ≡ v +ℤ pos e → s ≡ (u +ℤ v) +ℤ pos d → s <ℤ pos 0
sum-below u v uf ve s d e f p h a b c g es = omega (arith, ints)

-- left of both ends the side is above 0
side-left : (j k s : ℤ) (d e f : ℕ) → 0 < d → pos 0 ≤ℤ j → pos 0 ≤ℤ k → s ≡ (j *ℤ pos f +ℤ k *ℤ pos e) +ℤ pos d → pos 0 <ℤ s
side-left j k s d e f pos' h g es = let a = times-positive j f h in let b = times-positive k e g in sum-above (j *ℤ pos f) (k *ℤ pos e) s d pos' a b es

-- from both ends on it is below 0
side-past : (j k s : ℤ) (d e f : ℕ) → 0 < d → d + d ≡ e + f → (j +ℤ pos 1) ≤ℤ pos 0 → (k +ℤ pos 1) ≤ℤ pos 0 → s ≡ (j *ℤ pos f +ℤ k *ℤ pos e) +ℤ pos d → s <ℤ pos 0
side-past j k s d e f pos' h p q es =
    let a : ((j +ℤ pos 1) *ℤ pos f) ≤ℤ pos 0 = times-negative (j +ℤ pos 1) f p in
    let b : ((k +ℤ pos 1) *ℤ pos e) ≤ℤ pos 0 = times-negative (k +ℤ pos 1) e q in
    let c = times-add j (pos 1) f in
    let g = times-add k (pos 1) e in
    sum-below (j *ℤ pos f) (k *ℤ pos e) ((j +ℤ pos 1) *ℤ pos f) ((k +ℤ pos 1) *ℤ pos e) s d e f pos' h a b (c ∙ ap (λ u. j *ℤ pos f +ℤ u) (one-times f)) (g ∙ ap (λ u. k *ℤ pos e +ℤ u) (one-times e)) es

-- the edge downward: e is the part above the row's centre line, doubled
down-side : (p q : Point) (x y : ℤ) (d e f : ℕ) → pos d ≡ q.y -ℤ p.y → pos e ≡ pos 2 *ℤ y +ℤ pos 1 -ℤ pos 2 *ℤ p.y → d + d ≡ e + f → side_of p q x y ≡ ((p.x -ℤ x -ℤ pos 1) *ℤ pos f +ℤ (q.x -ℤ x -ℤ pos 1) *ℤ pos e) +ℤ pos d
down-side p q x y d e f ed ee h =
    let a = pos 2 *ℤ p.x -ℤ pos 2 *ℤ x -ℤ pos 1 in
    sym (ap (λ u. a *ℤ u +ℤ pos e *ℤ (q.x -ℤ p.x)) ed ∙ ap (λ u. a *ℤ (q.y -ℤ p.y) +ℤ u *ℤ (q.x -ℤ p.x)) ee) ∙ side-parts p.x q.x x d e f h

up-side : (p q : Point) (x y : ℤ) (d e f : ℕ) → neg_ℤ (pos d) ≡ q.y -ℤ p.y → neg_ℤ (pos e) ≡ pos 2 *ℤ y +ℤ pos 1 -ℤ pos 2 *ℤ p.y → d + d ≡ e + f → side_of p q x y ≡ neg_ℤ (((p.x -ℤ x -ℤ pos 1) *ℤ pos f +ℤ (q.x -ℤ x -ℤ pos 1) *ℤ pos e) +ℤ pos d)
up-side p q x y d e f ed ee h =
    let a = pos 2 *ℤ p.x -ℤ pos 2 *ℤ x -ℤ pos 1 in
    let w = q.x -ℤ p.x in
    sym (ap (λ u. a *ℤ u +ℤ neg_ℤ (pos e) *ℤ w) ed ∙ ap (λ u. a *ℤ (q.y -ℤ p.y) +ℤ u *ℤ w) ee)
    ∙ ap (λ u. u +ℤ neg_ℤ (pos e) *ℤ w) (times-neg a d)
    ∙ ap (λ u. neg_ℤ (a *ℤ pos d) +ℤ u) (*ℤ_comm (neg_ℤ (pos e)) w ∙ times-neg w e ∙ ap neg_ℤ (*ℤ_comm w (pos e)))
    ∙ sym (neg_ℤ-+ℤ (a *ℤ pos d) (pos e *ℤ w))
    ∙ ap neg_ℤ (side-parts p.x q.x x d e f h)

-- the size of a number that is not below 0
nat_of : (z : ℤ) → pos 0 ≤ℤ z → (n : ℕ) × (pos n ≡ z)
nat_of (pos n) h = (n, refl)
nat_of (negsuc n) h = absurd (omega (arith, ints))

lt-le : (a b : ℤ) → a <ℤ b → a ≤ℤ b
lt-le a b h = omega (arith, ints)

neg-below : (s u : ℤ) → s ≡ neg_ℤ u → pos 0 <ℤ u → s <ℤ pos 0
neg-below s u e h = omega (arith, ints)

neg-above : (s u : ℤ) → s ≡ neg_ℤ u → u <ℤ pos 0 → pos 0 ≤ℤ s
neg-above s u e h = omega (arith, ints)

down-left-at : (p q : Point) (x y : ℤ) (d e f : ℕ) → pos d ≡ q.y -ℤ p.y → pos e ≡ pos 2 *ℤ y +ℤ pos 1 -ℤ pos 2 *ℤ p.y → pos f ≡ pos 2 *ℤ q.y -ℤ pos 2 *ℤ y -ℤ pos 1 → p.y ≤ℤ y → y <ℤ q.y → pos 0 ≤ℤ (p.x -ℤ x -ℤ pos 1) → pos 0 ≤ℤ (q.x -ℤ x -ℤ pos 1) → is_right_of p q x y ≡ true
down-left-at p q x y d e f ed ee ef a b h g =
    let sum : d + d ≡ e + f = omega (arith, ints) in
    let some : 0 < d = omega (arith, ints) in
    let s : side_of p q x y ≡ ((p.x -ℤ x -ℤ pos 1) *ℤ pos f +ℤ (q.x -ℤ x -ℤ pos 1) *ℤ pos e) +ℤ pos d = down-side p q x y d e f ed ee sum in
    let o : p.y <ℤ q.y = omega (arith, ints) in
    ap (λ b. cond b (int_lt (pos 0) (side_of p q x y)) (int_lt (side_of p q x y) (pos 0))) (lt-lt_test p.y q.y o) ∙ lt-lt_test (pos 0) (side_of p q x y) (side-left (p.x -ℤ x -ℤ pos 1) (q.x -ℤ x -ℤ pos 1) (side_of p q x y) d e f some h g s)

down-left : (p q : Point) (x y : ℤ) → p.y ≤ℤ y → y <ℤ q.y → pos 0 ≤ℤ (p.x -ℤ x -ℤ pos 1) → pos 0 ≤ℤ (q.x -ℤ x -ℤ pos 1) → is_right_of p q x y ≡ true
down-left p q x y a b h g =
    let dn = nat_of (q.y -ℤ p.y) (omega (arith, ints)) in
    let en = nat_of (pos 2 *ℤ y +ℤ pos 1 -ℤ pos 2 *ℤ p.y) (omega (arith, ints)) in
    let fn = nat_of (pos 2 *ℤ q.y -ℤ pos 2 *ℤ y -ℤ pos 1) (omega (arith, ints)) in
    down-left-at p q x y dn.0 en.0 fn.0 dn.1 en.1 fn.1 a b h g

down-past-at : (p q : Point) (x y : ℤ) (d e f : ℕ) → pos d ≡ q.y -ℤ p.y → pos e ≡ pos 2 *ℤ y +ℤ pos 1 -ℤ pos 2 *ℤ p.y → pos f ≡ pos 2 *ℤ q.y -ℤ pos 2 *ℤ y -ℤ pos 1 → p.y ≤ℤ y → y <ℤ q.y → ((p.x -ℤ x -ℤ pos 1) +ℤ pos 1) ≤ℤ pos 0 → ((q.x -ℤ x -ℤ pos 1) +ℤ pos 1) ≤ℤ pos 0 → is_right_of p q x y ≡ false
down-past-at p q x y d e f ed ee ef a b h g =
    let sum : d + d ≡ e + f = omega (arith, ints) in
    let some : 0 < d = omega (arith, ints) in
    let s : side_of p q x y ≡ ((p.x -ℤ x -ℤ pos 1) *ℤ pos f +ℤ (q.x -ℤ x -ℤ pos 1) *ℤ pos e) +ℤ pos d = down-side p q x y d e f ed ee sum in
    let o : p.y <ℤ q.y = omega (arith, ints) in
    ap (λ b. cond b (int_lt (pos 0) (side_of p q x y)) (int_lt (side_of p q x y) (pos 0))) (lt-lt_test p.y q.y o) ∙ le-lt_test (pos 0) (side_of p q x y) (lt-le (side_of p q x y) (pos 0) (side-past (p.x -ℤ x -ℤ pos 1) (q.x -ℤ x -ℤ pos 1) (side_of p q x y) d e f some sum h g s))

down-past : (p q : Point) (x y : ℤ) → p.y ≤ℤ y → y <ℤ q.y → ((p.x -ℤ x -ℤ pos 1) +ℤ pos 1) ≤ℤ pos 0 → ((q.x -ℤ x -ℤ pos 1) +ℤ pos 1) ≤ℤ pos 0 → is_right_of p q x y ≡ false
down-past p q x y a b h g =
    let dn = nat_of (q.y -ℤ p.y) (omega (arith, ints)) in
    let en = nat_of (pos 2 *ℤ y +ℤ pos 1 -ℤ pos 2 *ℤ p.y) (omega (arith, ints)) in
    let fn = nat_of (pos 2 *ℤ q.y -ℤ pos 2 *ℤ y -ℤ pos 1) (omega (arith, ints)) in
    down-past-at p q x y dn.0 en.0 fn.0 dn.1 en.1 fn.1 a b h g

up-left-at : (p q : Point) (x y : ℤ) (d e f : ℕ) → pos d ≡ p.y -ℤ q.y → pos e ≡ pos 2 *ℤ p.y -ℤ pos 2 *ℤ y -ℤ pos 1 → pos f ≡ pos 2 *ℤ y +ℤ pos 1 -ℤ pos 2 *ℤ q.y → q.y ≤ℤ y → y <ℤ p.y → pos 0 ≤ℤ (p.x -ℤ x -ℤ pos 1) → pos 0 ≤ℤ (q.x -ℤ x -ℤ pos 1) → is_right_of p q x y ≡ true
up-left-at p q x y d e f ed ee ef a b h g =
    let sum : d + d ≡ e + f = omega (arith, ints) in
    let some : 0 < d = omega (arith, ints) in
    let n : neg_ℤ (pos d) ≡ q.y -ℤ p.y = omega (arith, ints) in
    let m : neg_ℤ (pos e) ≡ pos 2 *ℤ y +ℤ pos 1 -ℤ pos 2 *ℤ p.y = omega (arith, ints) in
    let s : side_of p q x y ≡ neg_ℤ (((p.x -ℤ x -ℤ pos 1) *ℤ pos f +ℤ (q.x -ℤ x -ℤ pos 1) *ℤ pos e) +ℤ pos d) = up-side p q x y d e f n m sum in
    let o : q.y ≤ℤ p.y = omega (arith, ints) in
    ap (λ b. cond b (int_lt (pos 0) (side_of p q x y)) (int_lt (side_of p q x y) (pos 0))) (le-lt_test p.y q.y o) ∙ lt-lt_test (side_of p q x y) (pos 0) (neg-below (side_of p q x y) (((p.x -ℤ x -ℤ pos 1) *ℤ pos f +ℤ (q.x -ℤ x -ℤ pos 1) *ℤ pos e) +ℤ pos d) s (side-left (p.x -ℤ x -ℤ pos 1) (q.x -ℤ x -ℤ pos 1) (((p.x -ℤ x -ℤ pos 1) *ℤ pos f +ℤ (q.x -ℤ x -ℤ pos 1) *ℤ pos e) +ℤ pos d) d e f some h g refl))

up-left : (p q : Point) (x y : ℤ) → q.y ≤ℤ y → y <ℤ p.y → pos 0 ≤ℤ (p.x -ℤ x -ℤ pos 1) → pos 0 ≤ℤ (q.x -ℤ x -ℤ pos 1) → is_right_of p q x y ≡ true
up-left p q x y a b h g =
    let dn = nat_of (p.y -ℤ q.y) (omega (arith, ints)) in
    let en = nat_of (pos 2 *ℤ p.y -ℤ pos 2 *ℤ y -ℤ pos 1) (omega (arith, ints)) in
    let fn = nat_of (pos 2 *ℤ y +ℤ pos 1 -ℤ pos 2 *ℤ q.y) (omega (arith, ints)) in
    up-left-at p q x y dn.0 en.0 fn.0 dn.1 en.1 fn.1 a b h g

up-past-at : (p q : Point) (x y : ℤ) (d e f : ℕ) → pos d ≡ p.y -ℤ q.y → pos e ≡ pos 2 *ℤ p.y -ℤ pos 2 *ℤ y -ℤ pos 1 → pos f ≡ pos 2 *ℤ y +ℤ pos 1 -ℤ pos 2 *ℤ q.y → q.y ≤ℤ y → y <ℤ p.y → ((p.x -ℤ x -ℤ pos 1) +ℤ pos 1) ≤ℤ pos 0 → ((q.x -ℤ x -ℤ pos 1) +ℤ pos 1) ≤ℤ pos 0 → is_right_of p q x y ≡ false
up-past-at p q x y d e f ed ee ef a b h g =
    let sum : d + d ≡ e + f = omega (arith, ints) in
    let some : 0 < d = omega (arith, ints) in
    let n : neg_ℤ (pos d) ≡ q.y -ℤ p.y = omega (arith, ints) in
    let m : neg_ℤ (pos e) ≡ pos 2 *ℤ y +ℤ pos 1 -ℤ pos 2 *ℤ p.y = omega (arith, ints) in
    let s : side_of p q x y ≡ neg_ℤ (((p.x -ℤ x -ℤ pos 1) *ℤ pos f +ℤ (q.x -ℤ x -ℤ pos 1) *ℤ pos e) +ℤ pos d) = up-side p q x y d e f n m sum in
    let o : q.y ≤ℤ p.y = omega (arith, ints) in
    ap (λ b. cond b (int_lt (pos 0) (side_of p q x y)) (int_lt (side_of p q x y) (pos 0))) (le-lt_test p.y q.y o) ∙ le-lt_test (side_of p q x y) (pos 0) (neg-above (side_of p q x y) (((p.x -ℤ x -ℤ pos 1) *ℤ pos f +ℤ (q.x -ℤ x -ℤ pos 1) *ℤ pos e) +ℤ pos d) s (side-past (p.x -ℤ x -ℤ pos 1) (q.x -ℤ x -ℤ pos 1) (((p.x -ℤ x -ℤ pos 1) *ℤ pos f +ℤ (q.x -ℤ x -ℤ pos 1) *ℤ pos e) +ℤ pos d) d e f some sum h g refl))

up-past : (p q : Point) (x y : ℤ) → q.y ≤ℤ y → y <ℤ p.y → ((p.x -ℤ x -ℤ pos 1) +ℤ pos 1) ≤ℤ pos 0 → ((q.x -ℤ x -ℤ pos 1) +ℤ pos 1) ≤ℤ pos 0 → is_right_of p q x y ≡ false
up-past p q x y a b h g =
    let dn = nat_of (p.y -ℤ q.y) (omega (arith, ints)) in
    let en = nat_of (pos 2 *ℤ p.y -ℤ pos 2 *ℤ y -ℤ pos 1) (omega (arith, ints)) in
    let fn = nat_of (pos 2 *ℤ y +ℤ pos 1 -ℤ pos 2 *ℤ q.y) (omega (arith, ints)) in
    up-past-at p q x y dn.0 en.0 fn.0 dn.1 en.1 fn.1 a b h g

sides : (s t : Bool) → not_same s t ≡ true → ((s ≡ true) × (t ≡ false)) ⊎ ((s ≡ false) × (t ≡ true))
sides true true e = absurd (false≢true e)
sides true false e = inl (refl, refl)
sides false true e = inr (refl, refl)
sides false false e = absurd (false≢true e)

-- left of both ends an edge counts where it crosses the row
pub counts-left : (p q : Point) (x y : ℤ) → pos 0 ≤ℤ (p.x -ℤ x -ℤ pos 1) → pos 0 ≤ℤ (q.x -ℤ x -ℤ pos 1) → counts p q x y ≡ crosses_row p q y
counts-left p q x y h g = elim (cases_Bool (crosses_row p q y)) [
  | inl e ↦
      ap (λ b. b && is_right_of p q x y) e ∙ elim (sides (int_le p.y y) (int_le q.y y) e) [ inl d ↦ down-left p q x y (le_test-true p.y y d.0) (le_test-false q.y y d.1) h g | inr u ↦ up-left p q x y (le_test-true q.y y u.1) (le_test-false p.y y u.0) h g ] ∙ sym e
  | inr e ↦ ap (λ b. b && is_right_of p q x y) e ∙ sym e
]

-- from both ends on no edge counts
pub counts-past : (p q : Point) (x y : ℤ) → ((p.x -ℤ x -ℤ pos 1) +ℤ pos 1) ≤ℤ pos 0 → ((q.x -ℤ x -ℤ pos 1) +ℤ pos 1) ≤ℤ pos 0 → counts p q x y ≡ false
counts-past p q x y h g = elim (cases_Bool (crosses_row p q y)) [
  | inl e ↦
      ap (λ b. b && is_right_of p q x y) e ∙ elim (sides (int_le p.y y) (int_le q.y y) e) [ inl d ↦ down-past p q x y (le_test-true p.y y d.0) (le_test-false q.y y d.1) h g | inr u ↦ up-past p q x y (le_test-true q.y y u.1) (le_test-false p.y y u.0) h g ]
  | inr e ↦ ap (λ b. b && is_right_of p q x y) e
]

same-none : (a : Bool) → false ≡ not_same a a
same-none true = refl
same-none false = refl

same-chain : (a b c : Bool) → not_same (not_same a b) (not_same b c) ≡ not_same a c
same-chain true true true = refl
same-chain true true false = refl
same-chain true false true = refl
same-chain true false false = refl
same-chain false true true = refl
same-chain false true false = refl
same-chain false false true = refl
same-chain false false false = refl

-- the vertices are right of x
abbrev pub AreRight : ℤ → List Point → Type 0
AreRight x ps = All (λ p. pos 0 ≤ℤ (p.x -ℤ x -ℤ pos 1)) ps

-- left of all vertices as many edges count as cross the row
left-along : (p : Point) (qs : List Point) (x y : ℤ) → pos 0 ≤ℤ (p.x -ℤ x -ℤ pos 1) → AreRight x qs → is_odd_along p qs x y ≡ not_same (int_le p.y y) (int_le (last_of p qs).y y)
left-along p [] x y h a = same-none (int_le p.y y)
left-along p (q ∷ qs) x y h a =
    let g = All-head (λ (p : Point). pos 0 ≤ℤ (p.x -ℤ x -ℤ pos 1)) q qs a in
    ap (λ b. not_same b (is_odd_along q qs x y)) (counts-left p q x y h g)
    ∙ ap (λ b. not_same (crosses_row p q y) b) (left-along q qs x y g (All-tail (λ p. pos 0 ≤ℤ (p.x -ℤ x -ℤ pos 1)) q qs a))
    ∙ same-chain (int_le p.y y) (int_le q.y y) (int_le (last_of q qs).y y)

last-has : (P : Point → Type 0) (p : Point) (ps : List Point) → All P (p ∷ ps) → P (last_of p ps)
last-has P p [] a = All-head P p [] a
last-has P p (q ∷ qs) a = last-has P q qs (All-tail P p (q ∷ qs) a)

-- nothing is held left of all vertices
pub none-left : (ps : List Point) (x y : ℤ) → AreRight x ps → is_in_polygon ps x y ≡ false
none-left [] x y a = refl
none-left (p ∷ ps) x y a = left-along (last_of p ps) (p ∷ ps) x y (last-has (λ p. pos 0 ≤ℤ (p.x -ℤ x -ℤ pos 1)) p ps a) a ∙ sym (same-none (int_le (last_of p ps).y y))

-- no edge counts between points of a kind of which no two make one
none-along : (P : Point → Type 0) (x y : ℤ) → ((p q : Point) → P p → P q → counts p q x y ≡ false) → (p : Point) (qs : List Point) → P p → All P qs → is_odd_along p qs x y ≡ false
none-along P x y f p [] h a = refl
none-along P x y f p (q ∷ qs) h a =
    let g = All-head P q qs a in
    ap (λ b. not_same b (is_odd_along q qs x y)) (f p q h g) ∙ ap (λ b. not_same false b) (none-along P x y f q qs g (All-tail P q qs a))

none-of : (P : Point → Type 0) (x y : ℤ) → ((p q : Point) → P p → P q → counts p q x y ≡ false) → (ps : List Point) → All P ps → is_in_polygon ps x y ≡ false
none-of P x y f [] a = refl
none-of P x y f (p ∷ ps) a = none-along P x y f (last_of p ps) (p ∷ ps) (last-has P p ps a) a

-- nor from all vertices on, above or below them
pub none-past : (ps : List Point) (x y : ℤ) → All (λ p. ((p.x -ℤ x -ℤ pos 1) +ℤ pos 1) ≤ℤ pos 0) ps → is_in_polygon ps x y ≡ false
none-past ps x y a = none-of (λ p. ((p.x -ℤ x -ℤ pos 1) +ℤ pos 1) ≤ℤ pos 0) x y (λ p q h g. counts-past p q x y h g) ps a

pub none-above : (ps : List Point) (x y : ℤ) → All (λ p. int_le p.y y ≡ false) ps → is_in_polygon ps x y ≡ false
none-above ps x y a = none-of (λ p. int_le p.y y ≡ false) x y (λ p q h g. ap (λ b. not_same b (int_le q.y y) && is_right_of p q x y) h ∙ ap (λ b. not_same false b && is_right_of p q x y) g) ps a

pub none-below : (ps : List Point) (x y : ℤ) → All (λ p. int_le p.y y ≡ true) ps → is_in_polygon ps x y ≡ false
none-below ps x y a = none-of (λ p. int_le p.y y ≡ true) x y (λ p q h g. ap (λ b. not_same b (int_le q.y y) && is_right_of p q x y) h ∙ ap (λ b. not_same true b && is_right_of p q x y) g) ps a
