-- The row of an ellipse.
use Rattle.canvas_shape.proofs.Edge.{le_test-true, le_test-false, le-le_test, lt-le_test}
use Rattle.std.proofs.Common.{◌≡◌, ℕ, ◌+◌, ◌-◌, ◌*◌, ◌/◌, ◌≤◌, ◌<◌, ℤ, pos, negsuc, ◌+ℤ◌, ◌-ℤ◌, ◌*ℤ◌, ◌≤ℤ◌, ◌<ℤ◌, true, false, refl, sym, ap, ◌∙◌, arith, inl, inr, leb, ◌&&◌}
use Rattle.std.specs.Prelude.{int_le, int_lt, unsigned_abs, nat_le}
use Rattle.std.proofs.Math.Nat.{mul-le-mul, mul_comm, add_comm}
use Rattle.std.proofs.lemmas.Int.{ints}
use Rattle.std.proofs.lemmas.Bool.{cases_lt, le-leb, lt-leb, cases_Bool, true≢false}
use Rattle.std.proofs.lemmas.Bool.Decides.{nat_tests}
use Rattle.canvas_plane.specs.declared.PageBox.{PageBox}
use Rattle.canvas_plane.specs.Page.{is_in}
use Rattle.canvas_shape.specs.Spans.{is_from_to}
use Rattle.canvas_shape.specs.Ellipse.{is_in_ellipse, offset, squared, is_near_middle}

-- n is within the root of a quotient where its square, times the divisor, is within the number
root-test : (n r q b : ℕ) → (r * r) * b ≤ q → q < ((r + 1) * (r + 1)) * b → leb n r ≡ leb ((n * n) * b) q
root-test n r q b least next = elim (cases_lt r n) [
  | inl lt ↦
      let up : r + 1 ≤ n = omega arith in
      let sq : (r + 1) * (r + 1) ≤ n * n = mul-le-mul up up in
      let all : ((r + 1) * (r + 1)) * b ≤ (n * n) * b = mul-le-mul sq (omega arith) in
      let past : q < (n * n) * b = omega arith in
      lt-leb n r lt ∙ sym (lt-leb ((n * n) * b) q past)
  | inr le ↦
      let sq : n * n ≤ r * r = mul-le-mul le le in
      let all : (n * n) * b ≤ (r * r) * b = mul-le-mul sq (omega arith) in
      let in_reach : (n * n) * b ≤ q = omega arith in
      le-leb n r le ∙ sym (le-leb ((n * n) * b) q in_reach)
]

-- both sides of a test, with one more term
more-same : (a b c d : ℕ) → d ≡ b + c → leb a b ≡ leb (a + c) d
more-same a b c d e = elim (cases_lt b a) [
  | inl lt ↦ lt-leb a b lt ∙ sym (lt-leb (a + c) d (omega arith))
  | inr le ↦ le-leb a b le ∙ sym (le-leb (a + c) d (omega arith))
]

-- what the square of a row's way leaves of the square of the height, times the square of the width, gives how far the row reaches
pub reach-test : (n m w h whole part across number r : ℕ) → whole ≡ h * h → part ≡ m * m → across ≡ w * w → part ≤ whole → number ≡ across * (whole - part) → (r * r) * whole ≤ number → number < ((r + 1) * (r + 1)) * whole → leb n r ≡ is_near_middle n m w h
reach-test n m w h whole part across number r eh em ew le en least next =
    let split : whole ≡ (whole - part) + part = omega arith in
    let sum : across * whole ≡ across * (whole - part) + across * part = ap (λ s. across * s) split ∙ omega arith in
    let all : across * whole ≡ number + part * across = omega arith in
    simp (eh, em, ew) at (root-test n r number whole least next ∙ more-same ((n * n) * whole) number (part * across) (across * whole) all)

-- a row reaches no further than the side does
pub reach-bound : (w whole rest number r : ℕ) → 0 < whole → rest ≤ whole → number ≡ (w * w) * rest → (r * r) * whole ≤ number → r ≤ w
reach-bound w whole rest number r some le en least = elim (cases_lt w r) [
  | inl lt ↦
      let up : w + 1 ≤ r = omega arith in
      let sq : (w + 1) * (w + 1) ≤ r * r = mul-le-mul up up in
      let more : w * w + 1 ≤ r * r = omega arith in
      let all : (w * w + 1) * whole ≤ (r * r) * whole = mul-le-mul more (omega arith) in
      let part : (w * w) * rest ≤ (w * w) * whole = mul-le-mul (omega arith) le in
      absurd (omega arith)
  | inr ge ↦ ge
]

-- the root of a quotient, as its square times the divisor
pub quotient-root : (r n b : ℕ) → 0 < b → r * r ≤ n / b → n / b < (r + 1) * (r + 1) → ((r * r) * b ≤ n) × (n < ((r + 1) * (r + 1)) * b)
quotient-root r n b some least next =
    let low : (r * r) * b ≤ (n / b) * b = mul-le-mul least (omega arith) in
    let up : n / b + 1 ≤ (r + 1) * (r + 1) = omega arith in
    let high : (n / b + 1) * b ≤ ((r + 1) * (r + 1)) * b = mul-le-mul up (omega arith) in
    (omega arith, omega arith)

-- a quotient is within a square where the number is
pub quotient-bound : (w b rest n : ℕ) → 0 < b → rest ≤ b → n ≡ (w * w) * rest → n / b ≤ w * w
quotient-bound w b rest n some le en = elim (cases_lt (w * w) (n / b)) [
  | inl lt ↦
      let up : w * w + 1 ≤ n / b = omega arith in
      let all : (w * w + 1) * b ≤ (n / b) * b = mul-le-mul up (omega arith) in
      let part : (w * w) * rest ≤ (w * w) * b = mul-le-mul (omega arith) le in
      absurd (omega arith)
  | inr ge ↦ ge
]

squared-abs : (z : ℤ) → squared z ≡ pos (unsigned_abs z * unsigned_abs z)
squared-abs (pos n) = refl
squared-abs (negsuc n) = refl

-- the test by sizes
pub by-sizes : (dx dy : ℤ) (w h : ℕ) → int_le (squared dx *ℤ squared (pos h) +ℤ squared dy *ℤ squared (pos w)) (squared (pos w) *ℤ squared (pos h)) ≡ is_near_middle (unsigned_abs dx) (unsigned_abs dy) w h
by-sizes dx dy w h = rw (squared-abs dx, squared-abs dy) refl

-- a row too far from the middle has nothing
pub far-row : (n m w h : ℕ) → 0 < w → h < m → is_near_middle n m w h ≡ false
far-row n m w h some far =
    let up : h + 1 ≤ m = omega arith in
    let sq : (h + 1) * (h + 1) ≤ m * m = mul-le-mul up up in
    let more : h * h + 1 ≤ m * m = omega arith in
    let all : (h * h + 1) * (w * w) ≤ (m * m) * (w * w) = mul-le-mul more (omega arith) in
    let one : 1 * 1 ≤ w * w = mul-le-mul some some in
    let turned : (w * w) * (h * h) ≡ (h * h) * (w * w) = mul_comm (w * w) (h * h) in
    let past : (w * w) * (h * h) < (n * n) * (h * h) + (m * m) * (w * w) = omega arith in
    lt-leb ((n * n) * (h * h) + (m * m) * (w * w)) ((w * w) * (h * h)) past

-- a pixel's centre is never as far from the middle as an edge is
pub not-edge : (at from : ℤ) (h : ℕ) → h ≤ unsigned_abs (offset at from (pos h)) → h < unsigned_abs (offset at from (pos h))
not-edge at from h le = omega (arith, ints)

abs-test : (z : ℤ) (r : ℕ) → (int_le (pos 0) (z +ℤ pos r) && int_le z (pos r)) ≡ leb (unsigned_abs z) r
abs-test z r = grind (arith, ints, nat_tests)

-- two tests of an order give one answer
le-same : (a b c d : ℤ) → (a ≤ℤ b → c ≤ℤ d) → (b <ℤ a → d <ℤ c) → int_le a b ≡ int_le c d
le-same a b c d f g = elim (cases_Bool (int_le a b)) [ inl t ↦ t ∙ sym (le-le_test c d (f (le_test-true a b t))) | inr t ↦ t ∙ sym (lt-le_test c d (g (le_test-false a b t))) ]

lt-le : (a b : ℤ) → int_lt a b ≡ int_le (a +ℤ pos 1) b
lt-le a b = grind (arith, ints)

low-end : (left x : ℤ) (w r a : ℕ) → 2 * a + r ≤ w → w < 2 * a + r + 2 → int_le (left +ℤ pos a) x ≡ int_le (pos 0) (offset x left (pos w) +ℤ pos r)
low-end left x w r a h k = le-same (left +ℤ pos a) x (pos 0) (offset x left (pos w) +ℤ pos r) (λ e. omega (arith, ints)) (λ e. omega (arith, ints))

high-end : (left x : ℤ) (w r b : ℕ) → 2 * b ≤ w + r + 1 → w + r + 1 < 2 * b + 2 → int_lt x (left +ℤ pos b) ≡ int_le (offset x left (pos w)) (pos r)
high-end left x w r b h k = lt-le x (left +ℤ pos b) ∙ le-same (x +ℤ pos 1) (left +ℤ pos b) (offset x left (pos w)) (pos r) (λ e. omega (arith, ints)) (λ e. omega (arith, ints))

-- the pixels that a reach has
pub reach-ends : (left x : ℤ) (w r : ℕ) → r ≤ w → is_from_to (left +ℤ pos ((w - r) / 2)) x (left +ℤ pos ((w + r + 1) / 2)) ≡ leb (unsigned_abs (offset x left (pos w))) r
reach-ends left x w r h =
    ap (λ t. t && int_lt x (left +ℤ pos ((w + r + 1) / 2))) (low-end left x w r ((w - r) / 2) (omega arith) (omega arith))
    ∙ ap (λ t. int_le (pos 0) (offset x left (pos w) +ℤ pos r) && t) (high-end left x w r ((w + r + 1) / 2) (omega arith) (omega arith))
    ∙ abs-test (offset x left (pos w)) r

-- the test of a box's ellipse, where its sides are written as sizes
by-sides : (b : PageBox) (x y : ℤ) (w h : ℕ) → pos w ≡ b.right -ℤ b.left → pos h ≡ b.bottom -ℤ b.top → is_near_middle (unsigned_abs (offset x b.left (pos w))) (unsigned_abs (offset y b.top (pos h))) w h ≡ is_in_ellipse b x y
by-sides b x y w h ew eh =
    let test = λ (s t : ℤ). int_le (squared (offset x b.left s) *ℤ squared t +ℤ squared (offset y b.top t) *ℤ squared s) (squared s *ℤ squared t) in
    sym (by-sizes (offset x b.left (pos w)) (offset y b.top (pos h)) w h) ∙ ap (λ s. test s (pos h)) ew ∙ ap (λ t. test (b.right -ℤ b.left) t) eh

-- a row that meets the ellipse
pub near-row : (b : PageBox) (x y : ℤ) (w h m r : ℕ) (from to : ℤ) → pos w ≡ b.right -ℤ b.left → pos h ≡ b.bottom -ℤ b.top → m ≡ unsigned_abs (offset y b.top (pos h)) → ((n : ℕ) → nat_le n r ≡ is_near_middle n m w h) → r ≤ w → from ≡ b.left +ℤ pos ((w - r) / 2) → to ≡ b.left +ℤ pos ((w + r + 1) / 2) → is_from_to from x to ≡ is_in_ellipse b x y
near-row b x y w h m r from to ew eh em near bound ef et =
    ap (λ z. is_from_to z x to) ef ∙ ap (λ z. is_from_to (b.left +ℤ pos ((w - r) / 2)) x z) et
    ∙ reach-ends b.left x w r bound ∙ near (unsigned_abs (offset x b.left (pos w)))
    ∙ ap (λ k. is_near_middle (unsigned_abs (offset x b.left (pos w))) k w h) em
    ∙ by-sides b x y w h ew eh

none : (x : ℤ) → is_from_to (pos 0) x (pos 0) ≡ false
none x = grind (arith, ints)

-- a row that misses it
pub empty-row : (b : PageBox) (x y : ℤ) (w h m : ℕ) → pos w ≡ b.right -ℤ b.left → pos h ≡ b.bottom -ℤ b.top → m ≡ unsigned_abs (offset y b.top (pos h)) → 0 < w → h ≤ m → is_from_to (pos 0) x (pos 0) ≡ is_in_ellipse b x y
empty-row b x y w h m ew eh em some far =
    let at_edge : h ≤ unsigned_abs (offset y b.top (pos h)) = omega arith in
    none x ∙ sym (far-row (unsigned_abs (offset x b.left (pos w))) (unsigned_abs (offset y b.top (pos h))) w h some (not-edge y b.top h at_edge)) ∙ by-sides b x y w h ew eh

-- across and down may change places
turned : (n m w h : ℕ) → is_near_middle n m w h ≡ is_near_middle m n h w
turned n m w h =
    let e : (n * n) * (h * h) + (m * m) * (w * w) ≡ (m * m) * (w * w) + (n * n) * (h * h) = add_comm ((n * n) * (h * h)) ((m * m) * (w * w)) in
    ap (λ a. nat_le a ((w * w) * (h * h))) e ∙ ap (λ a. nat_le ((m * m) * (w * w) + (n * n) * (h * h)) a) (mul_comm (w * w) (h * h))

near-low : (at from to : ℤ) (w : ℕ) → pos w ≡ to -ℤ from → unsigned_abs (offset at from (pos w)) < w → from ≤ℤ at
near-low at from to w e h = omega (arith, ints)

near-high : (at from to : ℤ) (w : ℕ) → pos w ≡ to -ℤ from → unsigned_abs (offset at from (pos w)) < w → at <ℤ to
near-high at from to w e h = omega (arith, ints)

lt-lt_test : (a b : ℤ) → a <ℤ b → int_lt a b ≡ true
lt-lt_test a b h = grind (arith, ints)

inside-at : (b : PageBox) (x y : ℤ) → b.left ≤ℤ x → x <ℤ b.right → b.top ≤ℤ y → y <ℤ b.bottom → is_in b x y ≡ true
inside-at b x y l r t u =
    ap (λ v. (v && int_lt x b.right) && (int_le b.top y && int_lt y b.bottom)) (le-le_test b.left x l) ∙ ap (λ v. v && (int_le b.top y && int_lt y b.bottom)) (lt-lt_test x b.right r) ∙ ap (λ v. v && int_lt y b.bottom) (le-le_test b.top y t) ∙ lt-lt_test y b.bottom u

near-side : (at from to : ℤ) (w : ℕ) → pos w ≡ to -ℤ from → unsigned_abs (offset at from (pos w)) < w → (from ≤ℤ at) × (at <ℤ to)
near-side at from to w e h = (near-low at from to w e h, near-high at from to w e h)

-- a pixel of the ellipse is in its box
pub held-in : (b : PageBox) (x y : ℤ) (w h : ℕ) → pos w ≡ b.right -ℤ b.left → pos h ≡ b.bottom -ℤ b.top → 0 < w → 0 < h → is_in_ellipse b x y ≡ true → is_in b x y ≡ true
held-in b x y w h ew eh sw sh t =
    let n = unsigned_abs (offset x b.left (pos w)) in
    let m = unsigned_abs (offset y b.top (pos h)) in
    let near : is_near_middle n m w h ≡ true = by-sides b x y w h ew eh ∙ t in
    let down = near-side y b.top b.bottom h eh (elim (cases_lt m h) [ inl lt ↦ lt | inr le ↦ absurd (true≢false (sym near ∙ far-row n m w h sw (not-edge y b.top h le))) ]) in
    let across = near-side x b.left b.right w ew (elim (cases_lt n w) [ inl lt ↦ lt | inr le ↦ absurd (true≢false (sym near ∙ turned n m w h ∙ far-row m n h w sh (not-edge x b.left w le))) ]) in
    inside-at b x y across.0 across.1 down.0 down.1

same-way : (top bottom y z : ℤ) → z ≡ top +ℤ bottom -ℤ pos 1 -ℤ y → unsigned_abs (offset z top (bottom -ℤ top)) ≡ unsigned_abs (offset y top (bottom -ℤ top))
same-way top bottom y z e = omega (arith, ints)

-- a row and its mirror image from top to bottom
pub mirror-same : (b : PageBox) (x y z : ℤ) → z ≡ b.top +ℤ b.bottom -ℤ pos 1 -ℤ y → is_in_ellipse b x z ≡ is_in_ellipse b x y
mirror-same b x y z e =
    let w = b.right -ℤ b.left in
    let h = b.bottom -ℤ b.top in
    let test = λ (s : ℤ). int_le (squared (offset x b.left w) *ℤ squared h +ℤ s *ℤ squared w) (squared w *ℤ squared h) in
    let same : squared (offset z b.top h) ≡ squared (offset y b.top h) = squared-abs (offset z b.top h) ∙ ap (λ n. pos (n * n)) (same-way b.top b.bottom y z e) ∙ sym (squared-abs (offset y b.top h)) in
    ap test same
