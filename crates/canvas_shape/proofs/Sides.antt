-- The sides of a carried box.
use Rattle.std.proofs.Common.{◌≡◌, ℕ, zero, suc, ◌^◌, ◌≤◌, ◌<◌, ℤ, pos, ◌+ℤ◌, ◌-ℤ◌, ◌<ℤ◌, ◌≤ℤ◌, Bool, true, false, arith, sym, ap, ◌∙◌, subst}
use Rattle.std.specs.Prelude.{unsigned_abs}
use Rattle.std.specs.Int.{int_min, int_max}
use Rattle.std.proofs.lemmas.Int.{ints}
use Rattle.canvas_plane.specs.declared.Point.{Point}
use Rattle.canvas_plane.specs.declared.Pose.{Pose}
use Rattle.canvas_plane.specs.Motion.{carry, turned, flipped}
use lib.IntN.{neg_ℤ}
use Rattle.canvas_shape.specs.Ellipse.{IsSide}
use Rattle.canvas_shape.specs.Box.{AreSides, AreSideEnds}

apart-up : (d : ℤ) (n : ℕ) → 0 < n → n ≤ 65536 → AreSideEnds (pos 0 +ℤ d) (pos n +ℤ d)
apart-up d n h k = record { least = omega (arith, ints); most = omega (arith, ints) }

apart-down : (d : ℤ) (n : ℕ) → 0 < n → n ≤ 65536 → AreSideEnds (pos 0 +ℤ d) (neg_ℤ (pos n) +ℤ d)
apart-down d n h k = record { least = omega (arith, ints); most = omega (arith, ints) }

apart-twice : (d : ℤ) (n : ℕ) → 0 < n → n ≤ 65536 → AreSideEnds (pos 0 +ℤ d) (neg_ℤ (neg_ℤ (pos n)) +ℤ d)
apart-twice d n h k = record { least = omega (arith, ints); most = omega (arith, ints) }

apart-thrice : (d : ℤ) (n : ℕ) → 0 < n → n ≤ 65536 → AreSideEnds (pos 0 +ℤ d) (neg_ℤ (neg_ℤ (neg_ℤ (pos n))) +ℤ d)
apart-thrice d n h k = record { least = omega (arith, ints); most = omega (arith, ints) }

turned-apart : (f : Bool) (n : ℕ) (dx dy : ℤ) (w h : ℕ) → n ≤ 3 → AreSides w h → AreSideEnds ((turned n (flipped f (record { x = pos 0; y = pos 0 }))).x +ℤ dx) ((turned n (flipped f (record { x = pos w; y = pos h }))).x +ℤ dx) × AreSideEnds ((turned n (flipped f (record { x = pos 0; y = pos 0 }))).y +ℤ dy) ((turned n (flipped f (record { x = pos w; y = pos h }))).y +ℤ dy)
turned-apart false zero dx dy w h k s = (apart-up dx w s.0.0 s.0.1, apart-up dy h s.1.0 s.1.1)
turned-apart false (suc zero) dx dy w h k s = (apart-down dx h s.1.0 s.1.1, apart-up dy w s.0.0 s.0.1)
turned-apart false (suc (suc zero)) dx dy w h k s = (apart-down dx w s.0.0 s.0.1, apart-down dy h s.1.0 s.1.1)
turned-apart false (suc (suc (suc zero))) dx dy w h k s = (apart-twice dx h s.1.0 s.1.1, apart-down dy w s.0.0 s.0.1)
turned-apart false (suc (suc (suc (suc n)))) dx dy w h k s = absurd (omega arith)
turned-apart true zero dx dy w h k s = (apart-down dx w s.0.0 s.0.1, apart-up dy h s.1.0 s.1.1)
turned-apart true (suc zero) dx dy w h k s = (apart-down dx h s.1.0 s.1.1, apart-down dy w s.0.0 s.0.1)
turned-apart true (suc (suc zero)) dx dy w h k s = (apart-twice dx w s.0.0 s.0.1, apart-down dy h s.1.0 s.1.1)
turned-apart true (suc (suc (suc zero))) dx dy w h k s = (apart-twice dx h s.1.0 s.1.1, apart-twice dy w s.0.0 s.0.1)
turned-apart true (suc (suc (suc (suc n)))) dx dy w h k s = absurd (omega arith)

-- the corners of a carried box lie apart
pub carried-apart : (a : Pose) (w h : ℕ) → a.quarter ≤ 3 → AreSides w h → AreSideEnds (carry a (record { x = pos 0; y = pos 0 })).x (carry a (record { x = pos w; y = pos h })).x × AreSideEnds (carry a (record { x = pos 0; y = pos 0 })).y (carry a (record { x = pos w; y = pos h })).y
carried-apart a w h k s = turned-apart a.flip a.quarter a.dx a.dy w h k s

side-near : (s t : ℤ) → unsigned_abs s ≤ 2 ^ 27 → unsigned_abs t ≤ 2 ^ 27 → unsigned_abs (int_min s t) ≤ 2 ^ 28
side-near s t h k = grind (arith, ints)

side-wide : (s t : ℤ) → 1 ≤ unsigned_abs (t -ℤ s) → int_min s t <ℤ int_max s t
side-wide s t h = grind (arith, ints)

side-most : (s t : ℤ) → unsigned_abs (t -ℤ s) ≤ 65536 → (int_max s t -ℤ int_min s t) ≤ℤ pos 65536
side-most s t h = grind (arith, ints)

-- from the lesser to the greater is a side
pub side-between : (s t : ℤ) → unsigned_abs s ≤ 2 ^ 27 → unsigned_abs t ≤ 2 ^ 27 → AreSideEnds s t → IsSide (int_min s t) (int_max s t)
side-between s t h k a = record { near = side-near s t h k; wide = side-wide s t a.least; most = side-most s t a.most }

pub apart-corners : (a : Pose) (w h : ℕ) (o r p q : Point) → o ≡ record { x = pos 0; y = pos 0 } → r ≡ record { x = pos w; y = pos h } → p ≡ carry a o → q ≡ carry a r → a.quarter ≤ 3 → AreSides w h → AreSideEnds p.x q.x × AreSideEnds p.y q.y
apart-corners a w h o r p q eo er ep eq k s =
    let P : Point → Type 0 = λ u. AreSideEnds u.x (carry a (record { x = pos w; y = pos h })).x × AreSideEnds u.y (carry a (record { x = pos w; y = pos h })).y in
    let Q : Point → Type 0 = λ u. AreSideEnds p.x u.x × AreSideEnds p.y u.y in
    subst Q (sym (eq ∙ ap (carry a) er)) (subst P (sym (ep ∙ ap (carry a) eo)) (carried-apart a w h k s))
