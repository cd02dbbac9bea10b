-- Where a pose carries the box of vertices.
use Rattle.std.proofs.Common.{◌≡◌, ℕ, zero, suc, ◌≤◌, ◌^◌, List, [], ◌∷◌, All, map, Bool, true, false, ℤ, ◌≤ℤ◌, ◌+ℤ◌, arith, subst, sym}
use Rattle.std.specs.Prelude.{max, unsigned_abs}
use Rattle.std.specs.Int.{int_max, int_min}
use Rattle.std.proofs.lemmas.Int.{ints}
use Rattle.std.proofs.lemmas.List.Elements.{All-head, All-map, All-tail, All-weaker}
use lib.IntN.{neg_ℤ}
use Rattle.canvas_plane.specs.declared.PageBox.{PageBox}
use Rattle.canvas_plane.specs.declared.Point.{Point}
use Rattle.canvas_plane.specs.declared.Pose.{Pose}
use Rattle.canvas_plane.specs.Motion.{carry, flipped, size_of, turned}
use Rattle.canvas_plane.specs.Page.{is_in}
use Rattle.canvas_shape.specs.Bounds.{bounds_of, dot_of, grown_along, grown_to, IsAmong}
use Rattle.canvas_shape.specs.Edges.{is_in_polygon}
use Rattle.canvas_shape.proofs.Law.{bounds-have, held-in}

-- ---- the box is no further from the origin than the vertices

pub record IsNear (n : ℕ) (b : PageBox) : Type 0 where
  pub left : unsigned_abs b.left ≤ n
  pub top : unsigned_abs b.top ≤ n
  pub right : unsigned_abs b.right ≤ n
  pub bottom : unsigned_abs b.bottom ≤ n

lesser-near : (a b : ℤ) (n : ℕ) → unsigned_abs a ≤ n → unsigned_abs b ≤ n → unsigned_abs (int_min a b) ≤ n
lesser-near a b n h k = grind (arith, ints)

greater-near : (a b : ℤ) (n : ℕ) → unsigned_abs a ≤ n → unsigned_abs b ≤ n → unsigned_abs (int_max a b) ≤ n
greater-near a b n h k = grind (arith, ints)

dot-near : (n : ℕ) (p : Point) → size_of p ≤ n → IsNear n (dot_of p)
dot-near n p h = record { left = omega arith; top = omega arith; right = omega arith; bottom = omega arith }

grown-near : (n : ℕ) (b : PageBox) (p : Point) → IsNear n b → IsNear n (dot_of p) → IsNear n (grown_to b p)
grown-near n b p h k = record {
  left = lesser-near b.left p.x n h.left k.left;
  top = lesser-near b.top p.y n h.top k.top;
  right = greater-near b.right p.x n h.right k.right;
  bottom = greater-near b.bottom p.y n h.bottom k.bottom;
}

along-near : (n : ℕ) (b : PageBox) (ps : List Point) → IsNear n b → All (λ p. size_of p ≤ n) ps → IsNear n (grown_along b ps)
along-near n b [] h a = h
along-near n b (p ∷ ps) h a =
    along-near n (grown_to b p) ps (grown-near n b p h (dot-near n p (All-head (λ (q : Point). size_of q ≤ n) p ps a))) (All-tail (λ (q : Point). size_of q ≤ n) p ps a)

within : (a b : ℤ) → unsigned_abs a ≤ 2 ^ 20 → unsigned_abs b ≤ 2 ^ 20 → max (unsigned_abs a) (unsigned_abs b) ≤ 2 ^ 27
within a b h k = omega arith

pub bounds-near : (n : ℕ) (ps : List Point) → All (λ p. size_of p ≤ n) ps → IsNear n (bounds_of ps)
bounds-near n [] a = record { left = omega arith; top = omega arith; right = omega arith; bottom = omega arith }
bounds-near n (p ∷ ps) a = along-near n (dot_of p) (p ∷ ps) (dot-near n p (All-head (λ (q : Point). size_of q ≤ n) p ps a)) a

pub left_top-near : (ps : List Point) (own : PageBox) (p : Point) → own ≡ bounds_of ps → p ≡ record { x = own.left; y = own.top } → All (λ q. size_of q ≤ 2 ^ 20) ps → size_of p ≤ 2 ^ 27
left_top-near ps own p eo ep a =
    let P : PageBox → Type 0 = λ b. IsNear (2 ^ 20) b in
    let Q : Point → Type 0 = λ q. size_of q ≤ 2 ^ 27 in
    let near : IsNear (2 ^ 20) own = subst P (sym eo) (bounds-near (2 ^ 20) ps a) in
    subst Q (sym ep) (within own.left own.top near.left near.top)

pub right_bottom-near : (ps : List Point) (own : PageBox) (p : Point) → own ≡ bounds_of ps → p ≡ record { x = own.right; y = own.bottom } → All (λ q. size_of q ≤ 2 ^ 20) ps → size_of p ≤ 2 ^ 27
right_bottom-near ps own p eo ep a =
    let P : PageBox → Type 0 = λ b. IsNear (2 ^ 20) b in
    let Q : Point → Type 0 = λ q. size_of q ≤ 2 ^ 27 in
    let near : IsNear (2 ^ 20) own = subst P (sym eo) (bounds-near (2 ^ 20) ps a) in
    subst Q (sym ep) (within own.right own.bottom near.right near.bottom)

-- ---- what lies between two corners is carried between them

up : (from to a x b d : ℤ) → a ≤ℤ x → x ≤ℤ b → from ≤ℤ (a +ℤ d) → (b +ℤ d) ≤ℤ to → (from ≤ℤ (x +ℤ d)) × ((x +ℤ d) ≤ℤ to)
up from to a x b d h k f t = (omega (arith, ints), omega (arith, ints))

down : (from to a x b d : ℤ) → a ≤ℤ x → x ≤ℤ b → from ≤ℤ (neg_ℤ b +ℤ d) → (neg_ℤ a +ℤ d) ≤ℤ to → (from ≤ℤ (neg_ℤ x +ℤ d)) × ((neg_ℤ x +ℤ d) ≤ℤ to)
down from to a x b d h k f t = (omega (arith, ints), omega (arith, ints))

twice : (from to a x b d : ℤ) → a ≤ℤ x → x ≤ℤ b → from ≤ℤ (neg_ℤ (neg_ℤ a) +ℤ d) → (neg_ℤ (neg_ℤ b) +ℤ d) ≤ℤ to → (from ≤ℤ (neg_ℤ (neg_ℤ x) +ℤ d)) × ((neg_ℤ (neg_ℤ x) +ℤ d) ≤ℤ to)
twice from to a x b d h k f t = (omega (arith, ints), omega (arith, ints))

sides-have : (box : PageBox) (p : Point) → (box.left ≤ℤ p.x) × (p.x ≤ℤ box.right) → (box.top ≤ℤ p.y) × (p.y ≤ℤ box.bottom) → IsAmong box p
sides-have box p h k = record { left = h.0; right = h.1; top = k.0; bottom = k.1 }

abbrev placed : Bool → ℕ → ℤ → ℤ → Point → Point
placed f n dx dy p = record { x = (turned n (flipped f p)).x +ℤ dx; y = (turned n (flipped f p)).y +ℤ dy }

turned-among : (f : Bool) (n : ℕ) (dx dy : ℤ) (own box : PageBox) (p : Point) → n ≤ 3 → IsAmong own p → IsAmong box (placed f n dx dy (record { x = own.left; y = own.top })) → IsAmong box (placed f n dx dy (record { x = own.right; y = own.bottom })) → IsAmong box (placed f n dx dy p)
turned-among false zero dx dy own box p k a c o = sides-have box _
    (up box.left box.right own.left p.x own.right dx a.left a.right c.left o.right)
    (up box.top box.bottom own.top p.y own.bottom dy a.top a.bottom c.top o.bottom)
turned-among false (suc zero) dx dy own box p k a c o = sides-have box _
    (down box.left box.right own.top p.y own.bottom dx a.top a.bottom o.left c.right)
    (up box.top box.bottom own.left p.x own.right dy a.left a.right c.top o.bottom)
turned-among false (suc (suc zero)) dx dy own box p k a c o = sides-have box _
    (down box.left box.right own.left p.x own.right dx a.left a.right o.left c.right)
    (down box.top box.bottom own.top p.y own.bottom dy a.top a.bottom o.top c.bottom)
turned-among false (suc (suc (suc zero))) dx dy own box p k a c o = sides-have box _
    (twice box.left box.right own.top p.y own.bottom dx a.top a.bottom c.left o.right)
    (down box.top box.bottom own.left p.x own.right dy a.left a.right o.top c.bottom)
turned-among false (suc (suc (suc (suc n)))) dx dy own box p k a c o = absurd (omega arith)
turned-among true zero dx dy own box p k a c o = sides-have box _
    (down box.left box.right own.left p.x own.right dx a.left a.right o.left c.right)
    (up box.top box.bottom own.top p.y own.bottom dy a.top a.bottom c.top o.bottom)
turned-among true (suc zero) dx dy own box p k a c o = sides-have box _
    (down box.left box.right own.top p.y own.bottom dx a.top a.bottom o.left c.right)
    (down box.top box.bottom own.left p.x own.right dy a.left a.right o.top c.bottom)
turned-among true (suc (suc zero)) dx dy own box p k a c o = sides-have box _
    (twice box.left box.right own.left p.x own.right dx a.left a.right c.left o.right)
    (down box.top box.bottom own.top p.y own.bottom dy a.top a.bottom o.top c.bottom)
turned-among true (suc (suc (suc zero))) dx dy own box p k a c o = sides-have box _
    (twice box.left box.right own.top p.y own.bottom dx a.top a.bottom c.left o.right)
    (twice box.top box.bottom own.left p.x own.right dy a.left a.right c.top o.bottom)
turned-among true (suc (suc (suc (suc n)))) dx dy own box p k a c o = absurd (omega arith)

-- a box with both carried corners has each pixel of the carried polygon
pub carried-within : (page : Pose) (points : List Point) (own box : PageBox) (p q : Point) → page.quarter ≤ 3 → own ≡ bounds_of points → p ≡ carry page (record { x = own.left; y = own.top }) → q ≡ carry page (record { x = own.right; y = own.bottom }) → box ≡ bounds_of (p ∷ q ∷ []) → (x y : ℤ) → is_in_polygon (map (carry page) points) x y ≡ true → is_in box x y ≡ true
carried-within page points own box p q quarter eo ep eq eb x y h =
    let P : PageBox → Type 0 = λ b. All (IsAmong b) points in
    let Q : PageBox → Type 0 = λ b. All (IsAmong b) (p ∷ q ∷ []) in
    let R : Point → Type 0 = λ u. IsAmong box u in
    let all-own : All (IsAmong own) points = subst P (sym eo) (bounds-have points) in
    let corners : All (IsAmong box) (p ∷ q ∷ []) = subst Q (sym eb) (bounds-have (p ∷ q ∷ [])) in
    let corner : IsAmong box (carry page (record { x = own.left; y = own.top })) = subst R ep (All-head (IsAmong box) p (q ∷ []) corners) in
    let opposite : IsAmong box (carry page (record { x = own.right; y = own.bottom })) = subst R eq (All-head (IsAmong box) q [] (All-tail (IsAmong box) p (q ∷ []) corners)) in
    held-in box (map (carry page) points) x y
    (All-map (IsAmong box) (carry page) points (All-weaker (IsAmong own) (λ v. IsAmong box (carry page v)) (λ v a. turned-among page.flip page.quarter page.dx page.dy own box v quarter a corner opposite) points all-own)) h
