-- The box of a polygon has all its pixels.
use Rattle.std.proofs.Common.{◌≡◌, ℕ, suc, ◌+◌, ◌<◌, ◌≤◌, List, [], ◌∷◌, length, get_or, drop, ℤ, pos, ◌+ℤ◌, ◌-ℤ◌, ◌≤ℤ◌, ◌<ℤ◌, true, ◌&&◌, refl, sym, ap, ◌∙◌, arith, inl, inr, All, drop-cons, add-one}
use Rattle.std.specs.Prelude.{int_le, int_lt}
use Rattle.std.specs.Int.{int_min, int_max}
use Rattle.std.proofs.lemmas.Int.{ints, clamps}
use Rattle.std.proofs.lemmas.Bool.{cases_Bool, false≢true}
use Rattle.std.proofs.lemmas.List.Elements.{All-cons}
use Rattle.std.proofs.Math.ListN.{drop_of_length-le}
use Rattle.canvas_plane.specs.declared.Point.{Point}
use Rattle.canvas_plane.specs.declared.PageBox.{PageBox}
use Rattle.canvas_plane.specs.Page.{is_in}
use Rattle.canvas_shape.specs.Edges.{is_in_polygon}
use Rattle.canvas_shape.specs.Bounds.{dot_of, grown_to, grown_along, bounds_of, IsAmong}
use Rattle.canvas_shape.proofs.Outside.{none-left, none-past, none-above, none-below}
use Rattle.canvas_shape.proofs.Edge.{lt_test-false, le_test-false, le-le_test, lt-le_test}

min-left : (a b : ℤ) → int_min a b ≤ℤ a
min-left a b = omega (arith, ints, clamps)

min-right : (a b : ℤ) → int_min a b ≤ℤ b
min-right a b = omega (arith, ints, clamps)

max-left : (a b : ℤ) → a ≤ℤ int_max a b
max-left a b = omega (arith, ints, clamps)

max-right : (a b : ℤ) → b ≤ℤ int_max a b
max-right a b = omega (arith, ints, clamps)

trans : (a b c : ℤ) → a ≤ℤ b → b ≤ℤ c → a ≤ℤ c
trans a b c h k = omega (arith, ints)

-- a point among the box is among a grown one
grown-keeps : (b : PageBox) (p q : Point) → IsAmong b p → IsAmong (grown_to b q) p
grown-keeps b p q h = record {
  left = trans (int_min b.left q.x) b.left p.x (min-left b.left q.x) h.left;
  right = trans p.x b.right (int_max b.right q.x) h.right (max-left b.right q.x);
  top = trans (int_min b.top q.y) b.top p.y (min-left b.top q.y) h.top;
  bottom = trans p.y b.bottom (int_max b.bottom q.y) h.bottom (max-left b.bottom q.y);
}

along-keeps : (b : PageBox) (p : Point) (ps : List Point) → IsAmong b p → IsAmong (grown_along b ps) p
along-keeps b p [] h = h
along-keeps b p (q ∷ qs) h = along-keeps (grown_to b q) p qs (grown-keeps b p q h)

grown-has : (b : PageBox) (p : Point) → IsAmong (grown_to b p) p
grown-has b p = record { left = min-right b.left p.x; right = max-right b.right p.x; top = min-right b.top p.y; bottom = max-right b.bottom p.y }

along-has : (b : PageBox) (ps : List Point) → All (λ p. IsAmong (grown_along b ps) p) ps
along-has b [] = λ k d h. absurd (omega arith)
along-has b (p ∷ ps) = All-cons (λ q. IsAmong (grown_along (grown_to b p) ps) q) p ps (along-keeps (grown_to b p) p ps (grown-has b p)) (along-has (grown_to b p) ps)

pub bounds-have : (ps : List Point) → All (λ p. IsAmong (bounds_of ps) p) ps
bounds-have [] = λ k d h. absurd (omega arith)
bounds-have (p ∷ ps) = along-has (dot_of p) (p ∷ ps)

right-of : (l x px : ℤ) → x <ℤ l → l ≤ℤ px → pos 0 ≤ℤ (px -ℤ x -ℤ pos 1)
right-of l x px h k = omega (arith, ints)

past-of : (r x px : ℤ) → r ≤ℤ x → px ≤ℤ r → ((px -ℤ x -ℤ pos 1) +ℤ pos 1) ≤ℤ pos 0
past-of r x px h k = omega (arith, ints)

above-of : (t y py : ℤ) → y <ℤ t → t ≤ℤ py → y <ℤ py
above-of t y py h k = omega (arith, ints)

-- a pixel of the polygon is in each box that has its vertices
pub held-in : (b : PageBox) (ps : List Point) (x y : ℤ) → All (λ p. IsAmong b p) ps → is_in_polygon ps x y ≡ true → is_in b x y ≡ true
held-in b ps x y a h = elim (cases_Bool (int_le b.left x)) [
  | inl l ↦ elim (cases_Bool (int_lt x b.right)) [
    | inl r ↦ elim (cases_Bool (int_le b.top y)) [
      | inl t ↦ elim (cases_Bool (int_lt y b.bottom)) [
        | inl u ↦
            ap (λ v. (v && int_lt x b.right) && (int_le b.top y && int_lt y b.bottom)) l ∙ ap (λ v. v && (int_le b.top y && int_lt y b.bottom)) r ∙ ap (λ v. v && int_lt y b.bottom) t ∙ u
        | inr u ↦ absurd (false≢true (sym (none-below ps x y (λ k d lt. le-le_test (get_or ps k d).y y (trans (get_or ps k d).y b.bottom y (a k d lt).bottom (lt_test-false y b.bottom u)))) ∙ h))
      ]
      | inr t ↦ absurd (false≢true (sym (none-above ps x y (λ k d lt. lt-le_test (get_or ps k d).y y (above-of b.top y (get_or ps k d).y (le_test-false b.top y t) (a k d lt).top))) ∙ h))
    ]
    | inr r ↦ absurd (false≢true (sym (none-past ps x y (λ k d lt. past-of b.right x (get_or ps k d).x (lt_test-false x b.right r) (a k d lt).right)) ∙ h))
  ]
  | inr l ↦ absurd (false≢true (sym (none-left ps x y (λ k d lt. right-of b.left x (get_or ps k d).x (le_test-false b.left x l) (a k d lt).left)) ∙ h))
]

-- a step of growing
pub grow-step : (b now : PageBox) (p d : Point) (points : List Point) (i : ℕ) (all : PageBox) → i < length points → p ≡ get_or points i d → now ≡ grown_to b p → grown_along b (drop i points) ≡ all → grown_along now (drop (i + 1) points) ≡ all
grow-step b now p d points i all lt ep en h =
    let e : drop i points ≡ p ∷ drop (i + 1) points = drop-cons points i d lt ∙ ap (λ z. z ∷ drop (suc i) points) (sym ep) ∙ ap (λ n. p ∷ drop n points) (sym (add-one i)) in
    ap (λ u. grown_along u (drop (i + 1) points)) en ∙ ap (grown_along b) (sym e) ∙ h

pub grow-done : (b : PageBox) (points : List Point) (i : ℕ) (all : PageBox) → length points ≤ i → grown_along b (drop i points) ≡ all → b ≡ all
grow-done b points i all le h = ap (grown_along b) (sym (drop_of_length-le points le)) ∙ h

pub from-first : (points : List Point) (d : Point) → 0 < length points → grown_along (dot_of (get_or points 0 d)) points ≡ bounds_of points
from-first [] d h = absurd (omega arith)
from-first (p ∷ ps) d h = refl
