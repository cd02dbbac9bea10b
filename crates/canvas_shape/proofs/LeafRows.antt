-- Rows of carried leaves.
use Rattle.std.proofs.Common.{◌≡◌, ℕ, ◌<◌, pos, negsuc, ◌-ℤ◌, ◌<ℤ◌, arith, List, ℤ, Bool, true, false, ◌&&◌, refl, sym, ap, ◌∙◌}
use Rattle.canvas_plane.specs.declared.PageBox.{PageBox}
use Rattle.canvas_plane.specs.Page.{is_in}
use Rattle.canvas_shape.specs.declared.Span.{Span}
use Rattle.canvas_shape.specs.Spans.{is_from_to, AppendsSpans, within}
use Rattle.canvas_shape.proofs.Held.{AppendsSpans-same}
use Rattle.std.proofs.lemmas.Int.{ints}
use Rattle.canvas_shape.specs.Ellipse.{is_in_ellipse, IsSide}
use Rattle.canvas_shape.proofs.EllipseRow.{held-in}
use Rattle.canvas_shape.proofs.Law.{held-in as held-in-bounds, bounds-have}
use Rattle.canvas_shape.specs.Bounds.{bounds_of}
use Rattle.canvas_shape.specs.Edges.{is_in_polygon}
use Rattle.canvas_plane.specs.declared.Point.{Point}
use Rattle.canvas_shape.specs.declared.Carried.{Carried}
use Rattle.canvas_shape.specs.Leaves.{carried_holds}

and_true : (b : Bool) → (b && true) ≡ b
and_true true = refl
and_true false = refl

and_false : (b : Bool) → (b && false) ≡ false
and_false true = refl
and_false false = refl

-- in a row of the box, the box is its sides
pub in-box : (b : PageBox) (x y : ℤ) → is_from_to b.top y b.bottom ≡ true → is_from_to b.left x b.right ≡ is_in b x y
in-box b x y e = sym (ap (λ t. is_from_to b.left x b.right && t) e ∙ and_true (is_from_to b.left x b.right))

pub off-box : (b : PageBox) (x y : ℤ) → is_from_to b.top y b.bottom ≡ false → is_in b x y ≡ false
off-box b x y e = ap (λ t. is_from_to b.left x b.right && t) e ∙ and_false (is_from_to b.left x b.right)

-- spans of one leaf are those of an equal one
pub of-leaf : (old new : List Span) (left right y : ℤ) (k : Carried) (test : ℤ → Bool) → ((x : ℤ) → test x ≡ carried_holds k x y) → AppendsSpans old new (within left right test) → AppendsSpans old new (within left right (λ x. carried_holds k x y))
of-leaf old new left right y k test e h = AppendsSpans-same old new (within left right test) (within left right (λ x. carried_holds k x y)) (λ x. ap (λ t. is_from_to left x right && t) (e x)) h

above-zero : (from to : ℤ) → from <ℤ to → pos 0 <ℤ (to -ℤ from)
above-zero from to h = omega (arith, ints)

from-difference : (z : ℤ) → pos 0 <ℤ z → (n : ℕ) × (pos n ≡ z) × (0 < n)
from-difference (pos n) h = (n, refl, omega (arith, ints))
from-difference (negsuc n) h = absurd (omega (arith, ints))

size_of_side : (from to : ℤ) → from <ℤ to → (n : ℕ) × (pos n ≡ to -ℤ from) × (0 < n)
size_of_side from to h = from-difference (to -ℤ from) (above-zero from to h)

-- a pixel of an ellipse is in its box
pub ellipse-held : (b : PageBox) (x y : ℤ) → IsSide b.left b.right → IsSide b.top b.bottom → is_in_ellipse b x y ≡ true → is_in b x y ≡ true
ellipse-held b x y a d h =
    let w = size_of_side b.left b.right a.wide in
    let t = size_of_side b.top b.bottom d.wide in
    held-in b x y w.0 t.0 w.1 t.1 w.2 t.2 h

-- a pixel of a polygon is in the box of its vertices
pub polygon-held : (points : List Point) (b : PageBox) (x y : ℤ) → b ≡ bounds_of points → is_in_polygon points x y ≡ true → is_in b x y ≡ true
polygon-held points b x y e h = ap (λ c. is_in c x y) e ∙ held-in-bounds (bounds_of points) points x y (bounds-have points) h

test-false : (p : Bool) → (p ≡ true → ⊥) → p ≡ false
test-false true h = absurd (h refl)
test-false false h = refl

true≢false : true ≡ false → ⊥
true≢false e = cc

-- a row beside the box holds nothing of the polygon
pub off-polygon : (points : List Point) (b : PageBox) (x y : ℤ) → b ≡ bounds_of points → is_from_to b.top y b.bottom ≡ false → is_in_polygon points x y ≡ false
off-polygon points b x y e off = test-false (is_in_polygon points x y) (λ h. true≢false (sym (polygon-held points b x y e h) ∙ off-box b x y off))
