-- What kinds hold lies between the carried corners of their boxes.
use Rattle.std.proofs.Common.{◌≡◌, ℕ, ◌<◌, ◌≤◌, List, map, true, ℤ, pos, ◌-ℤ◌, ◌≤ℤ◌, arith}
use Rattle.std.specs.Prelude.{unsigned_abs}
use Rattle.std.specs.Int.{int_max, int_min}
use Rattle.std.proofs.lemmas.Int.{ints}
use Rattle.std.proofs.lemmas.List.Elements.{All-map, All-weaker}
use Rattle.canvas_plane.specs.declared.PageBox.{PageBox}
use Rattle.canvas_plane.specs.declared.Point.{Point}
use Rattle.canvas_plane.specs.declared.Pose.{Pose}
use Rattle.canvas_plane.specs.Motion.{carry}
use Rattle.canvas_plane.specs.Page.{is_in}
use Rattle.canvas_shape.specs.Bounds.{bounds_of, IsAmong}
use Rattle.canvas_shape.specs.Box.{box_between, box_of, AreSides, AreSideEnds}
use Rattle.canvas_shape.specs.Edges.{is_in_polygon}
use Rattle.canvas_shape.specs.Ellipse.{is_in_ellipse}
use Rattle.canvas_shape.proofs.EllipseRow.{held-in as held-in-box}
use Rattle.canvas_shape.proofs.Law.{bounds-have, held-in}
use Rattle.canvas_shape.proofs.Sides.{carried-apart}
use Rattle.canvas_doc.proofs.extents.Pulled.{among-between, between-carried, LiesBetween}

-- how far apart the ends of a side lie
size-between : (s t : ℤ) → AreSideEnds s t → (n : ℕ) × (pos n ≡ int_max s t -ℤ int_min s t) × (0 < n)
size-between s t h = (unsigned_abs (t -ℤ s), grind (arith, ints), omega (arith, h.least))

-- a pixel of a carried ellipse is in its carried box
pub ellipse-between : (out : Pose) (w h : ℕ) (x y : ℤ) → out.quarter ≤ 3 → AreSides w h → is_in_ellipse (box_of (carry out) w h) x y ≡ true → is_in (box_of (carry out) w h) x y ≡ true
ellipse-between out w h x y quarter sides held =
    let apart = carried-apart out w h quarter sides in
    let p = carry out (record { x = pos 0; y = pos 0 }) in
    let q = carry out (record { x = pos w; y = pos h }) in
    let across = size-between p.x q.x apart.0 in
    let down = size-between p.y q.y apart.1 in
    held-in-box (box_of (carry out) w h) x y across.0 down.0 across.1 down.1 across.2 down.2 held

between-ends : (a b x : ℤ) → a ≤ℤ x → x ≤ℤ b → (int_min a b ≤ℤ x) × (x ≤ℤ int_max a b)
between-ends a b x h k = (grind (arith, ints), grind (arith, ints))

corners-have : (b : PageBox) (r : Point) → IsAmong b r → LiesBetween (record { x = b.left; y = b.top }) (record { x = b.right; y = b.bottom }) r
corners-have b r h =
    let across = between-ends b.left b.right r.x h.left h.right in
    let down = between-ends b.top b.bottom r.y h.top h.bottom in
    record { across = record { least = across.0; most = across.1 }; down = record { least = down.0; most = down.1 } }

-- a pixel of a carried polygon is in the carried box of its vertices
pub polygon-between : (out : Pose) (points : List Point) (x y : ℤ) → is_in_polygon (map (carry out) points) x y ≡ true → is_in (box_between (carry out (record { x = (bounds_of points).left; y = (bounds_of points).top })) (carry out (record { x = (bounds_of points).right; y = (bounds_of points).bottom }))) x y ≡ true
polygon-between out points x y held =
    let own : PageBox = bounds_of points in
    let p : Point = record { x = own.left; y = own.top } in
    let q : Point = record { x = own.right; y = own.bottom } in
    let box : PageBox = box_between (carry out p) (carry out q) in
    held-in box (map (carry out) points) x y
    (All-map (IsAmong box) (carry out) points (All-weaker (IsAmong own) (λ r. IsAmong box (carry out r)) (λ r a. among-between (carry out p) (carry out q) (carry out r) (between-carried out p q r (corners-have own r a))) points (bounds-have points))) held
