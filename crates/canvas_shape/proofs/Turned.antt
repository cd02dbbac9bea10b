-- The edges of a polygon whose vertices are carried one by one.
use Rattle.std.proofs.Common.{◌≡◌, ℕ, ◌+◌, ◌-◌, ◌<◌, List, length, get_or, drop, ℤ, Bool, sym, ap, ◌∙◌, arith, subst}
use Rattle.std.specs.Prelude.{map}
use Rattle.std.proofs.lemmas.List.{get_or-map, length-map}
use Rattle.canvas_plane.specs.declared.Point.{Point}
use Rattle.canvas_plane.specs.Motion.{not_same}
use Rattle.canvas_shape.specs.Edges.{counts, is_odd_along, is_in_polygon}
use Rattle.canvas_shape.proofs.Pairs.{holds-step, last-edge}

pub turned-step : (i c start : Bool) (out : Point → Point) (p q e d : Point) (points : List Point) (k : ℕ) (x y : ℤ) → k < length points → e ≡ get_or points k d → q ≡ out e → c ≡ counts p q x y → not_same i (is_odd_along p (drop k (map out points)) x y) ≡ start → not_same (not_same i c) (is_odd_along q (drop (k + 1) (map out points)) x y) ≡ start
turned-step i c start out p q e d points k x y lt at eq ec h =
    let l : k < length (map out points) = subst (λ n. k < n) (sym (length-map points out)) lt in
    holds-step i c start p q (out d) (map out points) k x y l (eq ∙ ap out at ∙ sym (get_or-map out points k d (out d) lt)) ec h

pub turned-last : (out : Point → Point) (points : List Point) (d : Point) (x y : ℤ) → 0 < length points → is_odd_along (out (get_or points (length points - 1) d)) (map out points) x y ≡ is_in_polygon (map out points) x y
turned-last out points d x y some =
    let below : length points - 1 < length points = omega arith in
    let l : 0 < length (map out points) = subst (λ n. 0 < n) (sym (length-map points out)) some in
    ap (λ q. is_odd_along q (map out points) x y) (sym (get_or-map out points (length points - 1) d (out d) below) ∙ ap (λ n. get_or (map out points) (n - 1) (out d)) (sym (length-map points out)))
    ∙ last-edge (map out points) (out d) x y l
