-- The tests of a kind's limits as facts.
use Rattle.std.proofs.Common.{◌≡◌, ℕ, ◌≤◌, ◌<◌, ◌^◌, List, length, get_or, true, ◌&&◌, refl}
use Rattle.std.specs.Prelude.{nat_le, nat_lt}
use Rattle.std.proofs.lemmas.Bool.{and_parts, and_from, leb-true, le-leb, ltb-true, lt-ltb}
use Rattle.std.proofs.lemmas.List.Sums.{AllPass-from_list_all, list_all-from_AllPass}
use Rattle.canvas_plane.specs.declared.Point.{Point}
use Rattle.canvas_plane.specs.Motion.{size_of}
use Rattle.canvas_shape.specs.declared.Kind.{Kind}
use Rattle.canvas_shape.specs.declared.Kind.TheVariants.{Group, Frame, Rect, Ellipse, Polygon}
use Rattle.canvas_shape.specs.Box.{AreSides}
use Rattle.canvas_shape.specs.Limits.{is_size, are_sides, is_near, are_near, are_vertices, has_sides, has_vertices}
use Rattle.canvas_shape.specs.Inside.{AreVertices, IsSound}

size-known : (n : ℕ) → is_size n ≡ true → (0 < n) × (n ≤ 65536)
size-known n h = let p = and_parts (nat_lt 0 n) (nat_le n 65536) h in (ltb-true 0 n p.0, leb-true n 65536 p.1)

size-test : (n : ℕ) → (0 < n) × (n ≤ 65536) → is_size n ≡ true
size-test n h = and_from (nat_lt 0 n) (nat_le n 65536) (lt-ltb 0 n h.0) (le-leb n 65536 h.1)

pub sides-known : (w h : ℕ) → are_sides w h ≡ true → AreSides w h
sides-known w h e = let p = and_parts (is_size w) (is_size h) e in (size-known w p.0, size-known h p.1)

pub sides-test : (w h : ℕ) → AreSides w h → are_sides w h ≡ true
sides-test w h s = and_from (is_size w) (is_size h) (size-test w s.0) (size-test h s.1)

pub vertices-known : (ps : List Point) → are_vertices ps ≡ true → AreVertices ps
vertices-known ps e =
    let p = and_parts (nat_le 3 (length ps) && nat_le (length ps) 256) (are_near ps) e in
    let n = and_parts (nat_le 3 (length ps)) (nat_le (length ps) 256) p.0 in
    let near = AllPass-from_list_all is_near ps p.1 in
    record { least = leb-true 3 (length ps) n.0; most = leb-true (length ps) 256 n.1; near = λ k d lt. leb-true (size_of (get_or ps k d)) (2 ^ 20) (near k d lt) }

pub vertices-test : (ps : List Point) → AreVertices ps → are_vertices ps ≡ true
vertices-test ps v =
    and_from (nat_le 3 (length ps) && nat_le (length ps) 256) (are_near ps)
    (and_from (nat_le 3 (length ps)) (nat_le (length ps) 256) (le-leb 3 (length ps) v.least) (le-leb (length ps) 256 v.most))
    (list_all-from_AllPass is_near ps (λ k d lt. le-leb (size_of (get_or ps k d)) (2 ^ 20) (v.near k d lt)))

pub sound-known : (k : Kind) → has_sides k ≡ true → has_vertices k ≡ true → IsSound k
sound-known Group s v = tt
sound-known (Frame w h fill) s v = sides-known w h s
sound-known (Rect w h fill) s v = sides-known w h s
sound-known (Ellipse w h fill) s v = sides-known w h s
sound-known (Polygon points fill) s v = vertices-known points v

pub sound-sides : (k : Kind) → IsSound k → has_sides k ≡ true
sound-sides Group s = refl
sound-sides (Frame w h fill) s = sides-test w h s
sound-sides (Rect w h fill) s = sides-test w h s
sound-sides (Ellipse w h fill) s = sides-test w h s
sound-sides (Polygon points fill) s = refl

pub sound-vertices : (k : Kind) → IsSound k → has_vertices k ≡ true
sound-vertices Group s = refl
sound-vertices (Frame w h fill) s = refl
sound-vertices (Rect w h fill) s = refl
sound-vertices (Ellipse w h fill) s = refl
sound-vertices (Polygon points fill) s = vertices-test points s
