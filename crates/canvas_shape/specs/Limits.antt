-- Which kinds are taken, and why others are refused.
use Rattle.std.specs.Prelude.{ℕ, ◌^◌, List, length, Bool, true, false, ◌&&◌, cond, nat_le, nat_lt, Option, None, Some}
use Rattle.std.specs.List.{list_all}
use Rattle.canvas_plane.specs.declared.Point.{Point}
use Rattle.canvas_plane.specs.Motion.{size_of}
use Rattle.canvas_shape.specs.declared.Kind.{Kind}
use Rattle.canvas_shape.specs.declared.Kind.TheVariants.{Group, Frame, Rect, Ellipse, Polygon}
use Rattle.canvas_shape.specs.declared.KindFault.{KindFault}
use Rattle.canvas_shape.specs.declared.KindFault.TheVariants.{BadSize, BadPolygon}

abbrev pub is_size : ℕ → Bool
is_size n = nat_lt 0 n && nat_le n 65536

-- both sides are 1 to 65,536
abbrev pub are_sides : ℕ → ℕ → Bool
are_sides w h = is_size w && is_size h

-- the coordinates are at most 2^20 in size
abbrev pub is_near : Point → Bool
is_near p = nat_le (size_of p) (2 ^ 20)

abbrev pub are_near : List Point → Bool
are_near ps = list_all is_near ps

-- 3 to 256 vertices, each near enough
abbrev pub are_vertices : List Point → Bool
are_vertices ps = (nat_le 3 (length ps) && nat_le (length ps) 256) && are_near ps

-- the sides that the kind has are within their limits
abbrev pub has_sides : Kind → Bool
has_sides Group = true
has_sides (Frame w h fill) = are_sides w h
has_sides (Rect w h fill) = are_sides w h
has_sides (Ellipse w h fill) = are_sides w h
has_sides (Polygon points fill) = true

-- the vertices that the kind has are within their limits
abbrev pub has_vertices : Kind → Bool
has_vertices Group = true
has_vertices (Frame w h fill) = true
has_vertices (Rect w h fill) = true
has_vertices (Ellipse w h fill) = true
has_vertices (Polygon points fill) = are_vertices points

-- why a kind is refused
abbrev pub kind_fault : Kind → Option KindFault
kind_fault kind = cond (has_sides kind) (cond (has_vertices kind) None (Some BadPolygon)) (Some BadSize)

-- the number of the refusal
abbrev pub fault_code : KindFault → ℕ
fault_code BadSize = 8
fault_code BadPolygon = 10

-- the kind holds memory of its own
abbrev pub takes_memory : Kind → Bool
takes_memory Group = false
takes_memory (Frame w h fill) = false
takes_memory (Rect w h fill) = false
takes_memory (Ellipse w h fill) = false
takes_memory (Polygon points fill) = true
