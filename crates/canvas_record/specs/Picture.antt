-- The colour of a point, walked from front to back over a bare list of records.
use Rattle.std.specs.Prelude.{ℕ, zero, suc, List, [], ◌∷◌, Bool, cond, Option, Some, None, ℤ}
use Rattle.canvas_plane.specs.declared.Point.{Point}
use Rattle.canvas_plane.specs.Motion.{carry}
use Rattle.canvas_shape.specs.declared.Colour.{Colour}
use Rattle.canvas_shape.specs.declared.Kind.{Kind}
use Rattle.canvas_shape.specs.declared.Kind.TheVariants.{Group, Frame, Rect, Ellipse, Polygon}
use Rattle.canvas_shape.specs.Inside.{holds_of}
use Rattle.canvas_record.specs.declared.records.Parent.{Parent}
use Rattle.canvas_record.specs.declared.records.Parent.TheVariants.{Page, Shape}
use Rattle.canvas_record.specs.declared.records.Record.{Record}
use Rattle.canvas_record.specs.Children.{children}

-- the one, or else the other
abbrev pub or_else : Option Colour → Option Colour → Option Colour
or_else None b = b
or_else (Some c) b = Some c

-- the first answer along a list
abbrev pub first_answer : (Record → Option Colour) → List Record → Option Colour
first_answer f [] = None
first_answer f (r ∷ rs) = or_else (f r) (first_answer f rs)

-- what a kind answers, where `inner` is its children's first answer
abbrev pub kind_answer : Kind → Bool → Option Colour → Option Colour
kind_answer Group holds inner = inner
kind_answer (Frame w h fill) holds inner = cond holds (or_else inner fill) None
kind_answer (Rect w h fill) holds inner = cond holds (Some fill) None
kind_answer (Ellipse w h fill) holds inner = cond holds (Some fill) None
kind_answer (Polygon points fill) holds inner = cond holds (Some fill) None

abbrev pub shape_answer : Record → Bool → Option Colour → Option Colour
shape_answer r holds inner = cond r.hidden None (kind_answer r.kind holds inner)

-- what a record answers, where `among` is what its children do
abbrev pub answer_with : (Parent → (Point → Point) → Option Colour) → (Point → Point) → ℤ → ℤ → Record → Option Colour
answer_with among out x y r =
    let page : Point → Point = λ q. out (carry r.pose q) in
    shape_answer r (holds_of r.kind page x y) (among (Shape r.id) page)

-- what the children of p answer, where `out` carries p's own points to the page, down to so many levels
unfoldable pub answer_among : ℕ → List Record → Parent → (Point → Point) → ℤ → ℤ → Option Colour
answer_among zero rs p out x y = None
answer_among (suc levels) rs p out x y =
    first_answer (answer_with (λ q into. answer_among levels rs q into x y) out x y) (children p rs)

-- what a record answers, with so many levels below it
abbrev pub answer_of : ℕ → List Record → (Point → Point) → ℤ → ℤ → Record → Option Colour
answer_of levels rs out x y r = answer_with (λ q into. answer_among levels rs q into x y) out x y r

abbrev pub white : Colour
white = record { 0 = 255 ∷ 255 ∷ 255 ∷ [] }

abbrev pub or_white : Option Colour → Colour
or_white None = white
or_white (Some c) = c

-- the colour of a pixel
abbrev pub colour : List Record → ℤ → ℤ → Colour
colour rs x y = or_white (answer_among 32 rs Page (λ q. q) x y)
