-- Bounds of shapes: where a shape and all below it may show, in the plane of its parent.
use Rattle.std.specs.Prelude.{◌≡◌, ◌≢◌, ◌≤◌, ◌^◌, ◌||◌, ℕ, ℤ, pos, List, Option, MatchOption, Some, Bool, true, false, int_le, length}
use Rattle.std.specs.List.{slice_get}
use lib.IntN.{neg_ℤ}
use Rattle.canvas_plane.specs.declared.PageBox.{PageBox}
use Rattle.canvas_plane.specs.declared.Point.{Point}
use Rattle.canvas_plane.specs.declared.Pose.{Pose}
use Rattle.canvas_plane.specs.Motion.{carry}
use Rattle.canvas_plane.specs.Page.{is_in}
use Rattle.canvas_shape.specs.Box.{box_between}
use Rattle.canvas_shape.specs.Inside.{holds_of}
use Rattle.canvas_shape.specs.declared.Kind.{Kind}
use Rattle.canvas_shape.specs.declared.Kind.TheVariants.{Group, Frame, Rect, Ellipse, Polygon}
use Rattle.canvas_doc.specs.declared.bounds.Bounds.{Bounds}
use Rattle.canvas_record.specs.declared.records.Parent.{Parent}
use Rattle.canvas_record.specs.declared.records.Parent.TheVariants.{Shape}
use Rattle.canvas_record.specs.declared.records.Record.{Record}
use Rattle.canvas_record.specs.Children.{is_child}
use Rattle.canvas_record.specs.Contents.{record_of}

abbrev pub left_top : Bounds → Point
left_top b = record { x = b.left; y = b.top }

abbrev pub right_bottom : Bounds → Point
right_bottom b = record { x = b.right; y = b.bottom }

-- the left edge is the least number
abbrev pub is_whole : Bounds → Bool
is_whole b = int_le b.left (neg_ℤ (pos (2 ^ 31)))

-- no pixel lies between the edges
abbrev pub is_empty : Bounds → Bool
is_empty b = int_le b.right b.left || int_le b.bottom b.top

-- a pixel of the page lies in the bounds, where `out` carries the points of their plane to the page
abbrev pub holds_on_page : (Point → Point) → Bounds → ℤ → ℤ → Bool
holds_on_page out b x y = is_whole b || is_in (box_between (out (left_top b)) (out (right_bottom b))) x y

-- the second bounds hold each pixel that the first hold, wherever their plane is carried
pub record IsWithinBounds (a b : Bounds) : Type 0 where
  pub holds : (out : Pose) (x y : ℤ) → out.quarter ≤ 3 → holds_on_page (carry out) a x y ≡ true → holds_on_page (carry out) b x y ≡ true

-- no pixel lies in both, wherever their plane is carried
pub record LieApart (a b : Bounds) : Type 0 where
  pub none : (out : Pose) (x y : ℤ) → out.quarter ≤ 3 → holds_on_page (carry out) a x y ≡ true → holds_on_page (carry out) b x y ≡ false

-- the second bounds hold each pixel of the first, which a pose carries to the plane of the second
pub record IsCarriedWithin (pose : Pose) (c b : Bounds) : Type 0 where
  pub holds : (out : Pose) (x y : ℤ) → out.quarter ≤ 3 → holds_on_page (λ q. carry out (carry pose q)) c x y ≡ true → holds_on_page (carry out) b x y ≡ true

-- the bounds hold each pixel that the kind holds in their plane
pub record HoldsAll (kind : Kind) (b : Bounds) : Type 0 where
  pub holds : (out : Pose) (x y : ℤ) → out.quarter ≤ 3 → holds_of kind (carry out) x y ≡ true → holds_on_page (carry out) b x y ≡ true

-- the same of a kind that a pose carries to their plane
pub record HoldsOwn (kind : Kind) (pose : Pose) (b : Bounds) : Type 0 where
  pub holds : (out : Pose) (x y : ℤ) → out.quarter ≤ 3 → holds_of kind (λ q. carry out (carry pose q)) x y ≡ true → holds_on_page (carry out) b x y ≡ true

-- the bounds hold each pixel of a box of the page, where `out` carries their plane to it
pub record HoldsClip (out : Pose) (clip : PageBox) (b : Bounds) : Type 0 where
  pub holds : (x y : ℤ) → is_in clip x y ≡ true → holds_on_page (carry out) b x y ≡ true

-- the bounds hold each pixel from one point of their plane to another
pub record HoldsBetween (p q : Point) (b : Bounds) : Type 0 where
  pub holds : (x y : ℤ) → is_in (box_between p q) x y ≡ true → holds_on_page (λ r. r) b x y ≡ true

-- bounds of records, by position: a shown record's hold what its kind holds, and a shown group's hold what those of its children do
pub record AreBounds (order : List Record) (bounds : List Bounds) : Type 0 where
  pub long : length bounds ≡ length order
  pub own : (k : ℕ) (r : Record) (b : Bounds) → slice_get order k ≡ Some r → slice_get bounds k ≡ Some b → r.hidden ≡ false → HoldsOwn r.kind r.pose b
  pub below : (i j : ℕ) (r s : Record) (b c : Bounds) → slice_get order i ≡ Some r → slice_get order j ≡ Some s → slice_get bounds i ≡ Some b → slice_get bounds j ≡ Some c → is_child (Shape r.id) s ≡ true → r.hidden ≡ false → r.kind ≡ Group → IsCarriedWithin r.pose c b

-- the same, where the record at one position may show outside of its parent's bounds
pub record AreBoundsBut (at : ℕ) (order : List Record) (bounds : List Bounds) : Type 0 where
  pub long : length bounds ≡ length order
  pub own : (k : ℕ) (r : Record) (b : Bounds) → slice_get order k ≡ Some r → slice_get bounds k ≡ Some b → r.hidden ≡ false → HoldsOwn r.kind r.pose b
  pub below : (i j : ℕ) (r s : Record) (b c : Bounds) → j ≢ at → slice_get order i ≡ Some r → slice_get order j ≡ Some s → slice_get bounds i ≡ Some b → slice_get bounds j ≡ Some c → is_child (Shape r.id) s ≡ true → r.hidden ≡ false → r.kind ≡ Group → IsCarriedWithin r.pose c b

abbrev pub is_group : Kind → Bool
is_group Group = true
is_group (Frame w h fill) = false
is_group (Rect w h fill) = false
is_group (Ellipse w h fill) = false
is_group (Polygon points fill) = false

-- a shown group that the parent is
pub record IsGroupAt (p : Parent) (rs : List Record) (g : Record) : Type 0 where
  pub is : p ≡ Shape g.id
  pub there : record_of g.id rs ≡ Some g
  pub group : g.kind ≡ Group
  pub shown : g.hidden ≡ false

-- where in the order the shown group stands that the parent is, or that there is no such group
abbrev pub IsGroupPosition : Parent → List Record → List Record → Option ℕ → Type 0
IsGroupPosition p rs order at = MatchOption at ((g : Record) → ¬ IsGroupAt p rs g) (λ k. (g : Record) × (slice_get order k ≡ Some g) × IsGroupAt p rs g)

-- a shown group's bounds hold what those of its children do
pub record HoldChildren (order : List Record) (bounds : List Bounds) : Type 0 where
  pub long : length bounds ≡ length order
  pub below : (i j : ℕ) (r s : Record) (b c : Bounds) → slice_get order i ≡ Some r → slice_get order j ≡ Some s → slice_get bounds i ≡ Some b → slice_get bounds j ≡ Some c → is_child (Shape r.id) s ≡ true → r.hidden ≡ false → r.kind ≡ Group → IsCarriedWithin r.pose c b

-- the same, where the record at one position may show outside of its parent's bounds
pub record HoldChildrenBut (at : ℕ) (order : List Record) (bounds : List Bounds) : Type 0 where
  pub long : length bounds ≡ length order
  pub below : (i j : ℕ) (r s : Record) (b c : Bounds) → j ≢ at → slice_get order i ≡ Some r → slice_get order j ≡ Some s → slice_get bounds i ≡ Some b → slice_get bounds j ≡ Some c → is_child (Shape r.id) s ≡ true → r.hidden ≡ false → r.kind ≡ Group → IsCarriedWithin r.pose c b

-- the bounds at each position of the first list lie within those of the second
pub record AreWithin (bounds after : List Bounds) : Type 0 where
  pub long : length after ≡ length bounds
  pub each : (k : ℕ) (b c : Bounds) → slice_get bounds k ≡ Some b → slice_get after k ≡ Some c → IsWithinBounds b c

-- the bounds of the shown group of the order in which a record hangs hold the record's, if it hangs in one
pub record IsHeldAbove (order : List Record) (bounds : List Bounds) (s : Record) (c : Bounds) : Type 0 where
  pub holds : (i : ℕ) (r : Record) (b : Bounds) → slice_get order i ≡ Some r → slice_get bounds i ≡ Some b → is_child (Shape r.id) s ≡ true → r.hidden ≡ false → r.kind ≡ Group → IsCarriedWithin r.pose c b

-- a record differs from another in nothing but its place
pub record HaveOneShape (r s : Record) : Type 0 where
  pub id : s.id ≡ r.id
  pub kind : s.kind ≡ r.kind
  pub pose : s.pose ≡ r.pose
  pub hidden : s.hidden ≡ r.hidden
