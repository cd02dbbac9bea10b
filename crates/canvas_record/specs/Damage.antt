-- Damage: the box of the page outside of which a change leaves each colour as it was.
use Rattle.std.specs.Prelude.{ℕ, zero, suc, List, [], ◌∷◌, Option, Some, None, map}
use Rattle.canvas_plane.specs.declared.PageBox.{PageBox}
use Rattle.canvas_plane.specs.declared.Point.{Point}
use Rattle.canvas_plane.specs.Motion.{carry}
use Rattle.canvas_plane.specs.Page.{empty_box, hull_of}
use Rattle.canvas_shape.specs.Bounds.{bounds_of}
use Rattle.canvas_shape.specs.Box.{box_of}
use Rattle.canvas_shape.specs.declared.Kind.{Kind}
use Rattle.canvas_shape.specs.declared.Kind.TheVariants.{Group, Frame, Rect, Ellipse, Polygon}
use Rattle.canvas_record.specs.declared.edits.Change.{Change}
use Rattle.canvas_record.specs.declared.edits.Change.TheVariants.{Create, Move, Pose, Reshape, Show, Delete, Respace}
use Rattle.canvas_record.specs.declared.records.Parent.{Parent}
use Rattle.canvas_record.specs.declared.records.Parent.TheVariants.{Page, Shape}
use Rattle.canvas_record.specs.declared.records.Record.{Record}
use Rattle.canvas_record.specs.Children.{children}
use Rattle.canvas_record.specs.Contents.{Contents, record_of}
use Rattle.canvas_record.specs.Effect.{effect_of}

-- the box of a leaf or of a frame, carried to the page; a group has none of its own
abbrev pub own_extent : Kind → (Point → Point) → PageBox
own_extent Group page = empty_box
own_extent (Frame w h fill) page = box_of page w h
own_extent (Rect w h fill) page = box_of page w h
own_extent (Ellipse w h fill) page = box_of page w h
own_extent (Polygon points fill) page = bounds_of (map page points)

-- the least box round all of them, to which empty ones add nothing
abbrev pub hull_round : List PageBox → PageBox
hull_round [] = empty_box
hull_round (b ∷ bs) = hull_of b (hull_round bs)

-- the least box round a record's own box and round those of all below it, where `among` is that round its children's
abbrev pub extent_with : (Parent → (Point → Point) → PageBox) → (Point → Point) → Record → PageBox
extent_with among out r =
    let page : Point → Point = λ q. out (carry r.pose q) in
    hull_of (own_extent r.kind page) (among (Shape r.id) page)

-- the least box round the boxes of p's children and of all below them, hidden ones and clipped ones too, where `out` carries
-- p's own points to the page, down to so many levels
unfoldable pub extent_among : ℕ → List Record → Parent → (Point → Point) → PageBox
extent_among zero rs p out = empty_box
extent_among (suc levels) rs p out = hull_round (map (extent_with (λ q into. extent_among levels rs q into) out) (children p rs))

-- the same round the boxes of a record and of all below it
abbrev pub extent_of : ℕ → List Record → (Point → Point) → Record → PageBox
extent_of levels rs out r = extent_with (λ q into. extent_among levels rs q into) out r

-- the next step, from the record of a parent
abbrev pub to_page_from : (Parent → Point → Point) → Option Record → Point → Point
to_page_from up None = λ q. q
to_page_from up (Some r) = λ q. up r.place.parent (carry r.pose q)

-- where a parent's own points lie on the page, within so many steps up
unfoldable pub to_page : ℕ → List Record → Parent → Point → Point
to_page steps rs Page = λ q. q
to_page zero rs (Shape id) = λ q. q
to_page (suc steps) rs (Shape id) = to_page_from (λ p. to_page steps rs p) (record_of id rs)

-- the extent of a record in its place on the page
abbrev pub extent_on_page : List Record → Option Record → PageBox
extent_on_page rs None = empty_box
extent_on_page rs (Some r) = extent_of 31 rs (to_page 31 rs r.place.parent) r

-- the extent of the shape of an id, empty where there is none
abbrev pub extent_at : ℕ → List Record → PageBox
extent_at id rs = extent_on_page rs (record_of id rs)

-- the extents of the shape of an id in the documents before and after a change
abbrev pub extent_before_and_after : ℕ → List Record → List Record → PageBox
extent_before_and_after id before after = hull_of (extent_at id before) (extent_at id after)

-- The damage of a change: the least box round the carried boxes of every leaf and frame of the changed subtree, before and after.
-- New indexes alone damage nothing.
unfoldable pub damage_of : Change → Contents → PageBox
damage_of (Create id kind pose hidden place) d = extent_before_and_after id d.records (effect_of (Create id kind pose hidden place) d).records
damage_of (Move id place) d = extent_before_and_after id d.records (effect_of (Move id place) d).records
damage_of (Pose id pose) d = extent_before_and_after id d.records (effect_of (Pose id pose) d).records
damage_of (Reshape id kind) d = extent_before_and_after id d.records (effect_of (Reshape id kind) d).records
damage_of (Show id hidden) d = extent_before_and_after id d.records (effect_of (Show id hidden) d).records
damage_of (Delete id) d = extent_before_and_after id d.records (effect_of (Delete id) d).records
damage_of (Respace p) d = empty_box
