-- What is decided of an edit: a change, or the first refusal that applies.
use Rattle.std.specs.Prelude.{ℕ, ◌≡◌, ◌==◌, not, nat_le, List, Option, Some, None, Bool, true, false, cond, Result, Ok, Err, is_some, length}
use Rattle.std.specs.List.{list_all}
use Rattle.canvas_plane.specs.declared.Pose.{Pose}
use Rattle.canvas_plane.specs.Limits.{is_pose}
use Rattle.canvas_shape.specs.Limits.{has_sides, has_vertices, takes_memory}
use Rattle.canvas_shape.specs.declared.Kind.{Kind}
use Rattle.canvas_shape.specs.declared.Kind.TheVariants.{Group, Frame, Rect, Ellipse, Polygon}
use Rattle.canvas_record.specs.declared.records.Parent.{Parent}
use Rattle.canvas_record.specs.declared.records.Parent.TheVariants.{Page, Shape}
use Rattle.canvas_record.specs.declared.records.Place.{Place}
use Rattle.canvas_record.specs.declared.records.Record.{Record}
use Rattle.canvas_record.specs.declared.edits.Spot.{Spot}
use Rattle.canvas_record.specs.declared.edits.Edit.{Edit}
use Rattle.canvas_record.specs.declared.edits.Edit.TheVariants as edit
use Rattle.canvas_record.specs.declared.edits.Change.{Change}
use Rattle.canvas_record.specs.declared.edits.Change.TheVariants as change
use Rattle.canvas_record.specs.declared.refusals.Refusal.{Refusal}
use Rattle.canvas_record.specs.declared.refusals.Refusal.TheVariants.{OutOfMemory, NoSuchShape, NoSuchParent, NotAContainer, Cycle, TooDeep, TooMany, BadSize, BadPose, BadPolygon, WrongKind, IdsSpent}
use Rattle.canvas_record.specs.Siblings.{refused_if, siblings, index_at}
use Rattle.canvas_record.specs.Contents.{Contents, record_of, is_container, reaches_page, most_records}
use Rattle.canvas_record.specs.Effect.{at_id, is_below}
use Rattle.canvas_record.specs.Depth.{is_above_32}

abbrev pub has_shape : List Record → ℕ → Bool
has_shape rs id = is_some (record_of id rs)

abbrev pub has_parent : List Record → Parent → Bool
has_parent rs Page = true
has_parent rs (Shape id) = is_some (record_of id rs)

abbrev pub holds_container : Option Record → Bool
holds_container None = false
holds_container (Some r) = is_container r.kind

-- the page, a group or a frame
abbrev pub can_have_children : List Record → Parent → Bool
can_have_children rs Page = true
can_have_children rs (Shape id) = holds_container (record_of id rs)

-- the parent is the shape or below it
abbrev pub makes_cycle : List Record → ℕ → Parent → Bool
makes_cycle rs id p = is_below 32 id rs p

-- the records, with a shape under another parent
abbrev pub put_under : ℕ → Parent → List Record → List Record
put_under id p rs = at_id id (λ r. record r { place = record r.place { parent = p } }) rs

-- the parent of a record once a shape hangs under another
abbrev pub parent_after : ℕ → Parent → Record → Parent
parent_after id p r = cond (r.id == id) p r.place.parent

-- each record lies at most 32 deep
abbrev pub are_grounded : List Record → List Record → Bool
are_grounded rs all = list_all (λ r. reaches_page 31 rs r.place.parent) all

-- under the parent, the shape or one below it would lie too deep
unfoldable pub lies_too_deep : List Record → ℕ → Parent → Bool
lies_too_deep rs id p = not (are_grounded (put_under id p rs) (put_under id p rs))

abbrev pub same_variant : Kind → Kind → Bool
same_variant Group Group = true
same_variant (Frame w h fill) (Frame v g paint) = true
same_variant (Rect w h fill) (Rect v g paint) = true
same_variant (Ellipse w h fill) (Ellipse v g paint) = true
same_variant (Polygon points fill) (Polygon corners paint) = true
same_variant a b = false

abbrev pub is_another_kind : Kind → Option Record → Bool
is_another_kind kind None = false
is_another_kind kind (Some r) = not (same_variant r.kind kind)

-- the change at a parent, once the index is decided
abbrev pub placed : Parent → Result (List ℕ) Refusal → (Place → Change) → Result Change Refusal
placed p (Ok index) made = Ok (made (record { parent = p; index = index }))
placed p (Err why) made = Err why

-- the index of a new shape, or the first refusal
abbrev pub create_index : Kind → Pose → Parent → Spot → Contents → Result (List ℕ) Refusal
create_index kind pose p spot d =
    refused_if (not (has_parent d.records p)) NoSuchParent
    (refused_if (not (can_have_children d.records p)) NotAContainer
    (refused_if (not (reaches_page 31 d.records p)) TooDeep
    (refused_if (nat_le most_records (length d.records)) TooMany
    (refused_if (d.next == 4294967295) IdsSpent
    (refused_if (not (has_sides kind)) BadSize
    (refused_if (not (is_pose pose)) BadPose
    (refused_if (not (has_vertices kind)) BadPolygon
    (index_at spot (siblings d.next p d.records)))))))))

-- the index of a moved shape, or the first refusal
abbrev pub move_index : ℕ → Parent → Spot → List Record → Result (List ℕ) Refusal
move_index id p spot rs =
    refused_if (not (has_shape rs id)) NoSuchShape
    (refused_if (not (has_parent rs p)) NoSuchParent
    (refused_if (not (can_have_children rs p)) NotAContainer
    (refused_if (makes_cycle rs id p) Cycle
    (refused_if (is_above_32 rs id p) TooDeep
    (index_at spot (siblings id p rs))))))

abbrev pub pose_decision : ℕ → Pose → List Record → Result Change Refusal
pose_decision id pose rs =
    refused_if (not (has_shape rs id)) NoSuchShape
    (refused_if (not (is_pose pose)) BadPose
    (Ok (change.Pose id pose)))

-- whether a shape may have another kind, or the first refusal
abbrev pub reshape_judgement : ℕ → Kind → List Record → Result (Unit {0}) Refusal
reshape_judgement id kind rs =
    refused_if (not (has_shape rs id)) NoSuchShape
    (refused_if (is_another_kind kind (record_of id rs)) WrongKind
    (refused_if (not (has_sides kind)) BadSize
    (refused_if (not (has_vertices kind)) BadPolygon
    (Ok tt))))

-- the change, where nothing refuses it
abbrev pub allowed : Result (Unit {0}) Refusal → Change → Result Change Refusal
allowed (Ok _) c = Ok c
allowed (Err why) c = Err why

abbrev pub move_decision : ℕ → Parent → Spot → List Record → Result Change Refusal
move_decision id p spot rs = placed p (move_index id p spot rs) (λ place. change.Move id place)

abbrev pub reshape_decision : ℕ → Kind → List Record → Result Change Refusal
reshape_decision id kind rs = allowed (reshape_judgement id kind rs) (change.Reshape id kind)

abbrev pub show_decision : ℕ → Bool → List Record → Result Change Refusal
show_decision id hidden rs = refused_if (not (has_shape rs id)) NoSuchShape (Ok (change.Show id hidden))

abbrev pub delete_decision : ℕ → List Record → Result Change Refusal
delete_decision id rs = refused_if (not (has_shape rs id)) NoSuchShape (Ok (change.Delete id))

abbrev pub respace_decision : Parent → List Record → Result Change Refusal
respace_decision p rs =
    refused_if (not (has_parent rs p)) NoSuchParent
    (refused_if (not (can_have_children rs p)) NotAContainer
    (Ok (change.Respace p)))

-- the change, or the refusal
abbrev pub decision_of : Edit → Contents → Result Change Refusal
decision_of (edit.Create kind pose hidden p spot) d = placed p (create_index kind pose p spot d) (λ place. change.Create d.next kind pose hidden place)
decision_of (edit.Move id p spot) d = move_decision id p spot d.records
decision_of (edit.Pose id pose) d = pose_decision id pose d.records
decision_of (edit.Reshape id kind) d = reshape_decision id kind d.records
decision_of (edit.Show id hidden) d = show_decision id hidden d.records
decision_of (edit.Delete id) d = delete_decision id d.records
decision_of (edit.Respace p) d = respace_decision p d.records

-- an answer where so much was decided: the same, or want of memory in place of a change
abbrev pub IsAnswer : Result Change Refusal → Result Change Refusal → Type 0
IsAnswer (Ok c) decided = decided ≡ Ok c
IsAnswer (Err why) (Ok c) = why ≡ OutOfMemory
IsAnswer (Err why) (Err first) = why ≡ first

-- the edits of which a decision takes memory: those that copy vertices
abbrev pub asks_memory : Edit → Bool
asks_memory (edit.Create kind pose hidden p spot) = takes_memory kind
asks_memory (edit.Move id p spot) = false
asks_memory (edit.Pose id pose) = false
asks_memory (edit.Reshape id kind) = takes_memory kind
asks_memory (edit.Show id hidden) = false
asks_memory (edit.Delete id) = false
asks_memory (edit.Respace p) = false
