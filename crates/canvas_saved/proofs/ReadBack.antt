-- What is written of a document is read back, in either format.
use Rattle.std.proofs.Common.{◌≡◌, ℕ, ◌^◌, ◌<◌, ◌≤◌, List, [], ◌∷◌, map, Some, All, refl, arith}
use Rattle.std.specs.Prelude.{codes}
use Rattle.std.specs.List.{AllByRecursion}
use Rattle.std.proofs.lemmas.List.Elements.{recursion_from_All}
use Rattle.json.proofs.Printed.Utf8.{IsUtf8-are_ascii}
use Rattle.serde_json.specs.Data.{string, depth, items_depth}
use Rattle.serde_json.specs.View.{items_of}
use Rattle.canvas_key.specs.Text.{IsKey}
use Rattle.canvas_plane.specs.declared.Pose.{Pose}
use Rattle.canvas_shape.specs.declared.Kind.{Kind}
use Rattle.canvas_shape.specs.declared.Kind.TheVariants.{Group, Frame, Rect, Ellipse, Polygon}
use Rattle.canvas_shape.specs.Inside.{IsSound}
use Rattle.canvas_record.specs.declared.records.Place.{Place}
use Rattle.canvas_record.specs.declared.records.Record.{Record}
use Rattle.canvas_record.specs.Contents.{Contents, IsWellFormed}
use Rattle.canvas_record.specs.Tree.{IsInLimits}
use Rattle.canvas_json.specs.Fit.{FitsKind, FitsParent, IsKindInRange, IsPoseInRange}
use Rattle.canvas_json.specs.Json.{has_others}
use Rattle.canvas_json.specs.Objects.{shape_data, pose_data}
use Rattle.canvas_json.specs.Places.{key_named}
use Rattle.canvas_json.proofs.Back.{u32-back, parent-back, parent-written, parent-shallow, pose-back, pose-exact, pose-near, pose-written, kind-back, kind-exact, kind-named, kind-shallow, kind-written, vertices-near}
use Rattle.canvas_json.proofs.RoundTrip.{IsWritten, AreItemsWritten, boolean-written, unsigned-written, string-written, no-items-written, item-written, array-written, no-members-written, member-written, object-written}
use Rattle.canvas_json.proofs.Words.{word-text, key-word}
use Rattle.canvas_saved.specs.declared.formats.Format.{Format}
use Rattle.canvas_saved.specs.declared.formats.Format.TheVariants.{One, Two}
use Rattle.canvas_saved.specs.Formats.{number_of}
use Rattle.canvas_saved.specs.Kept.{IsKept}
use Rattle.canvas_saved.specs.Records.{whole_shape_of, whole_pose_of, index_of, place_in, place_of, place_at, record_in, record_of}
use Rattle.canvas_json.specs.Saved.{place_data}
use Rattle.canvas_saved.specs.Saved.{record_data, data_in}

-- ---- what is read

pose-within : (r : Record) → IsInLimits r → IsPoseInRange r.pose
pose-within r limits = pose-near r.pose limits.reach

kind-within : (kind : Kind) → IsSound kind → IsKindInRange kind
kind-within Group sound = tt
kind-within (Frame w h fill) sound = tt
kind-within (Rect w h fill) sound = tt
kind-within (Ellipse w h fill) sound = tt
kind-within (Polygon points fill) sound = vertices-near points sound

shape-back : (kind : Kind) → FitsKind kind → IsKindInRange kind → whole_shape_of (shape_data kind) ≡ Some kind
unfolding whole_shape_of
shape-back kind fits near = rw (kind-named kind, kind-exact kind) (kind-back kind fits near)

pose-whole : (pose : Pose) → pose.quarter < 2 ^ 8 → IsPoseInRange pose → whole_pose_of (pose_data pose) ≡ Some pose
unfolding whole_pose_of
pose-whole pose quarter near = rw (pose-exact pose) (pose-back pose quarter near)

index-back : (text : List ℕ) → IsKey text → index_of (string text) ≡ Some text
unfolding index_of key_named
index-back text h = rw h refl

record-back : (r : Record) → r.id < 2 ^ 32 → IsKey r.place.index → FitsParent r.place.parent
    → whole_pose_of (pose_data r.pose) ≡ Some r.pose → whole_shape_of (shape_data r.kind) ≡ Some r.kind
    → (format : Format) → record_of format (record_data format r) ≡ Some r
unfolding record_of record_in place_at place_of place_in has_others
record-back r id key parent pose kind One = rw (kind, u32-back r.id id, index-back r.place.index key, parent-back r.place.parent parent, pose) refl
record-back r id key parent pose kind Two = rw (kind, u32-back r.id id, index-back r.place.index key, parent-back r.place.parent parent, pose) refl

-- a record that is kept is read as it is written, in either format
pub kept-back : (r : Record) → r.id < 2 ^ 32 → IsInLimits r → IsKept r → (format : Format) → record_of format (record_data format r) ≡ Some r
kept-back r id limits kept =
    let turns : r.pose.quarter ≤ 3 = limits.quarter in
    record-back r id limits.key kept.parent (pose-whole r.pose (omega arith) (pose-within r limits)) (shape-back r.kind kept.kind (kind-within r.kind limits.kind))

-- ---- its text is read as its JSON value

index-written : (index : List ℕ) → IsKey index → IsWritten (string index)
index-written index key = string-written index (word-text index (key-word index key))

place-written : (place : Place) → IsKey place.index → FitsParent place.parent → IsWritten (place_data place)
place-written place key parent =
    object-written _ (member-written (codes "index") _ _ (IsUtf8-are_ascii _ refl) (index-written place.index key)
    (member-written (codes "parent") _ _ (IsUtf8-are_ascii _ refl) (parent-written place.parent parent) no-members-written)) refl

record-written : (format : Format) (r : Record) → r.id < 2 ^ 32 → IsKey r.place.index → FitsParent r.place.parent → IsWritten (pose_data r.pose) → IsWritten (shape_data r.kind) → IsWritten (record_data format r)
record-written One r id key parent pose kind =
    object-written _ (member-written (codes "hidden") _ _ (IsUtf8-are_ascii _ refl) (boolean-written r.hidden)
    (member-written (codes "id") _ _ (IsUtf8-are_ascii _ refl) (unsigned-written r.id (omega arith))
    (member-written (codes "index") _ _ (IsUtf8-are_ascii _ refl) (index-written r.place.index key)
    (member-written (codes "parent") _ _ (IsUtf8-are_ascii _ refl) (parent-written r.place.parent parent)
    (member-written (codes "pose") _ _ (IsUtf8-are_ascii _ refl) pose
    (member-written (codes "shape") _ _ (IsUtf8-are_ascii _ refl) kind no-members-written)))))) refl
record-written Two r id key parent pose kind =
    object-written _ (member-written (codes "hidden") _ _ (IsUtf8-are_ascii _ refl) (boolean-written r.hidden)
    (member-written (codes "id") _ _ (IsUtf8-are_ascii _ refl) (unsigned-written r.id (omega arith))
    (member-written (codes "place") _ _ (IsUtf8-are_ascii _ refl) (place-written r.place key parent)
    (member-written (codes "pose") _ _ (IsUtf8-are_ascii _ refl) pose
    (member-written (codes "shape") _ _ (IsUtf8-are_ascii _ refl) kind no-members-written))))) refl

kept-written : (format : Format) (r : Record) → r.id < 2 ^ 32 → IsInLimits r → IsKept r → IsWritten (record_data format r)
kept-written format r id limits kept =
    let turns : r.pose.quarter ≤ 3 = limits.quarter in
    record-written format r id limits.key kept.parent (pose-written r.pose (omega arith) (pose-within r limits)) (kind-written r.kind kept.kind (kind-within r.kind limits.kind))

records-written : (format : Format) (next : ℕ) (rs : List Record) → next < 2 ^ 32 → AllByRecursion (λ r. (1 ≤ r.id) × (r.id < next)) rs → AllByRecursion IsInLimits rs → AllByRecursion IsKept rs
    → AreItemsWritten (items_of (map (record_data format) rs))
records-written format next [] below ids limits kept = no-items-written
records-written format next (r ∷ rs) below ids limits kept =
    let id : r.id < next = ids.0.1 in
    item-written _ _ (kept-written format r (omega arith) limits.0 kept.0) (records-written format next rs below ids.1 limits.1 kept.1)

number-small : (format : Format) → number_of format < 2 ^ 64
number-small One = omega arith
number-small Two = omega arith

pub data-written : (format : Format) (d : Contents) → IsWellFormed d → All IsKept d.records → IsWritten (data_in format d)
data-written format d well kept =
    let below : d.next < 2 ^ 32 = well.next_below in
    object-written _ (member-written (codes "format") _ _ (IsUtf8-are_ascii _ refl) (unsigned-written (number_of format) (number-small format))
    (member-written (codes "next") _ _ (IsUtf8-are_ascii _ refl) (unsigned-written d.next (omega arith))
    (member-written (codes "shapes") _ _ (IsUtf8-are_ascii _ refl)
    (array-written _ (records-written format d.next d.records below (recursion_from_All _ d.records well.ids) (recursion_from_All _ d.records well.limits) (recursion_from_All IsKept d.records kept)))
    no-members-written))) refl

-- ---- it nests few levels deep

record-shallow : (format : Format) (r : Record) → depth (record_data format r) ≤ 4
record-shallow One r = omega (arith, parent-shallow r.place.parent, kind-shallow r.kind)
record-shallow Two r = omega (arith, parent-shallow r.place.parent, kind-shallow r.kind)

records-shallow : (format : Format) (rs : List Record) → items_depth (items_of (map (record_data format) rs)) ≤ 4
records-shallow format [] = omega arith
records-shallow format (r ∷ rs) = omega (arith, record-shallow format r, records-shallow format rs)

pub data-shallow : (format : Format) (d : Contents) → depth (data_in format d) ≤ 127
data-shallow format d = omega (arith, records-shallow format d.records)
