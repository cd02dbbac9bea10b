-- The text of an edit is read as that edit.
use Rattle.std.proofs.Common.{◌≡◌, ℕ, ◌^◌, ◌<◌, ◌≤◌, true, false, Bool, List, Some, Result, Ok, Err, refl, sym, ap, ◌∙◌, subst, arith, ◌==◌, length}
use Rattle.std.specs.Prelude.{nat_le, not, is_some, IsUtf8, codes}
use Rattle.std.proofs.lemmas.Bool.{and_parts, leb-true}
use Rattle.std.proofs.lemmas.Str.{is_utf8-from_IsUtf8}
use Rattle.json.proofs.Printed.Utf8.{IsUtf8-are_ascii}
use Rattle.serde_json.specs.Data.{Data, depth, number, unsigned, string}
use Rattle.serde_json.specs.Find.{as_object}
use Rattle.serde_json.specs.Read.{read}
use Rattle.canvas_plane.specs.declared.Pose.{Pose}
use Rattle.canvas_plane.specs.Limits.{is_pose}
use Rattle.canvas_plane.specs.Motion.{reach_of}
use Rattle.canvas_shape.specs.declared.Kind.{Kind}
use Rattle.canvas_shape.specs.declared.Kind.TheVariants as kinds
use Rattle.canvas_shape.specs.Limits.{has_sides, has_vertices}
use Rattle.canvas_shape.proofs.Limits.{vertices-known}
use Rattle.canvas_record.specs.declared.records.Parent.{Parent}
use Rattle.canvas_record.specs.declared.records.Record.{Record}
use Rattle.canvas_key.specs.Text.{IsKey}
use Rattle.canvas_record.specs.declared.edits.Change.{Change}
use Rattle.canvas_record.specs.declared.edits.Change.TheVariants as change
use Rattle.canvas_record.specs.declared.edits.Spot.{Spot}
use Rattle.canvas_record.specs.declared.edits.Spot.TheVariants.{Back, Front, Over, At}
use Rattle.canvas_record.specs.declared.edits.Edit.{Edit}
use Rattle.canvas_record.specs.declared.edits.Edit.TheVariants as edits
use Rattle.canvas_record.specs.declared.refusals.Refusal.{Refusal}
use Rattle.canvas_record.specs.declared.refusals.Refusal.TheVariants.{NoSuchShape, NoSuchParent, NotAContainer, TooDeep, TooMany, BadSize, BadPose, BadPolygon, WrongKind, IdsSpent}
use Rattle.canvas_record.specs.Contents.{Contents, record_of, reaches_page, most_records}
use Rattle.canvas_record.specs.Decision.{decision_of, allowed, create_index, reshape_judgement, pose_decision, has_shape, has_parent, can_have_children, is_another_kind}
use Rattle.canvas_record.specs.Siblings.{refused_if, siblings, index_at}
use Rattle.canvas_record.proofs.Accepted.{refused-ok, placed-ok, not-false}
use Rattle.canvas_json.specs.Fit.{IsPoseInRange, IsKindInRange}
use Rattle.canvas_json.specs.Json.{has_others}
use Rattle.canvas_json.specs.Places.{key_named}
use Rattle.canvas_json.proofs.Back.{u32-back, parent-back, parent-shallow, parent-written, pose-back, pose-near, pose-written, kind-back, kind-named, kind-plain, kind-shallow, kind-written, vertices-near}
use Rattle.canvas_json.proofs.Words.{word-text, key-word}
use Rattle.canvas_json.proofs.RoundTrip.{IsWritten, boolean-written, unsigned-written, string-written, no-members-written, member-written, object-written, text-reads}
use Rattle.canvas_wire.specs.Asked.{asked}
use Rattle.canvas_wire.specs.EditObjects.{spot_data, edit_data}
use Rattle.canvas_wire.specs.EditTexts.{edit_text, FitsEdit, FitsSpot, IsInRange, IsOneLine}
use Rattle.canvas_wire.specs.Extra.{spot_has_extra, has_extra}
use Rattle.canvas_wire.specs.Spots.{spot_named, spot_over, spot_at_key, spot_in, spot_of}
use Rattle.canvas_wire.specs.Requests.{request_in, request_of}
use Rattle.canvas_wire.specs.Verbs.{verb_named, verb_members}
use Rattle.canvas_wire.specs.declared.request.Request.TheVariants as request
use Rattle.serde_json.specs.Written.{compact_text}
use Rattle.canvas_wire.proofs.EditObjects.{edit-spelled}
use Rattle.canvas_wire.proofs.OneLine.{one-line}

-- ---- spots

spot-over : (id : ℕ) → id < 2 ^ 32 → spot_of (spot_data (Over id)) ≡ Some (Over id)
unfolding spot_of spot_in spot_over
spot-over id h = rw (u32-back id h) refl

spot-at : (key : List ℕ) → IsKey key → spot_of (spot_data (At key)) ≡ Some (At key)
unfolding spot_of spot_in spot_at_key key_named
spot-at key h = rw h refl

spot-end : (spot_of (spot_data Back) ≡ Some Back) × (spot_of (spot_data Front) ≡ Some Front)
unfolding spot_of spot_named
spot-end = (refl, refl)

spot-back : (spot : Spot) → FitsSpot spot → spot_of (spot_data spot) ≡ Some spot
spot-back Back h = spot-end.0
spot-back Front h = spot-end.1
spot-back (Over id) h = spot-over id h
spot-back (At key) h = spot-at key h

spot-plain : (spot : Spot) → spot_has_extra (spot_data spot) ≡ false
unfolding has_others
spot-plain Back = refl
spot-plain Front = refl
spot-plain (Over id) = refl
spot-plain (At key) = refl

spot-written : (spot : Spot) → FitsSpot spot → IsWritten (spot_data spot)
spot-written Back h = string-written (codes "back") (IsUtf8-are_ascii _ refl)
spot-written Front h = string-written (codes "front") (IsUtf8-are_ascii _ refl)
spot-written (Over id) h = object-written _ (member-written (codes "over") _ _ (IsUtf8-are_ascii _ refl) (unsigned-written id (omega arith)) no-members-written) refl
spot-written (At key) h = object-written _ (member-written (codes "at") _ _ (IsUtf8-are_ascii _ refl) (string-written key (word-text key (key-word key h))) no-members-written) refl

-- ---- the object of an edit is its request

abbrev IsRead : Edit → Type 0
IsRead edit = request_in (edit_data edit) ≡ Ok (request.Edit edit)

create-read : (kind : Kind) (pose : Pose) (hidden : Bool) (parent : Parent) (spot : Spot) → FitsEdit (edits.Create kind pose hidden parent spot) → IsInRange (edits.Create kind pose hidden parent spot)
    → IsRead (edits.Create kind pose hidden parent spot)
unfolding request_in verb_named asked has_extra has_others verb_members
create-read kind pose hidden parent spot fits within =
    rw (kind-back kind fits.0 within.0, pose-back pose fits.1 within.1, parent-back parent fits.2, spot-back spot fits.3, kind-named kind, kind-plain kind, spot-plain spot) refl

move-read : (id : ℕ) (parent : Parent) (spot : Spot) → FitsEdit (edits.Move id parent spot) → IsRead (edits.Move id parent spot)
unfolding request_in verb_named asked has_extra has_others verb_members
move-read id parent spot fits = rw (u32-back id fits.0, parent-back parent fits.1, spot-back spot fits.2, spot-plain spot) refl

pose-read : (id : ℕ) (pose : Pose) → FitsEdit (edits.Pose id pose) → IsInRange (edits.Pose id pose) → IsRead (edits.Pose id pose)
unfolding request_in verb_named asked has_extra has_others verb_members
pose-read id pose fits within = rw (u32-back id fits.0, pose-back pose fits.1 within) refl

reshape-read : (id : ℕ) (kind : Kind) → FitsEdit (edits.Reshape id kind) → IsInRange (edits.Reshape id kind) → IsRead (edits.Reshape id kind)
unfolding request_in verb_named asked has_extra has_others verb_members
reshape-read id kind fits within = rw (u32-back id fits.0, kind-back kind fits.1 within, kind-named kind, kind-plain kind) refl

show-read : (id : ℕ) (hidden : Bool) → FitsEdit (edits.Show id hidden) → IsRead (edits.Show id hidden)
unfolding request_in verb_named asked has_extra has_others verb_members
show-read id hidden fits = rw (u32-back id fits) refl

delete-read : (id : ℕ) → FitsEdit (edits.Delete id) → IsRead (edits.Delete id)
unfolding request_in verb_named asked has_extra has_others verb_members
delete-read id fits = rw (u32-back id fits) refl

respace-read : (parent : Parent) → FitsEdit (edits.Respace parent) → IsRead (edits.Respace parent)
unfolding request_in verb_named asked has_extra has_others verb_members
respace-read parent fits = rw (parent-back parent fits) refl

object-read : (edit : Edit) → FitsEdit edit → IsInRange edit → IsRead edit
object-read (edits.Create kind pose hidden parent spot) fits within = create-read kind pose hidden parent spot fits within
object-read (edits.Move id parent spot) fits within = move-read id parent spot fits
object-read (edits.Pose id pose) fits within = pose-read id pose fits within
object-read (edits.Reshape id kind) fits within = reshape-read id kind fits within
object-read (edits.Show id hidden) fits within = show-read id hidden fits
object-read (edits.Delete id) fits within = delete-read id fits
object-read (edits.Respace parent) fits within = respace-read parent fits

is-object : (edit : Edit) → is_some (as_object (edit_data edit)) ≡ true
is-object (edits.Create kind pose hidden parent spot) = refl
is-object (edits.Move id parent spot) = refl
is-object (edits.Pose id pose) = refl
is-object (edits.Reshape id kind) = refl
is-object (edits.Show id hidden) = refl
is-object (edits.Delete id) = refl
is-object (edits.Respace parent) = refl

-- ---- its text is read as that object

id-written : (id : ℕ) → id < 2 ^ 32 → IsWritten (number (unsigned id))
id-written id h = unsigned-written id (omega arith)

verb-written : (verb : List ℕ) → IsUtf8 verb → IsWritten (string verb)
verb-written verb text = string-written verb text

edit-written : (edit : Edit) → FitsEdit edit → IsInRange edit → IsWritten (edit_data edit)
edit-written (edits.Create kind pose hidden parent spot) fits within =
    object-written _ (member-written (codes "hidden") _ _ (IsUtf8-are_ascii _ refl) (boolean-written hidden)
    (member-written (codes "parent") _ _ (IsUtf8-are_ascii _ refl) (parent-written parent fits.2)
    (member-written (codes "pose") _ _ (IsUtf8-are_ascii _ refl) (pose-written pose fits.1 within.1)
    (member-written (codes "shape") _ _ (IsUtf8-are_ascii _ refl) (kind-written kind fits.0 within.0)
    (member-written (codes "spot") _ _ (IsUtf8-are_ascii _ refl) (spot-written spot fits.3)
    (member-written (codes "verb") _ _ (IsUtf8-are_ascii _ refl) (verb-written (codes "create") (IsUtf8-are_ascii _ refl)) no-members-written)))))) refl
edit-written (edits.Move id parent spot) fits within =
    object-written _ (member-written (codes "id") _ _ (IsUtf8-are_ascii _ refl) (id-written id fits.0)
    (member-written (codes "parent") _ _ (IsUtf8-are_ascii _ refl) (parent-written parent fits.1)
    (member-written (codes "spot") _ _ (IsUtf8-are_ascii _ refl) (spot-written spot fits.2)
    (member-written (codes "verb") _ _ (IsUtf8-are_ascii _ refl) (verb-written (codes "move") (IsUtf8-are_ascii _ refl)) no-members-written)))) refl
edit-written (edits.Pose id pose) fits within =
    object-written _ (member-written (codes "id") _ _ (IsUtf8-are_ascii _ refl) (id-written id fits.0)
    (member-written (codes "pose") _ _ (IsUtf8-are_ascii _ refl) (pose-written pose fits.1 within)
    (member-written (codes "verb") _ _ (IsUtf8-are_ascii _ refl) (verb-written (codes "pose") (IsUtf8-are_ascii _ refl)) no-members-written))) refl
edit-written (edits.Reshape id kind) fits within =
    object-written _ (member-written (codes "id") _ _ (IsUtf8-are_ascii _ refl) (id-written id fits.0)
    (member-written (codes "shape") _ _ (IsUtf8-are_ascii _ refl) (kind-written kind fits.1 within)
    (member-written (codes "verb") _ _ (IsUtf8-are_ascii _ refl) (verb-written (codes "reshape") (IsUtf8-are_ascii _ refl)) no-members-written))) refl
edit-written (edits.Show id hidden) fits within =
    object-written _ (member-written (codes "hidden") _ _ (IsUtf8-are_ascii _ refl) (boolean-written hidden)
    (member-written (codes "id") _ _ (IsUtf8-are_ascii _ refl) (id-written id fits)
    (member-written (codes "verb") _ _ (IsUtf8-are_ascii _ refl) (verb-written (codes "show") (IsUtf8-are_ascii _ refl)) no-members-written))) refl
edit-written (edits.Delete id) fits within =
    object-written _ (member-written (codes "id") _ _ (IsUtf8-are_ascii _ refl) (id-written id fits)
    (member-written (codes "verb") _ _ (IsUtf8-are_ascii _ refl) (verb-written (codes "delete") (IsUtf8-are_ascii _ refl)) no-members-written)) refl
edit-written (edits.Respace parent) fits within =
    object-written _ (member-written (codes "parent") _ _ (IsUtf8-are_ascii _ refl) (parent-written parent fits)
    (member-written (codes "verb") _ _ (IsUtf8-are_ascii _ refl) (verb-written (codes "respace") (IsUtf8-are_ascii _ refl)) no-members-written)) refl

spot-shallow : (spot : Spot) → depth (spot_data spot) ≤ 1
spot-shallow Back = omega arith
spot-shallow Front = omega arith
spot-shallow (Over id) = omega arith
spot-shallow (At key) = omega arith

edit-shallow : (edit : Edit) → depth (edit_data edit) ≤ 127
edit-shallow (edits.Create kind pose hidden parent spot) = omega (arith, kind-shallow kind, parent-shallow parent, spot-shallow spot)
edit-shallow (edits.Move id parent spot) = omega (arith, parent-shallow parent, spot-shallow spot)
edit-shallow (edits.Pose id pose) = omega arith
edit-shallow (edits.Reshape id kind) = omega (arith, kind-shallow kind)
edit-shallow (edits.Show id hidden) = omega arith
edit-shallow (edits.Delete id) = omega arith
edit-shallow (edits.Respace parent) = omega (arith, parent-shallow parent)

of-object : (line : List ℕ) (d : Data) → IsUtf8 line → read line ≡ Some d → is_some (as_object d) ≡ true → request_of line ≡ request_in d
unfolding request_of
of-object line d text reads is = rw (is_utf8-from_IsUtf8 line text, reads, is) refl

pub text-read : (edit : Edit) → FitsEdit edit → IsInRange edit → request_of (edit_text edit) ≡ Ok (request.Edit edit)
text-read edit fits within =
    let w = edit-written edit fits within in
    ap request_of (edit-spelled edit fits)
    ∙ of-object (compact_text (edit_data edit)) (edit_data edit) w.text (text-reads (edit_data edit) w (edit-shallow edit)) (is-object edit)
    ∙ object-read edit fits within

-- its text has one line
pub text-one_line : (edit : Edit) → FitsEdit edit → IsOneLine (edit_text edit)
text-one_line edit fits = subst IsOneLine (sym (edit-spelled edit fits)) (one-line (edit_data edit))

-- ---- an accepted edit is in range

pose-within : (pose : Pose) → is_pose pose ≡ true → IsPoseInRange pose
pose-within pose h = pose-near pose (leb-true (reach_of pose) (2 ^ 20) (and_parts (nat_le pose.quarter 3) (nat_le (reach_of pose) (2 ^ 20)) h).1)

kind-within : (kind : Kind) → has_vertices kind ≡ true → IsKindInRange kind
kind-within kinds.Group h = tt
kind-within (kinds.Frame w h fill) is = tt
kind-within (kinds.Rect w h fill) is = tt
kind-within (kinds.Ellipse w h fill) is = tt
kind-within (kinds.Polygon points fill) is = vertices-near points (vertices-known points is)

create-within : (kind : Kind) (pose : Pose) (parent : Parent) (spot : Spot) (d : Contents) (key : List ℕ) → create_index kind pose parent spot d ≡ Ok key → IsKindInRange kind × IsPoseInRange pose
create-within kind pose parent spot d key h =
    let rs = d.records in
    let last : Result (List ℕ) Refusal = index_at spot (siblings d.next parent rs) in
    let edges : Result (List ℕ) Refusal = refused_if (not (has_vertices kind)) BadPolygon last in
    let turned : Result (List ℕ) Refusal = refused_if (not (is_pose pose)) BadPose edges in
    let sized : Result (List ℕ) Refusal = refused_if (not (has_sides kind)) BadSize turned in
    let spent : Result (List ℕ) Refusal = refused_if (d.next == 4294967295) IdsSpent sized in
    let many : Result (List ℕ) Refusal = refused_if (nat_le most_records (length rs)) TooMany spent in
    let deep : Result (List ℕ) Refusal = refused_if (not (reaches_page 31 rs parent)) TooDeep many in
    let leaf : Result (List ℕ) Refusal = refused_if (not (can_have_children rs parent)) NotAContainer deep in
    let a = refused-ok (not (has_parent rs parent)) NoSuchParent leaf key h in
    let b = refused-ok (not (can_have_children rs parent)) NotAContainer deep key a.1 in
    let e = refused-ok (not (reaches_page 31 rs parent)) TooDeep many key b.1 in
    let f = refused-ok (nat_le most_records (length rs)) TooMany spent key e.1 in
    let g = refused-ok (d.next == 4294967295) IdsSpent sized key f.1 in
    let i = refused-ok (not (has_sides kind)) BadSize turned key g.1 in
    let j = refused-ok (not (is_pose pose)) BadPose edges key i.1 in
    let m = refused-ok (not (has_vertices kind)) BadPolygon last key j.1 in
    (kind-within kind (not-false (has_vertices kind) m.0), pose-within pose (not-false (is_pose pose) j.0))

pose-edit-within : (id : ℕ) (pose : Pose) (rs : List Record) (c : Change) → pose_decision id pose rs ≡ Ok c → IsPoseInRange pose
pose-edit-within id pose rs c h =
    let last : Result Change Refusal = refused_if (not (is_pose pose)) BadPose (Ok (change.Pose id pose)) in
    let a = refused-ok (not (has_shape rs id)) NoSuchShape last c h in
    pose-within pose (not-false (is_pose pose) (refused-ok (not (is_pose pose)) BadPose (Ok (change.Pose id pose)) c a.1).0)

allowed-ok : (r : Result (Unit {0}) Refusal) (made c : Change) → allowed r made ≡ Ok c → (x : Unit {0}) × (r ≡ Ok x)
allowed-ok (Ok x) made c e = (x, refl)
allowed-ok (Err why) made c e = cc

reshape-within : (id : ℕ) (kind : Kind) (rs : List Record) (x : Unit {0}) → reshape_judgement id kind rs ≡ Ok x → IsKindInRange kind
reshape-within id kind rs x h =
    let last : Result (Unit {0}) Refusal = Ok tt in
    let edges : Result (Unit {0}) Refusal = refused_if (not (has_vertices kind)) BadPolygon last in
    let sized : Result (Unit {0}) Refusal = refused_if (not (has_sides kind)) BadSize edges in
    let other : Result (Unit {0}) Refusal = refused_if (is_another_kind kind (record_of id rs)) WrongKind sized in
    let a = refused-ok (not (has_shape rs id)) NoSuchShape other x h in
    let b = refused-ok (is_another_kind kind (record_of id rs)) WrongKind sized x a.1 in
    let e = refused-ok (not (has_sides kind)) BadSize edges x b.1 in
    let f = refused-ok (not (has_vertices kind)) BadPolygon last x e.1 in
    kind-within kind (not-false (has_vertices kind) f.0)

-- an edit that a document accepts is in range
pub accepted-within : (edit : Edit) (d : Contents) (c : Change) → decision_of edit d ≡ Ok c → IsInRange edit
accepted-within (edits.Create kind pose hidden parent spot) d c h =
    let k = placed-ok parent (create_index kind pose parent spot d) (λ place. change.Create d.next kind pose hidden place) c h in
    create-within kind pose parent spot d k.0 k.1
accepted-within (edits.Move id parent spot) d c h = tt
accepted-within (edits.Pose id pose) d c h = pose-edit-within id pose d.records c h
accepted-within (edits.Reshape id kind) d c h =
    let k = allowed-ok (reshape_judgement id kind d.records) (change.Reshape id kind) c h in
    reshape-within id kind d.records k.0 k.1
accepted-within (edits.Show id hidden) d c h = tt
accepted-within (edits.Delete id) d c h = tt
accepted-within (edits.Respace parent) d c h = tt
