-- Want of memory is never decided: it comes in place of a change alone.
use Rattle.std.proofs.Common.{◌≡◌, ℕ, List, Option, Some, None, Bool, true, false, not, ◌==◌, nat_le, length, Result, Ok, Err, refl}
use Rattle.canvas_key.specs.Between.{key_between}
use Rattle.canvas_key.specs.declared.KeyFault.{KeyFault}
use Rattle.canvas_plane.specs.declared.Pose.{Pose}
use Rattle.canvas_plane.specs.Limits.{is_pose}
use Rattle.canvas_shape.specs.Limits.{has_sides, has_vertices}
use Rattle.canvas_shape.specs.declared.Kind.{Kind}
use Rattle.canvas_record.specs.declared.records.Parent.{Parent}
use Rattle.canvas_record.specs.declared.records.Place.{Place}
use Rattle.canvas_record.specs.declared.records.Record.{Record}
use Rattle.canvas_record.specs.declared.edits.Spot.{Spot}
use Rattle.canvas_record.specs.declared.edits.Spot.TheVariants.{Back, Front, Over, At}
use Rattle.canvas_record.specs.declared.edits.Edit.{Edit}
use Rattle.canvas_record.specs.declared.edits.Edit.TheVariants as edit
use Rattle.canvas_record.specs.declared.edits.Change.{Change}
use Rattle.canvas_record.specs.declared.edits.Change.TheVariants as change
use Rattle.canvas_record.specs.declared.refusals.Refusal.{Refusal}
use Rattle.canvas_record.specs.declared.refusals.Refusal.TheVariants.{OutOfMemory, NoSuchShape, NoSuchParent, NotAContainer, Cycle, TooDeep, TooMany, BadSize, BadPose, BadPolygon, WrongKind, IdsSpent, IndexTaken}
use Rattle.canvas_record.specs.Siblings.{refused_if, siblings, with_room, index_over, index_at, least_above, greatest_index, is_taken}
use Rattle.canvas_record.specs.Contents.{Contents, record_of, reaches_page, most_records}
use Rattle.canvas_record.specs.Decision.{has_shape, has_parent, can_have_children, makes_cycle, is_another_kind, placed, create_index, move_index, reshape_judgement, allowed, decision_of, IsAnswer}
use Rattle.canvas_record.specs.Depth.{is_above_32}

-- an answer that is not want of memory
abbrev IsOther : {T : Type 0} → Result T Refusal → Type 0
IsOther r = r ≡ Err OutOfMemory → ⊥

other-ok : {T : Type 0} (x : T) → IsOther (Ok x)
other-ok x e = cc

other-if : {T : Type 0} (test : Bool) (why : Refusal) (rest : Result T Refusal) → (why ≡ OutOfMemory → ⊥) → IsOther rest → IsOther (refused_if test why rest)
other-if true why rest named later e = named cc
other-if false why rest named later e = later e

other-room : (r : Result (List ℕ) KeyFault) → IsOther (with_room r)
other-room (Ok key) e = cc
other-room (Err fault) e = cc

other-over : (sibling : Option Record) (among : List Record) → IsOther (index_over sibling among)
other-over None among e = cc
other-over (Some s) among e = other-room (key_between (Some s.place.index) (least_above (Some s.place.index) among)) e

other-index : (spot : Spot) (among : List Record) → IsOther (index_at spot among)
other-index Back among e = other-room (key_between None (least_above None among)) e
other-index Front among e = other-room (key_between (greatest_index among) None) e
other-index (Over id) among e = other-over (record_of id among) among e
other-index (At key) among e = other-if (is_taken key among) IndexTaken (Ok key) (λ h. cc) (other-ok key) e

other-placed : (p : Parent) (r : Result (List ℕ) Refusal) (made : Place → Change) → IsOther r → IsOther (placed p r made)
other-placed p (Ok index) made other e = cc
other-placed p (Err why) made other e = other cc

other-allowed : (r : Result (Unit {0}) Refusal) (c : Change) → IsOther r → IsOther (allowed r c)
other-allowed (Ok t) c other e = cc
other-allowed (Err why) c other e = other cc

other-create : (kind : Kind) (pose : Pose) (p : Parent) (spot : Spot) (d : Contents) → IsOther (create_index kind pose p spot d)
other-create kind pose p spot d =
    other-if (not (has_parent d.records p)) NoSuchParent _ (λ h. cc)
    (other-if (not (can_have_children d.records p)) NotAContainer _ (λ h. cc)
    (other-if (not (reaches_page 31 d.records p)) TooDeep _ (λ h. cc)
    (other-if (nat_le most_records (length d.records)) TooMany _ (λ h. cc)
    (other-if (d.next == 4294967295) IdsSpent _ (λ h. cc)
    (other-if (not (has_sides kind)) BadSize _ (λ h. cc)
    (other-if (not (is_pose pose)) BadPose _ (λ h. cc)
    (other-if (not (has_vertices kind)) BadPolygon _ (λ h. cc)
    (other-index spot (siblings d.next p d.records)))))))))

other-move : (id : ℕ) (p : Parent) (spot : Spot) (rs : List Record) → IsOther (move_index id p spot rs)
other-move id p spot rs =
    other-if (not (has_shape rs id)) NoSuchShape _ (λ h. cc)
    (other-if (not (has_parent rs p)) NoSuchParent _ (λ h. cc)
    (other-if (not (can_have_children rs p)) NotAContainer _ (λ h. cc)
    (other-if (makes_cycle rs id p) Cycle _ (λ h. cc)
    (other-if (is_above_32 rs id p) TooDeep _ (λ h. cc)
    (other-index spot (siblings id p rs))))))

other-reshape : (id : ℕ) (kind : Kind) (rs : List Record) → IsOther (reshape_judgement id kind rs)
other-reshape id kind rs =
    other-if (not (has_shape rs id)) NoSuchShape _ (λ h. cc)
    (other-if (is_another_kind kind (record_of id rs)) WrongKind _ (λ h. cc)
    (other-if (not (has_sides kind)) BadSize _ (λ h. cc)
    (other-if (not (has_vertices kind)) BadPolygon (Ok tt) (λ h. cc) (other-ok tt))))

-- want of memory is not what is decided of an edit
pub decision-other : (e : Edit) (d : Contents) → decision_of e d ≡ Err OutOfMemory → ⊥
decision-other (edit.Create kind pose hidden p spot) d h = other-placed p (create_index kind pose p spot d) (λ place. change.Create d.next kind pose hidden place) (other-create kind pose p spot d) h
decision-other (edit.Move id p spot) d h = other-placed p (move_index id p spot d.records) (λ place. change.Move id place) (other-move id p spot d.records) h
decision-other (edit.Pose id pose) d h = other-if (not (has_shape d.records id)) NoSuchShape _ (λ h. cc) (other-if (not (is_pose pose)) BadPose (Ok (change.Pose id pose)) (λ h. cc) (other-ok (change.Pose id pose))) h
decision-other (edit.Reshape id kind) d h = other-allowed (reshape_judgement id kind d.records) (change.Reshape id kind) (other-reshape id kind d.records) h
decision-other (edit.Show id hidden) d h = other-if (not (has_shape d.records id)) NoSuchShape (Ok (change.Show id hidden)) (λ h. cc) (other-ok (change.Show id hidden)) h
decision-other (edit.Delete id) d h = other-if (not (has_shape d.records id)) NoSuchShape (Ok (change.Delete id)) (λ h. cc) (other-ok (change.Delete id)) h
decision-other (edit.Respace p) d h = other-if (not (has_parent d.records p)) NoSuchParent _ (λ h. cc) (other-if (not (can_have_children d.records p)) NotAContainer (Ok (change.Respace p)) (λ h. cc) (other-ok (change.Respace p))) h

answer-change : (answer decided : Result Change Refusal) → answer ≡ Err OutOfMemory → (decided ≡ Err OutOfMemory → ⊥) → IsAnswer answer decided → (c : Change) × (decided ≡ Ok c)
answer-change (Ok c) decided is other h = (c, cc)
answer-change (Err why) (Ok c) is other h = (c, refl)
answer-change (Err why) (Err first) is other h = absurd (other cc)

-- where memory is wanted, a change was decided
pub decision-change : (e : Edit) (d : Contents) (answer : Result Change Refusal) → answer ≡ Err OutOfMemory → IsAnswer answer (decision_of e d) → (c : Change) × (decision_of e d ≡ Ok c)
decision-change e d answer is h = answer-change answer (decision_of e d) is (decision-other e d) h
