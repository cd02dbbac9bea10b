-- A new shape: what is decided of it, and the document that has it.
use Rattle.std.proofs.Common.{◌≡◌, ◌∙◌, ◌+◌, ◌++◌, [], ◌∷◌, ℕ, Bool, List, Ok, Result, ap, subst, sym}
use Rattle.canvas_plane.specs.declared.Pose.{Pose}
use Rattle.canvas_shape.specs.declared.Kind.{Kind}
use Rattle.canvas_record.specs.declared.edits.Change.{Change}
use Rattle.canvas_record.specs.declared.edits.Change.TheVariants.{Create}
use Rattle.canvas_record.specs.declared.edits.Edit.TheVariants as edit
use Rattle.canvas_record.specs.declared.edits.Spot.{Spot}
use Rattle.canvas_record.specs.declared.records.Parent.{Parent}
use Rattle.canvas_record.specs.declared.records.Place.{Place}
use Rattle.canvas_record.specs.declared.refusals.Refusal.{Refusal}
use Rattle.canvas_record.specs.Contents.{Contents, IsWellFormed}
use Rattle.canvas_record.specs.Decision.{create_index, decision_of, placed}
use Rattle.canvas_record.specs.Effect.{effect_of}

-- a copy of the shape that a change names
pub created-well : (ch : Change) (d : Contents) (id : ℕ) (kind made : Kind) (pose : Pose) (hidden : Bool) (place copied : Place) → ch ≡ Create id kind pose hidden place → made ≡ kind → copied ≡ place → IsWellFormed (effect_of ch d)
    → IsWellFormed (record { records = d.records ++ record { id = id; kind = made; place = copied; pose = pose; hidden = hidden } ∷ []; next = d.next + 1 })
created-well ch d id kind made pose hidden place copied is e f well =
    subst (λ (p : Place). IsWellFormed (record { records = d.records ++ record { id = id; kind = made; place = p; pose = pose; hidden = hidden } ∷ []; next = d.next + 1 })) (sym f)
    (subst (λ (k : Kind). IsWellFormed (record { records = d.records ++ record { id = id; kind = k; place = place; pose = pose; hidden = hidden } ∷ []; next = d.next + 1 })) (sym e)
    (subst (λ (c : Change). IsWellFormed (effect_of c d)) is well))

pub created-decided : (inside d : Contents) (kind made : Kind) (pose : Pose) (hidden : Bool) (p : Parent) (spot : Spot) (index : List ℕ) → Ok index ≡ create_index kind pose p spot d → made ≡ kind → inside ≡ d
    → decision_of (edit.Create kind pose hidden p spot) d ≡ Ok (Create inside.next made pose hidden (record { parent = p; index = index }))
created-decided inside d kind made pose hidden p spot index at e same =
    ap (λ (i : Result (List ℕ) Refusal). placed p i (λ place. Create d.next kind pose hidden place)) (sym at)
    ∙ ap (λ (k : Kind). Ok (Create d.next k pose hidden (record { parent = p; index = index }))) (sym e)
    ∙ ap (λ (c : Contents). Ok (Create c.next made pose hidden (record { parent = p; index = index }))) (sym same)
