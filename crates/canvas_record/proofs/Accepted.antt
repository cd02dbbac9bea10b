-- What holds where an edit is not refused.
use Rattle.std.proofs.Common.{◌≡◌, ℕ, List, Bool, true, false, not, Result, Ok, Err, refl}
use Rattle.canvas_record.specs.declared.edits.Change.{Change}
use Rattle.canvas_record.specs.declared.records.Parent.{Parent}
use Rattle.canvas_record.specs.declared.records.Place.{Place}
use Rattle.canvas_record.specs.declared.refusals.Refusal.{Refusal}
use Rattle.canvas_record.specs.Decision.{placed}
use Rattle.canvas_record.specs.Siblings.{refused_if}

pub refused-ok : {T : Type 0} (b : Bool) (why : Refusal) (rest : Result T Refusal) (x : T) → refused_if b why rest ≡ Ok x → (b ≡ false) × (rest ≡ Ok x)
refused-ok true why rest x h = cc
refused-ok false why rest x h = (refl, h)

pub placed-ok : (p : Parent) (r : Result (List ℕ) Refusal) (made : Place → Change) (c : Change) → placed p r made ≡ Ok c → (key : List ℕ) × (r ≡ Ok key) × (made (record { parent = p; index = key }) ≡ c)
placed-ok p (Ok key) made c h = (key, refl, cc)
placed-ok p (Err why) made c h = cc

pub not-false : (b : Bool) → not b ≡ false → b ≡ true
not-false true h = refl
not-false false h = cc
