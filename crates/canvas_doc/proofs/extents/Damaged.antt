-- Outside the damage of a change that fits, every colour is as it was.
use Rattle.std.proofs.Common.{◌≡◌, ◌∙◌, ℕ, ℤ, false, List, sym, ap}
use Rattle.canvas_plane.specs.Page.{is_in, hull_of}
use Rattle.canvas_record.specs.declared.edits.Change.{Change}
use Rattle.canvas_record.specs.declared.edits.Change.TheVariants as change
use Rattle.canvas_record.specs.declared.records.Record.{Record}
use Rattle.canvas_record.specs.Contents.{Contents, IsWellFormed}
use Rattle.canvas_record.specs.Damage.{damage_of, extent_at}
use Rattle.canvas_record.specs.Effect.{effect_of, Fits}
use Rattle.canvas_record.specs.Picture.{colour}
use Rattle.canvas_doc.proofs.extents.Besides.{others-same-create, others-same-move, others-same-pose, others-same-reshape, others-same-show, others-same-delete}
use Rattle.canvas_doc.proofs.spacing.Respaced.{colour-respaced}
use Rattle.canvas_doc.proofs.extents.Untouched.{others, colour-others, hull-parts}

-- two documents that differ in one shape and all below it alone
keeps-besides : (before after : Contents) → IsWellFormed before → IsWellFormed after → (id : ℕ) (x y : ℤ) → others id after.records ≡ others id before.records → is_in (hull_of (extent_at id before.records) (extent_at id after.records)) x y ≡ false → colour after.records x y ≡ colour before.records x y
keeps-besides before after w v id x y same h =
    let out = hull-parts (extent_at id before.records) (extent_at id after.records) x y h in
    sym (colour-others after v id x y out.1) ∙ ap (λ (rs : List Record). colour rs x y) same ∙ colour-others before w id x y out.0

pub damage-keeps : (c : Change) (d : Contents) → IsWellFormed d → Fits c d → (x y : ℤ) → is_in (damage_of c d) x y ≡ false → colour (effect_of c d).records x y ≡ colour d.records x y
unfolding damage_of
damage-keeps (change.Create id kind pose hidden place) d w fits x y h = keeps-besides d (effect_of (change.Create id kind pose hidden place) d) w fits.left id x y (others-same-create d w id kind pose hidden place fits) h
damage-keeps (change.Move id place) d w fits x y h = keeps-besides d (effect_of (change.Move id place) d) w fits.left id x y (others-same-move d id place) h
damage-keeps (change.Pose id pose) d w fits x y h = keeps-besides d (effect_of (change.Pose id pose) d) w fits.left id x y (others-same-pose d id pose) h
damage-keeps (change.Reshape id kind) d w fits x y h = keeps-besides d (effect_of (change.Reshape id kind) d) w fits.left id x y (others-same-reshape d id kind) h
damage-keeps (change.Show id hidden) d w fits x y h = keeps-besides d (effect_of (change.Show id hidden) d) w fits.left id x y (others-same-show d id hidden) h
damage-keeps (change.Delete id) d w fits x y h = keeps-besides d (effect_of (change.Delete id) d) w fits.left id x y (others-same-delete d id) h
damage-keeps (change.Respace p) d w fits x y h = colour-respaced p d.records w.few x y
