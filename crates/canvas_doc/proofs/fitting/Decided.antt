-- What is decided fits.
use Rattle.std.proofs.Common.{◌≡◌, Result, Ok, Err, subst, IfOk}
use Rattle.canvas_record.specs.declared.refusals.Refusal.{Refusal}
use Rattle.canvas_record.specs.declared.edits.Edit.{Edit}
use Rattle.canvas_record.specs.declared.edits.Edit.TheVariants as edit
use Rattle.canvas_record.specs.declared.edits.Change.{Change}
use Rattle.canvas_record.specs.Contents.{Contents, IsWellFormed}
use Rattle.canvas_record.specs.Effect.{Fits, HasKey}
use Rattle.canvas_record.specs.Decision.{decision_of, IsAnswer}
use Rattle.canvas_doc.proofs.fitting.Fit.{move-fits}
use Rattle.canvas_doc.proofs.fitting.FitMore.{pose-fits, show-fits, reshape-fits}
use Rattle.canvas_doc.proofs.fitting.FitCreate.{create-fits}
use Rattle.canvas_doc.proofs.fitting.FitDelete.{delete-fits}
use Rattle.canvas_doc.proofs.spacing.Respaced.{respace-fits}

pub decided-fits : (d : Contents) → IsWellFormed d → (e : Edit) (c : Change) → HasKey c → decision_of e d ≡ Ok c → Fits c d
decided-fits d w (edit.Create kind pose hidden p spot) c k h = create-fits d w kind pose hidden p spot c k h
decided-fits d w (edit.Move id p spot) c k h = move-fits d w id p spot c k h
decided-fits d w (edit.Pose id pose) c k h = pose-fits d w id pose c h
decided-fits d w (edit.Reshape id kind) c k h = reshape-fits d w id kind c h
decided-fits d w (edit.Show id hidden) c k h = show-fits d w id hidden c h
decided-fits d w (edit.Delete id) c k h = delete-fits d w id c h
decided-fits d w (edit.Respace p) c k h = respace-fits d w p c h

ok-cases : (d : Contents) → IsWellFormed d → (e : Edit) (r : Result Change Refusal) → IfOk r HasKey → IsAnswer r (decision_of e d) → IfOk r (λ c. Fits c d)
ok-cases d w e (Ok c) k h = decided-fits d w e c k h
ok-cases d w e (Err why) k h = tt

pub ok-fits : (d s : Contents) → IsWellFormed d → d ≡ s → (e : Edit) (r : Result Change Refusal) → IfOk r HasKey → IsAnswer r (decision_of e s) → IfOk r (λ c. Fits c s)
ok-fits d s w same e r k h = ok-cases s (subst IsWellFormed same w) e r k h
