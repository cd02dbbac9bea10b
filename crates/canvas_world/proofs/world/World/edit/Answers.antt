use Rattle.std.proofs.Common.{◌≡◌, ◌∙◌, Err, Ok, ap, refl, subst, sym}
use Rattle.std.proofs.lemmas.Bool.{true≢false}
use Rattle.canvas_record.specs.Decision.{decision_of}
use Rattle.canvas_record.specs.Effect.{effect_of, Fits}
use Rattle.canvas_world.proofs.Events.{edited, refusal-decided, refused}
use Rattle.canvas_world.proofs.world.World.edit.Goals as goal

pub returns-else-eq-clause-entry : goal.returns-else-eq-clause-entry
returns-else-eq-clause-entry c = λ seat start past i.
    let d : decision_of c.args.edit.now c.args.self.now.document.value ≡ Err c.in-Err.why = ap (decision_of c.args.edit.now) (sym c.deref.ensures) ∙ refusal-decided c.in-Err.why _ (λ same. let h = rw same at c.if-eq.ensures in true≢false (sym h)) c.in-Err.ensures.decision in
    rw c.code.ensures (refused start past c.args.self.now seat c.args.edit.now c.in-Err.why i d)

pub returns-in_ok-self-in-Ok-clause-entry : goal.returns-in_ok-self-in-Ok-clause-entry
returns-in_ok-self-in-Ok-clause-entry c = λ seat start past i.
    let d : decision_of c.args.edit.now c.args.self.now.document.value ≡ Ok c.in-Ok.change = ap (decision_of c.args.edit.now) (sym c.deref.ensures) ∙ c.in-Ok.ensures.decision in
    let f : Fits c.in-Ok.change c.args.self.now.document.value = subst (Fits c.in-Ok.change) c.deref.ensures c.in-Ok.ensures.fits in
    rw c.new_id.ensures (edited start past c.args.self.now _ seat c.args.edit.now c.in-Ok.change i d f (c.in_ok-self-in-Ok.ensures.ok ∙ c.in_ok-after-in-Ok.ensures.effect ∙ ap (effect_of c.in-Ok.change) c.deref-in-Ok.ensures) refl refl)
