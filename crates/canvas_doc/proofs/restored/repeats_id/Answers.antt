use Rattle.std.proofs.Common.{refl, ◌∙◌}
use Rattle.canvas_doc.proofs.restoring.Leads.{repeats-found}
use Rattle.canvas_doc.proofs.restored.repeats_id.Goals as goal

pub returns : goal.returns
returns c = c.ne.ensures ∙ repeats-found c.args.records.now c.args.position c.args.shape.now c.get.result _ c.requires.at (c.get.ensures.value ∙ c.requires.firsts c.args.shape.now.id) refl
