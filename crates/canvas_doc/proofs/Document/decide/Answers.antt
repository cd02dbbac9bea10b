use Rattle.std.proofs.Common.{refl}
use Rattle.canvas_doc.proofs.fitting.Decided.{ok-fits}
use Rattle.canvas_doc.proofs.Document.decide.Goals as goal

pub returns-clause-fits : goal.returns-clause-fits
returns-clause-fits c =
    ok-fits c.args.self.now c.args.self.now c.decision.ensures.well_formed refl c.args.edit.now c.decision.result c.decision.ensures.key c.decision.ensures.value
