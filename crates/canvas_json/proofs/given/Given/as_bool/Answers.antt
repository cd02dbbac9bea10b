use Rattle.json.specs.Find as seen
use Rattle.serde_json.specs.Find.{as_bool}
use Rattle.canvas_json.proofs.Parts.{seen_as, same_bool}
use Rattle.canvas_json.proofs.given.Given.as_bool.Goals as goal

pub returns : goal.returns
returns c = seen_as seen.as_bool as_bool same_bool c.self.inside.place c.args.self.now c.as_bool.result c.self.invariant c.self.view_is c.as_bool.ensures
