use Rattle.std.specs.Prelude.{is_some}
use Rattle.json.specs.Find as seen
use Rattle.serde_json.specs.Find.{as_null}
use Rattle.canvas_json.proofs.Parts.{seen_as, same_null}
use Rattle.canvas_json.proofs.given.Given.is_null.Goals as goal

pub returns : goal.returns
returns c = seen_as seen.is_null (λ d. is_some (as_null d)) same_null c.self.inside.place c.args.self.now c.is_null.result c.self.invariant c.self.view_is c.is_null.ensures
