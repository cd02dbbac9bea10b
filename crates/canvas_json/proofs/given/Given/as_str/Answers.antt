use Rattle.std.proofs.Common.{option_map}
use Rattle.json.specs.Find as seen
use Rattle.serde_json.specs.Find.{as_str}
use Rattle.canvas_json.proofs.Parts.{seen_as, same_str}
use Rattle.canvas_json.proofs.given.Given.as_str.Goals as goal

pub returns : goal.returns
returns c = seen_as seen.as_str as_str same_str c.self.inside.place c.args.self.now (option_map (λ s. s.now) c.as_str.result) c.self.invariant c.self.view_is c.as_str.ensures
