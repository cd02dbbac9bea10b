use Rattle.canvas_json.proofs.Parts.{members_in}
use Rattle.canvas_json.proofs.given.Given.members.Goals as goal

pub returns : goal.returns
returns c = members_in c.self.inside.place c.args.self.now c.members.result c.self.invariant c.self.view_is c.members.ensures
