use Rattle.std.proofs.Common.{Some, None, sym, ap, ◌∙◌}
use Rattle.canvas_json.proofs.Parts.{get_in, view_is}
use Rattle.canvas_json.proofs.given.Given.get.Goals as goal

pub invariant_of-result : goal.invariant_of-result
invariant_of-result c =
    let found = get_in c.self.inside.place c.args.self.now c.args.name.now (Some c.in-Some.place) c.self.invariant c.self.view_is c.in-Some.ensures in
    (found.0, found.1)

pub returns-in-Some : goal.returns-in-Some
returns-in-Some c =
    let found = get_in c.self.inside.place c.args.self.now c.args.name.now (Some c.in-Some.place) c.self.invariant c.self.view_is c.in-Some.ensures in
    ap Some (view_is c.in-Some.place found.0 found.1) ∙ sym found.2

pub returns-in-None : goal.returns-in-None
returns-in-None c = sym (get_in c.self.inside.place c.args.self.now c.args.name.now None c.self.invariant c.self.view_is c.in-None.ensures)
