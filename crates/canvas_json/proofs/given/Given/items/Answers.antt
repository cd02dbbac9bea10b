use Rattle.std.proofs.Common.{Some, None, sym, ap, ◌∙◌}
use Rattle.canvas_json.proofs.Items.{items_in, items_view_is}
use Rattle.canvas_json.proofs.given.Given.items.Goals as goal

pub invariant_of-result : goal.invariant_of-result
invariant_of-result c =
    let held = items_in c.self.inside.place c.args.self.now (Some c.in-Some.items) c.self.invariant c.self.view_is c.in-Some.ensures in
    (held.0, held.1)

pub returns-in-Some : goal.returns-in-Some
returns-in-Some c =
    let held = items_in c.self.inside.place c.args.self.now (Some c.in-Some.items) c.self.invariant c.self.view_is c.in-Some.ensures in
    ap Some (items_view_is c.in-Some.items held.0 held.1) ∙ sym held.2

pub returns-in-None : goal.returns-in-None
returns-in-None c = sym (items_in c.self.inside.place c.args.self.now None c.self.invariant c.self.view_is c.in-None.ensures)
