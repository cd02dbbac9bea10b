use Rattle.std.proofs.Common.{Some, None, ap₂, sym, ◌∙◌}
use Rattle.serde_json.specs.Data.{item}
use Rattle.canvas_json.proofs.Parts.{view_is}
use Rattle.canvas_json.proofs.Items.{next_in, items_view_is}
use Rattle.canvas_json.proofs.given.GivenItems.next.Goals as goal

pub returns-in_err-place-clause-value : goal.returns-in_err-place-clause-value
returns-in_err-place-clause-value c =
    let none = next_in c.self.inside.items c.args.self.now c.next.new.self None c.self.invariant c.self.view_is c.in_err-place.ensures.value in
    rw (c.from_residual.ensures) none

pub invariant_of-result : goal.invariant_of-result
invariant_of-result c =
    let found = next_in c.self.inside.items c.args.self.now c.next.new.self (Some c.in_ok-place.place) c.self.invariant c.self.view_is c.in_ok-place.ensures.value in
    (found.0, found.2)

pub invariant_of-self-2 : goal.invariant_of-self-2
invariant_of-self-2 c =
    let found = next_in c.self.inside.items c.args.self.now c.next.new.self (Some c.in_ok-place.place) c.self.invariant c.self.view_is c.in_ok-place.ensures.value in
    (found.1, found.3)

pub returns-clause-value : goal.returns-clause-value
returns-clause-value c =
    let found = next_in c.self.inside.items c.args.self.now c.next.new.self (Some c.in_ok-place.place) c.self.invariant c.self.view_is c.in_ok-place.ensures.value in
    found.4 ∙ sym (ap₂ item (view_is c.in_ok-place.place found.0 found.2) (items_view_is c.next.new.self found.1 found.3))
