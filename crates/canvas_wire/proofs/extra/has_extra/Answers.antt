use Rattle.std.proofs.Common.{sym, ap, ◌∙◌}
use Rattle.canvas_json.specs.Given.{view}
use Rattle.canvas_json.specs.Json.{has_others}
use Rattle.canvas_wire.proofs.Extras.{extra-inside, extra-itself}
use Rattle.canvas_wire.proofs.extra.has_extra.Goals as goal

pub returns-then-has_others : goal.returns-then-has_others
returns-then-has_others c =
    let d = view c.args.object.now in
    c.if-has_others.true ∙ sym (extra-itself c.args.verb d (sym (c.has_others.ensures ∙ ap (λ names. has_others names d) c.members.ensures) ∙ c.if-has_others.true))

pub returns-else-has_others : goal.returns-else-has_others
returns-else-has_others c =
    let d = view c.args.object.now in
    c.has_extra_inside.ensures ∙ sym (extra-inside c.args.verb d (sym (c.has_others.ensures ∙ ap (λ names. has_others names d) c.members.ensures) ∙ c.if-has_others.false))
