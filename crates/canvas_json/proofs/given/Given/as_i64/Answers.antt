use Rattle.std.proofs.Common.{◌≡◌, option_and_then, ap, ◌∙◌}
use Rattle.json.specs.Find as seen
use Rattle.serde_json.specs.Find.{as_number, as_i64}
use Rattle.serde_json.specs.Read.{number_of}
use Rattle.canvas_json.specs.Given.{view}
use Rattle.canvas_json.proofs.Parts.{seen_as, same_number}
use Rattle.canvas_json.proofs.given.Given.as_i64.Goals as goal

pub returns-in-Some : goal.returns-in-Some
returns-in-Some c =
    let number : number_of c.in-Some.text.now ≡ as_number (view c.args.self.now) =
    seen_as (λ j. option_and_then number_of (seen.as_number j)) as_number same_number c.self.inside.place c.args.self.now (number_of c.in-Some.text.now) c.self.invariant c.self.view_is
    (λ j b. ap (option_and_then number_of) (c.in-Some.ensures j b)) in
    c.whole.ensures ∙ ap (option_and_then as_i64) number

pub returns-in-None : goal.returns-in-None
returns-in-None c =
    ap (option_and_then as_i64)
    (seen_as (λ j. option_and_then number_of (seen.as_number j)) as_number same_number c.self.inside.place c.args.self.now _ c.self.invariant c.self.view_is (λ j b. ap (option_and_then number_of) (c.in-None.ensures j b)))
