use Rattle.std.proofs.Common.{◌≡◌, ℕ, List, Bool, true, false, not, ◌||◌, option_map, sym, ap, ◌∙◌, subst}
use Rattle.std.specs.List.{list_any}
use Rattle.std.specs.Str.{bytes_eq}
use Rattle.json.specs.Find.{NextMember}
use Rattle.json.specs.Json as json
use Rattle.canvas_json.specs.MemberNames.{given_names}
use Rattle.canvas_json.proofs.members.any_outside.Goals as goal

-- the test of all names, by the test of the first of those that are left
first : (test : List ℕ → Bool) (given rest after : json.Members) (name : List ℕ) (j : json.Json) (b : Bool) → list_any test (given_names rest) ≡ list_any test (given_names given) → rest ≡ json.member name j after → test name ≡ b
    → list_any test (given_names given) ≡ b || list_any test (given_names after)
first test given rest after name j b e is at = sym e ∙ ap (λ ms. list_any test (given_names ms)) is ∙ ap (λ x. x || list_any test (given_names after)) at

ended : (test : List ℕ → Bool) (given rest : json.Members) → list_any test (given_names rest) ≡ list_any test (given_names given) → rest ≡ json.no_members → list_any test (given_names given) ≡ false
ended test given rest e is = sym e ∙ ap (λ ms. list_any test (given_names ms)) is

pub returns-then-not-is_among : goal.returns-then-not-is_among
returns-then-not-is_among c given h =
    let now = c.loop-name.invariant given h in
    let next = c.in-Some.ensures.value now.0 now.1 in
    let outside : not (list_any (λ other. bytes_eq other.now c.in-Some.name.now) c.args.names.now) ≡ true = ap not (sym c.is_among.ensures) ∙ ap not c.if-not-is_among.true in
    sym (first _ given now.0 next.1 c.in-Some.name.now next.0 true now.2 next.2 outside)

pub loop-name-preserved : goal.loop-name-preserved
loop-name-preserved c given h =
    let now = c.loop-name.invariant given h in
    let next = c.in-Some.ensures.value now.0 now.1 in
    let among : not (list_any (λ other. bytes_eq other.now c.in-Some.name.now) c.args.names.now) ≡ false = ap not (sym c.is_among.ensures) ∙ ap not c.if-not-is_among.false in
    (next.1, next.4, sym (first _ given now.0 next.1 c.in-Some.name.now next.0 false now.2 next.2 among))

pub returns : goal.returns
returns c given h =
    let now = c.loop-name.invariant given h in
    let done : now.0 ≡ json.no_members = subst (λ r. NextMember c.loop-name.left (option_map (λ m. (m.0.now, m.1)) r) c.next.new.self) c.in_default.is c.next.ensures.value now.0 now.1 in
    sym (ended _ given now.0 now.2 done)
