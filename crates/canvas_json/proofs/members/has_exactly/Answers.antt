use Rattle.std.proofs.Common.{◌≡◌, ◌&&◌, ℕ, Bool, List, map, not, refl, sym, ap, ◌∙◌}
use Rattle.std.specs.Prelude.{is_some}
use Rattle.std.specs.List.{list_all}
use Rattle.std.proofs.lemmas.List.Folds.{list_all-map}
use Rattle.serde_json.specs.Data.{Data}
use Rattle.serde_json.specs.Find.{get}
use Rattle.canvas_json.specs.Given.{view}
use Rattle.canvas_json.specs.Json.{has_others, has_exactly}
use Rattle.canvas_json.proofs.members.has_exactly.Goals as goal

exactly : {R : Type 0} (text : R → List ℕ) (names : List R) (d : Data) (all others : Bool) → all ≡ list_all (λ n. is_some (get (text n) d)) names → others ≡ has_others (map text names) d
    → all && not others ≡ has_exactly (map text names) d
unfolding has_exactly
exactly text names d all others a b = rw (a, b, list_all-map (λ name. is_some (get name d)) text names) refl

pub returns-then-has_all : goal.returns-then-has_all
returns-then-has_all c =
    ap (λ b. b && not c.has_others.result) (sym c.if-has_all.true)
    ∙ exactly (λ name. name.now) c.args.names.now _ c.has_all.result c.has_others.result c.has_all.ensures c.has_others.ensures

pub returns-else-has_all : goal.returns-else-has_all
returns-else-has_all c =
    c.if-has_all.false ∙ ap (λ b. b && not (has_others (map (λ name. name.now) c.args.names.now) (view c.args.object.now))) (sym c.if-has_all.false)
    ∙ exactly (λ name. name.now) c.args.names.now _ c.has_all.result _ c.has_all.ensures refl
