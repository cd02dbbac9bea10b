-- What a view knows of a line it knows after a step.
use Rattle.std.proofs.Common.{◌≡◌, List, [], ◌∷◌, Result, Ok, Err, Option, IfOk, IfSome, sym, ◌∙◌, subst}
use Rattle.std.specs.Result.{result_ok}
use Rattle.canvas_line.specs.declared.rule.View.{View}
use Rattle.canvas_line.specs.Trails.{Facts}
use Rattle.canvas_line.specs.Standing.{Shown}
use Rattle.canvas_line.specs.Rule.{AllOf, Knows, Seen}

pub knows_same : (v w : View) (f : Facts) → w ≡ v → Knows v f → Knows w f
knows_same v w f same k = subst (λ (u : View). Knows u f) (sym same) k

-- what is seen has the facts that were known
pub facts_seen : (v w : View) (x : Shown) (f : Facts) → Knows v f → Seen v x x w → x.facts ≡ f
facts_seen v w x f k s =
    let all : AllOf (k.0 ∷ []) x.facts = subst (λ (ps : List Shown). AllOf ps x.facts) k.1 s.1 in
    sym all.0 ∙ k.2

pub knows_next : (v w : View) (x : Shown) (f : Facts) → Knows v f → Seen v x x w → Knows w f
knows_next v w x f k s = (x, s.0, facts_seen v w x f k s)

pub ok_some : {L E : Type 0} (P : L → Type 0) (r : Result L E) (o : Option L) → o ≡ result_ok r → IfOk r P → IfSome o P
ok_some P (Ok l) o same h = subst (λ o. IfSome o P) (sym same) h
ok_some P (Err e) o same h = subst (λ o. IfSome o P) (sym same) tt
