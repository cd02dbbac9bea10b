-- Each step keeps the rule.
use Rattle.std.proofs.Common.{◌≡◌, ◌≢◌, ℕ, zero, suc, List, [], ◌∷◌, ◌++◌, fold, set, refl, sym, subst, ⊎_elim}
use mathlib.Core.Option.{some}
use lib.ListN.{get_elem?}
use Rattle.crossbeam_utils.specs.Register.{Admits, TurnsAt, Forks, Merges}
use Rattle.atomic_table.proofs.Lists.{at_set, at_snoc}
use Rattle.canvas_line.specs.declared.rule.View.{View}
use Rattle.canvas_line.specs.Standing.{Shown}
use Rattle.canvas_line.specs.Rule.{newcomer, AllOf, Keeps, Seen}

-- the last operation is the value
pub fold_last : (s : Shown) (xs : List Shown) (x : Shown) → fold (λ (s x : Shown). x) s (xs ++ x ∷ []) ≡ x
fold_last s [] x = refl
fold_last s (y ∷ xs) x = fold_last y xs x

pub admits : Admits Keeps newcomer
admits x views k seat v at = ⊎_elim (k seat v) (λ (e : newcomer ≡ v). subst (λ (z : View). AllOf z.known x.facts) e tt) (at_snoc views newcomer v seat at)

none_kept : (x : Shown) → Keeps x []
none_kept x zero v e = absurd (cc)
none_kept x (suc n) v e = absurd (cc)

-- a newcomer alone keeps the rule
pub starts : (x : Shown) → Keeps x (newcomer ∷ [])
starts x = admits x [] (none_kept x)

-- a value with the same facts is published, or seen
pub turns : (seat : ℕ) (v : View) (x y : Shown) → y.facts ≡ x.facts → TurnsAt Keeps seat v x y Seen
turns seat v x y same views k at =
    let w : View = record { known = y ∷ [] } in
    let carried : (u : View) → AllOf u.known x.facts → AllOf u.known y.facts = λ u a. subst (λ f. AllOf u.known f) (sym same) a in (
      w,
      (λ j u e. ⊎_elim
          (λ (t : (j ≡ seat) × (w ≡ u)). subst (λ (z : View). AllOf z.known y.facts) t.1 (refl, tt))
          (λ (t : (j ≢ seat) × (get_elem? views j ≡ some u)). carried u (k j u t.1))
          (at_set views seat j w u e)),
      (refl, carried v (k seat v at)),
    )

set_known : (x : Shown) (views : List View) (seat : ℕ) (v : View) → Keeps x views → AllOf v.known x.facts → Keeps x (set views seat v)
set_known x views seat v k fits j u e = ⊎_elim
    (λ (t : (j ≡ seat) × (v ≡ u)). subst (λ (z : View). AllOf z.known x.facts) t.1 fits)
    (λ (t : (j ≢ seat) × (get_elem? views j ≡ some u)). k j u t.1)
    (at_set views seat j v u e)

pub forks : (seat : ℕ) (v : View) → Forks Keeps seat v v v
forks seat v x views k at j u e =
    ⊎_elim (set_known x views seat v k (k seat v at) j u) (λ (same : v ≡ u). subst (λ (z : View). AllOf z.known x.facts) same (k seat v at)) (at_snoc (set views seat v) v u j e)

pub merges : (seat : ℕ) (v : View) (other : ℕ) (w : View) → Merges Keeps seat v other w w newcomer
merges seat v other w x views k at apart there =
    let theirs : AllOf w.known x.facts = ⊎_elim
    (λ (t : (other ≡ seat) × (w ≡ w)). absurd (apart t.0))
    (λ (t : (other ≢ seat) × (get_elem? views other ≡ some w)). k other w t.1)
    (at_set views seat other w w there) in
    set_known x (set views seat w) other newcomer (set_known x views seat w k theirs) tt
