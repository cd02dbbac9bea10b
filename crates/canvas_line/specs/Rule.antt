-- The rule over the published value and all views: what stays of a line is what each thread knows of it.
use Rattle.std.specs.Prelude.{ℕ, ◌≡◌, List, [], ◌∷◌}
use mathlib.Core.Option.{some}
use lib.ListN.{get_elem?}
use Rattle.canvas_line.specs.declared.rule.View.{View}
use Rattle.canvas_line.specs.Trails.{Facts}
use Rattle.canvas_line.specs.Standing.{Shown}

abbrev pub newcomer : View
newcomer = record { known = [] }

-- what was published once had these facts
abbrev pub AllOf : List Shown → Facts → Type 0
AllOf [] f = Unit {0}
AllOf (p ∷ ps) f = (p.facts ≡ f) × AllOf ps f

abbrev pub Keeps : Shown → List View → Type 0
Keeps x views = (seat : ℕ) (v : View) → get_elem? views seat ≡ some v → AllOf v.known x.facts

abbrev pub Seen : View → Shown → Shown → View → Type 0
Seen v x y w = (w.known ≡ y ∷ []) × AllOf v.known y.facts

-- the view knows these facts
abbrev pub Knows : View → Facts → Type 0
Knows v f = (p : Shown) × (v.known ≡ p ∷ []) × (p.facts ≡ f)
