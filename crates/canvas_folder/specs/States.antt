-- What the state of a folder calls for.
use Rattle.std.specs.Prelude.{◌≡◌, ℕ, true, false, List, Option, Some, None, All, Any, unwrap_or}
use Rattle.canvas_folder.specs.declared.generation.Generation.{Generation}
use Rattle.canvas_folder.specs.declared.state.State.{State}
use Rattle.canvas_folder.specs.declared.state.State.TheVariants.{Serves, Begins, Strange}
use Rattle.canvas_folder.specs.Generations.{IsServed, is_strange}

-- the generation of this number is strange
abbrev pub IsStrangeIn : List Generation → ℕ → ℕ → Type 0
IsStrangeIn gs served n = Any (λ g. (is_strange served g ≡ true) × (g.number ≡ n)) gs

abbrev pub HasState : List Generation → State → Type 0
HasState gs (Serves n) = IsServed gs (Some n) × All (λ g. is_strange n g ≡ false) gs
HasState gs Begins = IsServed gs None × All (λ g. is_strange 0 g ≡ false) gs
HasState gs (Strange n) = (served : Option ℕ) × IsServed gs served × IsStrangeIn gs (unwrap_or served 0) n
