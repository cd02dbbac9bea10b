use Rattle.std.proofs.Common.{◌≡◌, ℕ, List, Option, None, Some, IfSome, false, true, sym, ap, ◌∙◌}
use Rattle.std.specs.Fmt.{option_append}
use Rattle.std.specs.Io.KnownBytes.{Consumes, Keeps}
use Rattle.canvas_doors.specs.Beginning.{TellsOf}
use Rattle.canvas_doors.specs.Foreign.{is_foreign}
use Rattle.canvas_doors.specs.declared.first_line.Beginning.TheVariants.{Foreign, Session}

-- what was read stands before what is left
pub chained : (a b : Option (List ℕ)) (first : List ℕ) → Consumes a b first → Keeps a (option_append (Some first) b)
chained None b first read = tt
chained (Some x) None first read = absurd read
chained (Some x) (Some y) first read = sym read

-- what the first bytes tell is told of all that the reader brought
pub foreign_input : (a b : Option (List ℕ)) (first : List ℕ) → Consumes a b first → TellsOf Foreign first b → IfSome a (λ bytes. is_foreign bytes ≡ true)
foreign_input None b first read told = tt
foreign_input (Some x) None first read told = absurd read
foreign_input (Some x) (Some y) first read told = ap is_foreign read ∙ told

pub session_input : (a b : Option (List ℕ)) (first : List ℕ) → Consumes a b first → TellsOf Session first b → IfSome a (λ bytes. is_foreign bytes ≡ false)
session_input None b first read told = tt
session_input (Some x) None first read told = absurd read
session_input (Some x) (Some y) first read told = ap is_foreign read ∙ told
