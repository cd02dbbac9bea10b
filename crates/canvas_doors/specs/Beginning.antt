-- What the first bytes of a client tell.
use Rattle.std.specs.Prelude.{◌≡◌, ℕ, ◌++◌, List, Option, None, Some, IfSome, length, true, false}
use Rattle.std.specs.Io.KnownBytes.{Consumes, IsAtEnd, Keeps}
use Rattle.canvas_doors.specs.Foreign.{is_foreign}
use Rattle.canvas_doors.specs.declared.first_line.Beginning.{Beginning}
use Rattle.canvas_doors.specs.declared.first_line.Beginning.TheVariants.{Foreign, Session, Unread}

-- what these bytes and what follows them are
abbrev pub Tells : Beginning → List ℕ → List ℕ → Type 0
Tells Foreign first rest = is_foreign (first ++ rest) ≡ true
Tells Session first rest = is_foreign (first ++ rest) ≡ false
Tells Unread first rest = Unit {0}

-- the same of a reader that has some bytes left, where it tells them
abbrev pub TellsOf : Beginning → List ℕ → Option (List ℕ) → Type 0
TellsOf told first rest = IfSome rest (λ bytes. Tells told first bytes)

-- so many bytes were read, none only at the end, and stand behind those before; nothing was read where the read failed
abbrev pub Brings : Option ℕ → Option (List ℕ) → Option (List ℕ) → List ℕ → List ℕ → Type 0
Brings None from to old new = Keeps from to × (new ≡ old)
Brings (Some count) from to old new = (more : List ℕ) × Consumes from to more × (new ≡ old ++ more) × (length more ≡ count) × (count ≡ 0 → IsAtEnd to)
