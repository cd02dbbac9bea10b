-- The statuses with which the program ends at a fault with a code, or with none.
use Rattle.std.specs.Prelude.{ℕ, List, [], ◌∷◌, Option, Some, None, ◌==◌, ◌||◌, Bool, false, if◌then◌else◌}

-- a code is one of a list
abbrev pub is_among : List ℕ → ℕ → Bool
is_among [] code = false
is_among (other ∷ others) code = (code == other) || is_among others code

-- bad JSON, a bad format, a bad record, a bad tree
abbrev pub document_faults : List ℕ
document_faults = 50 ∷ 60 ∷ 61 ∷ 62 ∷ []

-- want of memory, of a seat, of a view
abbrev pub wants : List ℕ
wants = 1 ∷ 19 ∷ 33 ∷ []

-- 3 where the document was refused, 5 at a want, else 4
abbrev pub status_of_code : ℕ → ℕ
status_of_code code = if is_among document_faults code then 3 else (if is_among wants code then 5 else 4)

-- the status at a fault with this code, or with none
abbrev pub status_of : Option ℕ → ℕ
status_of None = 4
status_of (Some code) = status_of_code code
