-- How long a client that is inside a line has been waited for.
use Rattle.std.specs.Prelude.{ℕ, ◌+◌, ◌^◌, ◌-◌, Bool, List, [], ◌∷◌, ◌==◌, Option, None, Some, min, nat_eq, if◌then◌else◌}
use Rattle.std.specs.List.{ends_with, list_any}

-- bytes have an LF among them
abbrev pub has_lf : List ℕ → Bool
has_lf bytes = list_any (λ byte. byte == 10) bytes

-- a line that goes on has been waited for so long more; one that begins, not at all
abbrev pub longer : Option ℕ → ℕ → Option ℕ
longer None passed = Some 0
longer (Some waited) passed = Some (min (waited + passed) (2 ^ 64 - 1))

-- How long the line has been waited for in which these bytes end, which came after a wait: nothing where they end behind a line.
abbrev pub waited_after : Option ℕ → List ℕ → ℕ → Option ℕ
waited_after waited bytes passed =
    if ends_with nat_eq bytes (10 ∷ []) then None else (if has_lf bytes then Some 0 else longer waited passed)
