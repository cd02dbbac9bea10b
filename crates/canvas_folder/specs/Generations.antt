-- Which generation of a folder is served.
use Rattle.std.specs.Prelude.{◌≡◌, ◌&&◌, ◌||◌, ◌==◌, ◌+◌, ◌≤◌, ℕ, Bool, true, false, not, List, Option, Some, None, All, Any, nat_lt, if◌then◌else◌}
use Rattle.canvas_folder.specs.declared.generation.Generation.{Generation}

-- it has both an opening and a journal
abbrev pub is_whole : Generation → Bool
is_whole g = g.has_opening && g.has_journal

-- the highest whole generation is served
abbrev pub IsServed : List Generation → Option ℕ → Type 0
IsServed gs None = All (λ g. is_whole g ≡ false) gs
IsServed gs (Some n) = Any (λ g. (is_whole g ≡ true) × (g.number ≡ n)) gs × All (λ g. is_whole g ≡ true → g.number ≤ n) gs

-- which one is served, if a further generation is there
abbrev pub later : Option ℕ → Generation → Option ℕ
later None g = if is_whole g then Some g.number else None
later (Some n) g = if is_whole g then (if nat_lt g.number n then Some n else Some g.number) else Some n

-- beside the one that is served (0 stands for none) it is not what a crash leaves: of the next one there may be a part, but no journal
abbrev pub is_strange : ℕ → Generation → Bool
is_strange served g = nat_lt served g.number && (g.has_journal || not (g.number == served + 1))
