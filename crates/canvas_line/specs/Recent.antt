-- The damage of the last changes of a history.
use Rattle.std.specs.Prelude.{ℕ, ◌+◌, ◌-◌, List, [], ◌∷◌, length, drop}
use Rattle.canvas_record.specs.declared.edits.Change.{Change}
use Rattle.canvas_record.specs.Contents.{Contents}
use Rattle.canvas_record.specs.Damage.{damage_of}
use Rattle.canvas_record.specs.Effect.{effect_of}
use Rattle.canvas_line.specs.declared.recent.Damage.{Damage}

-- the damage of each of some changes made one after another of a document, the first of which makes the version after n
abbrev pub damages_from : ℕ → Contents → List Change → List Damage
damages_from n d [] = []
damages_from n d (c ∷ cs) = record { number = n + 1; area = damage_of c d } ∷ damages_from (n + 1) (effect_of c d) cs

-- the last 64 of a list at most
abbrev pub last_64 : {A : Type 0} → List A → List A
last_64 xs = drop (length xs - 64) xs

-- the damage of the last 64 changes of a history at most, oldest first
abbrev pub recent_of : Contents → List Change → List Damage
recent_of opening changes = last_64 (damages_from 0 opening changes)
