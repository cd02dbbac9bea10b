-- A change of a list at one position, and of a list as a whole.
use Rattle.std.specs.Prelude.{ℕ, ◌<◌, ◌≤◌, ◌+◌, ◌^◌, List, Bool, cond, length, slice_set}
use Rattle.std.specs.List.{insert, remove}
use Rattle.canvas_list.specs.declared.in_place.ItemChange.{ItemChange}
use Rattle.canvas_list.specs.declared.in_place.ItemChange.TheVariants.{Replace, Remove, Insert}
use Rattle.canvas_list.specs.declared.moves.ListChange.{ListChange}
use Rattle.canvas_list.specs.declared.moves.ListChange.TheVariants.{At, Move}

-- the list after the change
abbrev pub changed : {X : Type 0} → ItemChange X → ℕ → List X → List X
changed (Replace item) at xs = slice_set xs at item
changed Remove at xs = remove xs at
changed (Insert item) at xs = insert xs at item

-- the change may be made at the position
abbrev pub IsPositionOf : {X : Type 0} → ItemChange X → ℕ → List X → Type 0
IsPositionOf (Replace item) at xs = at < length xs
IsPositionOf Remove at xs = at < length xs
IsPositionOf (Insert item) at xs = (at ≤ length xs) × (length xs + 1 < 2 ^ 32)

-- the list after the change if it was made, and else the list
abbrev pub changed_if : {X : Type 0} → Bool → ItemChange X → ℕ → List X → List X
changed_if made change at xs = cond made (changed change at xs) xs

-- a part of so many items keeps one, and has room for one more
abbrev pub IsKept : {X : Type 0} → ItemChange X → ℕ → Type 0 → Type 0
IsKept (Replace item) len Room = Unit {0}
IsKept Remove len Room = 1 < len
IsKept (Insert item) len Room = Room

-- the list after a change of it
abbrev pub list_changed : {X : Type 0} → ListChange X → List X → List X
list_changed (At at change) xs = changed change at xs
list_changed (Move from to item) xs = insert (remove xs from) to item

-- the change may be made
abbrev pub MayChange : {X : Type 0} → ListChange X → List X → Type 0
MayChange (At at change) xs = IsPositionOf change at xs
MayChange (Move from to item) xs = (from < length xs) × (to < length xs)
