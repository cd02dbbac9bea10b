-- The words of a strip's rows, one below the other.
use Rattle.std.specs.Prelude.{◌≡◌, ℕ, ◌+◌, ◌*◌, ◌/◌, ◌<◌, ◌≤◌, List, [], ◌∷◌, Bool, ◌&&◌, cond, Option, Some, None, length, map, slice_index_or}
use Rattle.canvas_shape.specs.declared.Colour.{Colour}
use Rattle.canvas_shape.specs.Words.{has}
use Rattle.canvas_record.specs.Picture.{or_else, or_white}
use Rattle.canvas_paint.specs.declared.block.Block.{Block}
use Rattle.canvas_paint.specs.declared.active.Active.{Active}
use Rattle.canvas_paint.specs.declared.column.Column.{Column}
use Rattle.canvas_paint.specs.Words.{IsWord, is_within}
use Rattle.canvas_paint.specs.Blocks.{form_holds, last_block_fill, shown}

-- the first colour that is there
abbrev pub first_some : List (Option Colour) → Option Colour
first_some [] = None
first_some (c ∷ cs) = or_else c (first_some cs)

-- an active block holds the pixel i of the word at a column, in a row
abbrev pub active_holds : ℕ → Active → ℕ → ℕ → Bool
active_holds base a i j = has a.reach i && form_holds a.form (base + i) j

-- the fill of the first that holds the pixel
abbrev pub active_fill : ℕ → List Active → ℕ → ℕ → Option Colour
active_fill base active i j = first_some (map (λ a. cond (active_holds base a i j) (Some a.fill) None) active)

-- the fill of the first whose mask has the pixel
abbrev pub masked_fill : List Active → ℕ → Option Colour
masked_fill active i = first_some (map (λ a. cond (has a.mask i) (Some a.fill) None) active)

-- its bytes, else those of white
abbrev pub masked : List Active → ℕ → List ℕ
masked active i = (or_white (masked_fill active i)).0

-- in the word at a column of rows so wide, from the row y up to another, the first of the active blocks show what the last of all do
abbrev pub IsChosen : ℕ → List Block → List Active → ℕ → ℕ → ℕ → Type 0
IsChosen width bs active base y end = (i j : ℕ) → i < 64 → base + i < width → y ≤ j → j < end → active_fill base active i j ≡ last_block_fill bs (base + i) j

-- no row of the column was painted
abbrev pub IsNew : Column → Type 0
IsNew column = (column.end ≡ 0) × (column.until ≡ 0)

-- from the row y on, up to their own ends: the active blocks show what all do, the pixels that the row has are known, and the word of a row has what their masks show and is the picture
pub record IsColumn (base : ℕ) (row : List (List ℕ)) (column : Column) (y : ℕ) : Type 0 where
  pub chosen : IsChosen (length row) column.blocks.items column.active.items base y column.end
  pub inside : y < column.end → IsWord column.inside (λ i. is_within 0 (base + i) (length row))
  pub masks : y < column.end → (i : ℕ) (d : List ℕ) → i < 64 → base + i < length row → slice_index_or row (base + i) d ≡ masked column.active.items i
  pub painted : (x z : ℕ) (d : List ℕ) → base ≤ x → x < base + 64 → x < length row → y ≤ z → z < column.until → slice_index_or row x d ≡ shown column.blocks.items x z

-- so do each of the four of a row
abbrev pub AreColumns : List (List ℕ) → List Column → ℕ → Type 0
AreColumns row columns y = (k : ℕ) (d : Column) → k < 4 → IsColumn (64 * k) row (slice_index_or columns k d) y

-- the blocks of each column
abbrev pub blocks_in : List Column → List (List Block)
blocks_in columns = map (λ c. c.blocks.items) columns

-- the fill of the last block of a pixel's own column that holds the pixel
abbrev pub fill_in : List (List Block) → ℕ → ℕ → Option Colour
fill_in lists k j = last_block_fill (slice_index_or lists (k / 64) []) k j

-- its bytes, else those of white
abbrev pub shown_in : List (List Block) → ℕ → ℕ → List ℕ
shown_in lists k j = (or_white (fill_in lists k j)).0
