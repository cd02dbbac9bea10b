-- Items as a window shows them: its columns and rows in place of the pixels of the page that they show.
use Rattle.std.specs.Prelude.{ℕ, List, [], ◌∷◌, Bool, true, ◌&&◌, cond, Option, Some, None, slice_index, slice_index_or, ◌-◌, ◌/◌, ◌%◌}
use Rattle.canvas_shape.specs.declared.Colour.{Colour}
use Rattle.canvas_record.specs.Picture.{or_else, or_white}
use Rattle.canvas_paint.specs.declared.block.Form.{Form}
use Rattle.canvas_paint.specs.declared.block.Form.TheVariants.{Whole, Rows}
use Rattle.canvas_paint.specs.declared.block.Block.{Block}
use Rattle.canvas_shape.specs.Words.{has}
use Rattle.canvas_paint.specs.Words.{is_within}

-- the words of a row have the column
abbrev pub row_has : List ℕ → ℕ → Bool
row_has words k = has (slice_index words (k / 64)) (k % 64)

-- the pixel of a column and a row is free: it is among those of the rows
abbrev pub is_free : List (List ℕ) → ℕ → ℕ → Bool
is_free rows k j = row_has (slice_index_or rows j []) k

-- the form holds the pixel of a column and a row
abbrev pub form_holds : Form → ℕ → ℕ → Bool
form_holds Whole k j = true
form_holds (Rows rows) k j = row_has (slice_index_or rows.words.now (j - rows.first) []) k

-- the block holds the pixel: it has the column and the row, and its form holds the pixel
abbrev pub block_holds : Block → ℕ → ℕ → Bool
block_holds b k j = (is_within b.from k b.to && is_within b.top j b.bottom) && form_holds b.form k j

-- the block's fill where it holds the pixel
abbrev pub block_fill : Block → ℕ → ℕ → Option Colour
block_fill b k j = cond (block_holds b k j) (Some b.fill) None

-- the fill of what may be a block
abbrev pub cut_fill : Option Block → ℕ → ℕ → Option Colour
cut_fill None k j = None
cut_fill (Some b) k j = block_fill b k j

-- the fill of the last block that holds the pixel
abbrev pub last_block_fill : List Block → ℕ → ℕ → Option Colour
last_block_fill [] k j = None
last_block_fill (b ∷ bs) k j = or_else (last_block_fill bs k j) (block_fill b k j)

-- the bytes of the fill of the last block that holds the pixel, else of white
abbrev pub shown : List Block → ℕ → ℕ → List ℕ
shown bs k j = (or_white (last_block_fill bs k j)).0
