use Rattle.std.proofs.Common.{◌≡◌, ℕ, ◌<◌, ◌≤◌, All, take}
use Rattle.canvas_paint.specs.Blocks.{last_block_fill}
use Rattle.canvas_paint.specs.Columns.{IsNew, blocks_in, fill_in}
use Rattle.canvas_paint.proofs.bands.fill.Given as goal

abbrev pub invariant-loop-block : goal.invariant-loop-block
invariant-loop-block l = record {
  new : All IsNew l.columns;
  fills : (k j : ℕ) → k < 256 → l.first ≤ j → j < l.end → fill_in (blocks_in l.columns) k j ≡ last_block_fill (take l.block-index l.blocks) k j;
}
