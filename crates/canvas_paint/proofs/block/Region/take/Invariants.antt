use Rattle.std.proofs.Common.{◌≡◌, ℕ, ◌<◌, ◌&&◌, true, false, length}
use Rattle.canvas_paint.specs.Blocks.{form_holds, is_free}
use Rattle.canvas_paint.specs.Words.{is_within}
use Rattle.canvas_paint.proofs.block.Region.take.Given as goal

abbrev pub invariant-loop-j : goal.invariant-loop-j
invariant-loop-j l = record {
  long : length l.free ≡ length l.initial.free;
  kept : (k z : ℕ) → k < 256 → is_free l.initial.free k z ≡ true → ((is_within l.self.from k l.self.to && is_within l.self.top z l.self.bottom) && form_holds l.form k z) ≡ false → is_free l.free k z ≡ true;
}
