use Rattle.std.proofs.Common.{◌≡◌, ℕ, ◌-◌, ◌<◌, ◌≤◌, true, false}
use Rattle.canvas_paint.specs.Blocks.{is_free}
use Rattle.canvas_paint.specs.Words.{is_within}
use Rattle.canvas_paint.proofs.block.Region.uncovered.Given as goal

abbrev pub invariant-loop-top : goal.invariant-loop-top
invariant-loop-top l = record {
  low : l.self.top ≤ l.top;
  covered : (k z : ℕ) → k < 256 → l.self.top ≤ z → z < l.top → is_within l.self.from k l.self.to ≡ true → is_free l.free k z ≡ false;
}

abbrev pub decreases-loop-top : goal.decreases-loop-top
decreases-loop-top l = l.self.bottom - l.top

abbrev pub invariant-loop-bottom : goal.invariant-loop-bottom
invariant-loop-bottom l = record {
  high : l.bottom ≤ l.self.bottom;
  covered : (k z : ℕ) → k < 256 → l.bottom ≤ z → z < l.self.bottom → is_within l.self.from k l.self.to ≡ true → is_free l.free k z ≡ false;
}

abbrev pub decreases-loop-bottom : goal.decreases-loop-bottom
decreases-loop-bottom l = l.bottom
