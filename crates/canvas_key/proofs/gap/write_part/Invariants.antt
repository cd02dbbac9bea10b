use Rattle.std.proofs.Common.{◌≡◌, take}
use Rattle.canvas_key.proofs.gap.write_part.Given as goal

abbrev pub invariant-loop-byte : goal.invariant-loop-byte
invariant-loop-byte l = l.text.items ≡ take l.byte-index l.byte-items
