use Rattle.std.proofs.Common.{◌≡◌, take}
use Rattle.canvas_list.specs.Chunks.{joined}
use Rattle.canvas_list.proofs.part.merged.Given as goal

abbrev pub invariant-loop-part : goal.invariant-loop-part
invariant-loop-part g l = g.C.Contents.list l.all ≡ joined (take l.part-index l.parts)
