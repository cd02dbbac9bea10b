use Rattle.std.proofs.Common.{◌∙◌, ◌+◌, ◌++◌, List, sym, ap, arith, length, take}
use Rattle.canvas_list.specs.Chunks.{joined}
use Rattle.canvas_list.proofs.Joined.{chunk-read, joined_more, take-fewer}
use Rattle.canvas_list.proofs.part.merged.Goals as goal

pub and-requires : goal.and-requires
and-requires g c =
    omega (
      arith,
      ap length c.loop-part.invariant,
      chunk-read c.args.parts.now c.loop-part.part-index c.part-item.result (g.C.Contents.list c.contents.result.now) c.loop-part-test.true c.part-item.is c.contents.ensures.same,
      take-fewer c.args.parts.now (c.loop-part.part-index + 1),
      c.requires,
    )

pub loop-part-preserved : goal.loop-part-preserved
loop-part-preserved g c =
    c.in_ok-all-2.ensures
    ∙ ap (λ (l : List g.row.T.Denot). l ++ (g.C.Contents.list c.contents.result.now)) c.loop-part.invariant
    ∙ ap (λ (l : List g.row.T.Denot). joined (take c.loop-part.part-index c.args.parts.now) ++ l) (c.contents.ensures.same ∙ c.part-item.is)
    ∙ sym (joined_more c.args.parts.now c.loop-part.part-index c.part-item.result c.loop-part-test.true)
