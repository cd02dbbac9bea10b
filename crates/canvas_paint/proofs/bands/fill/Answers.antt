use Rattle.std.proofs.Common.{[], All, ap, get_or, refl, subst, sym, ◌∙◌}
use Rattle.canvas_paint.specs.declared.block.Block.{Block}
use Rattle.canvas_paint.specs.declared.block.Form.TheVariants.{Whole}
use Rattle.canvas_paint.specs.Columns.{IsNew, blocks_in, fill_in}
use Rattle.canvas_paint.proofs.Banding.{block-more, block-passed}
use Rattle.canvas_paint.proofs.Cutting.{outside-rows}
use Rattle.canvas_paint.proofs.bands.fill.Goals as goal
use Rattle.canvas_paint.proofs.bands.fill.Goals.{then-meets_rows+in_ok-add, else-meets_rows}

pub loop-block-preserved : goal.loop-block-preserved
loop-block-preserved c =
    let bs = c.args.blocks.now in
    let n = c.loop-block.block-index in
    let blank : Block = record { from = 0; to = 0; top = 0; bottom = 0; fill = record { 0 = [] }; form = Whole } in
    let b : Block = get_or bs n blank in
    elim c.if-meets_rows.branch [
      | then-meets_rows+in_ok-add u ↦ record {
        new = subst (λ l. All IsNew l) (sym u.columns-is) u.in_ok-add.ensures.new;
        fills = λ k j p q r.
            block-more bs n b blank k j (fill_in (blocks_in c.loop-block.columns) k j) (fill_in (blocks_in c.if-meets_rows.columns) k j) c.loop-block-test.true refl (c.loop-block.invariant.fills k j p q r)
            (ap (λ l. fill_in (blocks_in l) k j) u.columns-is ∙ u.in_ok-add.ensures.front k j p);
      }
      | else-meets_rows u ↦ record {
        new = subst (λ l. All IsNew l) (sym u.columns-is) c.loop-block.invariant.new;
        fills = λ k j p q r.
            ap (λ l. fill_in (blocks_in l) k j) u.columns-is
            ∙ block-passed bs n b blank k j (fill_in (blocks_in c.loop-block.columns) k j) c.loop-block-test.true refl (c.loop-block.invariant.fills k j p q r)
            (outside-rows b k j c.meets_rows.result (c.meets_rows.ensures j q r) u.if-meets_rows.false);
      }
    ]
