use Rattle.std.proofs.Common.{◌≤◌, ap, arith, refl, reverse, sym, ◌∙◌}
use Rattle.canvas_record.specs.Picture.{or_else}
use Rattle.canvas_paint.specs.Blocks.{cut_fill, last_block_fill}
use Rattle.canvas_paint.proofs.Hiding.{block-behind, cut-next, no-block-behind, start-cutting}
use Rattle.canvas_paint.proofs.bands.blocks_of.Goals as goal
use Rattle.canvas_paint.proofs.bands.blocks_of.Goals.{in-Some+in_ok-push-in-Some, in-None}

pub loop-left-init : goal.loop-left-init
loop-left-init c =
    let low : c.args.end ≤ 256 = omega arith in
    start-cutting c.args.window.now c.args.items.now c.in_ok-blocks.blocks.items _ c.args.first c.args.end c.in_ok-blocks.ensures.items refl c.args.window.now.across.most low

pub loop-left-preserved : goal.loop-left-preserved
loop-left-preserved c =
    let old = c.loop-left.blocks.items in
    let next = cut-next c.args.window.now c.args.items.now old c.match-branch-3.blocks.items c.loop-left.free c.cut.new.free c.loop-left.left c.args.first c.args.end c.index-items-left.result c.in_ok-block.field-0 c.loop-left-test.true c.index-items-left.is c.cut.auto.free in
    elim c.match-branch-3.branch [
      | in-Some+in_ok-push-in-Some u ↦
          next
          (λ k j.
          ap (λ v. last_block_fill (reverse v.items) k j) u.blocks-is
          ∙ ap (λ l. last_block_fill (reverse l) k j) u.in_ok-push-in-Some.ensures.items
          ∙ block-behind old u.in-Some.block k j
          ∙ ap (λ o. or_else (last_block_fill (reverse old) k j) (cut_fill o k j)) (sym u.in-Some.is))
          c.in_ok-block.ensures.fill c.in_ok-block.ensures.free c.loop-left.invariant
      | in-None u ↦
          next
          (λ k j.
          ap (λ v. last_block_fill (reverse v.items) k j) u.blocks-is
          ∙ no-block-behind (last_block_fill (reverse old) k j)
          ∙ ap (λ o. or_else (last_block_fill (reverse old) k j) (cut_fill o k j)) (sym u.in-None.is))
          c.in_ok-block.ensures.fill c.in_ok-block.ensures.free c.loop-left.invariant
    ]
