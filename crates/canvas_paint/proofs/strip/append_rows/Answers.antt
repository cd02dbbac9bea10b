use Rattle.std.proofs.Common.{◌≡◌, ◌-◌, ◌++◌, arith, ap, length, ◌∙◌}
use Rattle.canvas_paint.specs.Pictures.{raster_of}
use Rattle.canvas_paint.proofs.Raster.{row-more}
use Rattle.canvas_paint.specs.Columns.{blocks_in, shown_in}
use Rattle.canvas_paint.proofs.Columns.{later-columns}
use Rattle.canvas_paint.proofs.Joined.{begins-same}
use Rattle.canvas_paint.proofs.strip.append_rows.Goals as goal

pub loop-y-preserved : goal.loop-y-preserved
loop-y-preserved c =
    let wide : length c.refresh.new.row ≡ length c.args.row.now = omega arith in
    record {
      kept = later-columns c.refresh.new.row c.refresh.new.columns c.loop-y.y c.in_ok-refresh.ensures.kept;
      blocks = c.in_ok-refresh.ensures.blocks ∙ c.loop-y.invariant.blocks;
      bytes = row-more (shown_in (blocks_in c.args.columns.now)) (length c.args.row.now) c.args.first c.loop-y.y c.refresh.new.row c.args.out.now.items c.loop-y.out.items c.extend_from_slice.new.self.items c.as_flattened.result.now (omega arith) wide c.loop-y.invariant.bytes
          (λ x d lt. c.in_ok-refresh.ensures.fresh x d (omega arith) ∙ ap (λ lists. shown_in lists x c.loop-y.y) c.loop-y.invariant.blocks)
          c.as_flattened.ensures.value c.in_ok-extend_from_slice.ensures.items;
    }

pub returns-in_err-extend_from_slice-clause-kept : goal.returns-in_err-extend_from_slice-clause-kept
returns-in_err-extend_from_slice-clause-kept c = begins-same c.args.out.now.items _ c.extend_from_slice.new.self.items (c.in_err-extend_from_slice.ensures.items ∙ c.loop-y.invariant.bytes)

pub returns-in_err-refresh-clause-kept : goal.returns-in_err-refresh-clause-kept
returns-in_err-refresh-clause-kept c = begins-same c.args.out.now.items _ c.loop-y.out.items c.loop-y.invariant.bytes

pub returns-clause-kept : goal.returns-clause-kept
returns-clause-kept c = begins-same c.args.out.now.items _ c.loop-y.out.items c.loop-y.invariant.bytes

pub returns-clause-ok : goal.returns-clause-ok
returns-clause-ok c =
    let same : c.loop-y.y ≡ c.args.end = omega arith in
    c.loop-y.invariant.bytes ∙ ap (λ y. c.args.out.now.items ++ raster_of (shown_in (blocks_in c.args.columns.now)) (length c.args.row.now) c.args.first (y - c.args.first)) same
