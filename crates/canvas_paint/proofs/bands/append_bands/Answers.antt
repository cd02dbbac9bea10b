use Rattle.std.proofs.Common.{arith, ap, length}
use Rattle.canvas_record.specs.Picture.{or_white}
use Rattle.canvas_paint.specs.Blocks.{shown}
use Rattle.canvas_paint.specs.Columns.{blocks_in, shown_in}
use Rattle.canvas_paint.proofs.Banding.{band-after, begins-kept}
use Rattle.canvas_paint.proofs.Joined.{begins-same}
use Rattle.canvas_paint.proofs.bands.append_bands.Goals as goal

pub loop-at-preserved : goal.loop-at-preserved
loop-at-preserved c = record {
  low = omega (arith, c.loop-at.invariant.low, c.loop-at.invariant.high);
  high = omega arith;
  bytes = band-after (shown_in (blocks_in c.fill.new.columns)) (shown c.args.blocks.now) (length c.loop-at.row) (length c.args.row.now) c.args.first c.loop-at.at c.min-next.result c.args.out.now.items c.loop-at.out.items c.append_rows.new.out.items
      c.loop-at.invariant.low (omega arith) (omega arith) c.loop-at.invariant.bytes c.in_ok-append_rows.ensures.ok
      (λ x z p q r. ap (λ o. (or_white o).0) (c.in_ok-fill.ensures.fills x z (omega arith) q r));
}

pub returns-in_err-fill-clause-kept : goal.returns-in_err-fill-clause-kept
returns-in_err-fill-clause-kept c = begins-same c.args.out.now.items _ c.loop-at.out.items c.loop-at.invariant.bytes

pub returns-in_err-append_rows-clause-kept : goal.returns-in_err-append_rows-clause-kept
returns-in_err-append_rows-clause-kept c = begins-kept c.args.out.now.items _ c.loop-at.out.items c.append_rows.new.out.items c.loop-at.invariant.bytes c.in_err-append_rows.ensures.kept

pub returns-clause-kept : goal.returns-clause-kept
returns-clause-kept c = begins-same c.args.out.now.items _ c.loop-at.out.items c.loop-at.invariant.bytes
