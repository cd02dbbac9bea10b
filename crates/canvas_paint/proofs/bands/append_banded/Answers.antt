use Rattle.std.proofs.Common.{◌-◌, ap, refl, ◌∙◌}
use Rattle.canvas_record.specs.Picture.{or_white}
use Rattle.canvas_paint.specs.Items.{last_colour}
use Rattle.canvas_paint.specs.Pictures.{bytes_at}
use Rattle.canvas_paint.specs.Blocks.{shown}
use Rattle.canvas_paint.proofs.Cutting.{take-most, width-taken}
use Rattle.canvas_paint.proofs.Columns.{before-end, strip-bytes}
use Rattle.canvas_paint.proofs.Joined.{begins-itself, ok-then}
use Rattle.canvas_paint.proofs.bands.append_banded.Goals as goal

pub returns-clause-ok : goal.returns-clause-ok
returns-clause-ok c =
    let w = c.args.window.now in
    ok-then c.append_bands.result _ _
    (λ e. strip-bytes (shown c.deref-2.result.now) (bytes_at (last_colour c.args.items.now) w) _ w.w c.args.first (c.args.end - c.args.first) c.args.out.now.items c.args.out.now.items c.append_bands.new.out.items
    e refl (width-taken c.w-width.result w.w 256 _ refl c.w-width.ensures.bounds.1 c.w-width.ensures.value)
    (λ x z p q r. ap (λ l. shown l x z) c.deref-2.ensures.value ∙ ap (λ o. (or_white o).0) (c.in_ok-blocks.ensures x z p q (before-end c.args.first c.args.end z q r))))
    c.append_bands.ensures.ok

pub returns-in_err-columns-clause-kept : goal.returns-in_err-columns-clause-kept
returns-in_err-columns-clause-kept c = begins-itself c.args.out.now.items

pub returns-in_err-blocks-clause-kept : goal.returns-in_err-blocks-clause-kept
returns-in_err-blocks-clause-kept c = begins-itself c.args.out.now.items

pub append_bands-requires-clause-width : goal.append_bands-requires-clause-width
append_bands-requires-clause-width c = take-most c.w-width.result 256 _ c.w-width.ensures.bounds.1
