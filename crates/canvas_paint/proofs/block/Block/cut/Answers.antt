use Rattle.std.proofs.Common.{◌≡◌, ◌<◌, ◌&&◌, ℤ, ◌∙◌, arith, refl, subst, true}
use Rattle.canvas_plane.specs.Page.{is_in}
use Rattle.canvas_shape.specs.Leaves.{carried_holds, page_box_of}
use Rattle.canvas_plane.specs.Window.{column_shown, row_shown}
use Rattle.canvas_paint.specs.Blocks.{form_holds}
use Rattle.canvas_paint.specs.Words.{is_within}
use Rattle.canvas_paint.proofs.Cutting.{cut-none, cut-some, inside-high, inside-low, region-met}
use Rattle.canvas_paint.proofs.Hiding.{no-fill}
use Rattle.canvas_paint.proofs.block.Block.cut.Goals as goal

pub returns-then-is_empty-clause-fill : goal.returns-then-is_empty-clause-fill
returns-then-is_empty-clause-fill c = λ k j lt p q on.
    let w = c.args.window.now in
    let item = c.args.item.now in
    let r = c.uncovered-region.result in
    let here = is_within r.from k r.to && is_within r.top j r.bottom in
    let narrow : k < 256 = omega arith in
    cut-none w item here k j (c.if-is_empty.ensures.none refl k j)
    (region-met here c.page_box-page_box.result (page_box_of item.leaf) item.clip c.meet.result (column_shown w k) (row_shown w j) (c.uncovered-region.ensures.exact k j narrow on ∙ c.of-region.ensures.exact k j lt p q) c.meet.ensures.exact c.page_box-page_box.ensures.value)
    (subst (λ box. (x y : ℤ) → carried_holds item.leaf x y ≡ true → is_in box x y ≡ true) c.page_box-page_box.ensures.value c.page_box-page_box.ensures.has_all)

pub returns-clause-fill : goal.returns-clause-fill
returns-clause-fill c = λ k j lt p q on.
    let w = c.args.window.now in
    let item = c.args.item.now in
    let r = c.uncovered-region.result in
    let here = is_within r.from k r.to && is_within r.top j r.bottom in
    let narrow : k < 256 = omega arith in
    cut-some w item (record { from = r.from; to = r.to; top = r.top; bottom = r.bottom; fill = item.fill; form = c.in_ok-form.form }) k j
    (region-met here c.page_box-page_box.result (page_box_of item.leaf) item.clip c.meet.result (column_shown w k) (row_shown w j) (c.uncovered-region.ensures.exact k j narrow on ∙ c.of-region.ensures.exact k j lt p q) c.meet.ensures.exact c.page_box-page_box.ensures.value)
    (λ e f. c.in_ok-form.ensures k j lt (inside-low (is_within r.from k r.to) r.top j r.bottom e) (inside-high (is_within r.from k r.to) r.top j r.bottom e) f)
    (subst (λ box. (x y : ℤ) → carried_holds item.leaf x y ≡ true → is_in box x y ≡ true) c.page_box-page_box.ensures.value c.page_box-page_box.ensures.has_all)
    refl

pub returns-clause-free : goal.returns-clause-free
returns-clause-free c = λ k j lt on none.
    let r = c.uncovered-region.result in
    let narrow : k < 256 = omega arith in
    c.take.ensures k j narrow on (no-fill ((is_within r.from k r.to && is_within r.top j r.bottom) && form_holds c.in_ok-form.form k j) c.args.item.now.fill none)
