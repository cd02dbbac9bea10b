use Rattle.std.proofs.Common.{◌∙◌, ap, get_or, refl}
use Rattle.std.proofs.lemmas.List.{take_all}
use Rattle.canvas_doc.specs.Deletion.{containers_under}
use Rattle.canvas_doc.proofs.deleting.Freed.{under-more}
use Rattle.canvas_doc.proofs.deletion.containers_under.Goals as goal

pub loop-holder-preserved : goal.loop-holder-preserved
loop-holder-preserved c =
    c.in_ok-all.ensures
    ∙ under-more c.args.order.now.shapes c.args.holders.now c.loop-holder.holder-index (get_or c.args.holders.now c.loop-holder.holder-index 0) 0 c.loop-holder.all.items c.loop-holder-test.true refl c.loop-holder.invariant

pub returns : goal.returns
returns c = c.loop-holder.invariant ∙ ap (containers_under c.args.order.now.shapes) (take_all c.loop-holder.holder-index c.args.holders.now c.loop-holder-test.false)
