use Rattle.std.proofs.Common.{arith, [], get_or, refl, set}
use Rattle.canvas_paint.specs.declared.active.Active.{Active}
use Rattle.canvas_paint.specs.declared.block.Form.TheVariants.{Whole}
use Rattle.canvas_paint.proofs.Following.{all-followed, more-followed}
use Rattle.canvas_paint.proofs.column.follow.Goals as goal

pub loop-one-preserved : goal.loop-one-preserved
loop-one-preserved c =
    let n = c.loop-one.one-index in
    let blank : Active = record { reach = 0; mask = 0; fill = record { 0 = [] }; form = Whole } in
    let a : Active = get_or c.loop-one.active n blank in
    let b : Active = record { reach = a.reach; mask = c.held-held.result.word; fill = a.fill; form = a.form } in
    more-followed c.args.base c.args.y c.args.end n c.loop-one.until c.loop-one.pixels c.args.active.now c.loop-one.active (set c.loop-one.active n b) a b blank c.held-held.result.word c.held-held.result.until c.min-until.result c.differing.result c.either-pixels.result
    (omega arith) refl refl refl c.held-held.ensures.until c.held-held.ensures.exact c.min-until.ensures c.differing.ensures c.either-pixels.ensures c.loop-one.invariant

pub returns-clause-exact : goal.returns-clause-exact
returns-clause-exact c = all-followed c.args.base c.args.y c.args.end c.loop-one.one-index c.loop-one.until c.loop-one.pixels c.args.active.now c.loop-one.active (omega arith) c.loop-one.invariant
