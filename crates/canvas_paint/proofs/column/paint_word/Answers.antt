use Rattle.std.proofs.Common.{arith, length, ◌≤◌, ◌≡◌, ◌⊎◌, inl, inr, [], get_or, refl}
use Rattle.canvas_paint.specs.declared.active.Active.{Active}
use Rattle.canvas_paint.specs.declared.block.Form.TheVariants.{Whole}
use Rattle.canvas_paint.proofs.Painting.{all-painted, more-painted}
use Rattle.canvas_paint.proofs.column.paint_word.Goals as goal
use Rattle.canvas_paint.proofs.column.paint_word.Goals.{then-loop-at-test+else-free-ne0, else-loop-at-test}

pub returns : goal.returns
returns c = λ k d lt.
    let done : (length c.args.active.now ≤ c.loop-at.at) ⊎ (c.loop-at.free ≡ 0) =
    elim c.loop-at-test.branch [
      | then-loop-at-test+else-free-ne0 w ↦ inr (omega arith)
      | else-loop-at-test w ↦ inl (omega arith)
    ] in
    all-painted c.args.active.now c.loop-at.at c.args.base c.args.pixels c.loop-at.free c.args.row.now c.loop-at.row c.fill_word-2.new.row (omega arith) c.loop-at.invariant done c.fill_word-2.ensures k d (omega arith)

pub loop-at-preserved : goal.loop-at-preserved
loop-at-preserved c =
    let blank : Active = record { reach = 0; mask = 0; fill = record { 0 = [] }; form = Whole } in
    more-painted c.args.active.now c.loop-at.at c.args.base c.args.pixels c.loop-at.free c.args.row.now c.loop-at.row c.fill_word.new.row (get_or c.args.active.now c.loop-at.at blank) blank c.both-word.result c.without-free.result
    c.loop-at-test.true refl c.fill_word.auto.row c.loop-at.invariant c.both-word.ensures c.without-free.ensures c.fill_word.ensures
