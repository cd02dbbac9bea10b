use Rattle.std.proofs.Common.{◌+◌, arith, ap, inr, ◌∙◌, [], get_or, ◌-◌, refl, List, length, subst, sym}
use Rattle.canvas_paint.specs.declared.block.Block.{Block}
use Rattle.canvas_paint.specs.declared.block.Form.TheVariants.{Whole}
use Rattle.canvas_paint.specs.Columns.{active_holds}
use Rattle.canvas_paint.specs.declared.active.Active.{Active}
use Rattle.canvas_paint.proofs.Choosing.{all-chosen, choose-block, later, next-change, none-reached, pass-block, reach-holds, same-change, IsChoosing, start-choosing}
use Rattle.canvas_paint.proofs.Cutting.{holds-above, holds-below, within-rows}
use Rattle.canvas_paint.proofs.column.choose.Goals as goal
use Rattle.canvas_paint.proofs.column.choose.Goals.{then-y-block, else-y-block+then-y-block-2+then-reach-ne0+in_ok-push, else-y-block+then-y-block-2+else-reach-ne0, else-y-block+else-y-block-2}

pub loop-left-preserved : goal.loop-left-preserved
loop-left-preserved c =
    let bs = c.args.blocks.now in
    let base = c.args.base in
    let blank : Block = record { from = 0; to = 0; top = 0; bottom = 0; fill = record { 0 = [] }; form = Whole } in
    let b : Block = get_or bs (c.loop-left.left - 1) blank in
    elim c.if-y-block.branch [
      | then-y-block u ↦
          let next = next-change c.args.y c.loop-left.end b.top c.if-y-block.end (u.end-is ∙ u.min-end.ensures) c.loop-left.invariant.live u.if-y-block.true in
          rw (u.active-is, u.free-is)
          (pass-block c.args.width bs c.loop-left.active.items c.loop-left.left c.args.y base c.loop-left.free c.loop-left.end c.if-y-block.end b blank
          c.loop-left-test.true refl next.0 next.1.0
          (λ i j lt on p q. holds-above b (base + i) j (next.1.1 j q))
          c.loop-left.invariant)
      | else-y-block+then-y-block-2+then-reach-ne0+in_ok-push u ↦
          let next = next-change c.args.y c.loop-left.end b.bottom c.if-y-block.end (u.end-is ∙ u.min-end-then-reach-ne0.ensures) c.loop-left.invariant.live u.if-y-block-2.true in
          choose-block c.args.width bs c.loop-left.active.items c.if-y-block.active.items c.loop-left.left c.args.y base c.loop-left.free c.loop-left.end c.if-y-block.end u.covered.result c.if-y-block.free b blank u.new.result
          c.loop-left-test.true refl next.0 next.1.0
          (ap (λ v. v.items) u.active-is ∙ u.in_ok-push.ensures.items)
          (ap (λ a. a.fill) u.new.ensures)
          (λ i j lt on p q.
          ap (λ a. active_holds base a i j) u.new.ensures
          ∙ reach-holds b c.loop-left.free u.part.result u.both-reach.result base i j (u.both-reach.ensures i lt) (u.part.ensures i lt) on (within-rows b.top b.bottom j (later b.top c.args.y j u.if-y-block.false p) (next.1.1 j q)))
          (λ i j on. ap (λ a. active_holds base a i j) u.new.ensures ∙ u.covered.ensures i (base + i) j on)
          (rw u.free-is u.without-free.ensures)
          c.loop-left.invariant
      | else-y-block+then-y-block-2+else-reach-ne0 u ↦
          let next = same-change c.args.y c.loop-left.end c.if-y-block.end u.end-is c.loop-left.invariant.live in
          rw (u.active-is, u.free-is)
          (pass-block c.args.width bs c.loop-left.active.items c.loop-left.left c.args.y base c.loop-left.free c.loop-left.end c.if-y-block.end b blank
          c.loop-left-test.true refl next.0 next.1
          (λ i j lt on p q. none-reached b c.loop-left.free u.part.result u.both-reach.result base i j (u.both-reach.ensures i lt) (u.part.ensures i lt) u.if-reach-ne0.false on)
          c.loop-left.invariant)
      | else-y-block+else-y-block-2 u ↦
          let next = same-change c.args.y c.loop-left.end c.if-y-block.end u.end-is c.loop-left.invariant.live in
          rw (u.active-is, u.free-is)
          (pass-block c.args.width bs c.loop-left.active.items c.loop-left.left c.args.y base c.loop-left.free c.loop-left.end c.if-y-block.end b blank
          c.loop-left-test.true refl next.0 next.1
          (λ i j lt on p q. holds-below b (base + i) j (later b.bottom c.args.y j u.if-y-block-2.false p))
          c.loop-left.invariant)
    ]

pub returns-else-free-ne0-clause-chosen : goal.returns-else-free-ne0-clause-chosen
returns-else-free-ne0-clause-chosen c =
    all-chosen c.args.width c.args.blocks.now c.loop-left.active.items c.loop-left.left c.args.y c.args.base c.loop-left.free c.loop-left.end c.loop-left.invariant (inr (omega arith))

pub loop-left-init : goal.loop-left-init
loop-left-init c =
    let P : List Active → Type 0 = λ l. IsChoosing c.args.width c.args.blocks.now l (length c.args.blocks.now) c.args.y c.args.base c.part-free.result 18446744073709551615 in
    subst P (sym (c.in_ok-reserve.ensures.items ∙ c.clear.ensures.items)) (start-choosing c.args.width c.args.blocks.now c.args.y c.args.base c.part-free.result 18446744073709551615 c.requires.y c.part-free.ensures)
