use Rattle.std.proofs.Common.{◌^◌, ◌∙◌, ap, subst, pos, ◌+ℤ◌, ◌-ℤ◌, le_trans, le_of_lt, lit<}
use Rattle.std.specs.Int.{w64}
use Rattle.std.proofs.lemmas.Int.{to_z-of_z}
use Rattle.canvas_shape.specs.Lines.{IsDivided}
use Rattle.canvas_shape.proofs.Sizes.{size-kept}
use Rattle.canvas_shape.proofs.line.line_of.Goals as goal

pub divided-requires-2-clause-small : goal.divided-requires-2-clause-small
divided-requires-2-clause-small c = size-kept c.args.step (2 ^ 62) c.ranges.step (le_trans c.requires.slow (le_of_lt (lit< tt)))

pub returns-clause-x : goal.returns-clause-x
returns-clause-x c = to_z-of_z w64 c.args.x c.ranges.x

pub returns-clause-here : goal.returns-clause-here
returns-clause-here c =
    subst (λ n. IsDivided n c.args.height c.divided.result.whole c.divided.result.rest)
    (to_z-of_z w64 c.raised.result (record { sfits = c.raised.type_inv }) ∙ c.raised.ensures.value ∙ ap (λ z. (z +ℤ pos c.args.height) -ℤ pos 1) (to_z-of_z w64 c.args.lean c.ranges.lean))
    c.divided.ensures.value

pub returns-clause-step : goal.returns-clause-step
returns-clause-step c = subst (λ n. IsDivided n c.args.height c.divided-2.result.whole c.divided-2.result.rest) (to_z-of_z w64 c.args.step c.ranges.step) c.divided-2.ensures.value

pub returns-clause-bounds : goal.returns-clause-bounds
returns-clause-bounds c = (le_trans c.divided.ensures.bound (size-kept c.raised.result (2 ^ 62) (record { sfits = c.raised.type_inv }) c.raised.ensures.bound), le_trans c.divided-2.ensures.bound (size-kept c.args.step (2 ^ 35) c.ranges.step c.requires.slow))
