use Rattle.std.proofs.Common.{◌≤◌, ◌*◌, ◌-◌, arith, ap, ◌∙◌}
use Rattle.std.proofs.Math.Nat.{mul-le-mul}
use Rattle.canvas_shape.proofs.EllipseRow.{reach-test, reach-bound, quotient-root, quotient-bound}
use Rattle.canvas_shape.proofs.ellipse.reach.Goals as goal

pub root-requires-clause-within : goal.root-requires-clause-within
root-requires-clause-within c =
    let one : 1 ≤ c.args.h = omega arith in
    let some : 1 * 1 ≤ c.args.h * c.args.h = mul-le-mul one one in
    quotient-bound c.args.w c.square-whole.result (c.square-whole.result - c.square.result) c.product-number.result (omega arith) (omega arith) (c.product-number.ensures ∙ ap (λ s. s * (c.square-whole.result - c.square.result)) c.square-2.ensures.value)

pub returns-then-is_root-clause-value : goal.returns-then-is_root-clause-value
returns-then-is_root-clause-value c = λ n.
    let found = c.is_root.ensures.0 c.if-is_root.true in
    let low : c.args.m * c.args.m ≤ c.args.h * c.args.h = mul-le-mul (omega arith) (omega arith) in
    reach-test n c.args.m c.args.w c.args.h c.square-whole.result c.square.result c.square-2.result c.product-number.result c.guessed_reach-guess.result c.square-whole.ensures.value c.square.ensures.value c.square-2.ensures.value (omega arith) c.product-number.ensures found.0 found.1

pub returns-then-is_root-clause-bound : goal.returns-then-is_root-clause-bound
returns-then-is_root-clause-bound c =
    let found = c.is_root.ensures.0 c.if-is_root.true in
    let one : 1 ≤ c.args.h = omega arith in
    let some : 1 * 1 ≤ c.args.h * c.args.h = mul-le-mul one one in
    reach-bound c.args.w c.square-whole.result (c.square-whole.result - c.square.result) c.product-number.result c.guessed_reach-guess.result (omega arith) (omega arith) (c.product-number.ensures ∙ ap (λ s. s * (c.square-whole.result - c.square.result)) c.square-2.ensures.value) found.0

pub returns-else-is_root-clause-value : goal.returns-else-is_root-clause-value
returns-else-is_root-clause-value c = λ n.
    let low : c.args.m * c.args.m ≤ c.args.h * c.args.h = mul-le-mul (omega arith) (omega arith) in
    let one : 1 ≤ c.args.h = omega arith in
    let some : 1 * 1 ≤ c.args.h * c.args.h = mul-le-mul one one in
    let found = quotient-root c.root.result c.product-number.result c.square-whole.result (omega arith) c.root.ensures.square c.root.ensures.next in
    reach-test n c.args.m c.args.w c.args.h c.square-whole.result c.square.result c.square-2.result c.product-number.result c.root.result c.square-whole.ensures.value c.square.ensures.value c.square-2.ensures.value (omega arith) c.product-number.ensures found.0 found.1
