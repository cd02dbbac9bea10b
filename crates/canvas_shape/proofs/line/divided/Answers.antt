use Rattle.canvas_shape.proofs.Leans.{half-small}
use Rattle.canvas_shape.proofs.Sizes.{size-kept}
use Rattle.std.specs.Prelude.{unsigned_abs}
use Rattle.std.proofs.Common.{FitsSigned, rules, subst, sym, ◌≤◌, ◌^◌}
use Rattle.std.specs.Int.{w64}
use Rattle.std.proofs.lemmas.Int.{to_z-of_z}
use Rattle.canvas_shape.proofs.LineLaws.{divided-is, left-least, left-most}
use Rattle.canvas_shape.proofs.line.divided.Goals as goal

pub returns-clause-value : goal.returns-clause-value
returns-clause-value c =
    let n = c.ranges.n in
    let w : FitsSigned w64 c.half_floor-whole.result = search rules in
    let h : FitsSigned w64 c.multiple.result = search rules in
    simp to_z-of_z (divided-is c.args.n c.half_floor-whole.result c.multiple.result c.args.height c.left_over.result (simp to_z-of_z at c.multiple.ensures) (simp to_z-of_z at c.left_over.ensures) (simp to_z-of_z at c.half_floor-whole.ensures.most))

pub left_over-requires-clause-least : goal.left_over-requires-clause-least
left_over-requires-clause-least c = left-least _ c.half_floor-whole.result c.multiple.result c.args.height (record { sfits = c.half_floor-whole.type_inv }) (record { sfits = c.multiple.type_inv }) c.multiple.ensures c.half_floor-whole.ensures.least

pub left_over-requires-clause-most : goal.left_over-requires-clause-most
left_over-requires-clause-most c = left-most _ c.half_floor-whole.result c.multiple.result c.args.height (record { sfits = c.half_floor-whole.type_inv }) (record { sfits = c.multiple.type_inv }) c.multiple.ensures c.requires.heights.1 c.half_floor-whole.ensures.most

pub multiple-requires-clause-small : goal.multiple-requires-clause-small
multiple-requires-clause-small c = half-small c.half_floor-whole.result c.args.n c.args.height (record { sfits = c.half_floor-whole.type_inv }) c.ranges.n c.requires.small c.requires.heights.1 c.half_floor-whole.ensures.least c.half_floor-whole.ensures.most

pub left_over-requires-clause-second : goal.left_over-requires-clause-second
left_over-requires-clause-second c = size-kept c.multiple.result (2 ^ 62) (record { sfits = c.multiple.type_inv }) (subst (λ z. unsigned_abs z ≤ 2 ^ 62) (sym c.multiple.ensures) (half-small c.half_floor-whole.result c.args.n c.args.height (record { sfits = c.half_floor-whole.type_inv }) c.ranges.n c.requires.small c.requires.heights.1 c.half_floor-whole.ensures.least c.half_floor-whole.ensures.most))

pub returns-clause-bound : goal.returns-clause-bound
returns-clause-bound c = size-kept c.half_floor-whole.result (unsigned_abs c.args.n) (record { sfits = c.half_floor-whole.type_inv }) (subst (λ z. unsigned_abs c.half_floor-whole.result ≤ unsigned_abs z) (to_z-of_z w64 c.args.n c.ranges.n) c.half_floor-whole.ensures.bound)
