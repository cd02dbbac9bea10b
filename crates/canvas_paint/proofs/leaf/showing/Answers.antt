use Rattle.std.proofs.Common.{◌∙◌, ap, ◌≡◌, ◌/◌, ◌^◌, ◌-ℤ◌, pos, FitsSigned, arith, rules, w32, w64}
use Rattle.std.specs.Prelude.{unsigned_abs}
use Rattle.std.proofs.lemmas.Int.{fits_signed_from_abs, ints, to_z-of_z}
use Rattle.canvas_paint.proofs.Cutting.{fits-apart, row-below, whole-steps}
use Rattle.canvas_paint.proofs.leaf.showing.Goals as goal

pub returns-then-row-level : goal.returns-then-row-level
returns-then-row-level c =
    let at : FitsSigned w64 c.args.at = search rules in
    let first : FitsSigned w64 c.from.result = search rules in
    let row : FitsSigned w32 c.row_shown.result = search rules in
    let from = simp to_z-of_z at c.from.ensures in
    let apart : FitsSigned w64 (c.args.at -ℤ c.from.result) = fits_signed_from_abs w64 (c.args.at -ℤ c.from.result) (omega (arith, ints)) in
    let low = simp to_z-of_z at c.if-distance-lt0.false in
    let same = simp to_z-of_z at c.if-row-level.true in
    let n = unsigned_abs (c.args.at -ℤ c.from.result) in
    let size : pos n ≡ c.args.at -ℤ c.from.result = omega (arith, ints, low) in
    let steps = whole-steps n c.level-level.result c.args.window.now.level c.level-level.ensures.value (omega (arith, ints)) same in
    simp to_z-of_z (row-below c.args.window.now c.args.at c.from.result (n / 2 ^ c.level-level.result) (from ∙ c.row_shown.ensures) (ap pos steps ∙ size))

pub overflow_sub-distance : goal.overflow_sub-distance
overflow_sub-distance c =
    let row : FitsSigned w32 c.row_shown.result = search rules in
    let from = simp to_z-of_z at c.from.ensures in
    let first : FitsSigned w64 c.from.result = search rules in
    fits-apart c.args.at c.from.result c.ranges.at first c.requires (omega (arith, ints))
