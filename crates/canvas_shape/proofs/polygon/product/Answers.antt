use Rattle.canvas_shape.proofs.Sizes.{size-kept}
use Rattle.std.proofs.Common.{◌^◌, lit<, to_z, of_z}
use Rattle.std.specs.Int.{w64}
use Rattle.std.proofs.lemmas.Int.{to_z-of_z, fits_signed_mul, unsigned_abs-mul}
use Rattle.std.proofs.Math.Nat.{mul-le-mul}
use Rattle.canvas_shape.proofs.polygon.product.Goals as goal

pub returns-clause-value : goal.returns-clause-value
returns-clause-value c =
    let a = c.ranges.a in let b = c.ranges.b in
    let ab = fits_signed_mul w64 c.args.a c.args.b (2 ^ 33) (2 ^ 28) c.requires.first c.requires.second (lit< tt) in
    simp to_z-of_z

pub returns-clause-bound : goal.returns-clause-bound
returns-clause-bound c =
    let a = c.ranges.a in let b = c.ranges.b in
    let ab = fits_signed_mul w64 c.args.a c.args.b (2 ^ 33) (2 ^ 28) c.requires.first c.requires.second (lit< tt) in
    simp to_z-of_z (rw unsigned_abs-mul (mul-le-mul c.requires.first c.requires.second))

pub overflow_mul-result : goal.overflow_mul-result
overflow_mul-result c = fits_signed_mul w64 (to_z w64 (of_z w64 c.args.a)) (to_z w64 (of_z w64 c.args.b)) (2 ^ 33) (2 ^ 28) (size-kept c.args.a (2 ^ 33) c.ranges.a c.requires.first) (size-kept c.args.b (2 ^ 28) c.ranges.b c.requires.second) (lit< tt)
