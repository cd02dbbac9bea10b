use Rattle.std.proofs.Common.{◌≤◌, get_or, arith, IsTrue}
use Rattle.std.specs.Char.{is_ascii_digit}
use Rattle.canvas_ppm.proofs.Digits.{digit_high, small_power, next_power, next_value}
use Rattle.canvas_ppm.proofs.reader.value_of.Goals as goal

pub overflow_mul-value : goal.overflow_mul-value
overflow_mul-value c = omega (arith, small_power _ _ c.loop-digit.invariant.small (omega arith))

pub overflow_add-value : goal.overflow_add-value
overflow_add-value c = omega (arith, small_power _ _ c.loop-digit.invariant.small (omega arith), digit_high (get_or c.args.digits.now c.loop-digit.digit-index 0) (c.requires.digits c.loop-digit.digit-index c.loop-digit-test.true))

pub loop-digit-preserved : goal.loop-digit-preserved
loop-digit-preserved c =
    let digit : IsTrue (is_ascii_digit (get_or c.args.digits.now c.loop-digit.digit-index 0)) = c.requires.digits c.loop-digit.digit-index c.loop-digit-test.true in
    let high : get_or c.args.digits.now c.loop-digit.digit-index 0 ≤ 57 = digit_high _ digit in
    record {
      value = rw c.from.ensures (next_value c.args.digits.now c.loop-digit.digit-index c.loop-digit.value c.loop-digit-test.true c.loop-digit.invariant.value digit);
      small = next_power c.loop-digit.value c.loop-digit.digit-index c.from.result c.loop-digit.invariant.small (omega (arith, c.from.ensures));
    }
