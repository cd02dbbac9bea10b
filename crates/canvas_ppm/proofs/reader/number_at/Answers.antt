use Rattle.std.proofs.Common.{◌<◌, length-take-le, arith}
use Rattle.std.proofs.lemmas.List.{get_or-take}
use Rattle.std.proofs.lemmas.List.Sums.{prefix_len_passes}
use Rattle.std.specs.Char.{is_ascii_digit}
use Rattle.canvas_ppm.proofs.reader.number_at.Goals as goal

pub value_of-requires-clause-digits : goal.value_of-requires-clause-digits
value_of-requires-clause-digits c k h =
    let within : k < c.digits_len-count.result = omega (arith, length-take-le c.digits_len-count.result c.args.bytes.now) in
    rw get_or-take (prefix_len_passes is_ascii_digit c.args.bytes.now k 0 (omega arith))
