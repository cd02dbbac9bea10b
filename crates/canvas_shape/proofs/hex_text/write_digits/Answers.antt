use Rattle.std.proofs.Common.{◌≡◌, ◌∙◌, ap, refl, rules, length, subst, sym}
use Rattle.std.specs.Str.{IsAscii}
use Rattle.hex.specs.Hex.{IsBytes, decode_sized, encode_lower, lower_digits}
use Rattle.hex.proofs.HexLemmas.{decode_sized-encode_lower, IsAscii-encode_with}
use Rattle.canvas_shape.proofs.Colours.{ascii-lower_digits, all-ascii}
use Rattle.canvas_shape.proofs.hex_text.write_digits.Goals as goal

pub returns-clause-read : goal.returns-clause-read
returns-clause-read c =
    let bytes : IsBytes c.args.bytes.now = λ i. (c.type_inv.bytes i).fits in
    let e : c.encode_to_slice.new.output ≡ encode_lower c.args.bytes.now = search rules in
    ap (λ text. decode_sized text (length c.args.bytes.now)) e ∙ decode_sized-encode_lower c.args.bytes.now (length c.args.bytes.now) refl bytes

pub returns-clause-ascii : goal.returns-clause-ascii
returns-clause-ascii c =
    let e : c.encode_to_slice.new.output ≡ encode_lower c.args.bytes.now = search rules in
    all-ascii c.encode_to_slice.new.output (subst IsAscii (sym e) (IsAscii-encode_with lower_digits c.args.bytes.now ascii-lower_digits))
