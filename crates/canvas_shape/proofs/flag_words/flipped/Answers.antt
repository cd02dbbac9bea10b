use Rattle.std.proofs.Common.{◌≡◌, ◌∙◌, ap, ◌*◌, ◌^◌, ◌%◌, arith}
use Rattle.std.proofs.Math.Nat.{mod-eq_of_lt}
use Rattle.std.proofs.Math.Pow.{pow-lt}
use Rattle.canvas_plane.specs.Motion.{not_same}
use Rattle.canvas_shape.specs.Words.{has}
use Rattle.canvas_shape.proofs.Bits.{has-xor, has-pow}
use Rattle.canvas_shape.proofs.flag_words.flipped.Goals as goal

pub returns : goal.returns
returns c = λ i.
    let one : 1 * 2 ^ c.args.at ≡ 2 ^ c.args.at = omega arith in
    let bit : 1 * 2 ^ c.args.at % 2 ^ 64 ≡ 2 ^ c.args.at = ap (λ n. n % 2 ^ 64) one ∙ mod-eq_of_lt (pow-lt c.requires) in
    has-xor c.args.word (1 * 2 ^ c.args.at % 2 ^ 64) i ∙ ap (λ n. not_same (has c.args.word i) (has n i)) bit ∙ ap (not_same (has c.args.word i)) (has-pow c.args.at i)
