use Rattle.std.proofs.Common.{◌∙◌, ap, ◌/◌, ◌^◌}
use Rattle.canvas_plane.specs.Motion.{not_same}
use Rattle.canvas_shape.specs.Words.{has}
use Rattle.canvas_shape.proofs.Bits.{has-xor, has-shift}
use Rattle.canvas_shape.proofs.flag_words.folded.Goals as goal

pub returns : goal.returns
returns c = λ i. has-xor c.args.word (c.args.word / 2 ^ c.args.by) i ∙ ap (not_same (has c.args.word i)) (has-shift c.args.word c.args.by i)
