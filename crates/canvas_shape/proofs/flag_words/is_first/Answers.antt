use Rattle.std.proofs.Common.{sym}
use Rattle.canvas_shape.proofs.Bits.{has-first}
use Rattle.canvas_shape.proofs.flag_words.is_first.Goals as goal

pub returns : goal.returns
returns c = sym (has-first c.args.word)
