use Rattle.std.proofs.Common.{refl, arith}
use Rattle.canvas.proofs.Texts.{all_came}
use Rattle.canvas.proofs.opening.text_of.Goals as goal

pub returns-clause-whole : goal.returns-clause-whole
returns-clause-whole g c =
    all_came 134217728 (g.R.Read.remaining c.args.file) _ c.new-text.result.items c.read_to_end.new.buf.items (rw (c.take.ensures.limit, c.take.ensures.inner) refl) c.new-text.ensures.items
    (omega (arith, c.len.ensures, c.if-len-gt-MOST_BYTES.false)) c.in_ok-read_to_end.ensures.bytes
