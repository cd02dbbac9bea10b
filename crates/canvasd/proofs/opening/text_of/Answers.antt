use Rattle.std.proofs.Common.{refl}
use Rattle.canvasd.proofs.Texts.{all_limited}
use Rattle.canvasd.proofs.opening.text_of.Goals as goal

pub returns-in-Ok-clause-whole : goal.returns-in-Ok-clause-whole
returns-in-Ok-clause-whole g c =
    all_limited (λ v. v.items) 134217728 (g.R.Read.remaining c.args.file) _ c.new-text.result.items c.read_to_end.new.buf.items c.limited.result c.limited.ensures.within c.limited.ensures.same
    (rw (c.take.ensures.limit, c.take.ensures.inner) refl) c.new-text.ensures.items c.in-Ok.ensures.bytes
