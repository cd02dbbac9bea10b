use Rattle.std.proofs.Common.{sym, ap, subst, take}
use Rattle.canvas_key.specs.Part.{IsPart}
use Rattle.canvas_key.proofs.Keys.{key-part}
use Rattle.canvas_key.proofs.gap.integer_part.Goals as goal

pub returns-clause-part : goal.returns-clause-part
returns-clause-part c =
    subst IsPart (ap (λ n. take n c.args.key.now) (sym c.integer_part_len.ensures.value)) (key-part c.args.key.now c.requires)
