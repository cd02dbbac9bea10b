use Rattle.std.proofs.Common.{ap, ◌∙◌, sym}
use Rattle.canvas_key.specs.Rank.{part_above}
use Rattle.canvas_key.proofs.spaced.write_long_part.Goals as goal

pub returns : goal.returns
returns c = ap (part_above 25 1) (sym c.from.ensures) ∙ c.push_part.ensures
