use Rattle.canvas_key.proofs.FreshKeys.{rank-of-part}
use Rattle.canvas_key.proofs.Parts.{part-of-rank, rank-part}
use Rattle.canvas_key.proofs.spaced.ranks_number_the_parts.Goals as goal

pub returns-clause-part : goal.returns-clause-part
returns-clause-part c = part-of-rank

pub returns-clause-rank : goal.returns-clause-rank
returns-clause-rank c r part e = (rank-part r part e, rank-of-part r part e)
