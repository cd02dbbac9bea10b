use Rattle.canvas_key.proofs.Laws.{between-is-key}
use Rattle.canvas_key.proofs.gap.defined_keys_lie_between.Goals as goal

pub returns : goal.returns
returns c = between-is-key
