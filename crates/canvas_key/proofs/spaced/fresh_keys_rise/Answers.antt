use Rattle.canvas_key.proofs.FreshKeys.{fresh-rises}
use Rattle.canvas_key.proofs.spaced.fresh_keys_rise.Goals as goal

pub returns : goal.returns
returns c = fresh-rises
