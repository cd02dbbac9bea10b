use Rattle.canvas_list.proofs.Stretches.{stretch-none}
use Rattle.canvas_list.proofs.reader.nothing.Goals as goal

pub returns-clause-held : goal.returns-clause-held
returns-clause-held g c = λ xs within. stretch-none xs c.args.start within
