use Rattle.canvas_wire.proofs.Lines as lines
use Rattle.canvas_wire.proofs.law.replies_are_json.Goals as goal

pub returns : goal.returns
returns c = lines.replies_are_json
