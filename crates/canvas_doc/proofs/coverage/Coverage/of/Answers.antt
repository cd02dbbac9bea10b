use Rattle.canvas_doc.proofs.boxes.BoundsLaws.{within-itself}
use Rattle.canvas_doc.proofs.coverage.Coverage.of.Goals as goal

pub returns-clause-covered : goal.returns-clause-covered
returns-clause-covered c = record { box = within-itself c.args.bounds.now; columns = c.columns.ensures; rows = c.rows.ensures }
