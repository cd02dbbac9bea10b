use Rattle.canvas_doc.proofs.boxes.Covered.{covered-by}
use Rattle.canvas_doc.proofs.coverage.Coverage.contains.Goals as goal

pub returns : goal.returns
returns c =
    covered-by c.args.bounds.now c.args.self.now c.contains-is_within.result c.has_all-has_columns.result c.has_all-has_rows.result c.columns.result c.rows.result
    c.contains-is_within.ensures c.columns.ensures c.has_all-has_columns.ensures c.rows.ensures c.has_all-has_rows.ensures
