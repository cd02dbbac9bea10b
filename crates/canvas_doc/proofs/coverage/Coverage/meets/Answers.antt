use Rattle.canvas_doc.proofs.boxes.Covered.{apart-covered}
use Rattle.canvas_doc.proofs.coverage.Coverage.meets.Goals as goal

pub returns : goal.returns
returns c = λ e b h k.
    apart-covered b c.args.self.now c.args.area.now c.meets-in_box.result c.share_one-in_columns.result c.share_one-in_rows.result
    c.meets-in_box.ensures c.share_one-in_columns.ensures c.share_one-in_rows.ensures e h k
