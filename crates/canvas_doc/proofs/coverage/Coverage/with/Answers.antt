use Rattle.std.proofs.Common.{◌∙◌}
use Rattle.canvas_shape.specs.Words.{has}
use Rattle.canvas_doc.proofs.boxes.Bits.{either-left, either-right}
use Rattle.canvas_doc.proofs.boxes.BoundsLaws.{within-trans}
use Rattle.canvas_doc.proofs.boxes.Covered.{more-slabs}
use Rattle.canvas_doc.proofs.coverage.Coverage.with.Goals as goal

pub returns-clause-first : goal.returns-clause-first
returns-clause-first c = λ b h. record {
  box = within-trans b c.args.self.now.bounds c.hull.result h.box c.hull.ensures.first;
  columns = more-slabs b.left b.right c.args.self.now.columns c.either.result h.columns (λ i there. c.either.ensures i ∙ either-left (has c.args.self.now.columns i) (has c.args.other.now.columns i) there);
  rows = more-slabs b.top b.bottom c.args.self.now.rows c.either-2.result h.rows (λ i there. c.either-2.ensures i ∙ either-left (has c.args.self.now.rows i) (has c.args.other.now.rows i) there);
}

pub returns-clause-second : goal.returns-clause-second
returns-clause-second c = λ b h. record {
  box = within-trans b c.args.other.now.bounds c.hull.result h.box c.hull.ensures.second;
  columns = more-slabs b.left b.right c.args.other.now.columns c.either.result h.columns (λ i there. c.either.ensures i ∙ either-right (has c.args.self.now.columns i) (has c.args.other.now.columns i) there);
  rows = more-slabs b.top b.bottom c.args.other.now.rows c.either-2.result h.rows (λ i there. c.either-2.ensures i ∙ either-right (has c.args.self.now.rows i) (has c.args.other.now.rows i) there);
}
