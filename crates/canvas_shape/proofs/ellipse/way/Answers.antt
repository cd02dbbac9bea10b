use Rattle.std.specs.Prelude.{unsigned_abs}
use Rattle.std.proofs.Common.{◌≡◌, ◌∙◌, ◌+◌, ◌%◌, ap, sym, subst}
use Rattle.canvas_shape.proofs.Leans.{way-is, way-odd}
use Rattle.canvas_shape.proofs.ellipse.way.Goals as goal

pub returns-clause-value : goal.returns-clause-value
returns-clause-value c = c.unsigned_abs.ensures.value ∙ ap unsigned_abs (way-is c.args.at c.args.from c.centre.result c.doubled.result c.less.result c.args.size c.ranges.at c.ranges.from (record { sfits = c.centre.type_inv }) (record { sfits = c.doubled.type_inv }) (record { sfits = c.less.type_inv }) c.centre.ensures.value c.doubled.ensures.value c.less.ensures)

pub returns-clause-odd : goal.returns-clause-odd
returns-clause-odd c = subst (λ n. (n + c.args.size) % 2 ≡ 1) (sym (c.unsigned_abs.ensures.value ∙ ap unsigned_abs (way-is c.args.at c.args.from c.centre.result c.doubled.result c.less.result c.args.size c.ranges.at c.ranges.from (record { sfits = c.centre.type_inv }) (record { sfits = c.doubled.type_inv }) (record { sfits = c.less.type_inv }) c.centre.ensures.value c.doubled.ensures.value c.less.ensures))) (way-odd c.args.at c.args.from c.args.size)
