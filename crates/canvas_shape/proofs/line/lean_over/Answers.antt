use Rattle.std.proofs.Common.{subst, sym, ◌≤◌}
use Rattle.std.specs.Prelude.{unsigned_abs}
use Rattle.canvas_shape.proofs.Leans.{lean-over-fits, lean-over-is, lean-over-small}
use Rattle.canvas_shape.proofs.line.lean_over.Goals as goal

pub overflow_mul-result-2 : goal.overflow_mul-result-2
overflow_mul-result-2 c = lean-over-fits c.args.rows c.args.a c.requires.few c.requires.small c.ranges.a

pub returns-clause-value : goal.returns-clause-value
returns-clause-value c = lean-over-is c.args.rows c.args.a c.requires.few c.requires.small c.ranges.a

pub returns-clause-bound : goal.returns-clause-bound
returns-clause-bound c =
    subst (λ z. unsigned_abs z ≤ 34359738368) (sym (lean-over-is c.args.rows c.args.a c.requires.few c.requires.small c.ranges.a)) (lean-over-small c.args.rows c.args.a c.requires.few c.requires.small)
