use Rattle.std.proofs.Common.{Some, sym, ap, ◌∙◌, subst, arith}
use Rattle.canvas_key.specs.Text.{IsKey}
use Rattle.canvas_key.proofs.FreshKeys.{fresh-is-part, fresh-is-key}
use Rattle.canvas_key.proofs.spaced.fresh.Goals as goal

pub returns-clause-rank : goal.returns-clause-rank
returns-clause-rank c = fresh-is-part c.args.n (omega arith) ∙ ap Some (sym c.make_fresh.ensures)

pub returns-clause-key : goal.returns-clause-key
returns-clause-key c = subst IsKey (sym c.make_fresh.ensures) (fresh-is-key c.args.n (omega arith))
