use Rattle.std.proofs.Common.{◌≡◌, ◌<◌, ◌+◌, ◌*◌, ◌/◌, arith, ap, ◌∙◌, subst, sym}
use Rattle.std.proofs.Math.Nat.{mul-div_cancel_left}
use Rattle.canvas_paint.proofs.Cutting.{rows-order}
use Rattle.canvas_paint.proofs.strip.strip_rows.Goals as goal

pub returns-clause-last : goal.returns-clause-last
returns-clause-last c = λ e.
    let above : 0 < c.from-n.result = omega arith in
    let same : c.from-k.result + 1 ≡ c.from-n.result = omega arith in
    let h : c.from-h.result ≡ c.args.h = omega arith in
    ap (λ m. m * c.from-h.result / c.from-n.result) same ∙ mul-div_cancel_left c.from-h.result above ∙ h

pub returns-clause-order : goal.returns-clause-order
returns-clause-order c = rows-order c.from-h.result c.args.h c.from-k.result c.from-n.result c.from-h.ensures (subst (λ m. m < c.from-n.result) (sym c.from-k.ensures) (subst (λ m. c.args.k < m) (sym c.from-n.ensures) c.requires))
