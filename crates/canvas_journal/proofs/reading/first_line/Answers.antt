use Rattle.std.proofs.Common.{◌≡◌, ◌-◌, ◌∷◌, [], get_or, length, take, drop, ◌∙◌, ap, refl, rules, arith}
use Rattle.canvas_journal.specs.Lines.{recovered}
use Rattle.canvas_journal.proofs.Texts.{no_end}
use Rattle.canvas_journal.proofs.FirstLine.{first_is, if_none}
use Rattle.canvas_journal.proofs.reading.first_line.Goals as goal

pub returns-in_err-at-clause-none : goal.returns-in_err-at-clause-none
returns-in_err-at-clause-none c =
    let blank : get_or c.args.bytes.now 0 0 ≡ 32 = search rules in
    let after = take (length c.args.bytes.now - 1) (drop 1 c.args.bytes.now) in
    let is : c.args.bytes.now ≡ 32 ∷ after = first_is c.args.bytes.now c.in-32.len_at_least blank in
    let none : recovered (32 ∷ after) ≡ [] = no_end [] after (λ k lt e. c.in_err-at.ensures k (omega arith) lt (rw e refl)) in
    if_none c.from_residual.result _ (ap recovered is ∙ none)
