use Rattle.std.proofs.Common.{sym, ap, ◌∙◌, rules, FitsSigned}
use Rattle.std.specs.Int.{w64}
use Rattle.std.specs.Prelude.{int_le}
use Rattle.std.proofs.lemmas.Int.{to_z-of_z}
use Rattle.canvas_scene.proofs.Sides.{ended-before, ended-most, none-after}
use Rattle.canvas_scene.proofs.side.Side.ended.Goals as goal

pub returns-else-self-at-clause-before : goal.returns-else-self-at-clause-before
returns-else-self-at-clause-before c = λ x on h.
    let side = c.args.self.now in
    ended-before side.start c.args.at x side.shift c.offset.result (ap (λ z. int_le z x) (sym (to_z-of_z w64 c.args.at c.ranges.at)) ∙ c.offset.ensures.places x on) h

pub returns-else-self-at-clause-bound : goal.returns-else-self-at-clause-bound
returns-else-self-at-clause-bound c = ended-most c.args.self.now.shift c.offset.result c.offset.ensures.bound

pub returns-then-self-at-clause-before : goal.returns-then-self-at-clause-before
returns-then-self-at-clause-before c = λ x on h.
    let side = c.args.self.now in
    let e : FitsSigned w64 side.end = search rules in
    none-after side.start side.end c.args.at x _ (ap (λ z. int_le z c.args.at) (sym (to_z-of_z w64 side.end e)) ∙ ap (int_le _) (sym (to_z-of_z w64 c.args.at c.ranges.at)) ∙ c.if-self-at.true) on h
