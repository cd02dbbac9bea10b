use Rattle.std.proofs.Common.{rules, FitsSigned, sym, ap, ◌∙◌, ◌+ℤ◌, pos}
use Rattle.std.specs.Int.{w64}
use Rattle.std.proofs.lemmas.Int.{to_z-of_z}
use Rattle.std.specs.Prelude.{int_lt}
use Rattle.canvas_scene.proofs.Sides.{before, near, from-start, from-start-to-end}
use Rattle.canvas_scene.proofs.side.Side.offset.Goals as goal

pub distance-requires-clause-near : goal.distance-requires-clause-near
distance-requires-clause-near c =
    let side = c.args.self.now in
    let s : FitsSigned w64 side.start = search rules in
    let a : FitsSigned w64 c.args.at = search rules in
    let e = near side.start side.end side.shift side.fine side.short in
    let b : FitsSigned w64 side.end = search rules in
    let lt = simp to_z-of_z at c.if-at-self-2.true in
    simp to_z-of_z (before side.start side.end c.args.at e lt)

pub distance-requires-else-at-self-2-clause-near : goal.distance-requires-else-at-self-2-clause-near
distance-requires-else-at-self-2-clause-near c =
    let side = c.args.self.now in
    let s : FitsSigned w64 side.start = search rules in
    let a : FitsSigned w64 side.end = search rules in
    let e = near side.start side.end side.shift side.fine side.short in
    simp to_z-of_z e

pub returns-then-at-self-2-clause-places : goal.returns-then-at-self-2-clause-places
returns-then-at-self-2-clause-places c = λ x on.
    let side = c.args.self.now in
    let s : FitsSigned w64 side.start = search rules in
    from-start side.start side.end c.args.at x c.distance.result (ap (λ z. z +ℤ pos c.distance.result) (sym (to_z-of_z w64 side.start s)) ∙ c.distance.ensures ∙ to_z-of_z w64 c.args.at c.ranges.at) on

pub returns-else-at-self-2-clause-places : goal.returns-else-at-self-2-clause-places
returns-else-at-self-2-clause-places c = λ x on.
    let side = c.args.self.now in
    let s : FitsSigned w64 side.start = search rules in
    let e : FitsSigned w64 side.end = search rules in
    from-start-to-end side.start side.end c.args.at x c.distance-else-at-self-2.result (ap (λ z. z +ℤ pos c.distance-else-at-self-2.result) (sym (to_z-of_z w64 side.start s)) ∙ c.distance-else-at-self-2.ensures ∙ to_z-of_z w64 side.end e)
    (ap (λ z. int_lt z side.end) (sym (to_z-of_z w64 c.args.at c.ranges.at)) ∙ ap (int_lt _) (sym (to_z-of_z w64 side.end e)) ∙ c.if-at-self-2.false) on
