use Rattle.canvas_shape.specs.Lines.{IsDivided}
use Rattle.std.proofs.Common.{FitsSigned, rules, subst, sym, ◌≤◌, ◌^◌, ◌∙◌, ap, pos, ◌*ℤ◌, ◌+ℤ◌, ◌-ℤ◌, true, false}
use Rattle.std.specs.Prelude.{unsigned_abs}
use lib.IntN.{neg_ℤ}
use Rattle.canvas_shape.proofs.LineLaws.{up-follows, down-follows}
use Rattle.std.specs.Int.{w64, w32}
use Rattle.std.proofs.lemmas.Int.{to_z-of_z}
use Rattle.canvas_shape.proofs.Edge.{not-level, lt_test-true, lt_test-false}
use Rattle.canvas_shape.proofs.Sizes.{size-kept, x-near, y-near, x-fits, y-fits, difference-words, order-read}
use Rattle.canvas_shape.proofs.line.Line.in_row.Goals as goal

pub rise-requires-else-p-q-clause-order : goal.rise-requires-else-p-q-clause-order
rise-requires-else-p-q-clause-order c =
    let y = c.ranges.y in
    let py : FitsSigned w64 c.args.p.y = search rules in
    let qy : FitsSigned w64 c.args.q.y = search rules in
    simp to_z-of_z (not-level c.args.p c.args.q c.args.y c.requires.crossing (lt_test-false c.args.p.y c.args.q.y (simp to_z-of_z at c.if-p-q.false)))

pub returns-then-p-q-clause-near : goal.returns-then-p-q-clause-near
returns-then-p-q-clause-near c = subst (λ z. unsigned_abs z ≤ 134217728) (sym c.line_of.ensures.x) (x-near c.args.p c.requires.near.0)

pub returns-else-p-q-clause-near : goal.returns-else-p-q-clause-near
returns-else-p-q-clause-near c = subst (λ z. unsigned_abs z ≤ 134217728) (sym c.line_of-else-p-q.ensures.x) (x-near c.args.p c.requires.near.0)

pub minus-requires-clause-first : goal.minus-requires-clause-first
minus-requires-clause-first c = x-near c.args.q c.requires.near.1

pub minus-requires-clause-second : goal.minus-requires-clause-second
minus-requires-clause-second c = x-near c.args.p c.requires.near.0

pub rise-requires-clause-first : goal.rise-requires-clause-first
rise-requires-clause-first c = y-near c.args.p c.requires.near.0

pub rise-requires-clause-second : goal.rise-requires-clause-second
rise-requires-clause-second c = y-near c.args.q c.requires.near.1

pub rise-requires-else-p-q-clause-first : goal.rise-requires-else-p-q-clause-first
rise-requires-else-p-q-clause-first c = y-near c.args.q c.requires.near.1

pub rise-requires-else-p-q-clause-second : goal.rise-requires-else-p-q-clause-second
rise-requires-else-p-q-clause-second c = y-near c.args.p c.requires.near.0

pub lean_over-step-requires-clause-small : goal.lean_over-step-requires-clause-small
lean_over-step-requires-clause-small c = size-kept c.minus.result (2 ^ 28) (record { sfits = c.minus.type_inv }) c.minus.ensures.bound

pub negated-requires : goal.negated-requires
negated-requires c = size-kept c.lean-lean.result (2 ^ 61) (record { sfits = c.lean-lean.type_inv }) c.lean-lean.ensures.bound

pub opposite-requires : goal.opposite-requires
opposite-requires c = size-kept c.lean_over-step.result (2 ^ 35) (record { sfits = c.lean_over-step.type_inv }) c.lean_over-step.ensures.bound

pub line_of-requires-clause-small : goal.line_of-requires-clause-small
line_of-requires-clause-small c = size-kept c.lean-lean.result (2 ^ 61) (record { sfits = c.lean-lean.type_inv }) c.lean-lean.ensures.bound

pub line_of-requires-clause-slow : goal.line_of-requires-clause-slow
line_of-requires-clause-slow c = size-kept c.lean_over-step.result (2 ^ 35) (record { sfits = c.lean_over-step.type_inv }) c.lean_over-step.ensures.bound

pub line_of-requires-else-p-q-clause-small : goal.line_of-requires-else-p-q-clause-small
line_of-requires-else-p-q-clause-small c = size-kept c.negated.result (2 ^ 61) (record { sfits = c.negated.type_inv }) c.negated.ensures.bound

pub line_of-requires-else-p-q-clause-slow : goal.line_of-requires-else-p-q-clause-slow
line_of-requires-else-p-q-clause-slow c = size-kept c.opposite.result (2 ^ 35) (record { sfits = c.opposite.type_inv }) c.opposite.ensures.bound

pub returns-then-p-q-clause-follows : goal.returns-then-p-q-clause-follows
returns-then-p-q-clause-follows c =
    let p = c.args.p in let q = c.args.q in
    let line = c.line_of.result in
    down-follows p q c.args.apart c.args.y c.lean-lean.result c.lean_over-step.result c.rise.result line
    (lt_test-true p.y q.y (order-read p q true c.requires.near.0 c.requires.near.1 c.if-p-q.true))
    (c.line_of.ensures.x ∙ to_z-of_z w64 p.x (x-fits p c.requires.near.0)) c.line_of.ensures.height (c.rise.ensures.value ∙ difference-words q.y p.y (y-fits q c.requires.near.1) (y-fits p c.requires.near.0))
    c.rise.ensures.bound.0 c.rise.ensures.bound.1
    (c.lean-lean.ensures.value ∙ ap (λ z. (pos 2 *ℤ z +ℤ pos 1 -ℤ pos 2 *ℤ p.y) *ℤ (q.x -ℤ p.x)) (to_z-of_z w32 c.args.y c.ranges.y))
    (c.lean_over-step.ensures.value ∙ ap (λ u. (pos 2 *ℤ pos c.args.apart) *ℤ u) (to_z-of_z w64 c.minus.result (record { sfits = c.minus.type_inv }) ∙ c.minus.ensures.value ∙ difference-words q.x p.x (x-fits q c.requires.near.1) (x-fits p c.requires.near.0)))
    (subst (λ n. IsDivided ((n +ℤ pos c.rise.result) -ℤ pos 1) c.rise.result line.here.whole line.here.rest) (to_z-of_z w64 c.lean-lean.result (record { sfits = c.lean-lean.type_inv })) c.line_of.ensures.here)
    (subst (λ n. IsDivided n c.rise.result line.step.whole line.step.rest) (to_z-of_z w64 c.lean_over-step.result (record { sfits = c.lean_over-step.type_inv })) c.line_of.ensures.step)

pub returns-else-p-q-clause-follows : goal.returns-else-p-q-clause-follows
returns-else-p-q-clause-follows c =
    let p = c.args.p in let q = c.args.q in
    let line = c.line_of-else-p-q.result in
    up-follows p q c.args.apart c.args.y c.negated.result c.opposite.result c.rise-else-p-q.result line
    (lt_test-false p.y q.y (order-read p q false c.requires.near.0 c.requires.near.1 c.if-p-q.false))
    (c.line_of-else-p-q.ensures.x ∙ to_z-of_z w64 p.x (x-fits p c.requires.near.0)) c.line_of-else-p-q.ensures.height (c.rise-else-p-q.ensures.value ∙ difference-words p.y q.y (y-fits p c.requires.near.0) (y-fits q c.requires.near.1))
    c.rise-else-p-q.ensures.bound.0 c.rise-else-p-q.ensures.bound.1
    (c.negated.ensures.value ∙ ap neg_ℤ ((to_z-of_z w64 c.lean-lean.result (record { sfits = c.lean-lean.type_inv })) ∙ (c.lean-lean.ensures.value ∙ ap (λ z. (pos 2 *ℤ z +ℤ pos 1 -ℤ pos 2 *ℤ p.y) *ℤ (q.x -ℤ p.x)) (to_z-of_z w32 c.args.y c.ranges.y))))
    (c.opposite.ensures.value ∙ ap neg_ℤ ((to_z-of_z w64 c.lean_over-step.result (record { sfits = c.lean_over-step.type_inv })) ∙ (c.lean_over-step.ensures.value ∙ ap (λ u. (pos 2 *ℤ pos c.args.apart) *ℤ u) (to_z-of_z w64 c.minus.result (record { sfits = c.minus.type_inv }) ∙ c.minus.ensures.value ∙ difference-words q.x p.x (x-fits q c.requires.near.1) (x-fits p c.requires.near.0)))))
    (subst (λ n. IsDivided ((n +ℤ pos c.rise-else-p-q.result) -ℤ pos 1) c.rise-else-p-q.result line.here.whole line.here.rest) (to_z-of_z w64 c.negated.result (record { sfits = c.negated.type_inv })) c.line_of-else-p-q.ensures.here)
    (subst (λ n. IsDivided n c.rise-else-p-q.result line.step.whole line.step.rest) (to_z-of_z w64 c.opposite.result (record { sfits = c.opposite.type_inv })) c.line_of-else-p-q.ensures.step)
