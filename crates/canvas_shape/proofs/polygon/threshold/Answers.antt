use lib.IntN.{neg_ℤ}
use Rattle.std.proofs.Common.{◌∙◌, ap, FitsSigned, rules, ◌^◌, pos, ◌+ℤ◌, ◌-ℤ◌, ◌*ℤ◌, sym, true, false, to_z, of_z}
use Rattle.std.specs.Int.{w64, w32}
use Rattle.std.specs.Prelude.{int_lt}
use Rattle.std.proofs.lemmas.Int.{to_z-of_z}
use Rattle.canvas_shape.proofs.Edge.{down-edge, up-edge, not-level, lt_test-true, lt_test-false}
use Rattle.canvas_shape.proofs.Sizes.{size-kept, x-near, y-near, x-fits, y-fits, difference-words, order-read}
use Rattle.canvas_shape.proofs.polygon.threshold.Goals as goal

pub rise-requires-else-p-q-clause-order : goal.rise-requires-else-p-q-clause-order
rise-requires-else-p-q-clause-order c =
    let y = c.ranges.y in
    let py : FitsSigned w64 c.args.p.y = search rules in
    let qy : FitsSigned w64 c.args.q.y = search rules in
    simp to_z-of_z (not-level c.args.p c.args.q c.args.y c.requires.crossing (lt_test-false c.args.p.y c.args.q.y (simp to_z-of_z at c.if-p-q.false)))

pub negated-requires : goal.negated-requires
negated-requires c = size-kept c.lean-lean.result (2 ^ 61) (record { sfits = c.lean-lean.type_inv }) c.lean-lean.ensures.bound

pub first_past-requires-clause-near : goal.first_past-requires-clause-near
first_past-requires-clause-near c = x-near c.args.p c.requires.near.0

pub first_past-requires-else-p-q-clause-near : goal.first_past-requires-else-p-q-clause-near
first_past-requires-else-p-q-clause-near c = x-near c.args.p c.requires.near.0

pub first_past-requires-clause-small : goal.first_past-requires-clause-small
first_past-requires-clause-small c = size-kept c.lean-lean.result (2 ^ 61) (record { sfits = c.lean-lean.type_inv }) c.lean-lean.ensures.bound

pub first_past-requires-else-p-q-clause-small : goal.first_past-requires-else-p-q-clause-small
first_past-requires-else-p-q-clause-small c = size-kept c.negated.result (2 ^ 61) (record { sfits = c.negated.type_inv }) c.negated.ensures.bound

pub rise-requires-clause-first : goal.rise-requires-clause-first
rise-requires-clause-first c = y-near c.args.p c.requires.near.0

pub rise-requires-clause-second : goal.rise-requires-clause-second
rise-requires-clause-second c = y-near c.args.q c.requires.near.1

pub rise-requires-else-p-q-clause-first : goal.rise-requires-else-p-q-clause-first
rise-requires-else-p-q-clause-first c = y-near c.args.q c.requires.near.1

pub rise-requires-else-p-q-clause-second : goal.rise-requires-else-p-q-clause-second
rise-requires-else-p-q-clause-second c = y-near c.args.p c.requires.near.0

pub returns-then-p-q : goal.returns-then-p-q
returns-then-p-q c = λ x.
    let p = c.args.p in let q = c.args.q in
    down-edge p q x c.args.y c.lean-lean.result c.first_past.result c.rise.result
    (lt_test-true p.y q.y (order-read p q true c.requires.near.0 c.requires.near.1 c.if-p-q.true))
    (c.rise.ensures.value ∙ difference-words q.y p.y (y-fits q c.requires.near.1) (y-fits p c.requires.near.0)) (c.lean-lean.ensures.value ∙ ap (λ z. (pos 2 *ℤ z +ℤ pos 1 -ℤ pos 2 *ℤ p.y) *ℤ (q.x -ℤ p.x)) (to_z-of_z w32 c.args.y c.ranges.y))
    (c.first_past.ensures x
    ∙ ap (λ u. int_lt (pos 0) ((pos 2 *ℤ u -ℤ pos 2 *ℤ x -ℤ pos 1) *ℤ pos c.rise.result +ℤ to_z w64 (of_z w64 c.lean-lean.result))) (to_z-of_z w64 p.x (x-fits p c.requires.near.0))
    ∙ ap (λ u. int_lt (pos 0) ((pos 2 *ℤ p.x -ℤ pos 2 *ℤ x -ℤ pos 1) *ℤ pos c.rise.result +ℤ u)) ((to_z-of_z w64 c.lean-lean.result (record { sfits = c.lean-lean.type_inv }))))
    ∙ ap (int_lt x) (sym (to_z-of_z w64 c.first_past.result (record { sfits = c.first_past.type_inv })))

pub returns-else-p-q : goal.returns-else-p-q
returns-else-p-q c = λ x.
    let p = c.args.p in let q = c.args.q in
    up-edge p q x c.args.y c.lean-lean.result c.first_past-else-p-q.result c.rise-else-p-q.result
    (lt_test-false p.y q.y (order-read p q false c.requires.near.0 c.requires.near.1 c.if-p-q.false))
    (c.rise-else-p-q.ensures.value ∙ difference-words p.y q.y (y-fits p c.requires.near.0) (y-fits q c.requires.near.1)) (c.lean-lean.ensures.value ∙ ap (λ z. (pos 2 *ℤ z +ℤ pos 1 -ℤ pos 2 *ℤ p.y) *ℤ (q.x -ℤ p.x)) (to_z-of_z w32 c.args.y c.ranges.y))
    (c.first_past-else-p-q.ensures x
    ∙ ap (λ u. int_lt (pos 0) ((pos 2 *ℤ u -ℤ pos 2 *ℤ x -ℤ pos 1) *ℤ pos c.rise-else-p-q.result +ℤ to_z w64 (of_z w64 c.negated.result))) (to_z-of_z w64 p.x (x-fits p c.requires.near.0))
    ∙ ap (λ u. int_lt (pos 0) ((pos 2 *ℤ p.x -ℤ pos 2 *ℤ x -ℤ pos 1) *ℤ pos c.rise-else-p-q.result +ℤ u)) ((to_z-of_z w64 c.negated.result (record { sfits = c.negated.type_inv })) ∙ c.negated.ensures.value ∙ ap neg_ℤ (to_z-of_z w64 c.lean-lean.result (record { sfits = c.lean-lean.type_inv }))))
    ∙ ap (int_lt x) (sym (to_z-of_z w64 c.first_past-else-p-q.result (record { sfits = c.first_past-else-p-q.type_inv })))
