use Rattle.canvas_shape.proofs.Sizes.{size-kept}
use Rattle.std.proofs.Common.{◌≡◌, ◌∙◌, ap, FitsSigned, rules, ℤ, pos, ◌+ℤ◌, ◌-ℤ◌, ◌*ℤ◌, ◌≤ℤ◌, ◌<ℤ◌, subst, ℕ, ◌^◌, ◌+◌, le_trans, le_of_lt, lit<}
use Rattle.std.specs.Int.{w64}
use Rattle.std.specs.Prelude.{int_lt}
use Rattle.std.proofs.lemmas.Int.{to_z-of_z}
use Rattle.canvas_shape.proofs.Edge.{first-past}
use Rattle.canvas_shape.proofs.polygon.first_past.Goals as goal

joined : (x lean t m r : ℤ) (d : ℕ) → r ≡ x +ℤ t → m ≡ (lean +ℤ pos d) -ℤ pos 1 → ((t *ℤ pos d) +ℤ (t *ℤ pos d)) ≤ℤ m → m <ℤ (((t *ℤ pos d) +ℤ (t *ℤ pos d)) +ℤ (pos d +ℤ pos d)) → (z : ℤ) → int_lt z r ≡ int_lt (pos 0) ((pos 2 *ℤ x -ℤ pos 2 *ℤ z -ℤ pos 1) *ℤ pos d +ℤ lean)
joined x lean t m r d er em least most z =
    let P = λ (u : ℤ). ((t *ℤ pos d) +ℤ (t *ℤ pos d)) ≤ℤ u in
    let Q = λ (u : ℤ). u <ℤ (((t *ℤ pos d) +ℤ (t *ℤ pos d)) +ℤ (pos d +ℤ pos d)) in
    ap (λ u. int_lt z u) er ∙ first-past x z lean t d (subst P em least) (subst Q em most)

pub returns : goal.returns
returns c = λ z.
    let x = c.ranges.x in let l = c.ranges.lean in
    let r : FitsSigned w64 c.raised.result = search rules in
    let h : FitsSigned w64 c.half_floor.result = search rules in
    let p : FitsSigned w64 c.plus.result = search rules in
    simp to_z-of_z (joined c.args.x c.args.lean c.half_floor.result c.raised.result c.plus.result c.args.rise (simp to_z-of_z at c.plus.ensures.value) (simp to_z-of_z at c.raised.ensures.value) (simp to_z-of_z at c.half_floor.ensures.least) (simp to_z-of_z at c.half_floor.ensures.most) z)

pub plus-requires-clause-second : goal.plus-requires-clause-second
plus-requires-clause-second c = size-kept c.half_floor.result (2 ^ 62 + 2 ^ 48) (record { sfits = c.half_floor.type_inv }) (le_trans c.half_floor.ensures.bound (le_trans (size-kept c.raised.result (2 ^ 62) (record { sfits = c.raised.type_inv }) c.raised.ensures.bound) (le_of_lt (lit< tt))))
