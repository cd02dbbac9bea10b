use Rattle.std.proofs.Common.{◌≡◌, ◌∙◌, ◌^◌, ◌+ℤ◌, ◌*ℤ◌, ◌≤ℤ◌, Bool, pos, true, ◌&&◌, ap, subst, sym, to_z, of_z, w64}
use Rattle.std.specs.Prelude.{int_le}
use Rattle.std.proofs.lemmas.Int.{to_z-of_z}
use Rattle.canvas_plane.specs.Sides.{scale_of}
use Rattle.canvas_plane.proofs.windows.is_near.Goals as goal
use lib.IntN.{neg_ℤ}

both : (a b x y : Bool) → a ≡ true → a ≡ x → b ≡ y → b ≡ (x && y)
both a b x y h e f = f ∙ ap (λ z. z && y) (sym h ∙ e)

pub returns-then-is_behind : goal.returns-then-is_behind
returns-then-is_behind c =
    let from = c.ranges.from in
    let scale = pos (scale_of c.args.level) in
    let near-kept = to_z-of_z w64 c.stretched.result (record { sfits = c.stretched.type_inv }) in
    let far-kept = to_z-of_z w64 c.stretched-is_before.result (record { sfits = c.stretched-is_before.type_inv }) in
    let edge-kept = to_z-of_z w64 c.far_edge.result (record { sfits = c.far_edge.type_inv }) in
    let from-kept = to_z-of_z w64 c.args.from from in
    let near : to_z w64 (of_z w64 c.stretched.result) ≡ c.args.from *ℤ scale = near-kept ∙ c.stretched.ensures ∙ ap (λ z. z *ℤ scale) from-kept in
    let edge : to_z w64 (of_z w64 c.far_edge.result) ≡ c.args.from +ℤ pos c.args.size = edge-kept ∙ c.far_edge.ensures.value ∙ ap (λ z. z +ℤ pos c.args.size) from-kept in
    let far : to_z w64 (of_z w64 c.stretched-is_before.result) ≡ (c.args.from +ℤ pos c.args.size) *ℤ scale = far-kept ∙ c.stretched-is_before.ensures ∙ ap (λ z. z *ℤ scale) edge in
    both _ _ (int_le (neg_ℤ (pos (2 ^ 21))) (c.args.from *ℤ scale)) (int_le ((c.args.from +ℤ pos c.args.size) *ℤ scale) (pos (2 ^ 21))) c.if-is_behind.true (ap (λ z. int_le (neg_ℤ (pos (2 ^ 21))) z) near) (ap (λ z. int_le z (pos (2 ^ 21))) far)

pub stretched-is_before-requires-clause-within : goal.stretched-is_before-requires-clause-within
stretched-is_before-requires-clause-within c =
    let kept = to_z-of_z w64 c.far_edge.result (record { sfits = c.far_edge.type_inv }) in
    subst (λ z. (neg_ℤ (pos (2 ^ 41)) ≤ℤ z) × (z ≤ℤ pos (2 ^ 41))) (sym kept) c.far_edge.ensures.within
