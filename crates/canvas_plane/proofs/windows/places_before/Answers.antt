use Rattle.std.proofs.Common.{◌≡◌, ◌≤◌, ◌<ℤ◌, ◌≤ℤ◌, ◌+ℤ◌, ◌-ℤ◌, ◌*ℤ◌, ◌*◌, ◌^◌, ◌+◌, ◌∙◌, ◌↔◌, ℕ, pos, FitsSigned, arith, ap, subst, sym, true, false, w32, w64}
use Rattle.std.specs.Prelude.{int_le}
use Rattle.std.proofs.lemmas.Int.{ints, to_z-of_z}
use Rattle.canvas_plane.specs.Sides.{scale_of}
use Rattle.canvas_plane.proofs.Levels.{AreBefore, after, all-before, is-le, is-lt, none-before, scale-least, some-before, within-size}
use Rattle.canvas_plane.proofs.windows.places_before.Goals as goal

none : (c : goal.Then-edge-start) → AreBefore c.args.from (scale_of c.args.level) c.args.size 0 c.args.edge
none c =
    let kept : FitsSigned w64 c.page_place-start.result = record { sfits = c.page_place-start.type_inv } in
    let edge = c.ranges.edge in
    let from = to_z-of_z w32 c.args.from c.ranges.from in
    let start : c.page_place-start.result ≡ (c.args.from +ℤ pos 0) *ℤ pos (scale_of c.args.level) = c.page_place-start.ensures ∙ ap (λ z. (z +ℤ pos 0) *ℤ pos (scale_of c.args.level)) from in
    let test : int_le c.args.edge c.page_place-start.result ≡ true = simp to_z-of_z at c.if-edge-start.true in
    let le = is-le c.args.edge c.page_place-start.result test in
    none-before c.args.from (scale_of c.args.level) c.args.size c.args.edge (omega (arith, ints))

pub returns-then-edge-start-clause-before : goal.returns-then-edge-start-clause-before
returns-then-edge-start-clause-before c = none c

pub returns-then-edge-start-clause-after : goal.returns-then-edge-start-clause-after
returns-then-edge-start-clause-after c = after c.args.from (scale_of c.args.level) c.args.size 0 c.args.edge (none c)

all : (c : goal.Then-page_place-edge) → AreBefore c.args.from (scale_of c.args.level) c.args.size c.args.size c.args.edge
all c =
    let kept : FitsSigned w64 c.page_place.result = record { sfits = c.page_place.type_inv } in
    let edge = c.ranges.edge in
    let from = to_z-of_z w32 c.args.from c.ranges.from in
    let end : c.page_place.result ≡ (c.args.from +ℤ pos c.args.size) *ℤ pos (scale_of c.args.level) = c.page_place.ensures ∙ ap (λ z. (z +ℤ pos c.args.size) *ℤ pos (scale_of c.args.level)) from in
    let test : int_le c.page_place.result c.args.edge ≡ true = simp to_z-of_z at c.if-page_place-edge.true in
    let le = is-le c.page_place.result c.args.edge test in
    all-before c.args.from (scale_of c.args.level) c.args.size c.args.edge (scale-least c.args.level) (omega (arith, ints))

pub returns-then-page_place-edge-clause-before : goal.returns-then-page_place-edge-clause-before
returns-then-page_place-edge-clause-before c = all c

pub returns-then-page_place-edge-clause-after : goal.returns-then-page_place-edge-clause-after
returns-then-page_place-edge-clause-after c = after c.args.from (scale_of c.args.level) c.args.size c.args.size c.args.edge (all c)

pub last_before-requires-clause-some : goal.last_before-requires-clause-some
last_before-requires-clause-some c =
    let kept : FitsSigned w64 c.page_place-start.result = record { sfits = c.page_place-start.type_inv } in
    let edge = c.ranges.edge in
    let test : int_le c.args.edge c.page_place-start.result ≡ false = simp to_z-of_z at c.if-edge-start.false in
    let lt = is-lt c.args.edge c.page_place-start.result test in
    let start-kept = to_z-of_z w64 c.page_place-start.result kept in
    let edge-kept = to_z-of_z w64 c.args.edge edge in
    omega (arith, ints)

pub last_before-requires-clause-near : goal.last_before-requires-clause-near
last_before-requires-clause-near c =
    let kept : FitsSigned w64 c.page_place-start.result = record { sfits = c.page_place-start.type_inv } in
    let from = to_z-of_z w32 c.args.from c.ranges.from in
    let place : (c.args.from +ℤ pos 0) *ℤ pos (scale_of c.args.level) ≡ c.args.from *ℤ pos (scale_of c.args.level) = ap (λ z. z *ℤ pos (scale_of c.args.level)) (omega (arith, ints)) in
    let start : c.page_place-start.result ≡ c.args.from *ℤ pos (scale_of c.args.level) = c.page_place-start.ensures ∙ ap (λ z. (z +ℤ pos 0) *ℤ pos (scale_of c.args.level)) from ∙ place in
    let near = c.requires.side.near in
    let start-kept = to_z-of_z w64 c.page_place-start.result kept in
    omega (arith, ints)

pub last_before-requires-clause-far : goal.last_before-requires-clause-far
last_before-requires-clause-far c =
    let kept : FitsSigned w64 c.page_place.result = record { sfits = c.page_place.type_inv } in
    let edge = c.ranges.edge in
    let from = to_z-of_z w32 c.args.from c.ranges.from in
    let end : c.page_place.result ≡ (c.args.from +ℤ pos c.args.size) *ℤ pos (scale_of c.args.level) = c.page_place.ensures ∙ ap (λ z. (z +ℤ pos c.args.size) *ℤ pos (scale_of c.args.level)) from in
    let test : int_le c.page_place.result c.args.edge ≡ false = simp to_z-of_z at c.if-page_place-edge.false in
    let lt = is-lt c.page_place.result c.args.edge test in
    let far = c.requires.side.far in
    let edge-kept = to_z-of_z w64 c.args.edge edge in
    omega (arith, ints)

distance : (c : goal.After-steps) → c.last_before.result ≡ c.args.edge -ℤ ((c.args.from +ℤ pos 0) *ℤ pos (scale_of c.args.level)) -ℤ pos 1
distance c =
    let kept : FitsSigned w64 c.page_place-start.result = record { sfits = c.page_place-start.type_inv } in
    let edge = c.ranges.edge in
    let from = to_z-of_z w32 c.args.from c.ranges.from in
    let start : c.page_place-start.result ≡ (c.args.from +ℤ pos 0) *ℤ pos (scale_of c.args.level) = c.page_place-start.ensures ∙ ap (λ z. (z +ℤ pos 0) *ℤ pos (scale_of c.args.level)) from in
    let start-kept = to_z-of_z w64 c.page_place-start.result kept in
    let edge-kept = to_z-of_z w64 c.args.edge edge in
    let value = c.last_before.ensures.value in
    omega (arith, ints)

steps-within : (c : goal.After-steps) → (k : _) → (k ≤ c.steps.result) ↔ (pos (k * scale_of c.args.level) ≤ℤ c.last_before.result)
steps-within c =
    let kept = to_z-of_z w64 c.last_before.result (record { sfits = c.last_before.type_inv }) in
    subst (λ z. (k : ℕ) → (k ≤ c.steps.result) ↔ (pos (k * scale_of c.args.level) ≤ℤ z)) kept c.steps.ensures.exact

some : (c : goal.After-steps) → AreBefore c.args.from (scale_of c.args.level) c.args.size (c.steps.result + 1) c.args.edge
some c = some-before c.args.from (scale_of c.args.level) c.args.size c.steps.result c.args.edge c.last_before.result (distance c) (steps-within c)

pub returns-else-page_place-edge-clause-within : goal.returns-else-page_place-edge-clause-within
returns-else-page_place-edge-clause-within c =
    let kept : FitsSigned w64 c.page_place.result = record { sfits = c.page_place.type_inv } in
    let edge = c.ranges.edge in
    let from = to_z-of_z w32 c.args.from c.ranges.from in
    let end : c.page_place.result ≡ (c.args.from +ℤ pos c.args.size) *ℤ pos (scale_of c.args.level) = c.page_place.ensures ∙ ap (λ z. (z +ℤ pos c.args.size) *ℤ pos (scale_of c.args.level)) from in
    let test : int_le c.page_place.result c.args.edge ≡ false = simp to_z-of_z at c.if-page_place-edge.false in
    let lt = is-lt c.page_place.result c.args.edge test in
    let last : c.args.edge <ℤ ((c.args.from +ℤ pos c.args.size) *ℤ pos (scale_of c.args.level)) = omega (arith, ints) in
    within-size c.args.from (scale_of c.args.level) c.args.size c.steps.result c.args.edge c.last_before.result (distance c) (steps-within c) last

pub returns-else-page_place-edge-clause-before : goal.returns-else-page_place-edge-clause-before
returns-else-page_place-edge-clause-before c = some c

pub returns-else-page_place-edge-clause-after : goal.returns-else-page_place-edge-clause-after
returns-else-page_place-edge-clause-after c = after c.args.from (scale_of c.args.level) c.args.size (c.steps.result + 1) c.args.edge (some c)

pub steps-requires-clause-least : goal.steps-requires-clause-least
steps-requires-clause-least c =
    let kept = to_z-of_z w64 c.last_before.result (record { sfits = c.last_before.type_inv }) in
    subst (λ z. pos 0 ≤ℤ z) (sym kept) c.last_before.ensures.least

pub steps-requires-clause-most : goal.steps-requires-clause-most
steps-requires-clause-most c =
    let kept = to_z-of_z w64 c.last_before.result (record { sfits = c.last_before.type_inv }) in
    subst (λ z. z ≤ℤ pos (2 ^ 42)) (sym kept) c.last_before.ensures.most
