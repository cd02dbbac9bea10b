-- Ends of windows and gaps between places, as the machine keeps them.
use Rattle.std.proofs.Common.{◌≡◌, ◌∙◌, ◌<◌, ◌^◌, ℕ, ℤ, pos, negsuc, ◌+ℤ◌, ◌-ℤ◌, ◌≤ℤ◌, ◌<ℤ◌, FitsSigned, w32, w64, arith, ap, subst, sym}
use Rattle.std.specs.Int.{cast_signed, cast_unsigned}
use Rattle.std.proofs.lemmas.Int.{fits_signed_from_abs, ints, to_z-of_z}
use Rattle.canvas_plane.proofs.Levels.{size-within}
use lib.IntN.{neg_ℤ}

abbrev kept : ℤ → ℤ
kept z = cast_signed w64 (cast_unsigned w64 z)

near-fits : (z : ℤ) → neg_ℤ (pos (2 ^ 42)) ≤ℤ z → z ≤ℤ pos (2 ^ 42) → FitsSigned w64 z
near-fits z h k =
    let s = size-within z (2 ^ 42) h k in
    fits_signed_from_abs w64 z (omega arith)

-- the place so far behind an edge
pub sum-within : (from : ℤ) (at : ℕ) → neg_ℤ (pos (2 ^ 40)) ≤ℤ from → from ≤ℤ pos (2 ^ 40) → at < 2 ^ 32 → (neg_ℤ (pos (2 ^ 41)) ≤ℤ (from +ℤ pos at)) × ((from +ℤ pos at) ≤ℤ pos (2 ^ 41))
sum-within from at h k l = (omega (arith, ints), omega (arith, ints))

wider : (z : ℤ) → (neg_ℤ (pos (2 ^ 41)) ≤ℤ z) × (z ≤ℤ pos (2 ^ 41)) → (neg_ℤ (pos (2 ^ 42)) ≤ℤ z) × (z ≤ℤ pos (2 ^ 42))
wider z w =
    let h = w.0 in
    let k = w.1 in
    (omega (arith, ints), omega (arith, ints))

pub sum-kept : (from to : ℤ) (at : ℕ) → FitsSigned w64 from → to ≡ pos at → neg_ℤ (pos (2 ^ 40)) ≤ℤ from → from ≤ℤ pos (2 ^ 40) → at < 2 ^ 32 → kept (kept from +ℤ kept to) ≡ from +ℤ pos at
sum-kept from to at f e h k l =
    let w = wider (from +ℤ pos at) (sum-within from at h k l) in
    let g : kept (pos at) ≡ pos at = to_z-of_z w64 (pos at) (record { sfits = omega arith }) in
    ap (λ z. kept (z +ℤ kept to)) (to_z-of_z w64 from f) ∙ ap (λ z. kept (from +ℤ z)) (ap kept e ∙ g) ∙ to_z-of_z w64 (from +ℤ pos at) (near-fits (from +ℤ pos at) w.0 w.1)

-- what fits 32 bits lies within 2^40
pub short-near : (z : ℤ) → FitsSigned w32 z → (neg_ℤ (pos (2 ^ 40)) ≤ℤ z) × (z ≤ℤ pos (2 ^ 40))
short-near (pos n) f = let l : n < 2 ^ 31 = f.sfits in (omega (arith, ints), omega (arith, ints))
short-near (negsuc n) f = let l : n < 2 ^ 31 = f.sfits in (omega (arith, ints), omega (arith, ints))

-- the last place before an edge lies behind the start
pub gap-within : (start edge : ℤ) → start <ℤ edge → neg_ℤ (pos (2 ^ 41)) ≤ℤ start → edge ≤ℤ pos (2 ^ 41) → (pos 0 ≤ℤ (edge -ℤ start -ℤ pos 1)) × ((edge -ℤ start -ℤ pos 1) ≤ℤ pos (2 ^ 42))
gap-within start edge l h k = (omega (arith, ints), omega (arith, ints))

whole-within : (start edge : ℤ) → start <ℤ edge → neg_ℤ (pos (2 ^ 41)) ≤ℤ start → edge ≤ℤ pos (2 ^ 41) → (neg_ℤ (pos (2 ^ 42)) ≤ℤ (edge -ℤ start)) × ((edge -ℤ start) ≤ℤ pos (2 ^ 42))
whole-within start edge l h k = (omega (arith, ints), omega (arith, ints))

not-below : (z : ℤ) → pos 0 ≤ℤ z → neg_ℤ (pos (2 ^ 42)) ≤ℤ z
not-below z h = omega (arith, ints)

-- a gap between two places that lie near
pub record IsGap (start edge : ℤ) : Type 0 where
  pub start_fits : FitsSigned w64 start
  pub edge_fits : FitsSigned w64 edge
  pub some : start <ℤ edge
  pub near : neg_ℤ (pos (2 ^ 41)) ≤ℤ start
  pub far : edge ≤ℤ pos (2 ^ 41)

difference : (start edge : ℤ) → IsGap start edge → kept (kept edge -ℤ kept start) -ℤ pos 1 ≡ edge -ℤ start -ℤ pos 1
difference start edge g =
    let w = whole-within start edge g.some g.near g.far in
    ap (λ z. kept (z -ℤ kept start) -ℤ pos 1) (to_z-of_z w64 edge g.edge_fits)
    ∙ ap (λ z. kept (edge -ℤ z) -ℤ pos 1) (to_z-of_z w64 start g.start_fits)
    ∙ ap (λ z. z -ℤ pos 1) (to_z-of_z w64 (edge -ℤ start) (near-fits (edge -ℤ start) w.0 w.1))

gap-fits : (start edge : ℤ) → IsGap start edge → FitsSigned w64 (edge -ℤ start -ℤ pos 1)
gap-fits start edge g =
    let w = gap-within start edge g.some g.near g.far in
    near-fits (edge -ℤ start -ℤ pos 1) (not-below (edge -ℤ start -ℤ pos 1) w.0) w.1

pub difference-fits : (start edge : ℤ) → IsGap start edge → FitsSigned w64 (kept (kept edge -ℤ kept start) -ℤ pos 1)
difference-fits start edge g = subst (λ z. FitsSigned w64 z) (sym (difference start edge g)) (gap-fits start edge g)

pub gap-kept : (start edge : ℤ) → IsGap start edge → kept (kept (kept edge -ℤ kept start) -ℤ pos 1) ≡ edge -ℤ start -ℤ pos 1
gap-kept start edge g = ap kept (difference start edge g) ∙ to_z-of_z w64 (edge -ℤ start -ℤ pos 1) (gap-fits start edge g)

-- the same where the edge has 32 bits
pub short-sum-kept : (from edge to : ℤ) (at : ℕ) → FitsSigned w32 from → FitsSigned w64 edge → edge ≡ from → to ≡ pos at → at < 2 ^ 32 → kept (kept edge +ℤ kept to) ≡ from +ℤ pos at
short-sum-kept from edge to at f g e h l =
    let n = short-near from f in
    ap (λ z. kept (kept z +ℤ kept to)) e ∙ sum-kept from to at (subst (λ z. FitsSigned w64 z) e g) h n.0 n.1 l
