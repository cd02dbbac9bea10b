-- Fresh keys rise with their numbers, and ranks number the integer parts.
use Rattle.std.proofs.Common.{◌≡◌, ℕ, zero, suc, ◌+◌, ◌-◌, ◌^◌, ◌<◌, List, [], Some, unwrap_or, ℤ, pos, inl, inr, sym, ap, ◌∙◌, subst, arith, lit<}
use Rattle.std.specs.Prelude.{◌<ℤ◌}
use Rattle.std.proofs.lemmas.Bool.{cases_lt}
use Rattle.std.proofs.lemmas.Int.{ints}
use Rattle.canvas_key.specs.Order.{Before}
use Rattle.canvas_key.specs.Text.{IsKey}
use Rattle.canvas_key.specs.Rank.{part_above, part_of_rank, rank_of, fresh_key}
use Rattle.canvas_key.proofs.Before.{not-before-itself}
use Rattle.canvas_key.proofs.Parts.{above-here, above-on, above-part, rank-part, part-of-rank}
use Rattle.canvas_key.proofs.Keys.{part-key, lower-other}
use Rattle.canvas_key.proofs.Rising.{parts-in-order, pos-rises}

-- the part of a rank that is small enough
above-some : (more n v : ℕ) → v < 62 ^ (n + more) → (xs : List ℕ) × (part_above more n v ≡ Some xs)
above-some zero n v h =
    let same : n + zero ≡ n = omega arith in
    (_, above-here zero n v (subst (λ m. v < 62 ^ m) same h))
above-some (suc more) n v h = elim (cases_lt v (62 ^ n)) as (λ _. (xs : List ℕ) × (part_above (suc more) n v ≡ Some xs)) [
  | inl below ↦ (_, above-here (suc more) n v below)
  | inr past ↦
      let same : n + suc more ≡ n + 1 + more = omega arith in
      let far : v < 62 ^ (n + 1 + more) = subst (λ m. v < 62 ^ m) same h in
      let rest = above-some more (n + 1) (v - 62 ^ n) (omega (arith, far, past)) in
      (rest.0, above-on more n v past ∙ rest.1)
]

-- a fresh key is the part of its rank
pub fresh-is-part : (n : ℕ) → n < 2 ^ 32 → part_of_rank (pos n) ≡ Some (fresh_key n)
unfolding part_of_rank fresh_key
fresh-is-part n h =
    let limit : 2 ^ 32 < 62 ^ 26 = lit< tt in
    let found = above-some 25 1 n (omega (arith, h, limit)) in
    found.1 ∙ ap Some (ap (λ o. unwrap_or o []) (sym found.1))

-- the integer parts from `a0` up are keys
pub rank-is-key : (n : ℕ) (part : List ℕ) → part_of_rank (pos n) ≡ Some part → IsKey part
unfolding part_of_rank
rank-is-key n part e =
    let lower = above-part 25 1 n part (omega arith) (omega arith) e in
    part-key part lower.0 (lower-other part lower.1)

pub fresh-is-key : (n : ℕ) → n < 2 ^ 32 → IsKey (fresh_key n)
fresh-is-key n h = rank-is-key n (fresh_key n) (fresh-is-part n h)

pub fresh-rises : (m n : ℕ) → m < n → n < 2 ^ 32 → Before (fresh_key m) (fresh_key n)
fresh-rises m n h k = parts-in-order (pos m) (pos n) (fresh_key m) (fresh_key n) (fresh-is-part m (omega (arith, h, k))) (fresh-is-part n k) (pos-rises m n h)

-- two whole numbers that are in neither order are the same
no-order : (r s : ℤ) → (r <ℤ s → ⊥) → (s <ℤ r → ⊥) → s ≡ r
no-order r s f g = grind (arith, ints)

-- the part of a rank has that rank
pub rank-of-part : (r : ℤ) (part : List ℕ) → part_of_rank r ≡ Some part → rank_of part ≡ r
rank-of-part r part e =
    let own = part-of-rank part (rank-part r part e) in
    no-order r (rank_of part)
    (λ below. not-before-itself part (parts-in-order r (rank_of part) part part e own below))
    (λ above. not-before-itself part (parts-in-order (rank_of part) r part part own e above))
