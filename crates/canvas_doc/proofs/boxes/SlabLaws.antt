-- What lies in no slab of another lies apart from it.
use Rattle.std.proofs.Common.{◌≡◌, ℕ, ◌/◌, ◌%◌, ◌^◌, ◌<◌, ◌≤◌, true, false, ◌&&◌, ℤ, pos, ◌≤ℤ◌, ◌<ℤ◌, sym, ◌∙◌, arith}
use Rattle.std.specs.Prelude.{int_lt}
use Rattle.std.proofs.lemmas.Bool.{and_parts, true≢false}
use Rattle.std.proofs.lemmas.Int.{by_lt_z, ints}
use lib.IntN.{neg_ℤ}
use Rattle.canvas_shape.specs.Words.{has}
use Rattle.canvas_doc.specs.Slabs.{rank, HasSlabs}

lt-known : (a b : ℤ) → int_lt a b ≡ true → a <ℤ b
lt-known a b h = grind (arith, ints)

-- ranks rise with coordinates
rank-le : (a b : ℤ) → neg_ℤ (pos (2 ^ 31)) ≤ℤ a → a ≤ℤ b → rank a ≤ rank b
rank-le a b low h = omega (arith, ints)

rank-lt : (a b : ℤ) → neg_ℤ (pos (2 ^ 31)) ≤ℤ a → a <ℤ b → rank a < rank b
rank-lt a b low h = omega (arith, ints)

-- a coordinate of both has a slab of both
shared : (a b c d : ℤ) (w v n : ℕ) → HasSlabs a b w → HasSlabs c d v → ((i : ℕ) → has w i ≡ true → has v i ≡ false) → rank a ≤ n → n < rank b → rank c ≤ n → n < rank d → ⊥
shared a b c d w v n h k none low high low' high' = true≢false (sym (k.bits n low' high') ∙ none (n / 256 % 64) (h.bits n low high))

-- edges between which no slab is shared do not overlap
pub no-overlap : (a b c d : ℤ) (w v : ℕ) → neg_ℤ (pos (2 ^ 31)) ≤ℤ a → neg_ℤ (pos (2 ^ 31)) ≤ℤ c → a <ℤ b → c <ℤ d → HasSlabs a b w → HasSlabs c d v → ((i : ℕ) → has w i ≡ true → has v i ≡ false) → (int_lt a d && int_lt c b) ≡ true → ⊥
no-overlap a b c d w v la lc ab cd h k none o =
    let both = and_parts (int_lt a d) (int_lt c b) o in
    let ad : a <ℤ d = lt-known a d both.0 in
    let cb : c <ℤ b = lt-known c b both.1 in
    by_lt_z a c
    (λ n. shared a b c d w v (rank c) h k none (rank-le a c la (omega (arith, ints))) (rank-lt c b lc cb) (omega arith) (rank-lt c d lc cd))
    (λ n. shared a b c d w v (rank a) h k none (omega arith) (rank-lt a b la ab) (rank-le c a lc n) (rank-lt a d la ad))
