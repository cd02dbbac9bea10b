-- Sides that pass the test of a window's sides.
use Rattle.std.proofs.Common.{◌≡◌, ℕ, ℤ, pos, ◌+ℤ◌, ◌*ℤ◌, ◌≤ℤ◌, ◌^◌, true, ◌&&◌, arith, sym, subst}
use Rattle.std.specs.Prelude.{int_le, nat_le}
use Rattle.std.proofs.lemmas.Bool.{and_parts, leb-true}
use Rattle.std.proofs.lemmas.Int.{ints}
use Rattle.canvas_plane.specs.Sides.{IsWindowSide, is_window_side, is_near_enough}
use lib.IntN.{neg_ℤ}

le-known : (a b : ℤ) → int_le a b ≡ true → a ≤ℤ b
le-known a b h = grind (arith, ints)

pub side-known : (scale : ℕ) (from : ℤ) (size : ℕ) → is_window_side scale from size ≡ true → IsWindowSide scale from size
side-known scale from size h =
    let p = and_parts (nat_le 1 size && nat_le size 256) (is_near_enough scale from size) h in
    let s = and_parts (nat_le 1 size) (nat_le size 256) p.0 in
    let n = and_parts (int_le (neg_ℤ (pos (2 ^ 21))) (from *ℤ pos scale)) (int_le ((from +ℤ pos size) *ℤ pos scale) (pos (2 ^ 21))) p.1 in
    record {
      least = leb-true 1 size s.0;
      most = leb-true size 256 s.1;
      near = le-known (neg_ℤ (pos (2 ^ 21))) (from *ℤ pos scale) n.0;
      far = le-known ((from +ℤ pos size) *ℤ pos scale) (pos (2 ^ 21)) n.1;
    }

-- the same for the edge as it is kept
pub kept-side : (scale : ℕ) (from kept : ℤ) (size : ℕ) → kept ≡ from → is_window_side scale from size ≡ true → IsWindowSide scale kept size
kept-side scale from kept size e h =
    let P : ℤ → Type 0 = λ z. IsWindowSide scale z size in
    subst P (sym e) (side-known scale from size h)
