-- Places on a side, and the cells in which they lie.
use Rattle.std.specs.Prelude.{ℕ, ◌/◌, ◌%◌, ◌^◌, ℤ, ◌-ℤ◌, unsigned_abs, Bool, ◌&&◌, nat_eq, nat_le, nat_lt}

-- bit k of the number is 1
abbrev pub is_bit : ℕ → ℕ → Bool
is_bit n k = nat_eq (n / 2 ^ k % 2) 1

-- the number lies from one up to another
abbrev pub is_among : ℕ → ℕ → ℕ → Bool
is_among first end k = nat_le first k && nat_lt k end

-- the cell of 2^shift places, counted from the place `start` on, in which a place lies
abbrev pub cell_of : ℤ → ℕ → ℤ → ℕ
cell_of start shift x = unsigned_abs (x -ℤ start) / 2 ^ shift
