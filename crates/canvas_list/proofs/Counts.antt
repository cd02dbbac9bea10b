-- How many items the first parts have.
use Rattle.std.proofs.Common.{◌≡◌, ◌+◌, ◌-◌, ◌<◌, ◌^◌, ℕ, Fits, w64, List, ap, arith, get_or, length, take}
use Rattle.std.specs.List.{sum_by}
use Rattle.std.proofs.lemmas.List.Sums.{sum_by-take-le, sum_by_more}

-- with one more
pub counted-one : {P : Type 0} (size : P → ℕ) (parts : List P) (k count n : ℕ) (x : P) → k < length parts → count ≡ sum_by size (take k parts) → n ≡ size x → x ≡ get_or parts k x → count + n ≡ sum_by size (take (k + 1) parts)
counted-one size parts k count n x h so_far e is = omega (arith, so_far, e, ap size is, sum_by_more size parts k x h)

-- a part in front of the last one has one behind it
pub one-behind : (k n : ℕ) → k < n - 1 → k + 1 < n
one-behind k n h = omega arith

-- few, if all are
pub few-and-one : {P : Type 0} (size : P → ℕ) (parts : List P) (k count n : ℕ) (x : P) → k < length parts → count ≡ sum_by size (take k parts) → n ≡ size x → x ≡ get_or parts k x → sum_by size parts < 2 ^ 32 → Fits w64 (count + n)
few-and-one size parts k count n x h so_far e is few = omega (arith, counted-one size parts k count n x h so_far e is, sum_by-take-le size parts (k + 1), few)
