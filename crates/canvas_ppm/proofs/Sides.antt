use Rattle.std.proofs.Common.{ℕ, ◌≤◌, length, decimal, arith}
use Rattle.std.proofs.lemmas.Fmt.{length-decimal-le}

-- a side takes at most five digits
pub side_digits : (side : ℕ) → side ≤ 65535 → length (decimal side) ≤ 5
side_digits side small =
    length-decimal-le 5 side (omega arith) (omega arith) (omega arith)
