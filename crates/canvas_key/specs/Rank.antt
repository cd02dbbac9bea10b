-- The ranks of integer parts: numbers of any size, one for each part, in the order of the parts.
use Rattle.std.specs.Prelude.{ℕ, zero, suc, ◌+◌, ◌-◌, ◌/◌, ◌%◌, ◌^◌, List, [], ◌∷◌, length, Option, Some, None, unwrap_or, nat_lt, nat_le, if◌then◌else◌, ℤ, pos, negsuc, ◌+ℤ◌, ◌-ℤ◌}
use Rattle.canvas_key.specs.Digit.{digit_of, number_of}

-- the sum of `count` powers of 62, from 62 ^ from on
abbrev pub powers : ℕ → ℕ → ℕ
powers from zero = 0
powers from (suc count) = 62 ^ from + powers (from + 1) count

-- v in n digits, the most significant first
abbrev pub digits : ℕ → ℕ → List ℕ
digits zero v = []
digits (suc n) v = digit_of (v / 62 ^ n) ∷ digits n (v % 62 ^ n)

-- the rank of an integer part: from `a0` up, and from `Zz` down
abbrev pub rank_of : List ℕ → ℤ
rank_of [] = pos 0
rank_of (head ∷ ds) =
    if nat_le 97 head then pos (powers 1 (length ds - 1) + number_of ds)
    else pos (number_of ds) -ℤ pos (powers 1 (length ds))

-- the part that is v places above the first one of n digits; `more` is how many longer ones there are
unfoldable pub part_above : ℕ → ℕ → ℕ → Option (List ℕ)
part_above zero n v = if nat_lt v (62 ^ n) then Some ((96 + n) ∷ digits n v) else None
part_above (suc more) n v = if nat_lt v (62 ^ n) then Some ((96 + n) ∷ digits n v) else part_above more (n + 1) (v - 62 ^ n)

-- the part that is v places below the last one of n digits
unfoldable pub part_below : ℕ → ℕ → ℕ → Option (List ℕ)
part_below zero n v = if nat_lt v (62 ^ n) then Some ((91 - n) ∷ digits n (62 ^ n - 1 - v)) else None
part_below (suc more) n v = if nat_lt v (62 ^ n) then Some ((91 - n) ∷ digits n (62 ^ n - 1 - v)) else part_below more (n + 1) (v - 62 ^ n)

-- the integer part of a rank, if there is one
unfoldable pub part_of_rank : ℤ → Option (List ℕ)
part_of_rank (pos r) = part_above 25 1 r
part_of_rank (negsuc m) = part_below 25 1 m

-- the integer parts of the next rank above and below
unfoldable pub part_after : List ℕ → Option (List ℕ)
part_after part = part_of_rank (rank_of part +ℤ pos 1)

unfoldable pub part_before : List ℕ → Option (List ℕ)
part_before part = part_of_rank (rank_of part -ℤ pos 1)

-- the n-th fresh key: the integer part of rank n, or no text where there is none
unfoldable pub fresh_key : ℕ → List ℕ
fresh_key n = unwrap_or (part_of_rank (pos n)) []
