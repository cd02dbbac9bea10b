-- The 62 digits `0`..`9`, `A`..`Z`, `a`..`z`, with the values 0 to 61.
use Rattle.std.specs.Prelude.{ℕ, ◌+◌, ◌-◌, ◌*◌, ◌^◌, List, [], ◌∷◌, length, Bool, nat_lt, nat_le, ◌&&◌, ◌||◌, if◌then◌else◌}

-- a byte is a digit: `0`..`9`, `A`..`Z` or `a`..`z`
abbrev pub is_digit : ℕ → Bool
is_digit c = (nat_le 48 c && nat_le c 57) || ((nat_le 65 c && nat_le c 90) || (nat_le 97 c && nat_le c 122))

-- the value of a digit
abbrev pub digit_value : ℕ → ℕ
digit_value c = if nat_le c 57 then c - 48 else (if nat_le c 90 then c - 55 else c - 61)

-- the digit of a value
abbrev pub digit_of : ℕ → ℕ
digit_of v = if nat_lt v 10 then v + 48 else (if nat_lt v 36 then v + 55 else v + 61)

-- the number that digits of base 62 represent, the most significant first
abbrev pub number_of : List ℕ → ℕ
number_of [] = 0
number_of (c ∷ cs) = digit_value c * 62 ^ length cs + number_of cs
