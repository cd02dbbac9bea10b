-- Which texts are index keys (`validateOrderKey`).
use Rattle.std.specs.Prelude.{◌≡◌, ℕ, ◌+◌, ◌-◌, ◌<◌, ◌≤◌, List, ◌∷◌, length, take, drop, replicate, slice_index, Option, Some, None, Bool, true, false, not, nat_lt, nat_le, ◌==◌, ◌&&◌, ◌||◌, if◌then◌else◌}
use Rattle.std.specs.List.{list_all}
use lib.Pointwise.{pointwise}
use Rattle.std.specs.Prelude.{nat_eq}
use Rattle.canvas_key.specs.Digit.{is_digit}
use Rattle.canvas_key.specs.declared.KeyFault.{KeyFault}
use Rattle.canvas_key.specs.declared.KeyFault.TheVariants.{KeyTooLong, BadHead, TooShort, BadDigit, LeastInteger, LastZero}

-- a head is a letter, `A`..`Z` or `a`..`z`
abbrev pub is_head : ℕ → Bool
is_head c = (nat_le 65 c && nat_le c 90) || (nat_le 97 c && nat_le c 122)

-- the length of the integer part with this head, head included: 2 from `a` on upwards, and from `Z` on downwards
abbrev pub integer_part_len : ℕ → ℕ
integer_part_len head = if nat_le 97 head then head - 97 + 2 else 90 - head + 2

-- the integer part of a text, and the fraction after it
abbrev pub integer_part : List ℕ → List ℕ
integer_part text = take (integer_part_len (slice_index text 0)) text

abbrev pub fraction : List ℕ → List ℕ
fraction text = drop (integer_part_len (slice_index text 0)) text

-- `A` and 26 zeros
abbrev pub least_part : List ℕ
least_part = 65 ∷ replicate 26 48

-- two texts are the same
abbrev pub is_same : List ℕ → List ℕ → Bool
is_same = pointwise nat_eq

-- a byte past the integer part is there, and the last one is `0`
abbrev pub ends_in_zero : List ℕ → Bool
ends_in_zero text = nat_lt (integer_part_len (slice_index text 0)) (length text) && (slice_index text (length text - 1) == 48)

-- why a text is no key, or nothing
abbrev pub key_fault : List ℕ → Option KeyFault
key_fault text =
    if nat_lt 128 (length text) then Some KeyTooLong
    else (if not (is_head (slice_index text 0)) then Some BadHead
    else (if nat_lt (length text) (integer_part_len (slice_index text 0)) then Some TooShort
    else (if not (list_all is_digit (drop 1 text)) then Some BadDigit
    else (if is_same text least_part then Some LeastInteger
    else (if ends_in_zero text then Some LastZero
    else None)))))

-- a text is an index key
abbrev pub IsKey : List ℕ → Type 0
IsKey text = key_fault text ≡ None

-- where a text is there, it is an index key
abbrev pub IsKeyOrNone : Option (List ℕ) → Type 0
IsKeyOrNone None = Unit {0}
IsKeyOrNone (Some text) = IsKey text

-- all bytes of a text after its head are digits
abbrev pub HasDigits : List ℕ → Type 0
HasDigits text = (k : ℕ) → 0 < k → k < length text → is_digit (slice_index text k) ≡ true

-- a text whose length alone can be at fault
pub record IsSound (text : List ℕ) : Type 0 where
  pub head : is_head (slice_index text 0) ≡ true
  pub long : integer_part_len (slice_index text 0) ≤ length text
  pub digits : list_all is_digit (drop 1 text) ≡ true
  pub least : is_same text least_part ≡ false
  pub last : ends_in_zero text ≡ false
