-- What is no session: HTTP, and what begins with a byte that no text has.
use Rattle.std.specs.Prelude.{ℕ, ◌-◌, List, [], ◌∷◌, ◌++◌, ◌&&◌, ◌||◌, ◌==◌, Bool, false, not, codes, nat_eq, nat_le, nat_lt, length, take, drop, slice_index, if◌then◌else◌}
use Rattle.std.specs.Char.{is_ascii_digit}
use Rattle.std.specs.List.{ends_with, prefix_len, starts_with}

-- a byte that is no LF
abbrev pub is_inside : ℕ → Bool
is_inside byte = not (byte == 10)

-- how many bytes stand before the first LF, or how many there are
abbrev pub line_len : List ℕ → ℕ
line_len bytes = prefix_len is_inside bytes

-- the first line, without its LF
abbrev pub first_line : List ℕ → List ℕ
first_line bytes = take (line_len bytes) bytes

-- the first line has its LF
abbrev pub has_line : List ℕ → Bool
has_line bytes = nat_lt (line_len bytes) (length bytes)

-- the methods of HTTP, and the first word of HTTP/2
abbrev pub methods : List (List ℕ)
methods =
    codes "GET" ∷ codes "HEAD" ∷ codes "POST" ∷ codes "PUT" ∷ codes "PATCH" ∷ codes "DELETE"
    ∷ codes "OPTIONS" ∷ codes "CONNECT" ∷ codes "TRACE" ∷ codes "PRI" ∷ []

-- bytes begin with one of these words and a blank
abbrev pub begins_with_one : List (List ℕ) → List ℕ → Bool
begins_with_one [] bytes = false
begins_with_one (word ∷ words) bytes = starts_with nat_eq bytes (word ++ 32 ∷ []) || begins_with_one words bytes

-- bytes begin with a method and a blank
abbrev pub begins_with_method : List ℕ → Bool
begins_with_method bytes = begins_with_one methods bytes

-- a control byte other than a tab, an LF and a CR
abbrev pub is_control : ℕ → Bool
is_control byte = nat_lt byte 32 && not (byte == 9) && not (byte == 10) && not (byte == 13)

-- such a byte comes first, as in TLS and TURN
abbrev pub begins_with_control : List ℕ → Bool
begins_with_control [] = false
begins_with_control (byte ∷ bytes) = is_control byte

-- the first bytes of a line that goes on tell it already
abbrev pub begins_foreign : List ℕ → Bool
begins_foreign bytes = begins_with_control bytes || begins_with_method bytes

-- HTTP/, a digit, a point and a digit
abbrev pub is_version : List ℕ → Bool
is_version bytes =
    (length bytes == 8) && starts_with nat_eq bytes (codes "HTTP/")
    && is_ascii_digit (slice_index bytes 5) && (slice_index bytes 6 == 46) && is_ascii_digit (slice_index bytes 7)

-- a line without the CR at its end
abbrev pub without_cr : List ℕ → List ℕ
without_cr line = if ends_with nat_eq line (13 ∷ []) then take (length line - 1) line else line

-- the last eight bytes, or all
abbrev pub last_eight : List ℕ → List ℕ
last_eight bytes = drop (length bytes - 8) bytes

-- a line ends in a version of HTTP, perhaps before a CR
abbrev pub ends_in_version : List ℕ → Bool
ends_in_version line = is_version (last_eight (without_cr line))

-- a whole line that is no longer than a line may be
abbrev pub is_http : List ℕ → Bool
is_http line = nat_le (length line) 65536 && ends_in_version line

-- What a client sends is no session: the first byte or the first line tells.
abbrev pub is_foreign : List ℕ → Bool
is_foreign bytes = begins_with_control bytes || begins_with_method (first_line bytes) || (has_line bytes && is_http (first_line bytes))
