-- What a text is as JSON, by serde_json's definition, and how an object's members are read.
use Rattle.std.specs.Prelude.{ℕ, ◌^◌, ◌&&◌, ◌||◌, nat_lt, int_lt, ℤ, pos, negsuc, Bool, not, List, [], ◌∷◌, Option, Some, None, option_and_then, is_some, if◌then◌else◌}
use Rattle.std.specs.List.{list_all, list_any}
use Rattle.std.specs.Option.{option_map_or}
use Rattle.std.specs.Str.{is_utf8, bytes_eq}
use Rattle.serde_json.specs.Data.{Data, Members, no_members, member}
use Rattle.serde_json.specs.Read.{read}
use Rattle.serde_json.specs.Find.{get, as_number, as_i64, as_object}

-- the value that a text is, if it is JSON
abbrev pub json_of : List ℕ → Option Data
json_of text = if is_utf8 text then read text else None

-- a whole number: one of 64 bits with a sign, written with neither point nor exponent
abbrev pub whole_of : Data → Option ℤ
whole_of d = option_and_then as_i64 (as_number d)

-- the number, if it is from -2,147,483,648 to 2,147,483,647
abbrev pub in_i32 : ℤ → Option ℤ
in_i32 z = if int_lt z (negsuc 2147483647) || int_lt (pos 2147483647) z then None else Some z

-- the number, if it is from 0 to 4,294,967,295
abbrev pub in_u32 : ℤ → Option ℕ
in_u32 (pos n) = if nat_lt n (2 ^ 32) then Some n else None
in_u32 (negsuc n) = None

-- the number, if it is from 0 to 255
abbrev pub in_u8 : ℤ → Option ℕ
in_u8 (pos n) = if nat_lt n (2 ^ 8) then Some n else None
in_u8 (negsuc n) = None

-- a value that is a number of that range
unfoldable pub i32_of : Data → Option ℤ
i32_of d = option_and_then in_i32 (whole_of d)

-- a value that is a number from 0 on: an id, a width or a height
unfoldable pub u32_of : Data → Option ℕ
u32_of d = option_and_then in_u32 (whole_of d)

-- a value that is a number of one byte
unfoldable pub u8_of : Data → Option ℕ
u8_of d = option_and_then in_u8 (whole_of d)

-- a member that has to be there, as `read_as` reads it
abbrev pub required : {T : Type 0} → (Data → Option T) → List ℕ → Data → Option T
required read_as name d = option_and_then read_as (get name d)

-- a member that may be left out, and then counts as `otherwise`
abbrev pub optional : {T : Type 0} → (Data → Option T) → T → List ℕ → Data → Option T
optional read_as otherwise name d = option_map_or read_as (get name d) (Some otherwise)

-- the names of an object's members
abbrev pub names_of : Members → List (List ℕ)
names_of no_members = []
names_of (member name d rest) = name ∷ names_of rest

-- the names of a value's members, if it is an object
abbrev pub member_names : Data → List (List ℕ)
member_names d = option_map_or names_of (as_object d) []

abbrev pub is_among : List (List ℕ) → List ℕ → Bool
is_among names name = list_any (λ other. bytes_eq other name) names

-- a member has none of these names
unfoldable pub has_others : List (List ℕ) → Data → Bool
has_others names d = list_any (λ name. not (is_among names name)) (member_names d)

-- an object has a member of each of these names, and no others
unfoldable pub has_exactly : List (List ℕ) → Data → Bool
has_exactly names d = list_all (λ name. is_some (get name d)) names && not (has_others names d)

-- the next step, unless one before it found nothing
infixl 10 ◌>>=◌
abbrev pub ◌>>=◌ : {S T : Type 0} → Option S → (S → Option T) → Option T
found >>= next = option_and_then next found
