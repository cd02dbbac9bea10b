-- The name of a document at a store.
use Rattle.std.specs.Prelude.{◌≢◌, ◌≡◌, ◌<◌, ◌≤◌, ◌&&◌, ◌||◌, ◌==◌, ℕ, nat_le, Bool, true, List, length, slice_index, All}

-- a small letter, a digit or a hyphen
abbrev pub is_name_byte : ℕ → Bool
is_name_byte b = ((nat_le 97 b && nat_le b 122) || (nat_le 48 b && nat_le b 57)) || (b == 45)

-- one to 63 of them, the first no hyphen
pub record IsName (name : List ℕ) : Type 0 where
  pub some : 0 < length name
  pub few : length name ≤ 63
  pub first : slice_index name 0 ≢ 45
  pub bytes : All (λ b. is_name_byte b ≡ true) name
