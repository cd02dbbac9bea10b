-- The digits of colours.
use Rattle.std.proofs.Common.{ℕ, ◌<◌, List, get_or, All, refl, subst}
use Rattle.std.specs.Prelude.{nat_lt}
use Rattle.std.specs.Str.{IsAscii}
use Rattle.std.proofs.lemmas.Bool.{ltb-true}
use Rattle.std.proofs.lemmas.List.{get_or_default}
use Rattle.std.proofs.lemmas.List.Sums.{AllPass-from_list_all}
use Rattle.std.proofs.lemmas.Str.Ascii.{IsAscii-from_all}
use Rattle.hex.specs.Hex.{lower_digits}

pub ascii-lower_digits : IsAscii lower_digits
ascii-lower_digits = IsAscii-from_all lower_digits (λ k d lt. ltb-true (get_or lower_digits k d) 128 (AllPass-from_list_all (λ b. nat_lt b 128) lower_digits refl k d lt))

pub all-ascii : (bytes : List ℕ) → IsAscii bytes → All (λ byte. byte < 128) bytes
all-ascii bytes h = λ k d lt. subst (λ n. n < 128) (get_or_default bytes k 0 d lt) (h k)
