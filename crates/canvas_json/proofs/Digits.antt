-- What a text of digits alone writes.
use Rattle.std.proofs.Common.{◌≡◌, ℕ, ◌^◌, ◌<◌, List, [], ◌∷◌, ◌++◌, length, get_or, false, Some, refl, sym, ap, ◌∙◌, arith, append-nil, lt-ltb, ne_eqb}
use Rattle.std.specs.Char.{digit_value}
use Rattle.std.specs.Str.Parse.{AllDigits, digits_value}
use Rattle.fast_float.specs.Text.{Parts, scan, IsWellFormed}
use Rattle.fast_float.proofs.Writing.{scan-text_of}
use Rattle.serde_json.specs.Data.{unsigned}
use Rattle.serde_json.specs.Read.{number_of, number_from}

abbrev digits : List ℕ → Parts
digits ds = record { whole = ds; point = false; fraction = []; exponent_negative = false; exponent = []; len = length (ds ++ []) }

no_minus : (ds : List ℕ) → AllDigits 10 ds → 0 < length ds → get_or ds 0 0 ≡ 45 → ⊥
no_minus [] h some e = omega arith
no_minus (d ∷ ds) h some e = let digit : digit_value d < 10 = h.0 in let is : d ≡ 45 = e in grind arith

pub number-digits : (ds : List ℕ) → AllDigits 10 ds → 0 < length ds → digits_value 10 ds < 2 ^ 64 → number_of ds ≡ Some (unsigned (digits_value 10 ds))
unfolding number_of
number-digits ds all some fits =
    let formed : IsWellFormed (digits ds) = record { whole_digits = all; fraction_digits = tt; exponent_digits = tt; no_point = λ _. refl; no_exponent = λ _. refl; len_is = refl } in
    let scanned : scan ds ≡ digits ds = ap scan (sym (append-nil ds)) ∙ scan-text_of (digits ds) formed in
    let value : digits_value 10 (ds ++ []) ≡ digits_value 10 ds = ap (digits_value 10) (append-nil ds) in
    rw (ne_eqb (get_or ds 0 0) 45 (no_minus ds all some)) (ap (number_from false) scanned ∙ rw (lt-ltb _ _ some, value) (rw (lt-ltb _ _ fits) refl))
