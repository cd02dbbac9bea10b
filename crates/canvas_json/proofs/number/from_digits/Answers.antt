use Rattle.std.proofs.Common.{◌≡◌, ◌<◌, ◌^◌, drop, cond, get_or, Some, sym, ap, ◌∙◌, subst, arith, ne_eqb}
use Rattle.std.specs.Str.Parse.{IsNumeral, digits_value, without_leading_plus}
use Rattle.serde_json.specs.Data.{unsigned}
use Rattle.serde_json.specs.Read.{number_of}
use Rattle.canvas_json.proofs.Digits.{number-digits}
use Rattle.canvas_json.proofs.number.from_digits.Goals as goal

pub returns-in-Ok : goal.returns-in-Ok
returns-in-Ok c =
    let s = c.as_bytes-bytes.result.now in
    let first = c.begins_with_digit.ensures c.if-not-begins_with_digit.false in
    let plain : without_leading_plus s ≡ s = ap (λ b. drop (cond b 1 0) s) (ne_eqb (get_or s 0 0) 43 (λ e. omega (arith, first, e))) in
    let ok = c.in-Ok.ensures in
    let numeral : IsNumeral 10 s = subst (IsNumeral 10) plain ok.0.0 in
    let fits : digits_value 10 s < 2 ^ 64 = subst (λ t. digits_value 10 t < 2 ^ 64) plain ok.0.1 in
    let value : digits_value 10 s ≡ c.in-Ok.n = sym (ok.1 ∙ ap (digits_value 10) plain) in
    ap number_of (sym c.as_bytes-bytes.ensures.value) ∙ number-digits s numeral.1 numeral.0 fits ∙ ap (λ n. Some (unsigned n)) value
