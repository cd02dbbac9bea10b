use Rattle.std.proofs.Common.{◌≡◌, ◌<◌, ◌≤◌, ◌-◌, ◌∷◌, ◌/◌, ◌%◌, [], Some, ℕ, refl, ap, ◌∙◌, arith}
use Rattle.std.proofs.Math.Nat.{div-one}
use Rattle.canvas_key.specs.Digit.{digit_of}
use Rattle.canvas_key.specs.Rank.{part_above}
use Rattle.canvas_key.proofs.Parts.{above-here, above-on}
use Rattle.canvas_key.proofs.spaced.write_part.Goals as goal

one-digit : (n : ℕ) → n < 62 → part_above 25 1 n ≡ Some (97 ∷ digit_of n ∷ [])
one-digit n h = above-here 25 1 n h ∙ ap (λ d. Some (97 ∷ digit_of d ∷ [])) (div-one n)

two-digits : (n : ℕ) → 62 ≤ n → n < 3906 → part_above 25 1 n ≡ Some (98 ∷ digit_of ((n - 62) / 62) ∷ digit_of ((n - 62) % 62) ∷ [])
two-digits n l h =
    let small : n - 62 < 3844 = omega arith in
    above-on 24 1 n l ∙ above-here 24 2 (n - 62) small
    ∙ ap (λ d. Some (98 ∷ digit_of ((n - 62) / 62) ∷ digit_of d ∷ [])) (div-one ((n - 62) % 62))

pub returns-then-n-lt62 : goal.returns-then-n-lt62
returns-then-n-lt62 c = one-digit c.args.n c.if-n-lt62.true ∙ rw (c.write_start.ensures, c.digit_of.ensures.value) refl

pub returns-then-n-lt3906 : goal.returns-then-n-lt3906
returns-then-n-lt3906 c = two-digits c.args.n c.if-n-lt62.false c.if-n-lt3906.true ∙ rw (c.push.ensures.items, c.write_start-then-n-lt3906.ensures, c.digit_of-then-n-lt3906.ensures.value, c.digit_of-then-n-lt3906-2.ensures.value) refl
