-- Ends of a list.
use Rattle.std.proofs.Common.{◌≡◌, ℕ, zero, suc, ◌+◌, ◌-◌, ◌<◌, ◌≤◌, List, [], ◌∷◌, ◌++◌, length, take, drop, All, sym, ap, ◌∙◌, subst, arith, append_assoc, length-append, take-append-drop}
use Rattle.std.proofs.lemmas.List.{drop-append-le, take-append-le, take_at}
use Rattle.std.proofs.lemmas.List.Elements.{All-drop}

module _ {A : Type 0} where
  -- the whole ends with the list
  abbrev pub Ends : List A → List A → Type 0
  Ends end whole = (before : List A) × (whole ≡ before ++ end)

  -- an end of an end
  pub end-drop : (n : ℕ) (end whole : List A) → Ends end whole → Ends (drop n end) whole
  end-drop n end whole is = (is.0 ++ take n end, is.1 ∙ ap (λ (e : List A). is.0 ++ e) (sym (take-append-drop n end)) ∙ sym (append_assoc is.0 (take n end) (drop n end)))

  -- all but the first of two parts, where the first may be cut once before the second comes
  pub end-cut-twice : (c : ℕ) (first second whole : List A) → Ends (first ++ second) whole → Ends (drop (length (drop (length first - c) first ++ second) - c) (drop (length first - c) first ++ second)) whole
  end-cut-twice c first second whole is =
      let n : ℕ = length first - c in
      let joined : drop n (first ++ second) ≡ drop n first ++ second = drop-append-le n first second (omega arith) in
      let cut : Ends (drop n first ++ second) whole = subst (λ (e : List A). Ends e whole) joined (end-drop n (first ++ second) whole is) in
      end-drop (length (drop n first ++ second) - c) (drop n first ++ second) whole cut

  -- what comes after the first n is an end of each end that is long enough
  drop-past : (n : ℕ) (before end : List A) → length before ≤ n → drop n (before ++ end) ≡ drop (n - length before) end
  drop-past n [] end le = (let e : n ≡ n - 0 = omega arith in ap (λ (k : ℕ). drop k end) e)
  drop-past zero (b ∷ before) end le = absurd (omega arith)
  drop-past (suc n) (b ∷ before) end le =
      let e : n - length before ≡ suc n - length (b ∷ before) = omega arith in
      drop-past n before end (omega arith) ∙ ap (λ (k : ℕ). drop k end) e

  pub all-past : (P : A → Type 0) (n : ℕ) (end whole : List A) → Ends end whole → length whole ≤ n + length end → All P end → All P (drop n whole)
  all-past P n end whole is long all =
      let count : length whole ≡ length is.0 + length end = ap length is.1 ∙ length-append is.0 end in
      let same : drop n whole ≡ drop (n - length is.0) end = ap (drop n) is.1 ∙ drop-past n is.0 end (omega (arith, count, long)) in
      subst (All P) (sym same) (All-drop P (n - length is.0) end all)

  take-past : (before end : List A) (k : ℕ) → take (length before + k) (before ++ end) ≡ before ++ take k end
  take-past [] end k = (let e : 0 + k ≡ k = omega arith in ap (λ (j : ℕ). take j end) e)
  take-past (b ∷ before) end k =
      let e : length (b ∷ before) + k ≡ suc (length before + k) = omega arith in
      ap (λ (j : ℕ). take j (b ∷ before ++ end)) e ∙ ap (λ (r : List A). b ∷ r) (take-past before end k)

  -- An end of a list, cut to the first `left`, goes on as an end of a longer list, where the two meet.
  pub end-more : (told old recent more : List A) (left : ℕ) → Ends told old → Ends recent (old ++ more) → left ≤ length told
      → (0 < left → left + length recent + length old ≡ length told + length (old ++ more)) → Ends (take left told ++ recent) (old ++ more)
  end-more told old recent more zero is late within meets = late
  end-more told old recent more (suc k) is late within meets =
      let left : ℕ = suc k in
      let sums : left + length recent + length old ≡ length told + length (old ++ more) = meets (omega arith) in
      let count : length old ≡ length is.0 + length told = ap length is.1 ∙ length-append is.0 told in
      let total : length (old ++ more) ≡ length late.0 + length recent = ap length late.1 ∙ length-append late.0 recent in
      let place : length late.0 ≡ length is.0 + left = omega (arith, sums, count, total) in
      let n : ℕ = length is.0 + left in
      let few : n ≤ length old = omega (arith, count, within) in
      let front : late.0 ≡ is.0 ++ take left told =
      sym (take_at late.0 recent n place) ∙ ap (take n) (sym late.1) ∙ take-append-le n old more few ∙ ap (take n) is.1 ∙ take-past is.0 told left in
      (is.0, late.1 ∙ ap (λ (b : List A). b ++ recent) front ∙ append_assoc is.0 (take left told) recent)
