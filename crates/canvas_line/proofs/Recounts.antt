-- The list of damage after one more change, from the shared entries and the newer ones.
use Rattle.std.proofs.Common.{◌≡◌, ℕ, ◌+◌, ◌-◌, ◌<◌, ◌≤◌, List, [], ◌∷◌, ◌++◌, length, drop, take, ap, sym, ◌∙◌, arith, append_assoc, length-append, length-drop, length-take-le, drop-drop}
use Rattle.std.proofs.lemmas.List.{drop-append-le}
use Rattle.canvas_line.specs.Recent.{last_64}
use Rattle.canvas_look.proofs.Prefixes.{take_all}

-- the shared entries that count, and the newer ones
pub counted : {A : Type 0} (f : ℕ) (older newer now : List A) → drop f older ++ newer ≡ now → f ≤ length older → length now + f ≡ length older + length newer
counted f older newer now is le = omega (arith, ap length is, length-append (drop f older) newer, length-drop f older)

-- no more entries are forgotten than are shared
pub forgets_shared : (f more n older newer : ℕ) → n + f ≡ older + newer → more ≡ n + 1 - 64 → f ≤ older → newer ≤ 16 → older + newer ≤ f + 64 → f + more ≤ older
forgets_shared f more n older newer count is le few most = omega arith

-- there is room for one more newer entry
pub one_newer : (f more n older newer all : ℕ) → n + f ≡ older + newer → more ≡ n + 1 - 64 → f ≤ older → newer < 16 → older + newer ≤ f + 64 → all ≡ newer + 1
    → (f + more ≤ older) × (all ≤ 16) × (older + all ≤ f + more + 64)
one_newer f more n older newer all count is le few most one = (omega arith, omega arith, omega arith)

pub recent_next : {A : Type 0} (f more : ℕ) (older newer now : List A) (x : A) → drop f older ++ newer ≡ now → more ≡ length now + 1 - 64 → f + more ≤ length older
    → drop (f + more) older ++ (newer ++ x ∷ []) ≡ last_64 (now ++ x ∷ [])
recent_next f more older newer now x is e le =
    let within : more ≤ length (drop f older) = omega (arith, length-drop f older) in
    let past : length (now ++ x ∷ []) - 64 ≡ more = omega (arith, length-append now (x ∷ [])) in
    let joined : drop f older ++ (newer ++ x ∷ []) ≡ now ++ x ∷ [] = sym (append_assoc (drop f older) newer (x ∷ [])) ∙ ap (λ xs. xs ++ x ∷ []) is in
    ap (λ xs. xs ++ (newer ++ x ∷ [])) (sym (drop-drop more f older)) ∙ sym (drop-append-le more (drop f older) (newer ++ x ∷ []) within) ∙ ap (drop more) joined ∙ ap (λ k. drop k (now ++ x ∷ [])) (sym past)

-- the rest of a list, taken whole
pub taken_rest : {A : Type 0} (k : ℕ) (xs : List A) → take (length xs - k) (drop k xs) ≡ drop k xs
taken_rest k xs = take_all (length xs - k) (drop k xs) (sym (length-drop k xs))

-- a new list of all that counts, and one more entry
pub joined_rest : {A : Type 0} (k : ℕ) (all xs ys older newer : List A) (x : A) → all ≡ take (length xs - k) (drop k xs) ++ ys ++ x ∷ [] → xs ≡ older → ys ≡ newer
    → all ≡ drop k older ++ (newer ++ x ∷ [])
joined_rest k all xs ys older newer x is same-older same-newer =
    is ∙ ap (λ zs. zs ++ ys ++ x ∷ []) (taken_rest k xs ∙ ap (drop k) same-older) ∙ ap (λ zs. drop k older ++ zs ++ x ∷ []) same-newer ∙ append_assoc (drop k older) newer (x ∷ [])

pub rest_fits : {A : Type 0} (f more : ℕ) (xs ys older newer : List A) → xs ≡ older → ys ≡ newer → f ≤ length older → length older + length newer ≤ f + 64
    → length (take (length xs - (f + more)) (drop (f + more) xs)) + length ys ≤ 64
rest_fits f more xs ys older newer same-older same-newer le most =
    omega (arith, ap length same-older, ap length same-newer, length-take-le (length xs - (f + more)) (drop (f + more) xs), length-drop (f + more) xs, ap length (taken_rest (f + more) xs))

pub all_shared : {A : Type 0} (f more n : ℕ) (all none older newer : List A) (x : A) → all ≡ drop (f + more) older ++ (newer ++ x ∷ []) → none ≡ [] → n + f ≡ length older + length newer
    → more ≡ n + 1 - 64 → f ≤ length older → length newer ≤ 16 → length older + length newer ≤ f + 64 → (0 ≤ length all) × (length none ≤ 16) × (length all + length none ≤ 64)
all_shared f more n all none older newer x is empty count e le few most =
    let zero : length none ≡ 0 = ap length empty in
    let size : length all ≡ length older - (f + more) + (length newer + 1) = omega (arith, ap length is, length-append (drop (f + more) older) (newer ++ x ∷ []), length-drop (f + more) older, length-append newer (x ∷ [])) in
    (omega arith, omega arith, omega arith)
