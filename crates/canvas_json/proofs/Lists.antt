-- The text of a list, item by item.
use Rattle.std.proofs.Common.{◌≡◌, ◌∙◌, ◌++◌, ◌<◌, ◌≤◌, ◌+◌, ℕ, Bool, true, List, ◌∷◌, length, get_or, drop, sym, ap, append_assoc}
use Rattle.std.specs.Prelude.{codes, Result, Ok, Err, OnOk}
use Rattle.std.proofs.lemmas.List.{drop_all, drop_more}
use Rattle.serde_json.specs.Written.{comma_if}
use Rattle.canvas_json.specs.Texts.{list_text}

-- an item that was looked up is the next one
pub next-item : {X : Type 0} (xs : List X) (i : ℕ) (x : X) → i < length xs → x ≡ get_or xs i x → drop i xs ≡ x ∷ drop (i + 1) xs
next-item xs i x within is = drop_more xs i x within ∙ ap (λ y. y ∷ drop (i + 1) xs) (sym is)

-- what is left of the list follows the text so far: one more item
pub list-more : {X : Type 0} (f : X → List ℕ) (xs : List X) (i : ℕ) (x : X) (later : Bool) (out mid new whole : List ℕ) → drop i xs ≡ x ∷ drop (i + 1) xs
    → mid ≡ out ++ comma_if later → new ≡ mid ++ f x → out ++ list_text f later (drop i xs) ≡ whole → new ++ list_text f true (drop (i + 1) xs) ≡ whole
list-more f xs i x later out mid new whole next comma item so_far =
    let rest : List ℕ = list_text f true (drop (i + 1) xs) in
    let is : list_text f later (drop i xs) ≡ (comma_if later ++ f x) ++ rest = ap (list_text f later) next in
    ap (λ t. t ++ rest) (item ∙ ap (λ t. t ++ f x) comma ∙ append_assoc out (comma_if later) (f x)) ∙ append_assoc out (comma_if later ++ f x) rest ∙ ap (λ t. out ++ t) (sym is) ∙ so_far

-- and the end
pub list-end : {X : Type 0} (f : X → List ℕ) (xs : List X) (i : ℕ) (later : Bool) (out new whole : List ℕ) → length xs ≤ i
    → new ≡ out ++ codes "]" → out ++ list_text f later (drop i xs) ≡ whole → new ≡ whole
list-end f xs i later out new whole done close so_far =
    let none : list_text f later (drop i xs) ≡ codes "]" = ap (list_text f later) (drop_all i xs done) in
    close ∙ ap (λ t. out ++ t) (sym none) ∙ so_far

-- a fact that holds by itself
pub OnOk-any : {X E : Type 0} (r : Result X E) (P : Type 0) → P → OnOk r P
OnOk-any (Ok x) P h = h
OnOk-any (Err e) P h = tt
