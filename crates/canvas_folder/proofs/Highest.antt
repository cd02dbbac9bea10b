-- The highest whole generation of a list that is longer by one.
use Rattle.std.specs.Prelude.{◌≡◌, ◌≤◌, ◌<◌, ◌+◌, ℕ, Bool, true, false, List, [], ◌∷◌, ◌++◌, Option, Some, None, nat_lt, Any, length, if◌then◌else◌}
use Rattle.std.proofs.Common.{refl, sym, subst, ◌∙◌, arith, take, get_or, length-append}
use Rattle.std.proofs.lemmas.List.{take_more, take_all}
use Rattle.std.proofs.lemmas.List.Elements.{All-push, All-weaker}
use Rattle.std.proofs.lemmas.List.Quantifiers.{Any-push}
use Rattle.std.proofs.lemmas.Bool.{ltb-true, ltb-false, false≢true}
use Rattle.std.proofs.Math.ListN.{get_or-append}
use Rattle.canvas_folder.specs.declared.generation.Generation.{Generation}
use Rattle.canvas_folder.specs.Generations.{is_whole, IsServed, later}

any_longer : (P : Generation → Type 0) (gs : List Generation) (g : Generation) → Any P gs → Any P (gs ++ g ∷ [])
any_longer P gs g a =
    (a.0, a.1, omega (arith, a.2, length-append gs (g ∷ [])), get_or-append gs (g ∷ []) a.1 a.0 a.2 ∙ a.3, a.4)

none_longer : (gs : List Generation) (g : Generation) (b : Bool) → is_whole g ≡ b → IsServed gs None → IsServed (gs ++ g ∷ []) (if b then Some g.number else None)
none_longer gs g true e all = (
  Any-push (λ x. (is_whole x ≡ true) × (x.number ≡ g.number)) gs g (e, refl),
  All-push (λ x. is_whole x ≡ true → x.number ≤ g.number) gs g (All-weaker (λ x. is_whole x ≡ false) (λ x. is_whole x ≡ true → x.number ≤ g.number) (λ x f t. absurd (false≢true (sym f ∙ t))) gs all) (λ _. omega arith),
)
none_longer gs g false e all = All-push (λ x. is_whole x ≡ false) gs g all e

higher_longer : (gs : List Generation) (g : Generation) (n : ℕ) (b : Bool) → nat_lt g.number n ≡ b → is_whole g ≡ true → IsServed gs (Some n) → IsServed (gs ++ g ∷ []) (if b then Some n else Some g.number)
higher_longer gs g n true e w s =
    (any_longer (λ x. (is_whole x ≡ true) × (x.number ≡ n)) gs g s.0, All-push (λ x. is_whole x ≡ true → x.number ≤ n) gs g s.1 (λ _. omega (arith, ltb-true g.number n e)))
higher_longer gs g n false e w s = (
  Any-push (λ x. (is_whole x ≡ true) × (x.number ≡ g.number)) gs g (w, refl),
  All-push (λ x. is_whole x ≡ true → x.number ≤ g.number) gs g (All-weaker (λ x. is_whole x ≡ true → x.number ≤ n) (λ x. is_whole x ≡ true → x.number ≤ g.number) (λ x below t. omega (arith, below t, ltb-false g.number n e)) gs s.1) (λ _. omega arith),
)

some_longer : (gs : List Generation) (g : Generation) (n : ℕ) (b : Bool) → is_whole g ≡ b → IsServed gs (Some n) → IsServed (gs ++ g ∷ []) (if b then (if nat_lt g.number n then Some n else Some g.number) else Some n)
some_longer gs g n true e s = higher_longer gs g n (nat_lt g.number n) refl e s
some_longer gs g n false e s =
    (any_longer (λ x. (is_whole x ≡ true) × (x.number ≡ n)) gs g s.0, All-push (λ x. is_whole x ≡ true → x.number ≤ n) gs g s.1 (λ t. absurd (false≢true (sym e ∙ t))))

-- with one more at the end
pub longer : (gs : List Generation) (g : Generation) (r : Option ℕ) → IsServed gs r → IsServed (gs ++ g ∷ []) (later r g)
longer gs g None s = none_longer gs g (is_whole g) refl s
longer gs g (Some n) s = some_longer gs g n (is_whole g) refl s

-- of the first i + 1 generations, by the first i and the one behind them
pub served_more : (gs : List Generation) (i : ℕ) (d : Generation) (r found : Option ℕ) → i < length gs → IsServed (take i gs) r → found ≡ later r (get_or gs i d) → IsServed (take (i + 1) gs) found
served_more gs i d r found within s is =
    let P : List Generation → Type 0 = λ xs. IsServed xs (later r (get_or gs i d)) in
    let Q : Option ℕ → Type 0 = λ x. IsServed (take (i + 1) gs) x in
    subst Q (sym is) (subst P (sym (take_more gs i d within)) (longer (take i gs) (get_or gs i d) r s))

-- of all of them
pub served_all : (gs : List Generation) (i : ℕ) (r : Option ℕ) → length gs ≤ i → IsServed (take i gs) r → IsServed gs r
served_all gs i r end s = let P : List Generation → Type 0 = λ xs. IsServed xs r in subst P (take_all i gs end) s
