-- What the grammar reads is spelled by the tokens that it took.
use Rattle.std.proofs.Common.{◌≡◌, ℕ, zero, suc, ◌≤◌, List, [], ◌∷◌, ◌++◌, length, Option, Some, None, option_and_then, refl, sym, ap, ◌∙◌, subst, append_assoc}
use Rattle.std.specs.Prelude.{⊤}
use Rattle.json.specs.Token.{Token}
use Rattle.json.specs.Json.{Json, array, object, Items, item, Members, member, Parse, parse_map, after_end_array, read_key, items_step, members_step, items, members, value_with, value}
use Rattle.json.specs.Tree.{json_tokens, items_tokens, members_tokens, depth}
use Rattle.json.proofs.Grammar.{closed_array, read_key_is}
use Rattle.json.proofs.Printed.Trees.{value-json_tokens}

abbrev Spells : {A : Type 0} → (A → List Token) → List Token → Option (A × List Token) → Type 0
Spells f ts None = ⊤
Spells f ts (Some p) = ts ≡ f p.0 ++ p.1

abbrev IsSpelled : {A : Type 0} → (A → List Token) → Parse A → Type 0
IsSpelled f p = (ts : List Token) → Spells f ts (p ts)

in_array : (ts : List Token) (o : Option (Items × List Token)) → Spells items_tokens ts o → Spells json_tokens (Token.begin_array ∷ ts) (parse_map array o)
in_array ts None h = tt
in_array ts (Some p) h = ap (λ us. Token.begin_array ∷ us) h

in_object : (ts : List Token) (o : Option (Members × List Token)) → Spells members_tokens ts o → Spells json_tokens (Token.begin_object ∷ ts) (parse_map object o)
in_object ts None h = tt
in_object ts (Some p) h = ap (λ us. Token.begin_object ∷ us) h

more_items : (ts : List Token) (q : Json × List Token) → ts ≡ json_tokens q.0 ++ q.1 → (o : Option (Items × List Token)) → Spells items_tokens q.1 o → Spells items_tokens ts (parse_map (item q.0) o)
more_items ts q e None h = tt
more_items ts q e (Some p) h = e ∙ ap (λ us. json_tokens q.0 ++ us) h ∙ sym (append_assoc (json_tokens q.0) (items_tokens p.0) p.1)

more_members : (k : List ℕ) (ts : List Token) (q : Json × List Token) → ts ≡ json_tokens q.0 ++ q.1 → (o : Option (Members × List Token)) → Spells members_tokens q.1 o
    → Spells members_tokens (Token.key k ∷ ts) (parse_map (member k q.0) o)
more_members k ts q e None h = tt
more_members k ts q e (Some p) h = ap (λ us. Token.key k ∷ us) (e ∙ ap (λ us. json_tokens q.0 ++ us) h ∙ sym (append_assoc (json_tokens q.0) (members_tokens p.0) p.1))

module _ (p : Parse Json) (spelled : IsSpelled json_tokens p) where
  first_item : (more : Parse Items) → IsSpelled items_tokens more → (ts : List Token) (o : Option (Json × List Token)) → Spells json_tokens ts o
      → Spells items_tokens ts (option_and_then (λ q. parse_map (item q.0) (more q.1)) o)
  first_item more again ts None h = tt
  first_item more again ts (Some q) h = more_items ts q h (more q.1) (again q.1)

  item_turn : (more : Parse Items) → IsSpelled items_tokens more → (ts : List Token) (o : Option (List Token)) → after_end_array ts ≡ o → Spells items_tokens ts (items_step p more ts o)
  item_turn more again ts (Some r) e = closed_array ts r e
  item_turn more again ts None e = first_item more again ts (p ts) (spelled ts)

  spelled_items : (n : ℕ) → IsSpelled items_tokens (items p n)
  unfolding items
  spelled_items zero ts = tt
  spelled_items (suc n) ts = item_turn (items p n) (spelled_items n) ts (after_end_array ts) refl

  first_member : (k : List ℕ) (more : Parse Members) → IsSpelled members_tokens more → (ts : List Token) (o : Option (Json × List Token)) → Spells json_tokens ts o
      → Spells members_tokens (Token.key k ∷ ts) (option_and_then (λ q. parse_map (member k q.0) (more q.1)) o)
  first_member k more again ts None h = tt
  first_member k more again ts (Some q) h = more_members k ts q h (more q.1) (again q.1)

  member_turn : (more : Parse Members) → IsSpelled members_tokens more → (ts : List Token) (o : Option (Option (List ℕ) × List Token)) → read_key ts ≡ o
      → Spells members_tokens ts (option_and_then (λ q. members_step p more q.0 q.1) o)
  member_turn more again ts None e = tt
  member_turn more again ts (Some (None, s)) e = read_key_is ts None s e
  member_turn more again ts (Some (Some k, s)) e =
      subst (λ us. Spells members_tokens us (members_step p more (Some k) s)) (sym (read_key_is ts (Some k) s e)) (first_member k more again s (p s) (spelled s))

  spelled_members : (n : ℕ) → IsSpelled members_tokens (members p n)
  unfolding members
  spelled_members zero ts = tt
  spelled_members (suc n) ts = member_turn (members p n) (spelled_members n) ts (read_key ts) refl

spelled_value_with : (a : Parse Items) (o : Parse Members) → IsSpelled items_tokens a → IsSpelled members_tokens o → IsSpelled json_tokens (value_with a o)
spelled_value_with a o p q [] = tt
spelled_value_with a o p q (Token.begin_object ∷ ts) = in_object ts (o ts) (q ts)
spelled_value_with a o p q (Token.end_object ∷ ts) = tt
spelled_value_with a o p q (Token.begin_array ∷ ts) = in_array ts (a ts) (p ts)
spelled_value_with a o p q (Token.end_array ∷ ts) = tt
spelled_value_with a o p q (Token.key s ∷ ts) = tt
spelled_value_with a o p q (Token.string s ∷ ts) = refl
spelled_value_with a o p q (Token.number s ∷ ts) = refl
spelled_value_with a o p q (Token.boolean b ∷ ts) = refl
spelled_value_with a o p q (Token.null ∷ ts) = refl
spelled_value_with a o p q (Token.bad ∷ ts) = tt

spelled_value : (d : ℕ) → IsSpelled json_tokens (value d)
unfolding value
spelled_value zero = spelled_value_with (λ ts. None) (λ ts. None) (λ ts. tt) (λ ts. tt)
spelled_value (suc d) =
    spelled_value_with (λ ts. items (value d) (length ts) ts) (λ ts. members (value d) (length ts) ts) (λ ts. spelled_items (value d) (spelled_value d) (length ts) ts)
    (λ ts. spelled_members (value d) (spelled_value d) (length ts) ts)

-- the tokens of a value that was read
pub value-spelled : (d : ℕ) (ts r : List Token) (j : Json) → value d ts ≡ Some (j, r) → ts ≡ json_tokens j ++ r
value-spelled d ts r j e = subst (Spells json_tokens ts) e (spelled_value d ts)

-- the same of items
pub items-spelled : (d n : ℕ) (ts r : List Token) (js : Items) → items (value d) n ts ≡ Some (js, r) → ts ≡ items_tokens js ++ r
items-spelled d n ts r js e = subst (Spells items_tokens ts) e (spelled_items (value d) (spelled_value d) n ts)

-- a value is read at any depth that is enough for it
pub value-at : (d e : ℕ) (ts r : List Token) (j : Json) → value d ts ≡ Some (j, r) → depth j ≤ e → value e ts ≡ Some (j, r)
value-at d e ts r j is shallow = ap (value e) (value-spelled d ts r j is) ∙ value-json_tokens j e r shallow
