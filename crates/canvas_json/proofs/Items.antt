-- The items of an array, one after another, and their data.
use Rattle.std.proofs.Common.{◌≡◌, suc, ◌≤◌, List, ◌∷◌, ◌++◌, Option, Some, None, option_map, option_and_then, refl, sym, ap, ◌∙◌, subst, arith}
use Rattle.std.specs.Prelude.{⊤, MatchOption}
use Rattle.json.specs.Token.{Token}
use Rattle.json.specs.Json as json
use Rattle.json.specs.Find.{BeginsWith, InItems, NextItem}
use Rattle.json.specs.Find as seen
use Rattle.json.specs.Tree.{depth, items_depth, json_tokens}
use Rattle.json.proofs.Found.{Some_inj, not_found, opened}
use Rattle.json.proofs.Printed.Trees.{value-json_tokens}
use Rattle.serde_json.specs.Data.{Data, null, boolean, number, string, array, object, Items, no_items, item}
use Rattle.serde_json.specs.Find.{as_array}
use Rattle.serde_json.specs.Read.{of_json, of_items, max_depth}
use Rattle.canvas_json.specs.Given.{data_at, view, items_view, or_no_items, HasData, HasItems}
use Rattle.canvas_json.proofs.Spelling.{items-spelled}
use Rattle.canvas_json.proofs.Parts.{by_kind, begins, data_at-begins, view_is}

-- the rest of an array that serde_json takes, and its data
record Holds (ts : List Token) (ds : Items) : Type 0 where
  trees : json.Items
  holds : InItems ts trees
  data_is : of_items trees ≡ Some ds
  shallow : suc (items_depth trees) ≤ max_depth

abbrev IsArrayOf : json.Json → Data → Type 0
IsArrayOf j d = (ds : Items) → d ≡ array ds → (js : json.Items) × (j ≡ json.array js) × (of_items js ≡ Some ds)

other : (d : Data) (ds : Items) (j : json.Json) → as_array d ≡ None → d ≡ array ds → (js : json.Items) × (j ≡ json.array js) × (of_items js ≡ Some ds)
other d ds j none is = not_found ds (sym none ∙ ap as_array is)

is_array : (j : json.Json) (d : Data) → of_json j ≡ Some d → IsArrayOf j d
is_array =
    by_kind IsArrayOf (λ ds e. other null ds json.null refl e) (λ b ds e. other (boolean b) ds (json.boolean b) refl e) (λ s n is ds e. other (number n) ds (json.number s) refl e) (λ s ds e. other (string s) ds (json.string s) refl e)
    (λ js es is ds e. (js, refl, is ∙ ap as_array e)) (λ ms es is ds e. other (object es) ds (json.object ms) refl e)

abbrev Rest : List Token → json.Json → Type 0
Rest ts json.null = ⊤
Rest ts (json.boolean b) = ⊤
Rest ts (json.number s) = ⊤
Rest ts (json.string s) = ⊤
Rest ts (json.array js) = InItems ts js
Rest ts (json.object ms) = ⊤

rest_of : (ts : List Token) (j : json.Json) → BeginsWith (Token.begin_array ∷ ts) j → Rest ts j
rest_of ts json.null h = tt
rest_of ts (json.boolean b) h = tt
rest_of ts (json.number s) h = tt
rest_of ts (json.string s) h = tt
rest_of ts (json.array js) h = opened (Token.begin_array ∷ ts) (json.array js) h
rest_of ts (json.object ms) h = tt

items_at : (ts : List Token) (ds : Items) → data_at (Token.begin_array ∷ ts) ≡ Some (array ds) → Holds ts ds
items_at ts ds is =
    let b = begins (Token.begin_array ∷ ts) (array ds) is in
    let js = is_array b.tree (array ds) b.data_is ds refl in
    record { trees = js.0; holds = subst (Rest ts) js.1 (rest_of ts b.tree b.begins); data_is = js.2; shallow = subst (λ j. depth j ≤ max_depth) js.1 b.shallow }

pub data_at-items : (ts : List Token) (js : json.Items) (ds : Items) → InItems ts js → of_items js ≡ Some ds → suc (items_depth js) ≤ max_depth → data_at (Token.begin_array ∷ ts) ≡ Some (array ds)
data_at-items ts js ds h is shallow =
    let spelled : Token.begin_array ∷ ts ≡ json_tokens (json.array js) ++ h.2 = ap (λ us. Token.begin_array ∷ us) (items-spelled h.0 h.1 ts h.2 js h.3) in
    let begun : json.value max_depth (Token.begin_array ∷ ts) ≡ Some (json.array js, h.2) = ap (json.value max_depth) spelled ∙ value-json_tokens (json.array js) max_depth h.2 shallow in
    data_at-begins (Token.begin_array ∷ ts) (array ds) (json.array js) (max_depth, h.2, begun) (ap (option_map array) is) shallow

pub items_view_is : (ts : List Token) (ds : Items) → data_at (Token.begin_array ∷ ts) ≡ Some (array ds) → items_view ts ≡ ds
unfolding items_view
items_view_is ts ds is = ap (λ d. or_no_items (as_array d)) (view_is (Token.begin_array ∷ ts) (array ds) is)

-- ---- an array's items

abbrev pub HoldsData : Option (List Token) → Option Items → Type 0
HoldsData None o = o ≡ None
HoldsData (Some ts) o = (ds : Items) × (data_at (Token.begin_array ∷ ts) ≡ Some (array ds)) × (o ≡ Some ds)

abbrev Listed : json.Json → Data → Type 0
Listed j d = (r : Option (List Token)) → depth j ≤ max_depth → MatchOption r (seen.as_array j ≡ None) (λ rest. (js : json.Items) × (j ≡ json.array js) × InItems rest js) → HoldsData r (as_array d)

abbrev no_list : json.Json → json.Items → json.Items
no_list json.null js = js
no_list (json.boolean b) js = js
no_list (json.number s) js = js
no_list (json.string s) js = js
no_list (json.array is) js = is
no_list (json.object ms) js = js

not_listed : (j : json.Json) (d : Data) → seen.as_array j ≡ None → as_array d ≡ None → Listed j d
not_listed j d none nothing None shallow h = nothing
not_listed j d none nothing (Some ts) shallow h = not_found h.0 (sym none ∙ ap seen.as_array h.1)

listed : (js : json.Items) (ds : Items) → of_items js ≡ Some ds → Listed (json.array js) (array ds)
listed js ds is None shallow h = not_found js (sym h)
listed js ds is (Some ts) shallow h =
    let same : h.0 ≡ js = sym (ap (λ j. no_list j js) h.1) in
    (ds, data_at-items ts js ds (subst (InItems ts) same h.2) is shallow, refl)

pub items-data : (ts : List Token) (d : Data) (r : Option (List Token)) → data_at ts ≡ Some d
    → ((j : json.Json) → BeginsWith ts j → MatchOption r (seen.as_array j ≡ None) (λ rest. (js : json.Items) × (j ≡ json.array js) × InItems rest js)) → HoldsData r (as_array d)
items-data ts d r is items =
    let b = begins ts d is in
    by_kind Listed (not_listed json.null null refl refl) (λ x. not_listed (json.boolean x) (boolean x) refl refl) (λ s n e. not_listed (json.number s) (number n) refl refl)
    (λ s. not_listed (json.string s) (string s) refl refl) listed (λ ms es e. not_listed (json.object ms) (object es) refl refl) b.tree d b.data_is r b.shallow (items b.tree b.begins)

-- ---- the next item

-- r stands at the first of the items, and `new` at those after it
abbrev pub NextData : Items → Option (List Token) → List Token → Type 0
NextData ds None new = ds ≡ no_items
NextData ds (Some ts) new = (d : Data) × (rest : Items) × (data_at ts ≡ Some d) × (data_at (Token.begin_array ∷ new) ≡ Some (array rest)) × (ds ≡ item d rest)

record Taken (j : json.Json) (js : json.Items) (ds : Items) : Type 0 where
  first : Data
  rest : Items
  first_is : of_json j ≡ Some first
  rest_is : of_items js ≡ Some rest
  whole : ds ≡ item first rest

split_rest : (j : json.Json) (js : json.Items) (ds : Items) (d : Data) → of_json j ≡ Some d → (o : Option Items) → of_items js ≡ o → option_map (item d) o ≡ Some ds → Taken j js ds
split_rest j js ds d is None e h = not_found ds h
split_rest j js ds d is (Some es) e h = record { first = d; rest = es; first_is = is; rest_is = e; whole = sym (Some_inj (item d es) ds h) }

split : (j : json.Json) (js : json.Items) (ds : Items) (o : Option Data) → of_json j ≡ o → option_and_then (λ d. option_map (item d) (of_items js)) o ≡ Some ds → Taken j js ds
split j js ds None e h = not_found ds h
split j js ds (Some d) e h = split_rest j js ds d e (of_items js) refl h

next_of : (old new : List Token) (r : Option (List Token)) (js : json.Items) (ds : Items) → of_items js ≡ Some ds → suc (items_depth js) ≤ max_depth
    → MatchOption r (js ≡ json.no_items) (λ ts. (j : json.Json) × (rest : json.Items) × (js ≡ json.item j rest) × BeginsWith ts j × InItems new rest) → NextData ds r new
next_of old new None js ds is shallow h = sym (Some_inj no_items ds (sym (ap of_items h) ∙ is))
next_of old new (Some ts) js ds is shallow h =
    let t = split h.0 h.1 ds (of_json h.0) refl (sym (ap of_items h.2) ∙ is) in
    let within : suc (items_depth (json.item h.0 h.1)) ≤ max_depth = subst (λ us. suc (items_depth us) ≤ max_depth) h.2 shallow in
    (t.first, t.rest, data_at-begins ts t.first h.0 h.3 t.first_is (omega arith), data_at-items new h.1 t.rest h.4 t.rest_is (omega arith), t.whole)

pub next-data : (old new : List Token) (ds : Items) (r : Option (List Token)) → data_at (Token.begin_array ∷ old) ≡ Some (array ds) → NextItem old r new → NextData ds r new
next-data old new ds r is next =
    let held = items_at old ds is in
    next_of old new r held.trees ds held.data_is held.shallow (next held.trees held.holds)

pub items_in : (ts us : List Token) (r : Option (List Token)) → HasData ts → ts ≡ us
    → ((j : json.Json) → BeginsWith ts j → MatchOption r (seen.as_array j ≡ None) (λ rest. (js : json.Items) × (j ≡ json.array js) × InItems rest js)) → HoldsData r (as_array (view us))
items_in ts us r h e items = subst (λ d. HoldsData r (as_array d)) (sym (view_is ts h.0 h.1) ∙ ap view e) (items-data ts h.0 r h.1 items)

pub next_in : (ts us new : List Token) (r : Option (List Token)) → HasItems ts → ts ≡ us → NextItem ts r new → NextData (items_view us) r new
next_in ts us new r h e next = subst (λ ds. NextData ds r new) (sym (items_view_is ts h.0 h.1) ∙ ap items_view e) (next-data ts new h.0 r h.1 next)
