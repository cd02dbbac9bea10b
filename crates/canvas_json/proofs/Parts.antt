-- The parts of a value, as the tokens have them and as its data has them.
use Rattle.std.proofs.Common.{◌≡◌, ℕ, suc, ◌≤◌, max, Bool, true, false, cond, ◌||◌, List, Option, Some, None, option_map, option_and_then, Ordering, Less, Equal, Greater, is_eq, nat_cmp, bytes_eq, refl, sym, ap, ◌∙◌, subst, arith}
use Rattle.std.specs.Prelude.{⊤, is_some, MatchOption}
use Rattle.std.specs.List.{list_any}
use Rattle.std.proofs.lemmas.Slice.Eq.{bytes_eq-Decides}
use Rattle.std.proofs.lemmas.Map.Text.{is_eq-slice_cmp}
use Rattle.std.specs.Cmp.Lexicographic.{slice_cmp}
use Rattle.std.specs.Ordering.{match_ordering}
use Rattle.json.specs.Token.{Token}
use Rattle.json.specs.Json as json
use Rattle.json.specs.Find.{BeginsWith, InMembers, Finds, later_or}
use Rattle.json.specs.Find as seen
use Rattle.json.specs.Tree.{depth, members_depth}
use Rattle.json.proofs.Found.{Some_inj, not_found}
use Rattle.json.proofs.Nesting.{value-depth}
use Rattle.serde_json.specs.Data.{Num, Data, null, boolean, number, string, array, object, Items, Members, no_members, member, put}
use Rattle.serde_json.specs.Find.{get, get_member, as_null, as_bool, as_number, as_str, as_object}
use Rattle.serde_json.specs.Read.{number_of, of_json, of_items, of_members, max_depth}
use Rattle.serde_json.proofs.Views.{get_member-put, get_member-put_other}
use Rattle.canvas_json.specs.Given.{data_at, view, or_null, HasData}
use Rattle.canvas_json.specs.Json.{names_of}
use Rattle.canvas_json.specs.MemberNames.{given_names, HoldsNames}
use Rattle.canvas_json.proofs.Spelling.{value-at}

-- ---- what tokens begin with

-- a value that serde_json takes, and its data
pub record Begins (ts : List Token) (d : Data) : Type 0 where
  pub tree : json.Json
  pub begins : BeginsWith ts tree
  pub data_is : of_json tree ≡ Some d
  pub shallow : depth tree ≤ max_depth

begins_at : (ts : List Token) (d : Data) (o : Option (json.Json × List Token)) → json.value max_depth ts ≡ o → option_and_then (λ p. of_json p.0) o ≡ Some d → Begins ts d
begins_at ts d None e is = not_found d is
begins_at ts d (Some p) e is = record { tree = p.0; begins = (max_depth, p.1, e); data_is = is; shallow = value-depth max_depth ts p.1 p.0 e }

pub begins : (ts : List Token) (d : Data) → data_at ts ≡ Some d → Begins ts d
unfolding data_at
begins ts d is = begins_at ts d (json.value max_depth ts) refl is

pub data_at-begins : (ts : List Token) (d : Data) (j : json.Json) → BeginsWith ts j → of_json j ≡ Some d → depth j ≤ max_depth → data_at ts ≡ Some d
unfolding data_at
data_at-begins ts d j h is shallow = ap (option_and_then (λ p. of_json p.0)) (value-at h.0 max_depth ts h.1 j h.2 shallow) ∙ is

pub view_is : (ts : List Token) (d : Data) → data_at ts ≡ Some d → view ts ≡ d
unfolding view
view_is ts d is = ap or_null is

-- ---- a value and its data, kind by kind

abbrev Each : (Data → Type 0) → Option Data → Type 0
Each P None = ⊤
Each P (Some d) = P d

each_of : {A : Type 0} (P : Data → Type 0) (f : A → Data) (o : Option A) → ((a : A) → o ≡ Some a → P (f a)) → Each P (option_map f o)
each_of P f None h = tt
each_of P f (Some a) h = h a refl

module _ (R : json.Json → Data → Type 0) where
  each_kind : R json.null null → ((b : Bool) → R (json.boolean b) (boolean b)) → ((s : List ℕ) (n : Num) → number_of s ≡ Some n → R (json.number s) (number n))
      → ((s : List ℕ) → R (json.string s) (string s)) → ((js : json.Items) (ds : Items) → of_items js ≡ Some ds → R (json.array js) (array ds))
      → ((ms : json.Members) (ds : Members) → of_members ms no_members ≡ Some ds → R (json.object ms) (object ds)) → (j : json.Json) → Each (R j) (of_json j)
  each_kind n b num s a o json.null = n
  each_kind n b num s a o (json.boolean x) = b x
  each_kind n b num s a o (json.number x) = each_of (R (json.number x)) number (number_of x) (num x)
  each_kind n b num s a o (json.string x) = s x
  each_kind n b num s a o (json.array js) = each_of (R (json.array js)) array (of_items js) (a js)
  each_kind n b num s a o (json.object ms) = each_of (R (json.object ms)) object (of_members ms no_members) (o ms)

  pub by_kind : R json.null null → ((b : Bool) → R (json.boolean b) (boolean b)) → ((s : List ℕ) (n : Num) → number_of s ≡ Some n → R (json.number s) (number n))
      → ((s : List ℕ) → R (json.string s) (string s)) → ((js : json.Items) (ds : Items) → of_items js ≡ Some ds → R (json.array js) (array ds))
      → ((ms : json.Members) (ds : Members) → of_members ms no_members ≡ Some ds → R (json.object ms) (object ds)) → (j : json.Json) (d : Data) → of_json j ≡ Some d → R j d
  by_kind n b num s a o j d is = subst (Each (R j)) is (each_kind n b num s a o j)

pub same_str : (j : json.Json) (d : Data) → of_json j ≡ Some d → seen.as_str j ≡ as_str d
same_str = by_kind (λ j d. seen.as_str j ≡ as_str d) refl (λ b. refl) (λ s n e. refl) (λ s. refl) (λ js ds e. refl) (λ ms ds e. refl)

pub same_bool : (j : json.Json) (d : Data) → of_json j ≡ Some d → seen.as_bool j ≡ as_bool d
same_bool = by_kind (λ j d. seen.as_bool j ≡ as_bool d) refl (λ b. refl) (λ s n e. refl) (λ s. refl) (λ js ds e. refl) (λ ms ds e. refl)

pub same_null : (j : json.Json) (d : Data) → of_json j ≡ Some d → seen.is_null j ≡ is_some (as_null d)
same_null = by_kind (λ j d. seen.is_null j ≡ is_some (as_null d)) refl (λ b. refl) (λ s n e. refl) (λ s. refl) (λ js ds e. refl) (λ ms ds e. refl)

pub same_number : (j : json.Json) (d : Data) → of_json j ≡ Some d → option_and_then number_of (seen.as_number j) ≡ as_number d
same_number = by_kind (λ j d. option_and_then number_of (seen.as_number j) ≡ as_number d) refl (λ b. refl) (λ s n e. e) (λ s. refl) (λ js ds e. refl) (λ ms ds e. refl)

-- ---- members

abbrev Found : Option json.Json → Option Data → Option Data → Type 0
Found None old new = new ≡ old
Found (Some j) old new = (d : Data) × (of_json j ≡ Some d) × (new ≡ Some d)

put_one : (name k : List ℕ) (j : json.Json) (d : Data) (old : Members) (new : Option Data) → of_json j ≡ Some d → (o : Option json.Json) (b : Bool) → bytes_eq k name ≡ b → Found o (get_member name (put k d old)) new
    → Found (later_or o (cond b (Some j) None)) (get_member name old) new
put_one name k j d old new is (Some i) b e h = h
put_one name k j d old new is None true e h =
    let same : k ≡ name = (bytes_eq-Decides k name).0 e in
    (d, is, h ∙ subst (λ q. get_member q (put k d old) ≡ Some d) same (get_member-put k d old))
put_one name k j d old new is None false e h =
    h ∙ get_member-put_other name k d old (λ same. let equal : bytes_eq k name ≡ true = (bytes_eq-Decides k name).1 (sym same) in cc)

first_put : (name k : List ℕ) (j : json.Json) (ms : json.Members) (old new : Members) → ((d : Data) → of_members ms (put k d old) ≡ Some new → Found (seen.get_member name ms) (get_member name (put k d old)) (get_member name new))
    → (o : Option Data) → of_json j ≡ o → option_and_then (λ d. of_members ms (put k d old)) o ≡ Some new → Found (later_or (seen.get_member name ms) (cond (bytes_eq k name) (Some j) None)) (get_member name old) (get_member name new)
first_put name k j ms old new later None e h = not_found new h
first_put name k j ms old new later (Some d) e h = put_one name k j d old (get_member name new) e (seen.get_member name ms) (bytes_eq k name) refl (later d h)

found_in : (name : List ℕ) (ms : json.Members) (old new : Members) → of_members ms old ≡ Some new → Found (seen.get_member name ms) (get_member name old) (get_member name new)
found_in name json.no_members old new is = ap (get_member name) (sym (Some_inj old new is))
found_in name (json.member k j ms) old new is = first_put name k j ms old new (λ d. found_in name ms (put k d old) new) (of_json j) refl is

found_member : (name : List ℕ) (j : json.Json) (d : Data) → of_json j ≡ Some d → Found (seen.get name j) None (get name d)
found_member name =
    by_kind (λ j d. Found (seen.get name j) None (get name d)) refl (λ b. refl) (λ s n e. refl) (λ s. refl) (λ js ds e. refl) (λ ms ds e. found_in name ms no_members ds e)

abbrev AtMost : ℕ → Option json.Json → Type 0
AtMost n None = ⊤
AtMost n (Some j) = depth j ≤ n

AtMost-later_or : (n : ℕ) (o : Option json.Json) (b : Bool) (j : json.Json) → AtMost n o → depth j ≤ n → AtMost n (later_or o (cond b (Some j) None))
AtMost-later_or n (Some i) b j h shallow = h
AtMost-later_or n None true j h shallow = shallow
AtMost-later_or n None false j h shallow = tt

AtMost-more : (m n : ℕ) (o : Option json.Json) → m ≤ n → AtMost m o → AtMost n o
AtMost-more m n None le h = tt
AtMost-more m n (Some j) le h = omega arith

depth-members : (name : List ℕ) (ms : json.Members) → AtMost (members_depth ms) (seen.get_member name ms)
depth-members name json.no_members = tt
depth-members name (json.member k j ms) =
    AtMost-later_or (max (depth j) (members_depth ms)) (seen.get_member name ms) (bytes_eq k name) j (AtMost-more (members_depth ms) (max (depth j) (members_depth ms)) (seen.get_member name ms) (omega arith) (depth-members name ms)) (omega arith)

depth-get : (name : List ℕ) (j : json.Json) → AtMost (depth j) (seen.get name j)
depth-get name json.null = tt
depth-get name (json.boolean b) = tt
depth-get name (json.number s) = tt
depth-get name (json.string s) = tt
depth-get name (json.array js) = tt
depth-get name (json.object ms) = AtMost-more (members_depth ms) (suc (members_depth ms)) (seen.get_member name ms) (omega arith) (depth-members name ms)

-- what a look-up finds, as data: r stands where that begins
abbrev pub FindsData : Option (List Token) → Option Data → Type 0
FindsData None o = o ≡ None
FindsData (Some ts) o = (d : Data) × (data_at ts ≡ Some d) × (o ≡ Some d)

part_at : (r : Option (List Token)) (o : Option json.Json) (new : Option Data) → Finds r o → Found o None new → AtMost max_depth o → FindsData r new
part_at None o new finds h shallow = subst (λ p. Found p None new) finds h
part_at (Some ts) o new finds h shallow =
    let is : (d : Data) × (of_json finds.0 ≡ Some d) × (new ≡ Some d) = subst (λ p. Found p None new) finds.1 h in
    (is.0, data_at-begins ts is.0 finds.0 finds.2 is.1 (subst (AtMost max_depth) finds.1 shallow), is.2)

pub get-data : (ts : List Token) (d : Data) (name : List ℕ) (r : Option (List Token)) → data_at ts ≡ Some d → ((j : json.Json) → BeginsWith ts j → Finds r (seen.get name j)) → FindsData r (get name d)
get-data ts d name r is finds =
    let b = begins ts d is in
    part_at r (seen.get name b.tree) (get name d) (finds b.tree b.begins) (found_member name b.tree d b.data_is) (AtMost-more (depth b.tree) max_depth (seen.get name b.tree) b.shallow (depth-get name b.tree))

-- ---- names

or_assoc : (a b c : Bool) → (a || b) || c ≡ a || (b || c)
or_assoc true b c = refl
or_assoc false b c = refl

any_swap : (a b c : Bool) → a || (b || c) ≡ b || (a || c)
any_swap true true c = refl
any_swap true false c = refl
any_swap false true c = refl
any_swap false false c = refl

any_twice : (a c : Bool) → a || (a || c) ≡ a || c
any_twice true c = refl
any_twice false c = refl

module _ (p : List ℕ → Bool) where
  any_put_at : (o : Ordering) (k l : List ℕ) (d e : Data) (ms : Members) → slice_cmp nat_cmp k l ≡ o → list_any p (names_of (put k d ms)) ≡ p k || list_any p (names_of ms)
      → list_any p (names_of (match_ordering o (member k d (member l e ms)) (member l d ms) (member l e (put k d ms)))) ≡ p k || (p l || list_any p (names_of ms))
  any_put_at Less k l d e ms is later = refl
  any_put_at Equal k l d e ms is later =
      let same : k ≡ l = (bytes_eq-Decides k l).0 (sym (is_eq-slice_cmp k l) ∙ ap is_eq is) in
      sym (ap (λ q. p q || (p l || list_any p (names_of ms))) same ∙ any_twice (p l) (list_any p (names_of ms)))
  any_put_at Greater k l d e ms is later = ap (λ b. p l || b) later ∙ any_swap (p l) (p k) (list_any p (names_of ms))

  any_put : (k : List ℕ) (d : Data) (ms : Members) → list_any p (names_of (put k d ms)) ≡ p k || list_any p (names_of ms)
  any_put k d no_members = refl
  any_put k d (member l e ms) = any_put_at (slice_cmp nat_cmp k l) k l d e ms refl (any_put k d ms)

  any_first : (k : List ℕ) (ms : json.Members) (old new : Members) → ((d : Data) → of_members ms (put k d old) ≡ Some new → list_any p (names_of new) ≡ list_any p (given_names ms) || list_any p (names_of (put k d old)))
      → (o : Option Data) → option_and_then (λ d. of_members ms (put k d old)) o ≡ Some new → list_any p (names_of new) ≡ (p k || list_any p (given_names ms)) || list_any p (names_of old)
  any_first k ms old new later None h = not_found new h
  any_first k ms old new later (Some d) h =
      later d h ∙ ap (λ b. list_any p (given_names ms) || b) (any_put k d old) ∙ any_swap (list_any p (given_names ms)) (p k) (list_any p (names_of old)) ∙ sym (or_assoc (p k) (list_any p (given_names ms)) (list_any p (names_of old)))

  any_name : (ms : json.Members) (old new : Members) → of_members ms old ≡ Some new → list_any p (names_of new) ≡ list_any p (given_names ms) || list_any p (names_of old)
  any_name json.no_members old new is = ap (λ ns. list_any p (names_of ns)) (sym (Some_inj old new is))
  any_name (json.member k j ms) old new is = any_first k ms old new (λ d. any_name ms (put k d old) new) (of_json j) is

-- ---- the members of an object

abbrev Named : json.Json → Data → Type 0
Named j d = (r : Option (List Token)) → MatchOption r (seen.as_object j ≡ None) (λ rest. (ms : json.Members) × (j ≡ json.object ms) × InMembers rest ms) → HoldsNames r (as_object d)

not_named : (j : json.Json) (d : Data) → seen.as_object j ≡ None → as_object d ≡ None → Named j d
not_named j d none nothing None h = nothing
not_named j d none nothing (Some ts) h = not_found h.0 (sym none ∙ ap seen.as_object h.1)

or_false : (b : Bool) → b || false ≡ b
or_false true = refl
or_false false = refl

abbrev members_or : json.Members → Option json.Members → json.Members
members_or ms None = ms
members_or ms (Some ns) = ns

named : (ms : json.Members) (ds : Members) → of_members ms no_members ≡ Some ds → Named (json.object ms) (object ds)
named ms ds is None h = not_found ms (sym h)
named ms ds is (Some ts) h =
    let same : h.0 ≡ ms = sym (ap (λ j. members_or ms (seen.as_object j)) h.1) in
    (ms, ds, refl, subst (InMembers ts) same h.2, λ test. sym (any_name test ms no_members ds is ∙ or_false (list_any test (given_names ms))))

pub members-data : (ts : List Token) (d : Data) (r : Option (List Token)) → data_at ts ≡ Some d
    → ((j : json.Json) → BeginsWith ts j → MatchOption r (seen.as_object j ≡ None) (λ rest. (ms : json.Members) × (j ≡ json.object ms) × InMembers rest ms)) → HoldsNames r (as_object d)
members-data ts d r is members =
    let b = begins ts d is in
    by_kind Named (not_named json.null null refl refl) (λ x. not_named (json.boolean x) (boolean x) refl refl) (λ s n e. not_named (json.number s) (number n) refl refl)
    (λ s. not_named (json.string s) (string s) refl refl) (λ js es e. not_named (json.array js) (array es) refl refl) named b.tree d b.data_is r (members b.tree b.begins)

-- what a question to a value says of its data
pub seen_as : {X : Type 0} (f : json.Json → X) (g : Data → X) → ((j : json.Json) (d : Data) → of_json j ≡ Some d → f j ≡ g d) → (ts us : List Token) (r : X) → HasData ts → ts ≡ us → ((j : json.Json) → BeginsWith ts j → r ≡ f j)
    → r ≡ g (view us)
seen_as f g same ts us r h e is = let b = begins ts h.0 h.1 in is b.tree b.begins ∙ same b.tree h.0 b.data_is ∙ ap g (sym (view_is ts h.0 h.1) ∙ ap view e)

pub get_in : (ts us : List Token) (name : List ℕ) (r : Option (List Token)) → HasData ts → ts ≡ us → ((j : json.Json) → BeginsWith ts j → Finds r (seen.get name j)) → FindsData r (get name (view us))
get_in ts us name r h e finds = subst (λ d. FindsData r (get name d)) (sym (view_is ts h.0 h.1) ∙ ap view e) (get-data ts h.0 name r h.1 finds)

pub members_in : (ts us : List Token) (r : Option (List Token)) → HasData ts → ts ≡ us
    → ((j : json.Json) → BeginsWith ts j → MatchOption r (seen.as_object j ≡ None) (λ rest. (ms : json.Members) × (j ≡ json.object ms) × InMembers rest ms)) → HoldsNames r (as_object (view us))
members_in ts us r h e members = subst (λ d. HoldsNames r (as_object d)) (sym (view_is ts h.0 h.1) ∙ ap view e) (members-data ts h.0 r h.1 members)
