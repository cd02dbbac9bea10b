-- Which trees of a line serde_json takes.
use Rattle.std.proofs.Common.{◌≡◌, ℕ, ◌+◌, ◌-◌, ◌<◌, ◌≤◌, ◌&&◌, nat_lt, Bool, true, false, List, [], ◌∷◌, ◌++◌, Option, Some, None, option_map, option_and_then, refl, sym, ap, ◌∙◌, arith, append_assoc, lt-ltb}
use Rattle.std.specs.Prelude.{is_some, IsSome}
use Rattle.std.specs.Option.{option_map_or}
use Rattle.json.specs.Token.{Token}
use Rattle.json.specs.Lex.{tokens}
use Rattle.json.specs.Json as json
use Rattle.json.specs.Tree.{depth, items_depth, members_depth, json_tokens, items_tokens, members_tokens}
use Rattle.std.proofs.lemmas.Bool.{and_parts, ltb-true, false≢true}
use Rattle.json.proofs.Found.{Some_inj, not_found}
use Rattle.json.proofs.Nesting.{value-depth}
use Rattle.serde_json.specs.Data.{Data, number, array, object, Items, item, Members, no_members, put}
use Rattle.serde_json.specs.Read.{number_of, of_json, of_items, of_members, max_depth, read}
use Rattle.canvas_json.specs.Given.{data_at}
use Rattle.canvas_json.specs.Taken.{are_taken, only_if}
use Rattle.canvas_json.proofs.Spelling.{value-spelled, value-at}

-- ---- what is taken

map_some : {A B : Type 0} (f : A → B) (o : Option A) (y : B) → option_map f o ≡ Some y → (x : A) × (o ≡ Some x)
map_some f None y e = not_found y e
map_some f (Some x) y e = (x, refl)

then_some : {A B : Type 0} (f : A → Option B) (o : Option A) (y : B) → option_and_then f o ≡ Some y → (x : A) × (o ≡ Some x) × (f x ≡ Some y)
then_some f None y e = not_found y e
then_some f (Some x) y e = (x, refl, e)

is_some_true : {A : Type 0} (o : Option A) → is_some o ≡ true → (x : A) × (o ≡ Some x)
is_some_true None e = absurd (false≢true e)
is_some_true (Some x) e = (x, refl)

-- a token that is taken only if the test holds
pub taken_if : (b : Bool) (depth : ℕ) (ts : List Token) → option_map_or (λ after. are_taken after ts) (only_if b depth) false ≡ b && are_taken depth ts
taken_if true depth ts = refl
taken_if false depth ts = refl

back : (k : ℕ) → k + 1 - 1 ≡ k
back k = omega arith

-- a part under `k` open brackets passed, and what follows it passes on
record Passed {B : Type 0} (data_of : Option B) (levels k : ℕ) (rest : Bool) : Type 0 where
  value : B
  is : data_of ≡ Some value
  shallow : levels + k ≤ max_depth
  more : rest ≡ true

mutual
  unfolding are_taken

  passed_value : (j : json.Json) (k : ℕ) (r : List Token) → k ≤ max_depth → are_taken k (json_tokens j ++ r) ≡ true → Passed (of_json j) (depth j) k (are_taken k r)
  passed_value json.null k r within h = record { value = Data.null; is = refl; shallow = omega arith; more = h }
  passed_value (json.boolean b) k r within h = record { value = Data.boolean b; is = refl; shallow = omega arith; more = h }
  passed_value (json.number s) k r within h =
      let parts = and_parts (is_some (number_of s)) (are_taken k r) (sym (taken_if (is_some (number_of s)) k r) ∙ h) in
      let n = is_some_true (number_of s) parts.0 in
      record { value = number n.0; is = ap (option_map number) n.1; shallow = omega arith; more = parts.1 }
  passed_value (json.string s) k r within h = record { value = Data.string s; is = refl; shallow = omega arith; more = h }
  passed_value (json.array js) k r within h =
      let parts = and_parts (nat_lt k max_depth) (are_taken (k + 1) (items_tokens js ++ r)) (sym (taken_if (nat_lt k max_depth) (k + 1) (items_tokens js ++ r)) ∙ h) in
      let below : k < max_depth = ltb-true k max_depth parts.0 in
      let p = passed_items js k r (omega arith) parts.1 in
      let shallow = p.shallow in
      record { value = array p.value; is = ap (option_map array) p.is; shallow = omega arith; more = p.more }
  passed_value (json.object ms) k r within h =
      let parts = and_parts (nat_lt k max_depth) (are_taken (k + 1) (members_tokens ms ++ r)) (sym (taken_if (nat_lt k max_depth) (k + 1) (members_tokens ms ++ r)) ∙ h) in
      let below : k < max_depth = ltb-true k max_depth parts.0 in
      let p = passed_members ms no_members k r (omega arith) parts.1 in
      let shallow = p.shallow in
      record { value = object p.value; is = ap (option_map object) p.is; shallow = omega arith; more = p.more }

  passed_items : (js : json.Items) (k : ℕ) (r : List Token) → k + 1 ≤ max_depth → are_taken (k + 1) (items_tokens js ++ r) ≡ true → Passed (of_items js) (items_depth js) (k + 1) (are_taken k r)
  passed_items json.no_items k r within h = record { value = Items.no_items; is = refl; shallow = omega arith; more = ap (λ n. are_taken n r) (sym (back k)) ∙ h }
  passed_items (json.item j js) k r within h =
      let first = passed_value j (k + 1) (items_tokens js ++ r) within (ap (are_taken (k + 1)) (sym (append_assoc (json_tokens j) (items_tokens js) r)) ∙ h) in
      let later = passed_items js k r within first.more in
      let one = first.shallow in
      let two = later.shallow in
      record { value = item first.value later.value; is = ap (option_and_then (λ d. option_map (item d) (of_items js))) first.is ∙ ap (option_map (item first.value)) later.is; shallow = omega arith; more = later.more }

  passed_members : (ms : json.Members) (found : Members) (k : ℕ) (r : List Token) → k + 1 ≤ max_depth → are_taken (k + 1) (members_tokens ms ++ r) ≡ true
      → Passed (of_members ms found) (members_depth ms) (k + 1) (are_taken k r)
  passed_members json.no_members found k r within h = record { value = found; is = refl; shallow = omega arith; more = ap (λ n. are_taken n r) (sym (back k)) ∙ h }
  passed_members (json.member name j ms) found k r within h =
      let first = passed_value j (k + 1) (members_tokens ms ++ r) within (ap (are_taken (k + 1)) (sym (append_assoc (json_tokens j) (members_tokens ms) r)) ∙ h) in
      let later = passed_members ms (put name first.value found) k r within first.more in
      let one = first.shallow in
      let two = later.shallow in
      record { value = later.value; is = ap (option_and_then (λ d. of_members ms (put name d found))) first.is ∙ later.is; shallow = omega arith; more = later.more }

-- ---- what is not taken

-- a part that serde_json takes passes
mutual
  unfolding are_taken

  pass_value : (j : json.Json) (d : Data) (k : ℕ) (r : List Token) → of_json j ≡ Some d → depth j + k ≤ max_depth → are_taken k (json_tokens j ++ r) ≡ are_taken k r
  pass_value json.null d k r is shallow = refl
  pass_value (json.boolean b) d k r is shallow = refl
  pass_value (json.number s) d k r is shallow = taken_if (is_some (number_of s)) k r ∙ ap (λ o. is_some o && are_taken k r) (map_some number (number_of s) d is).1
  pass_value (json.string s) d k r is shallow = refl
  pass_value (json.array js) d k r is shallow =
      let ds = map_some array (of_items js) d is in
      taken_if (nat_lt k max_depth) (k + 1) (items_tokens js ++ r) ∙ ap (λ b. b && are_taken (k + 1) (items_tokens js ++ r)) (lt-ltb k max_depth (omega arith)) ∙ pass_items js ds.0 k r ds.1 (omega arith)
  pass_value (json.object ms) d k r is shallow =
      let ds = map_some object (of_members ms no_members) d is in
      taken_if (nat_lt k max_depth) (k + 1) (members_tokens ms ++ r) ∙ ap (λ b. b && are_taken (k + 1) (members_tokens ms ++ r)) (lt-ltb k max_depth (omega arith)) ∙ pass_members ms no_members ds.0 k r ds.1 (omega arith)

  pass_items : (js : json.Items) (ds : Items) (k : ℕ) (r : List Token) → of_items js ≡ Some ds → items_depth js + (k + 1) ≤ max_depth → are_taken (k + 1) (items_tokens js ++ r) ≡ are_taken k r
  pass_items json.no_items ds k r is shallow = ap (λ n. are_taken n r) (back k)
  pass_items (json.item j js) ds k r is shallow =
      let first = then_some (λ d. option_map (item d) (of_items js)) (of_json j) ds is in
      let later = map_some (item first.0) (of_items js) ds first.2 in
      ap (are_taken (k + 1)) (append_assoc (json_tokens j) (items_tokens js) r) ∙ pass_value j first.0 (k + 1) (items_tokens js ++ r) first.1 (omega arith) ∙ pass_items js later.0 k r later.1 (omega arith)

  pass_members : (ms : json.Members) (found new : Members) (k : ℕ) (r : List Token) → of_members ms found ≡ Some new → members_depth ms + (k + 1) ≤ max_depth
      → are_taken (k + 1) (members_tokens ms ++ r) ≡ are_taken k r
  pass_members json.no_members found new k r is shallow = ap (λ n. are_taken n r) (back k)
  pass_members (json.member name j ms) found new k r is shallow =
      let first = then_some (λ d. of_members ms (put name d found)) (of_json j) new is in
      ap (are_taken (k + 1)) (append_assoc (json_tokens j) (members_tokens ms) r) ∙ pass_value j first.0 (k + 1) (members_tokens ms ++ r) first.1 (omega arith)
      ∙ pass_members ms (put name first.0 found) new k r first.2 (omega arith)

-- ---- whole texts

last : (o : Option (json.Json × List Token)) (j : json.Json) → option_and_then (λ p. json.if_last p.0 p.1) o ≡ Some j → o ≡ Some (j, [])
last None j e = not_found j e
last (Some (i, [])) j e = ap (λ x. Some (x, [])) (Some_inj i j e)
last (Some (i, t ∷ ts)) j e = not_found j e

-- a text that serde_json reads, as a tree
record Reads (text : List ℕ) : Type 0 where
  tree : json.Json
  data_of : Data
  whole : json.value max_depth (tokens text) ≡ Some (tree, [])
  is : of_json tree ≡ Some data_of

reads : (text : List ℕ) (d : Data) → read text ≡ Some d → Reads text
reads text d e =
    let o = option_and_then (λ p. json.if_last p.0 p.1) (json.value max_depth (tokens text)) in
    let j = then_some of_json o d e in
    record { tree = j.0; data_of = d; whole = last (json.value max_depth (tokens text)) j.0 j.1; is = j.2 }

reads_never : (text : List ℕ) (o : Option Data) → read text ≡ o → (Reads text → ⊥) → o ≡ None
reads_never text None e never = refl
reads_never text (Some d) e never = absurd (never (reads text d e))

-- what the grammar refuses is not read
pub read-no_document : (text : List ℕ) → json.document text ≡ None → read text ≡ None
read-no_document text none =
    reads_never text (read text) refl (λ r.
    let shallow = value-depth max_depth (tokens text) [] r.tree r.whole in
    let deeper : depth r.tree ≤ json.max_depth = omega arith in
    let whole = value-at max_depth json.max_depth (tokens text) [] r.tree r.whole deeper in
    not_found r.tree (sym none ∙ ap (option_and_then (λ p. json.if_last p.0 p.1)) whole))

-- nor is what fails the test
pub read-refused : (text : List ℕ) → are_taken 0 (tokens text) ≡ false → read text ≡ None
unfolding are_taken
read-refused text refused =
    reads_never text (read text) refl (λ r.
    let shallow = value-depth max_depth (tokens text) [] r.tree r.whole in
    let none : depth r.tree + 0 ≤ max_depth = omega arith in
    false≢true (sym refused ∙ ap (are_taken 0) (value-spelled max_depth (tokens text) [] r.tree r.whole) ∙ pass_value r.tree r.data_of 0 [] r.is none))

-- a tree that passes is read, and its tokens begin with its data
pub read-taken : (text : List ℕ) (j : json.Json) → json.document text ≡ Some j → are_taken 0 (tokens text) ≡ true → (d : Data) × (read text ≡ Some d) × (data_at (tokens text) ≡ Some d)
unfolding data_at
read-taken text j document taken =
    let whole = last (json.value json.max_depth (tokens text)) j document in
    let p = passed_value j 0 [] (omega arith) (ap (are_taken 0) (sym (value-spelled json.max_depth (tokens text) [] j whole)) ∙ taken) in
    let shallow = p.shallow in
    let read_at = value-at json.max_depth max_depth (tokens text) [] j whole (omega arith) in
    (p.value, ap (λ o. option_and_then of_json (option_and_then (λ q. json.if_last q.0 q.1) o)) read_at ∙ p.is, ap (option_and_then (λ q. of_json q.0)) read_at ∙ p.is)

-- the same from what the reader of a tape answers
pub read-tape : (text : List ℕ) (tape : List Token) → tape ≡ tokens text → IsSome (json.document text) → are_taken 0 tape ≡ true → (d : Data) × (read text ≡ Some d) × (data_at tape ≡ Some d)
read-tape text tape is some taken =
    let j = is_some_true (json.document text) some in
    let r = read-taken text j.0 j.1 (ap (are_taken 0) (sym is) ∙ taken) in
    (r.0, r.1, ap data_at is ∙ r.2)
