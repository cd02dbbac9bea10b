-- A document's lists after the children of a parent got new indexes.
use Rattle.std.proofs.Common.{◌≡◌, ◌≢◌, ℕ, zero, suc, ◌+◌, ◌-◌, ◌<◌, ◌≤◌, ◌==◌, List, [], ◌∷◌, ◌++◌, true, false, cond, Option, Some, None, refl, sym, ap, subst, ◌∙◌, arith, inl, inr, All, filter, map, length, get_or, set, take, drop}
use Rattle.std.specs.List.{Contains}
use Rattle.std.specs.List.Sorted.{IsStrictlySortedBy}
use Rattle.std.specs.Option.{option_or, unwrap_or}
use Rattle.std.specs.declared.cmp.Ordering.{Ordering}
use Rattle.std.specs.declared.cmp.Ordering.TheVariants.{Less, Equal, Greater}
use Rattle.std.specs.Ordering.{is_eq, is_lt, nat_cmp, ordering_then}
use Rattle.std.specs.Cmp.Lexicographic.{slice_cmp}
use Rattle.std.proofs.Math.ListN.{length-set}
use Rattle.std.proofs.lemmas.Bool.{cases_Bool, eq-eqb, eqb-true, true≢false}
use Rattle.std.proofs.lemmas.List.{append_assoc, drop-drop, get_or-map, get_or-set_other, get_or-set_same, get_or-take, get_or_default, length-append, length-map, length-take-le, map-append, nil_from_length, same_lists, take-append-drop, take_more}
use Rattle.std.proofs.lemmas.List.Elements.{All-contains, All-head, All-tail, Contains-get_or, filter-append}
use Rattle.std.proofs.lemmas.List.Folds.{find-append}
use Rattle.std.proofs.lemmas.List.Kept.{IsStrictlySortedBy-filter}
use Rattle.std.proofs.lemmas.Map.Keys.{Less-from_sorted}
use Rattle.canvas_record.specs.declared.records.Parent.{Parent}
use Rattle.canvas_record.specs.declared.records.Record.{Record}
use Rattle.canvas_record.specs.Children.{is_child, same_parent}
use Rattle.canvas_record.specs.Contents.{record_of, AreRising, HaveIds, StandsAt, most_records}
use Rattle.canvas_record.specs.Effect.{respaced}
use Rattle.canvas_doc.specs.PlaceOrder.{by_parent, comes_first, AreChildrenWithin, IsInPlaceOrder}
use Rattle.canvas_record.specs.Tree.{HavePlaces}
use Rattle.canvas_doc.proofs.places.ByPlace.{sorted-from}
use Rattle.canvas_doc.proofs.tree.Found.{found-none, other-id, found-has}
use Rattle.canvas_doc.proofs.tree.OneChanged.{absent-id, id-only-here}
use Rattle.canvas_doc.proofs.places.Placed.{holder-eq}
use Rattle.canvas_doc.proofs.places.Reordered.{is-in, listed-in, passed-in, places-once, same-record}
use Rattle.canvas_doc.proofs.spacing.Respaced.{IsIn, in_front-respaced, respaced-keeps}
use Rattle.canvas_doc.proofs.spacing.Spaced.{all-passing, respaced-id, respaced-other, respaced-same}
use Rattle.canvas_doc.proofs.lists.Tests.{less-from_lt}
use Rattle.canvas_doc.proofs.tree.Parents.{same_parent-itself}
use Rattle.canvas_doc.proofs.lists.SameMembers.{passing-has}

-- the record that has an id where no id stands twice
pub found-once : (xs : List Record) (i id : ℕ) (r : Record) → HaveIds xs → i < length xs → get_or xs i r ≡ r → r.id ≡ id → record_of id xs ≡ Some r
found-once [] i id r h l e f = absurd (omega arith)
found-once (x ∷ xs) zero id r h l e f =
    ap (λ b. cond b (Some x) (record_of id xs)) (eq-eqb x.id id (ap (λ (y : Record). y.id) e ∙ f)) ∙ ap Some e
found-once (x ∷ xs) (suc i) id r h l e f =
    let other : (x.id == id) ≡ false = other-id x.id id (λ g. h 0 (suc i) r (omega arith) l (g ∙ sym f ∙ ap (λ (y : Record). y.id) (sym e))) in
    ap (λ b. cond b (Some x) (record_of id xs)) other
    ∙ found-once xs i id r (λ j k d a b. h (suc j) (suc k) d (omega arith) (omega arith)) (omega arith) e f

or-none : (f : Option Record) (r : Record) → unwrap_or (option_or f None) r ≡ unwrap_or f r
or-none None r = refl
or-none (Some x) r = refl

-- with one more record put in
pub step-at : (others : List Record) (k : ℕ) (o r : Record) → HaveIds others → k < length others → o ≡ get_or others k o → unwrap_or (record_of r.id (take (k + 1) others)) r ≡ cond (o.id == r.id) o (unwrap_or (record_of r.id (take k others)) r)
step-at others k o r once b e =
    let long : length (take k others) ≡ k = length-take-le k others (omega arith) in
    ap (λ l. unwrap_or (record_of r.id l) r) (take_more others k o b ∙ ap (λ x. take k others ++ x ∷ []) (sym e))
    ∙ ap (λ f. unwrap_or f r) (find-append (λ s. s.id == r.id) (take k others) (o ∷ []))
    ∙ elim (cases_Bool (o.id == r.id)) [
      | inl t ↦ (
          let none : None ≡ record_of r.id (take k others) = found-none (take k others) r.id (λ j d l f.
          once j k d (omega arith) b (ap (λ (x : Record). x.id) (sym (get_or-take k others j d (omega arith))) ∙ f ∙ sym (eqb-true o.id r.id t) ∙ ap (λ (x : Record). x.id) (e ∙ get_or_default others k o d b))) in
          ap (λ f. unwrap_or (option_or f (cond (o.id == r.id) (Some o) None)) r) (sym none)
          ∙ ap (λ q. unwrap_or (cond q (Some o) None) r) t
          ∙ ap (λ q. cond q o (unwrap_or (record_of r.id (take k others)) r)) (sym t))
      | inr f ↦
          ap (λ q. unwrap_or (option_or (record_of r.id (take k others)) (cond q (Some o) None)) r) f
          ∙ or-none (record_of r.id (take k others)) r
          ∙ ap (λ q. cond q o (unwrap_or (record_of r.id (take k others)) r)) (sym f)
    ]

abbrev each : List Record → ℕ → Record → Record
each others k r = unwrap_or (record_of r.id (take k others)) r

-- none put in
pub nothing-put : (rs others : List Record) → rs ≡ map (λ r. unwrap_or (record_of r.id (take 0 others)) r) rs
nothing-put [] others = refl
nothing-put (r ∷ rs) others = ap (λ l. r ∷ l) (nothing-put rs others)

-- a record put in the place of the one that has its id
pub one-put : (rs others : List Record) (k at : ℕ) (o : Record) → AreRising rs → HaveIds others → k < length others → o ≡ get_or others k o → StandsAt rs o.id at → set (map (λ r. unwrap_or (record_of r.id (take k others)) r) rs) at o ≡ map (λ r. unwrap_or (record_of r.id (take (k + 1) others)) r) rs
one-put rs others k at o up once b e stands =
    let before : List Record = map (each others k) rs in
    let long : length before ≡ length rs = length-map rs (each others k) in
    let there : at < length rs = stands.0 in
    same_lists (set before at o) (map (each others (k + 1)) rs) (length-set before at o ∙ long ∙ sym (length-map rs (each others (k + 1))))
    (λ q d l.
    let within : q < length rs = (let n : length (set before at o) ≡ length before = length-set before at o in omega arith) in
    let r : Record = get_or rs q d in
    let after : get_or (map (each others (k + 1)) rs) q d ≡ cond (o.id == r.id) o (each others k r) = get_or-map (each others (k + 1)) rs q d d within ∙ step-at others k o r once b e in
    elim (cases_Bool (q == at)) [
      | inl t ↦ (
          let same : q ≡ at = eqb-true q at t in
          let found : record_of o.id rs ≡ Some (get_or rs at d) = stands.1 d in
          let id : (o.id == r.id) ≡ true = eq-eqb o.id r.id (sym (eqb-true (get_or rs at d).id o.id (found-has o.id rs (get_or rs at d) found)) ∙ ap (λ n. (get_or rs n d).id) (sym same)) in
          ap (λ n. get_or (set before at o) n d) same
          ∙ get_or-set_same before at o d (omega arith)
          ∙ ap (λ c. cond c o (each others k r)) (sym id)
          ∙ sym after)
      | inr f ↦ (
          let other : q ≢ at = λ same. true≢false (sym (eq-eqb q at same) ∙ f) in
          let no : (r.id == o.id) ≡ false = id-only-here rs o.id at q r up stands other within (get_or_default rs q r d within) in
          let id : (o.id == r.id) ≡ false = other-id o.id r.id (λ g. true≢false (sym (eq-eqb r.id o.id (sym g)) ∙ no)) in
          get_or-set_other before at q o d other
          ∙ get_or-map (each others k) rs q d d within
          ∙ ap (λ c. cond c o (each others k r)) (sym id)
          ∙ sym after)
    ])

-- no record has the id
pub none-put : (rs others : List Record) (k : ℕ) (o : Record) → HaveIds others → k < length others → o ≡ get_or others k o → record_of o.id rs ≡ None → map (λ r. unwrap_or (record_of r.id (take k others)) r) rs ≡ map (λ r. unwrap_or (record_of r.id (take (k + 1) others)) r) rs
none-put rs others k o once b e none =
    let n : length (map (each others k) rs) ≡ length rs = length-map rs (each others k) in
    same_lists (map (each others k) rs) (map (each others (k + 1)) rs) (n ∙ sym (length-map rs (each others (k + 1))))
    (λ q d l.
    let within : q < length rs = omega arith in
    let r : Record = get_or rs q d in
    let no : (r.id == o.id) ≡ false = absent-id o.id rs r none (is-in rs q d within) in
    let id : (o.id == r.id) ≡ false = other-id o.id r.id (λ g. true≢false (sym (eq-eqb r.id o.id (sym g)) ∙ no)) in
    get_or-map (each others k) rs q d d within
    ∙ ap (λ c. cond c o (each others k r)) (sym id)
    ∙ sym (get_or-map (each others (k + 1)) rs q d d within ∙ step-at others k o r once b e))

map-same : (f g : Record → Record) → ((r : Record) → f r ≡ g r) → (rs : List Record) → map f rs ≡ map g rs
map-same f g k [] = refl
map-same f g k (r ∷ rs) = ap (λ x. x ∷ map f rs) (k r) ∙ ap (λ l. g r ∷ l) (map-same f g k rs)

-- of the order's children no two have one id
pub children-ids : (p : Parent) (order rs : List Record) → AreRising rs → IsInPlaceOrder order rs → HaveIds (map (respaced p order) (filter (is_child p) order))
children-ids p order rs up o i j d a b e =
    let cs : List Record = filter (is_child p) order in
    let long : length (map (respaced p order) cs) ≡ length cs = length-map cs (respaced p order) in
    let id : (k : ℕ) → k < length cs → (get_or (map (respaced p order) cs) k d).id ≡ (get_or cs k d).id = λ k l. ap (λ (x : Record). x.id) (get_or-map (respaced p order) cs k d d l) ∙ respaced-id p order (get_or cs k d) in
    let in-rs : (k : ℕ) → k < length cs → Contains rs (get_or cs k d) = λ k l. All-contains (Contains rs) order (get_or cs k d) o.listed (passed-in (is_child p) order (get_or cs k d) (Contains-get_or cs k d l)) in
    let sorted : IsStrictlySortedBy comes_first cs = IsStrictlySortedBy-filter comes_first (is_child p) order o.rising in
    let first : i < length cs = omega arith in
    let second : j < length cs = omega arith in
    places-once cs sorted i j d a second (same-record rs (get_or cs i d) (get_or cs j d) up (in-rs i first) (in-rs j second) (sym (id i first) ∙ e ∙ id j second))

-- the records with their new indexes
pub each-respaced : (p : Parent) (order rs : List Record) → AreRising rs → HavePlaces rs → IsInPlaceOrder order rs → map (λ r. unwrap_or (record_of r.id (map (respaced p order) (filter (is_child p) order))) r) rs ≡ map (respaced p rs) rs
each-respaced p order rs up places o =
    let cs : List Record = filter (is_child p) order in
    let new : List Record = map (respaced p order) cs in
    let f : Record → Record = λ r. unwrap_or (record_of r.id new) r in
    let long : length new ≡ length cs = length-map cs (respaced p order) in
    let n : length (map f rs) ≡ length rs = length-map rs f in
    same_lists (map f rs) (map (respaced p rs) rs) (n ∙ sym (length-map rs (respaced p rs)))
    (λ q d l.
    let within : q < length rs = omega arith in
    let r : Record = get_or rs q d in
    let there : Contains rs r = Contains-get_or rs q d within in
    get_or-map f rs q d d within
    ∙ elim (cases_Bool (is_child p r)) [
      | inl t ↦ (
          let c : Contains order r = All-contains (Contains order) rs r o.complete there in
          let m : Contains cs r = passing-has (is_child p) order c.0 r c.1 c.2 t in
          let at : get_or new m.0 (respaced p order r) ≡ respaced p order r = get_or-map (respaced p order) cs m.0 r (respaced p order r) m.1 ∙ ap (respaced p order) m.2 in
          ap (λ (x : Option Record). unwrap_or x r) (found-once new m.0 r.id (respaced p order r) (children-ids p order rs up o) (let b : m.0 < length cs = m.1 in omega arith) at (respaced-id p order r))
          ∙ respaced-same p order rs r places o)
      | inr f2 ↦ (
          let none : None ≡ record_of r.id new = found-none new r.id (λ k e b same.
          let b2 : k < length cs = omega arith in
          let s : Record = get_or cs k e in
          let id : s.id ≡ r.id = sym (respaced-id p order s) ∙ ap (λ (x : Record). x.id) (sym (get_or-map (respaced p order) cs k e e b2)) ∙ same in
          let in-rs : Contains rs s = All-contains (Contains rs) order s o.listed (passed-in (is_child p) order s (Contains-get_or cs k e b2)) in
          true≢false (sym (all-passing p order k e b2) ∙ ap (is_child p) (same-record rs s r up in-rs there id) ∙ f2)) in
          ap (λ (x : Option Record). unwrap_or x r) (sym none)
          ∙ sym (respaced-other p rs r f2))
    ]
    ∙ sym (get_or-map (respaced p rs) rs q d d within))

-- all of them are
pub all-kept : (p : Parent) (xs : List Record) → All (λ s. is_child p s ≡ true) xs → filter (is_child p) xs ≡ xs
all-kept p [] h = refl
all-kept p (x ∷ xs) h = ap (λ b. cond b (x ∷ filter (is_child p) xs) (filter (is_child p) xs)) (All-head (λ s. is_child p s ≡ true) x xs h) ∙ ap (λ l. x ∷ l) (all-kept p xs (All-tail (λ s. is_child p s ≡ true) x xs h))

-- none of the records is a child
none-kept : (p : Parent) (rs xs : List Record) → filter (is_child p) xs ≡ [] → map (respaced p rs) xs ≡ xs
none-kept p rs [] e = refl
none-kept p rs (x ∷ xs) e = elim (cases_Bool (is_child p x)) [
  | inl t ↦ (let some : x ∷ filter (is_child p) xs ≡ [] = ap (λ b. cond b (x ∷ filter (is_child p) xs) (filter (is_child p) xs)) (sym t) ∙ e in cc)
  | inr f ↦ ap (λ y. y ∷ map (respaced p rs) xs) (respaced-other p rs x f)
      ∙ ap (λ l. x ∷ l) (none-kept p rs xs (ap (λ b. cond b (x ∷ filter (is_child p) xs) (filter (is_child p) xs)) (sym f) ∙ e))
]

-- the order with its children's new indexes
pub order-respaced : (p : Parent) (order rs : List Record) (low high : ℕ) → HavePlaces rs → IsInPlaceOrder order rs → AreChildrenWithin p order low high → take low order ++ map (respaced p order) (filter (is_child p) order) ++ drop high order ≡ map (respaced p rs) order
order-respaced p order rs low high places o w =
    let f : Record → Record = respaced p rs in
    let cs : List Record = filter (is_child p) order in
    let front : List Record = take low order in
    let behind : List Record = drop high order in
    let from : low ≤ high = w.from in
    let ends : low + (high - low) ≡ high = omega arith in
    let parts : order ≡ front ++ (cs ++ behind) =
    sym (take-append-drop low order) ∙ ap (λ l. front ++ l) (sym (take-append-drop (high - low) (drop low order)))
    ∙ ap (λ l. front ++ (l ++ drop (high - low) (drop low order))) w.are
    ∙ ap (λ l. front ++ (cs ++ l)) (drop-drop (high - low) low order ∙ ap (λ n. drop n order) ends) in
    let kept : cs ≡ filter (is_child p) front ++ (cs ++ filter (is_child p) behind) =
    ap (filter (is_child p)) parts ∙ filter-append (is_child p) front (cs ++ behind)
    ∙ ap (λ l. filter (is_child p) front ++ l) (filter-append (is_child p) cs behind ∙ ap (λ l. l ++ filter (is_child p) behind) (all-kept p cs (all-passing p order))) in
    let count : length cs ≡ length (filter (is_child p) front) + (length cs + length (filter (is_child p) behind)) =
    ap length kept ∙ length-append (filter (is_child p) front) (cs ++ filter (is_child p) behind) ∙ ap (λ n. length (filter (is_child p) front) + n) (length-append cs (filter (is_child p) behind)) in
    append_assoc front (map (respaced p order) cs) behind
    ∙ ap (λ l. front ++ (l ++ behind)) (map-same (respaced p order) f (λ r. respaced-same p order rs r places o) cs)
    ∙ ap (λ l. l ++ (map f cs ++ behind)) (sym (none-kept p rs front (nil_from_length (filter (is_child p) front) (omega arith))))
    ∙ ap (λ l. map f front ++ (map f cs ++ l)) (sym (none-kept p rs behind (nil_from_length (filter (is_child p) behind) (omega arith))))
    ∙ ap (λ l. map f front ++ l) (sym (map-append f cs behind))
    ∙ sym (map-append f front (cs ++ behind))
    ∙ ap (map f) (sym parts)

-- it is the order of the records with theirs
respaced-cases : (p : Parent) (rs : List Record) (r s : Record) (o : Ordering) → length rs ≤ most_records → IsIn r rs → IsIn s rs → by_parent r.place.parent s.place.parent ≡ o → ordering_then o (slice_cmp nat_cmp s.place.index r.place.index) ≡ Less → ordering_then o (slice_cmp nat_cmp (respaced p rs s).place.index (respaced p rs r).place.index) ≡ Less
respaced-cases p rs r s Less few m n e l = refl
respaced-cases p rs r s Equal few m n e l =
    let alike : same_parent r.place.parent s.place.parent ≡ true = sym (holder-eq r.place.parent s.place.parent) ∙ ap is_eq e in
    less-from_lt (slice_cmp nat_cmp (respaced p rs s).place.index (respaced p rs r).place.index)
    (in_front-respaced p s.place.parent rs s r few (n, same_parent-itself s.place.parent) (m, alike) ∙ ap is_lt l)
respaced-cases p rs r s Greater few m n e l = cc

respaced-first : (p : Parent) (rs : List Record) (r s : Record) → length rs ≤ most_records → IsIn r rs → IsIn s rs → comes_first r s ≡ Less → comes_first (respaced p rs r) (respaced p rs s) ≡ Less
respaced-first p rs r s few m n l =
    let keeps = respaced-keeps p rs in
    let parents : by_parent (respaced p rs r).place.parent (respaced p rs s).place.parent ≡ by_parent r.place.parent s.place.parent =
    ap (λ q. by_parent q (respaced p rs s).place.parent) (keeps.parents r) ∙ ap (by_parent r.place.parent) (keeps.parents s) in
    ap (λ o. ordering_then o (slice_cmp nat_cmp (respaced p rs s).place.index (respaced p rs r).place.index)) parents
    ∙ respaced-cases p rs r s (by_parent r.place.parent s.place.parent) few m n refl l

map-has : (f : Record → Record) (rs : List Record) (r : Record) → Contains rs r → Contains (map f rs) (f r)
map-has f rs r c = (c.0, (let n : length (map f rs) ≡ length rs = length-map rs f in let b : c.0 < length rs = c.1 in omega arith), get_or-map f rs c.0 r (f r) c.1 ∙ ap f c.2)

pub respaced-order : (p : Parent) (order rs : List Record) → length rs ≤ most_records → IsInPlaceOrder order rs → IsInPlaceOrder (map (respaced p rs) order) (map (respaced p rs) rs)
respaced-order p order rs few o =
    let f : Record → Record = respaced p rs in
    let n : length (map f order) ≡ length order = length-map order f in
    let m : length (map f rs) ≡ length rs = length-map rs f in
    record {
      long = n ∙ o.long ∙ sym m;
      listed = λ k d b. (let l : k < length order = omega arith in subst (Contains (map f rs)) (sym (get_or-map f order k d d l)) (map-has f rs (get_or order k d) (o.listed k d l)));
      complete = λ k d b. (let l : k < length rs = omega arith in subst (Contains (map f order)) (sym (get_or-map f rs k d d l)) (map-has f order (get_or rs k d) (o.complete k d l)));
      rising = sorted-from (map f order) (λ i j d l b.
          let y : j < length order = omega arith in
          let x : i < length order = omega arith in
          ap (λ s. comes_first s (get_or (map f order) j d)) (get_or-map f order i d d x)
          ∙ ap (comes_first (f (get_or order i d))) (get_or-map f order j d d y)
          ∙ respaced-first p rs (get_or order i d) (get_or order j d) few (listed-in rs (get_or order i d) (o.listed i d x)) (listed-in rs (get_or order j d) (o.listed j d y)) (Less-from_sorted comes_first order i j d o.rising l y));
    }
