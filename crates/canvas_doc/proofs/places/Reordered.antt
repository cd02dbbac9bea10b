-- The order by place after a record was added, taken out, or replaced.
use Rattle.std.proofs.Common.{◌≡◌, ◌≢◌, ℕ, ◌<◌, ◌≤◌, ◌+◌, ◌-◌, ◌==◌, List, [], ◌∷◌, ◌++◌, zero, suc, true, false, cond, nat_lt, refl, sym, ap, subst, ◌∙◌, arith, inl, inr, ◌⊎◌, All, length, filter, get_or, set, take, drop, Some, Bool}
use Rattle.std.specs.List.{Contains, insert, remove, slice_get}
use Rattle.std.specs.List.Sorted.{IsStrictlySortedBy}
use Rattle.std.specs.declared.cmp.Ordering.{Ordering}
use Rattle.std.specs.declared.cmp.Ordering.TheVariants.{Less, Equal, Greater}
use Rattle.std.specs.Ordering.{is_eq, is_lt, nat_cmp, ordering_reverse}
use Rattle.std.specs.Cmp.Lexicographic.{slice_cmp}
use Rattle.std.proofs.Math.ListN.{length-set}
use Rattle.std.proofs.lemmas.Bool.{and_parts, cases_Bool, eq-eqb, eqb-true, true≢false}
use Rattle.std.proofs.lemmas.Bool.Decides.{nat_tests}
use Rattle.std.proofs.lemmas.Cmp.{tied_itself}
use Rattle.std.proofs.lemmas.List.{get_or_append_left, get_or_at, get_or_default, get_or-drop, get_or-set_other, get_or-set_same, get_or-take, length-append, length-drop, length-take-le}
use Rattle.std.proofs.lemmas.List.Edits.{get_or-insert_above, get_or-insert_at, get_or-insert_below, get_or-remove_above, get_or-remove_below, length-insert, length-remove}
use Rattle.std.proofs.lemmas.List.Elements.{All-contains, All-contains_itself, All-filter, All-from_recursion, Contains-append_left, Contains-get_or, Contains-push, Contains-push_cases}
use Rattle.std.proofs.lemmas.Map.Keys.{Less-from_sorted}
use Rattle.std.proofs.lemmas.Option.{slice_get_read}
use Rattle.std.proofs.lemmas.Map.Lookups.{exact_bytes}
use Rattle.canvas_record.specs.declared.records.Place.{Place}
use Rattle.canvas_record.specs.declared.records.Record.{Record}
use Rattle.canvas_record.specs.Children.{same_parent}
use Rattle.canvas_record.specs.Contents.{record_of, AreRising}
use Rattle.canvas_doc.specs.PlaceOrder.{by_parent, by_place, comes_first, IsInPlaceOrder, IsPlaceOf}
use Rattle.canvas_record.specs.Tree.{HavePlaces, IsElsewhere}
use Rattle.canvas_doc.proofs.places.ByPlace.{comes_first-total, sorted-from}
use Rattle.canvas_doc.proofs.tree.Found.{found-here, rising-at}
use Rattle.canvas_doc.proofs.tree.OneChanged.{id-only-here}
use Rattle.canvas_doc.proofs.spacing.Respaced.{IsIn}
use Rattle.canvas_doc.proofs.places.Placed.{holder-eq, then-eq}
use Rattle.canvas_doc.proofs.lists.Members.{EachOnce, apart, insert-cases, insert-has, insert-new, remove-cases, remove-has, set-cases, set-has, set-new}
use Rattle.canvas_doc.proofs.lists.Tests.{less-from_lt}
use Rattle.canvas_doc.proofs.tree.Parents.{same_parent-flips}

-- records with rising ids, and those with rising places, stand once each
pub ids-once : (rs : List Record) → AreRising rs → EachOnce rs
ids-once rs up i j d l b e =
    let less : (get_or rs i d).id < (get_or rs j d).id = rising-at rs i j d up l b in
    let same : (get_or rs i d).id ≡ (get_or rs j d).id = ap (λ (r : Record). r.id) e in
    omega arith

pub not-itself : (r s : Record) → comes_first r s ≡ Less → r ≢ s
not-itself r s less e =
    let tied : comes_first r r ≡ Equal = tied_itself comes_first-total r in
    let lesser : comes_first r r ≡ Less = ap (comes_first r) e ∙ less in
    cc

pub places-once : (order : List Record) → IsStrictlySortedBy comes_first order → EachOnce order
places-once order up i j d l b = not-itself (get_or order i d) (get_or order j d) (Less-from_sorted comes_first order i j d up l b)

-- the records before a place, and those that are not
pub before-at : (place : Place) (order : List Record) (at k : ℕ) (d : Record) → IsPlaceOf place order at → k < at → by_place (get_or order k d).place place ≡ Less
before-at place order at k d p l =
    let long : length (take at order) ≡ at = length-take-le at order p.bound in
    less-from_lt (by_place (get_or order k d).place place)
    (ap (λ (r : Record). is_lt (by_place r.place place)) (sym (get_or-take at order k d l)) ∙ p.before k d (omega arith))

pub behind-at : (place : Place) (order : List Record) (at k : ℕ) (d : Record) → IsPlaceOf place order at → at ≤ k → k < length order → is_lt (by_place (get_or order k d).place place) ≡ false
behind-at place order at k d p l b =
    let long : length (drop at order) ≡ length order - at = length-drop at order in
    let bound : at ≤ length order = p.bound in
    let here : at + (k - at) ≡ k = omega arith in
    ap (λ n. is_lt (by_place (get_or order n d).place place)) (sym here)
    ∙ ap (λ (r : Record). is_lt (by_place r.place place)) (sym (get_or-drop at order (k - at) d))
    ∙ p.behind (k - at) d (omega arith)

-- a record of the order stands at its place
pub stands-at : (order : List Record) (r : Record) (at : ℕ) → IsStrictlySortedBy comes_first order → Contains order r → IsPlaceOf r.place order at → (at < length order) × (get_or order at r ≡ r)
stands-at order r at up c p =
    let k : ℕ = c.0 in
    let within : k < length order = c.1 in
    elim (cases_Bool (nat_lt k at)) [
      | inl t ↦ (
          let less : by_place (get_or order k r).place r.place ≡ Less = before-at r.place order at k r p (grind (arith, nat_tests)) in
          absurd (not-itself (get_or order k r) r less c.2))
      | inr f ↦ elim (cases_Bool (nat_lt at k)) [
        | inl t ↦ (
            let before : at < k = grind (arith, nat_tests) in
            let less : comes_first (get_or order at r) r ≡ Less = ap (comes_first (get_or order at r)) (sym c.2) ∙ Less-from_sorted comes_first order at k r up before within in
            absurd (true≢false (sym (ap is_lt less) ∙ behind-at r.place order at at r p (omega arith) (omega arith))))
        | inr g ↦ (
            let same : k ≡ at = grind (arith, nat_tests) in
            (subst (λ n. n < length order) same within, ap (λ n. get_or order n r) (sym same) ∙ c.2))
      ]
    ]

-- without one of them
old-index : ℕ → ℕ → ℕ
old-index at k = cond (nat_lt k at) k (k + 1)

old-read : (order : List Record) (at k : ℕ) (d : Record) → at < length order → get_or (remove order at) k d ≡ get_or order (old-index at k) d
unfolding old-index
old-read order at k d b = elim (cases_Bool (nat_lt k at)) [
  | inl t ↦ get_or-remove_below order at d k (grind (arith, nat_tests)) b ∙ ap (λ c. get_or order (cond c k (k + 1)) d) (sym t)
  | inr f ↦ get_or-remove_above order at d k (grind (arith, nat_tests)) b ∙ ap (λ c. get_or order (cond c k (k + 1)) d) (sym f)
]

old-bound : (at k n : ℕ) → at < n → k + 1 < n → old-index at k < n
unfolding old-index
old-bound at k n a b = elim (cases_Bool (nat_lt k at)) [ inl t ↦ rw t (omega arith) | inr f ↦ rw f (omega arith) ]

old-rises : (at i j : ℕ) → i < j → old-index at i < old-index at j
unfolding old-index
old-rises at i j l = elim (cases_Bool (nat_lt i at)) [
  | inl t ↦ rw t (elim (cases_Bool (nat_lt j at)) [ inl u ↦ rw u l | inr u ↦ rw u (omega arith) ])
  | inr f ↦ (let later : nat_lt j at ≡ false = grind (arith, nat_tests) in rw (f, later) (omega arith))
]

pub removed-sorted : (order : List Record) (at : ℕ) → at < length order → IsStrictlySortedBy comes_first order → IsStrictlySortedBy comes_first (remove order at)
removed-sorted order at b up =
    let long : length (remove order at) + 1 ≡ length order = length-remove order at b in
    sorted-from (remove order at) (λ i j d l m.
    ap (λ r. comes_first r (get_or (remove order at) j d)) (old-read order at i d b)
    ∙ ap (comes_first (get_or order (old-index at i) d)) (old-read order at j d b)
    ∙ Less-from_sorted comes_first order (old-index at i) (old-index at j) d up (old-rises at i j l) (old-bound at j (length order) b (omega arith)))

-- records at different positions have different places
elsewhere-at : (rs : List Record) → HavePlaces rs → (i j : ℕ) (r s : Record) → i < j → j < length rs → get_or rs i r ≡ r → get_or rs j s ≡ s → IsElsewhere r s
elsewhere-at [] h i j r s l b e f = absurd (omega arith)
elsewhere-at (x ∷ xs) h i zero r s l b e f = absurd (omega arith)
elsewhere-at (x ∷ xs) h zero (suc j) r s l b e f =
    subst (λ z. IsElsewhere z s) e (subst (IsElsewhere x) f (All-from_recursion (IsElsewhere x) xs h.0 j s (omega arith)))
elsewhere-at (x ∷ xs) h (suc i) (suc j) r s l b e f = elsewhere-at xs h.1 i j r s (omega arith) (omega arith) e f

equal-from_eq : (o : Ordering) → is_eq o ≡ true → o ≡ Equal
equal-from_eq Less h = cc
equal-from_eq Equal h = refl
equal-from_eq Greater h = cc

tied-parts : (r s : Record) → comes_first r s ≡ Equal → (same_parent s.place.parent r.place.parent ≡ true) × (s.place.index ≡ r.place.index)
tied-parts r s e =
    let both = and_parts (is_eq (by_parent r.place.parent s.place.parent)) (is_eq (slice_cmp nat_cmp s.place.index r.place.index)) (sym (then-eq (by_parent r.place.parent s.place.parent) (slice_cmp nat_cmp s.place.index r.place.index)) ∙ ap is_eq e) in (
      same_parent-flips s.place.parent r.place.parent ∙ sym (holder-eq r.place.parent s.place.parent) ∙ both.0,
      exact_bytes s.place.index r.place.index (equal-from_eq (slice_cmp nat_cmp s.place.index r.place.index) both.1),
    )

tied-apart : (rs : List Record) → HavePlaces rs → (i j : ℕ) (r s : Record) → i < j → j < length rs → get_or rs i r ≡ r → get_or rs j s ≡ s → comes_first r s ≢ Equal
tied-apart rs h i j r s l b e f tied = (let p = tied-parts r s tied in elsewhere-at rs h i j r s l b e f p.0 p.1)

pub places-differ : (rs : List Record) → HavePlaces rs → (r s : Record) → Contains rs r → Contains rs s → r ≢ s → comes_first r s ≢ Equal
places-differ rs h r s c d ne tied = elim (cases_Bool (nat_lt c.0 d.0)) [
  | inl t ↦ tied-apart rs h c.0 d.0 r s (grind (arith, nat_tests)) d.1 c.2 d.2 tied
  | inr f ↦ elim (cases_Bool (nat_lt d.0 c.0)) [
    | inl t ↦ tied-apart rs h d.0 c.0 s r (grind (arith, nat_tests)) c.1 d.2 c.2 (comes_first-total.antisymm s r ∙ ap ordering_reverse tied)
    | inr g ↦ (let same : c.0 ≡ d.0 = grind (arith, nat_tests) in
        ne (sym c.2 ∙ ap (λ k. get_or rs k r) same ∙ get_or_default rs d.0 r s d.1 ∙ d.2))
  ]
]

-- a record that was added has another place than each before it
pub added-differs : (rs : List Record) (r : Record) → HavePlaces (rs ++ r ∷ []) → All (λ s. comes_first s r ≢ Equal) rs
added-differs rs r h k d b =
    let long : length (rs ++ r ∷ []) ≡ length rs + 1 = length-append rs (r ∷ []) in
    let s : Record = get_or rs k d in
    tied-apart (rs ++ r ∷ []) h k (length rs) s r b (omega arith)
    (get_or_append_left rs (r ∷ []) s k b ∙ get_or_default rs k s d b)
    (get_or_at rs r [] r (length rs) refl)

-- with one more, at its place
comes-after : (o : Ordering) → is_lt o ≡ false → o ≢ Equal → ordering_reverse o ≡ Less
comes-after Less h n = cc
comes-after Equal h n = absurd (n refl)
comes-after Greater h n = refl

pub inserted-sorted : (order : List Record) (r : Record) (at : ℕ) → IsStrictlySortedBy comes_first order → IsPlaceOf r.place order at → All (λ s. comes_first s r ≢ Equal) order → IsStrictlySortedBy comes_first (insert order at r)
inserted-sorted order r at up p free =
    let bound : at ≤ length order = p.bound in
    let long : length (insert order at r) ≡ length order + 1 = length-insert order at r bound in
    let behind : (k : ℕ) (d : Record) → at ≤ k → k < length order → comes_first r (get_or order k d) ≡ Less = λ k d l b.
    comes_first-total.antisymm r (get_or order k d) ∙ comes-after (comes_first (get_or order k d) r) (behind-at r.place order at k d p l b) (free k d b) in
    sorted-from (insert order at r) (λ i j d l b.
    elim (cases_Bool (nat_lt i at)) [
      | inl t ↦ (
          let before : i < at = grind (arith, nat_tests) in
          let first : get_or (insert order at r) i d ≡ get_or order i d = get_or-insert_below order at r d i before bound in
          ap (λ s. comes_first s (get_or (insert order at r) j d)) first
          ∙ elim (cases_Bool (nat_lt j at)) [
            | inl u ↦ ap (comes_first (get_or order i d)) (get_or-insert_below order at r d j (grind (arith, nat_tests)) bound) ∙ Less-from_sorted comes_first order i j d up l (let m : j < at = grind (arith, nat_tests) in omega arith)
            | inr u ↦ elim (cases_Bool (nat_lt at j)) [
              | inl v ↦ (
                  let above : at ≤ j - 1 = grind (arith, nat_tests) in
                  let next : j - 1 + 1 ≡ j = omega arith in
                  ap (λ n. comes_first (get_or order i d) (get_or (insert order at r) n d)) (sym next)
                  ∙ ap (comes_first (get_or order i d)) (get_or-insert_above order at r d (j - 1) above bound)
                  ∙ Less-from_sorted comes_first order i (j - 1) d up (omega arith) (omega arith))
              | inr v ↦ (
                  let same : at ≡ j = grind (arith, nat_tests) in
                  ap (λ n. comes_first (get_or order i d) (get_or (insert order at r) n d)) (sym same)
                  ∙ ap (comes_first (get_or order i d)) (get_or-insert_at order at r d bound)
                  ∙ before-at r.place order at i d p before)
            ]
          ])
      | inr f ↦ (
          let next : j - 1 + 1 ≡ j = omega arith in
          let from : at ≤ i = grind (arith, nat_tests) in
          let second : get_or (insert order at r) j d ≡ get_or order (j - 1) d = ap (λ n. get_or (insert order at r) n d) (sym next) ∙ get_or-insert_above order at r d (j - 1) (omega arith) bound in
          ap (comes_first (get_or (insert order at r) i d)) second
          ∙ elim (cases_Bool (nat_lt at i)) [
            | inl u ↦ (
                let above : at ≤ i - 1 = grind (arith, nat_tests) in
                let last : i - 1 + 1 ≡ i = grind (arith, nat_tests) in
                ap (λ n. comes_first (get_or (insert order at r) n d) (get_or order (j - 1) d)) (sym last)
                ∙ ap (λ s. comes_first s (get_or order (j - 1) d)) (get_or-insert_above order at r d (i - 1) above bound)
                ∙ Less-from_sorted comes_first order (i - 1) (j - 1) d up (omega arith) (omega arith))
            | inr u ↦ (
                let same : at ≡ i = grind (arith, nat_tests) in
                ap (λ n. comes_first (get_or (insert order at r) n d) (get_or order (j - 1) d)) (sym same)
                ∙ ap (λ s. comes_first s (get_or order (j - 1) d)) (get_or-insert_at order at r d bound)
                ∙ behind (j - 1) d (omega arith) (omega arith))
          ])
    ])

-- with another one that has the same place
pub replaced-sorted : (order : List Record) (at : ℕ) (s : Record) → at < length order → (get_or order at s).place ≡ s.place → IsStrictlySortedBy comes_first order → IsStrictlySortedBy comes_first (set order at s)
replaced-sorted order at s b same up =
    let long : length (set order at s) ≡ length order = length-set order at s in
    let place : (k : ℕ) (d : Record) → k < length order → (get_or (set order at s) k d).place ≡ (get_or order k d).place = λ k d l.
    elim (cases_Bool (k == at)) [
      | inl t ↦ (let e : k ≡ at = eqb-true k at t in
          ap (λ n. (get_or (set order at s) n d).place) e ∙ ap (λ (r : Record). r.place) (get_or-set_same order at s d b) ∙ sym same
          ∙ ap (λ (r : Record). r.place) (get_or_default order at s d b) ∙ ap (λ n. (get_or order n d).place) (sym e))
      | inr f ↦ (let other : k ≢ at = λ e. true≢false (sym (eq-eqb k at e) ∙ f) in
          ap (λ (r : Record). r.place) (get_or-set_other order at k s d other))
    ] in
    sorted-from (set order at s) (λ i j d l m.
    ap (λ p. by_place p (get_or (set order at s) j d).place) (place i d (omega arith))
    ∙ ap (by_place (get_or order i d).place) (place j d (omega arith))
    ∙ Less-from_sorted comes_first order i j d up l (omega arith))

-- the same records, one of them put in
pub put-in : (others rs : List Record) (r : Record) (at : ℕ) → length others + 1 ≡ length rs → IsStrictlySortedBy comes_first others → IsPlaceOf r.place others at → All (λ s. comes_first s r ≢ Equal) others
    → Contains rs r → ((x : Record) → Contains others x → Contains rs x) → ((x : Record) → Contains rs x → (x ≡ r) ⊎ Contains others x) → IsInPlaceOrder (insert others at r) rs
put-in others rs r at long up p free there listed complete = record {
  long = length-insert others at r p.bound ∙ long;
  listed = λ k d b. elim (insert-cases others at r p.bound (get_or (insert others at r) k d) (Contains-get_or (insert others at r) k d b)) [
    | inl e ↦ subst (Contains rs) (sym e) there
    | inr c ↦ listed (get_or (insert others at r) k d) c
  ];
  complete = λ k d b. elim (complete (get_or rs k d) (Contains-get_or rs k d b)) [
    | inl e ↦ subst (Contains (insert others at r)) (sym e) (insert-new others at r p.bound)
    | inr c ↦ insert-has others at r p.bound (get_or rs k d) c
  ];
  rising = inserted-sorted others r at up p free;
}

-- one more record, whose place no other has
pub added : (order rs : List Record) (r : Record) (at : ℕ) → IsInPlaceOrder order rs → IsPlaceOf r.place order at → All (λ s. comes_first s r ≢ Equal) rs → IsInPlaceOrder (insert order at r) (rs ++ r ∷ [])
added order rs r at o p free =
    put-in order (rs ++ r ∷ []) r at (let a : length order ≡ length rs = o.long in omega (arith, length-append rs (r ∷ []))) o.rising p
    (λ k d b. All-contains (λ s. comes_first s r ≢ Equal) rs (get_or order k d) free (o.listed k d b))
    (Contains-push rs r)
    (λ x c. Contains-append_left rs (r ∷ []) x (All-contains (Contains rs) order x o.listed c))
    (λ x c. elim (Contains-push_cases rs r x c) [ inl d ↦ inr (All-contains (Contains order) rs x o.complete d) | inr e ↦ inl (sym e) ])

-- one record less
pub taken : (order rs : List Record) (r : Record) (at k : ℕ) → AreRising rs → IsInPlaceOrder order rs → at < length rs → get_or rs at r ≡ r → k < length order → get_or order k r ≡ r → IsInPlaceOrder (remove order k) (remove rs at)
taken order rs r at k up o a here b there = record {
  long = (let l : length order ≡ length rs = o.long in omega (arith, length-remove order k b, length-remove rs at a));
  listed = λ i d l.
      let x : Record = get_or (remove order k) i d in
      let c = remove-cases order k r b there (places-once order o.rising) x (Contains-get_or (remove order k) i d l) in
      remove-has rs at r a here x (All-contains (Contains rs) order x o.listed c.0) c.1;
  complete = λ i d l.
      let x : Record = get_or (remove rs at) i d in
      let c = remove-cases rs at r a here (ids-once rs up) x (Contains-get_or (remove rs at) i d l) in
      remove-has order k r b there x (All-contains (Contains order) rs x o.complete c.0) c.1;
  rising = removed-sorted order k b o.rising;
}

-- another record at the same place
pub replaced : (order rs : List Record) (r s : Record) (at k : ℕ) → AreRising rs → IsInPlaceOrder order rs → at < length rs → get_or rs at r ≡ r → k < length order → get_or order k r ≡ r → r.place ≡ s.place → IsInPlaceOrder (set order k s) (set rs at s)
replaced order rs r s at k up o a here b there same = record {
  long = length-set order k s ∙ o.long ∙ sym (length-set rs at s);
  listed = λ i d l. elim (set-cases order k r b there (places-once order o.rising) s (get_or (set order k s) i d) (Contains-get_or (set order k s) i d l)) [
    | inl e ↦ subst (Contains (set rs at s)) (sym e) (set-new rs at r a here s)
    | inr c ↦ set-has rs at r a here s (get_or (set order k s) i d) (All-contains (Contains rs) order (get_or (set order k s) i d) o.listed c.0) c.1
  ];
  complete = λ i d l. elim (set-cases rs at r a here (ids-once rs up) s (get_or (set rs at s) i d) (Contains-get_or (set rs at s) i d l)) [
    | inl e ↦ subst (Contains (set order k s)) (sym e) (set-new order k r b there s)
    | inr c ↦ set-has order k r b there s (get_or (set rs at s) i d) (All-contains (Contains order) rs (get_or (set rs at s) i d) o.complete c.0) c.1
  ];
  rising = replaced-sorted order k s b (ap (λ (x : Record). x.place) (get_or_default order k s r b ∙ there) ∙ same) o.rising;
}

-- another record at another place
pub moved : (order rs : List Record) (r s : Record) (at k to : ℕ) → AreRising rs → IsInPlaceOrder order rs → at < length rs → get_or rs at r ≡ r → k < length order → get_or order k r ≡ r
    → IsPlaceOf s.place (remove order k) to → ((x : Record) → Contains (set rs at s) x → x ≢ s → comes_first x s ≢ Equal) → ((x : Record) → Contains rs x → x ≢ r → x ≢ s) → IsInPlaceOrder (insert (remove order k) to s) (set rs at s)
moved order rs r s at k to up o a here b there p free other =
    let others : List Record = remove order k in
    let from : (x : Record) → Contains others x → Contains rs x × (x ≢ r) = λ x c.
    (let d = remove-cases order k r b there (places-once order o.rising) x c in (All-contains (Contains rs) order x o.listed d.0, d.1)) in
    put-in others (set rs at s) s to (length-remove order k b ∙ o.long ∙ sym (length-set rs at s)) (removed-sorted order k b o.rising) p
    (λ i d l.
    let x : Record = get_or others i d in
    let c = from x (Contains-get_or others i d l) in
    free x (set-has rs at r a here s x c.0 c.1) (other x c.0 c.1))
    (set-new rs at r a here s)
    (λ x c. (let d = from x c in set-has rs at r a here s x d.0 d.1))
    (λ x c. elim (set-cases rs at r a here (ids-once rs up) s x c) [
      | inl e ↦ inl e
      | inr d ↦ inr (remove-has order k r b there x (All-contains (Contains order) rs x o.complete d.0) d.1)
    ])

-- the same, from a document's lists
pub record IsListedAt (order rs : List Record) (r : Record) (at k : ℕ) : Type 0 where
  pub there : at < length rs
  pub here : get_or rs at r ≡ r
  pub within : k < length order
  pub is : get_or order k r ≡ r

pub listed-at : (order rs : List Record) (r : Record) (at k : ℕ) → IsInPlaceOrder order rs → at < length rs → r ≡ get_or rs at r → IsPlaceOf r.place order k → IsListedAt order rs r at k
listed-at order rs r at k o b e p =
    let s = stands-at order r k o.rising (All-contains (Contains order) rs r o.complete (at, b, sym e)) p in
    record { there = b; here = sym e; within = s.0; is = s.1 }

pub moved-well : (order rs : List Record) (r s : Record) (at k to : ℕ) → AreRising rs → AreRising (set rs at s) → HavePlaces (set rs at s) → IsInPlaceOrder order rs → IsListedAt order rs r at k → IsPlaceOf s.place (remove order k) to → IsInPlaceOrder (insert (remove order k) to s) (set rs at s)
moved-well order rs r s at k to up after places o l p =
    moved order rs r s at k to up o l.there l.here l.within l.is p
    (λ x c ne. places-differ (set rs at s) places x s c (set-new rs at r l.there l.here s) ne)
    (λ x c ne e. (
    let n : length (set rs at s) ≡ length rs = length-set rs at s in
    let d = set-has rs at r l.there l.here s x c ne in
    let b : at < length rs = l.there in
    elim (cases_Bool (c.0 == at)) [
      | inl t ↦ ne (sym c.2 ∙ ap (λ i. get_or rs i x) (eqb-true c.0 at t) ∙ get_or_default rs at x r b ∙ l.here)
      | inr f ↦ (
          let other : c.0 ≢ at = λ q. true≢false (sym (eq-eqb c.0 at q) ∙ f) in
          let m : c.0 < length rs = c.1 in
          apart (set rs at s) c.0 at x (ids-once (set rs at s) after) other (omega arith) (omega arith)
          (get_or-set_other rs at c.0 s x other ∙ c.2 ∙ e ∙ sym (get_or-set_same rs at s x b)))
    ]))

-- the same, where the document is seen as its records and the record through a reference
pub seen-at : (order rs now : List Record) (r v : Record) (at k : ℕ) → IsInPlaceOrder order rs → rs ≡ now → at < length now → r ≡ get_or rs at r → v ≡ r → IsPlaceOf v.place order k → IsListedAt order rs r at k
seen-at order rs now r v at k o e b is same p =
    listed-at order rs r at k o (subst (λ (l : List Record). at < length l) (sym e) b) is (subst (λ (x : Record). IsPlaceOf x.place order k) same p)

pub is-in : (rs : List Record) (at : ℕ) (d : Record) → at < length rs → IsIn (get_or rs at d) rs
is-in [] at d l = absurd (omega arith)
is-in (x ∷ rs) zero d l = inl refl
is-in (x ∷ rs) (suc at) d l = inr (is-in rs at d (omega arith))

pub listed-in : (rs : List Record) (r : Record) → Contains rs r → IsIn r rs
listed-in rs r c = subst (λ x. IsIn x rs) c.2 (is-in rs c.0 r c.1)

stands-in : (rs : List Record) (k : ℕ) (r d : Record) → AreRising rs → k < length rs → get_or rs k r ≡ r → record_of r.id rs ≡ Some (get_or rs k d)
stands-in rs k r d up b e = found-here rs k r.id d up b (ap (λ (x : Record). x.id) (get_or_default rs k d r b ∙ e))

-- records of one id are one
pub same-record : (rs : List Record) (r s : Record) → AreRising rs → Contains rs r → Contains rs s → r.id ≡ s.id → r ≡ s
same-record rs r s up c d e = elim (cases_Bool (c.0 == d.0)) [
  | inl t ↦ sym c.2 ∙ ap (λ k. get_or rs k r) (eqb-true c.0 d.0 t) ∙ get_or_default rs d.0 r s d.1 ∙ d.2
  | inr f ↦ (
      let other : c.0 ≢ d.0 = λ g. true≢false (sym (eq-eqb c.0 d.0 g) ∙ f) in
      let no : (s.id == r.id) ≡ false = id-only-here rs r.id c.0 d.0 s up (c.1, λ x. stands-in rs c.0 r x up c.1 c.2) (λ g. other (sym g)) d.1 (d.2) in
      absurd (true≢false (sym (eq-eqb s.id r.id (sym e)) ∙ no)))
]

pub passed-in : (t : Record → Bool) (xs : List Record) (x : Record) → Contains (filter t xs) x → Contains xs x
passed-in t xs x c = All-contains (Contains xs) (filter t xs) x (All-filter t (Contains xs) xs (All-contains_itself xs)) c

pub found-in : (xs : List Record) (id : ℕ) (s : Record) → record_of id xs ≡ Some s → Contains xs s
found-in [] id s e = cc
found-in (x ∷ xs) id s e = elim (cases_Bool (x.id == id)) [
  | inl t ↦ (let same : Some x ≡ Some s = ap (λ b. cond b (Some x) (record_of id xs)) (sym t) ∙ e in let is : x ≡ s = cc in (0, omega arith, is))
  | inr f ↦ (let c = found-in xs id s (ap (λ b. cond b (Some x) (record_of id xs)) (sym f) ∙ e) in (suc c.0, (let b : c.0 < length xs = c.1 in omega arith), c.2))
]

-- what stands at a position is found there
pub read-at : {X : Type 0} (xs : List X) (k : ℕ) (x : X) → k < length xs → get_or xs k x ≡ x → slice_get xs k ≡ Some x
read-at xs k x b e = slice_get_read xs (length xs) k x refl b (sym e)
