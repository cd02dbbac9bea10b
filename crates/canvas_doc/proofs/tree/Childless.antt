-- Shapes under which nothing hangs.
use Rattle.std.proofs.Common.{◌≡◌, ℕ, zero, suc, ◌+◌, ◌-◌, ◌<◌, ◌≤◌, ◌==◌, List, [], ◌∷◌, Bool, true, false, not, ◌||◌, Some, refl, sym, ap, ◌∙◌, arith, inl, inr, subst, All, length, get_or, filter, take, drop}
use Rattle.std.specs.List.{AllByRecursion, Contains, remove}
use Rattle.std.proofs.lemmas.Bool.{cases_Bool, eq-eqb, eqb-true, or_from}
use Rattle.std.proofs.lemmas.Bool.Decides.{nat_tests}
use Rattle.std.proofs.lemmas.List.{get_or-take, get_or-drop, length-take, length-drop}
use Rattle.std.proofs.lemmas.List.Elements.{All-head, All-tail, All-nil, All-cons, filter_passes}
use Rattle.std.proofs.lemmas.List.Folds.{list_all_at}
use Rattle.canvas_record.specs.declared.records.Parent.{Parent}
use Rattle.canvas_record.specs.declared.records.Parent.TheVariants.{Page, Shape}
use Rattle.canvas_record.specs.declared.records.Record.{Record}
use Rattle.canvas_record.specs.Children.{same_parent, is_child}
use Rattle.canvas_record.specs.Contents.{record_of, AreRising, StandsAt}
use Rattle.canvas_record.specs.Effect.{is_below, is_in_subtree}
use Rattle.canvas_doc.specs.Fitting.{has_no_child}
use Rattle.canvas_doc.specs.PlaceOrder.{AreChildrenWithin, IsInPlaceOrder}
use Rattle.canvas_doc.proofs.fitting.Fit.{found-all}
use Rattle.canvas_doc.proofs.tree.Found.{above-at, other-id, found-has}
use Rattle.canvas_doc.proofs.tree.Marks.{some-at}
use Rattle.canvas_doc.proofs.tree.Parents.{below-from}

-- no record hangs under a shape
abbrev pub IsChildless : ℕ → List Record → Type 0
IsChildless id rs = All (λ (r : Record). is_child (Shape id) r ≡ false) rs

-- the record of another id has another id
other-found : (id p : ℕ) (rs : List Record) (r : Record) → (p == id) ≡ false → record_of p rs ≡ Some r → (r.id == id) ≡ false
other-found id p rs r apart e =
    let same : r.id ≡ p = eqb-true r.id p (found-has p rs r e) in
    ap (λ n. n == id) same ∙ apart

-- no path from another parent comes to the shape
pub below-childless : (n id : ℕ) (rs : List Record) (q : Parent) → IsChildless id rs → same_parent q (Shape id) ≡ false → is_below n id rs q ≡ false
unfolding is_below
below-childless zero id rs Page a h = refl
below-childless zero id rs (Shape p) a h = refl
below-childless (suc n) id rs Page a h = refl
below-childless (suc n) id rs (Shape p) a h =
    below-from id (λ q. is_below n id rs q) (record_of p rs)
    (λ r e. or_from (r.id == id) (is_below n id rs r.place.parent) (other-found id p rs r h e)
    (below-childless n id rs r.place.parent a (found-all (λ (s : Record). is_child (Shape id) s ≡ false) p rs r a e)))

kept-head : (t : Record → Bool) (r : Record) (xs ys : List Record) → t r ≡ true → filter t xs ≡ ys → filter t (r ∷ xs) ≡ r ∷ ys
kept-head t r xs ys h e = rw h (ap (λ l. r ∷ l) e)

lost-head : (t : Record → Bool) (r : Record) (xs ys : List Record) → t r ≡ false → filter t xs ≡ ys → filter t (r ∷ xs) ≡ ys
lost-head t r xs ys h e = rw h e

-- tests that agree on the records
pub filter-same : (t u : Record → Bool) (rs : List Record) → All (λ (r : Record). t r ≡ u r) rs → filter t rs ≡ filter u rs
filter-same t u [] a = refl
filter-same t u (r ∷ rs) a =
    let here : t r ≡ u r = All-head (λ (s : Record). t s ≡ u s) r rs a in
    let rest : filter t rs ≡ filter u rs = filter-same t u rs (All-tail (λ (s : Record). t s ≡ u s) r rs a) in
    elim (cases_Bool (u r)) [
      | inl h ↦ kept-head t r rs (filter u rs) (here ∙ h) rest ∙ sym (kept-head u r rs (filter u rs) h refl)
      | inr h ↦ lost-head t r rs (filter u rs) (here ∙ h) rest ∙ sym (lost-head u r rs (filter u rs) h refl)
    ]

-- records above an id
others-kept : (id : ℕ) (rs : List Record) → AllByRecursion (λ (s : Record). id < s.id) rs → filter (λ r. not (r.id == id)) rs ≡ rs
others-kept id [] a = refl
others-kept id (r ∷ rs) a =
    let above : id < r.id = a.0 in
    kept-head (λ r. not (r.id == id)) r rs rs (ap not (other-id r.id id (λ e. omega arith))) (others-kept id rs a.1)

-- all but the record of one id
pub one-removed : (id at : ℕ) (rs : List Record) (d : Record) → AreRising rs → at < length rs → (get_or rs at d).id ≡ id → filter (λ r. not (r.id == id)) rs ≡ remove rs at
one-removed id at [] d w l e = absurd (omega arith)
one-removed id zero (r ∷ rs) d w l e =
    lost-head (λ s. not (s.id == id)) r rs rs (ap not (eq-eqb r.id id e))
    (others-kept id rs (subst (λ n. AllByRecursion (λ (s : Record). n < s.id) rs) e w.0))
one-removed id (suc at) (r ∷ rs) d w l e =
    let above : r.id < (get_or rs at d).id = above-at r.id rs at d w.0 (omega arith) in
    kept-head (λ s. not (s.id == id)) r rs (remove rs at) (ap not (other-id r.id id (λ k. omega arith)))
    (one-removed id at rs d w.1 (omega arith) e)

subtree-alone : (id : ℕ) (rs : List Record) (r : Record) → IsChildless id rs → is_child (Shape id) r ≡ false → not (is_in_subtree id rs r) ≡ not (r.id == id)
subtree-alone id rs r a h =
    ap (λ b. not ((r.id == id) || b)) (below-childless 32 id rs r.place.parent a h) ∙ ap not (or_none (r.id == id))
  where
    or_none : (b : Bool) → (b || false) ≡ b
    or_none true = refl
    or_none false = refl

-- with a shape under which nothing hangs goes its record alone
pub childless-deleted : (id at : ℕ) (rs : List Record) → AreRising rs → StandsAt rs id at → IsChildless id rs → filter (λ r. not (is_in_subtree id rs r)) rs ≡ remove rs at
childless-deleted id at [] w s a = absurd (omega (arith, s.0))
childless-deleted id at (x ∷ rs) w s a =
    let all = x ∷ rs in
    let there : (get_or all at x).id ≡ id = eqb-true (get_or all at x).id id (found-has id all (get_or all at x) (s.1 x)) in
    filter-same (λ r. not (is_in_subtree id all r)) (λ r. not (r.id == id)) all (λ i d l. subtree-alone id all (get_or all i d) a (a i d l))
    ∙ one-removed id at all x w s.0 there

none-kept : (t : Record → Bool) (rs : List Record) → filter t rs ≡ [] → All (λ (r : Record). t r ≡ false) rs
none-kept t [] e = All-nil (λ (r : Record). t r ≡ false)
none-kept t (r ∷ rs) e = elim (cases_Bool (t r)) [
  | inl h ↦ (let some : r ∷ filter t rs ≡ [] = rw h at e in cc)
  | inr h ↦ (let none : filter t rs ≡ [] = rw h at e in All-cons (λ (s : Record). t s ≡ false) r rs h (none-kept t rs none))
]

-- no children in the order, none among the records
pub childless-from_range : (id : ℕ) (order rs : List Record) (low high : ℕ) → IsInPlaceOrder order rs → AreChildrenWithin (Shape id) order low high → high ≤ low → IsChildless id rs
childless-from_range id order rs low high o within h =
    let t : Record → Bool = λ r. is_child (Shape id) r in
    let none : high - low ≡ 0 = omega arith in
    let kept : All (λ (r : Record). t r ≡ false) order = none-kept t order (sym within.are ∙ ap (λ n. take n (drop low order)) none) in
    λ i d l.
    let there : Contains order (get_or rs i d) = o.complete i d l in
    ap t (sym there.2) ∙ kept there.0 (get_or rs i d) there.1

none-pass : (id : ℕ) (rs : List Record) → IsChildless id rs → has_no_child id rs ≡ true
none-pass id [] a = refl
none-pass id (r ∷ rs) a =
    let here : is_child (Shape id) r ≡ false = All-head (λ (s : Record). is_child (Shape id) s ≡ false) r rs a in
    rw here (none-pass id rs (All-tail (λ (s : Record). is_child (Shape id) s ≡ false) r rs a))

-- the first of the children
first-child : (p : Parent) (order : List Record) (low high : ℕ) (d : Record) → AreChildrenWithin p order low high → low < high → is_child p (get_or order low d) ≡ true
first-child p order low high d within h =
    let some : 0 < high - low = omega arith in
    let bound : high ≤ length order = within.bound in
    let long : 0 < length (take (high - low) (drop low order)) = simp (length-take, length-drop) (omega arith) in
    let first : get_or (take (high - low) (drop low order)) 0 d ≡ get_or order (low + 0) d = get_or-take (high - low) (drop low order) 0 d some ∙ get_or-drop low order 0 d in
    let same : low + 0 ≡ low = omega arith in
    ap (is_child p) (sym (ap (λ n. get_or order n d) same) ∙ sym first ∙ ap (λ l. get_or l 0 d) within.are)
    ∙ filter_passes (is_child p) order 0 d (subst (λ l. 0 < length l) within.are long)

some-child : (id : ℕ) (order rs : List Record) (low high : ℕ) → IsInPlaceOrder order rs → AreChildrenWithin (Shape id) order low high → low < high → has_no_child id rs ≡ false
some-child id order rs low high o within h =
    let bound : high ≤ length order = within.bound in
    let within_order : low < length order = omega arith in
    let r = some-at order low within_order in
    let child : is_child (Shape id) (get_or order low r.0) ≡ true = first-child (Shape id) order low high r.0 within h in
    let there : Contains rs (get_or order low r.0) = o.listed low r.0 within_order in
    list_all_at (λ s. not (is_child (Shape id) s)) rs there.0 (get_or order low r.0) there.1
    (ap (λ s. not (is_child (Shape id) s)) there.2 ∙ ap not child)

-- whether a shape has no child is seen in the order
pub no_child-from_range : (id : ℕ) (order rs : List Record) (low high : ℕ) → IsInPlaceOrder order rs → AreChildrenWithin (Shape id) order low high → (low == high) ≡ has_no_child id rs
no_child-from_range id order rs low high o within =
    let from : low ≤ high = within.from in
    elim (cases_Bool (low == high)) [
      | inl t ↦ (let same : low ≡ high = eqb-true low high t in
          t ∙ sym (none-pass id rs (childless-from_range id order rs low high o within (omega arith))))
      | inr f ↦ f ∙ sym (some-child id order rs low high o within (grind (arith, nat_tests)))
    ]
