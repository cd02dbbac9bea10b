-- Bounds of records after an edit of the order in which they stand.
use Rattle.std.proofs.Common.{◌≡◌, ◌≢◌, ℕ, zero, suc, ◌+◌, ◌-◌, ◌<◌, ◌≤◌, ◌==◌, nat_lt, ◌&&◌, List, [], ◌∷◌, true, false, cond, Option, Some, None, refl, sym, ap, subst, ◌∙◌, arith, inl, inr, All, length, set, map}
use Rattle.std.specs.List.{Contains, insert, remove, slice_get}
use Rattle.std.specs.Option.{option_map}
use Rattle.std.proofs.Math.ListN.{length-set}
use Rattle.std.proofs.lemmas.Bool.{cases_Bool, eq-eqb, eqb-true, true≢false, and_right}
use Rattle.std.proofs.lemmas.Bool.Decides.{nat_tests}
use Rattle.std.proofs.lemmas.List.{length-map}
use Rattle.std.proofs.lemmas.List.Edits.{length-insert, length-remove}
use Rattle.std.proofs.lemmas.List.Elements.{All-contains}
use Rattle.std.proofs.lemmas.Option.{same_Some, slice_get-map, slice_get_within}
use Rattle.canvas_key.specs.Rank.{fresh_key}
use Rattle.canvas_plane.specs.declared.Pose.{Pose}
use Rattle.canvas_shape.specs.declared.Kind.{Kind}
use Rattle.canvas_shape.specs.declared.Kind.TheVariants.{Group}
use Rattle.canvas_doc.specs.declared.bounds.Bounds.{Bounds}
use Rattle.canvas_record.specs.declared.records.Parent.{Parent}
use Rattle.canvas_record.specs.declared.records.Parent.TheVariants.{Shape}
use Rattle.canvas_record.specs.declared.records.Record.{Record}
use Rattle.canvas_doc.specs.Bounds.{AreBounds, AreBoundsBut, HoldsOwn, IsCarriedWithin, IsHeldAbove, HaveOneShape}
use Rattle.canvas_record.specs.Children.{is_child, same_parent}
use Rattle.canvas_record.specs.Contents.{record_of, is_container, reaches_from, reaches_page, AreRising}
use Rattle.canvas_record.specs.Effect.{rank_of, respaced}
use Rattle.canvas_doc.proofs.tree.Found.{found-at}
use Rattle.canvas_doc.proofs.tree.Parents.{same_parent-is}

-- ---- items of a list after an edit, by position

module _ {X : Type 0} where
  insert-before : (xs : List X) (at j : ℕ) (y : X) → j < at → at ≤ length xs → slice_get (insert xs at y) j ≡ slice_get xs j
  insert-before [] at j y l b = absurd (omega arith)
  insert-before (x ∷ xs) zero j y l b = absurd (omega arith)
  insert-before (x ∷ xs) (suc at) zero y l b = refl
  insert-before (x ∷ xs) (suc at) (suc j) y l b = insert-before xs at j y (omega arith) (omega arith)

  insert-there : (xs : List X) (at : ℕ) (y : X) → at ≤ length xs → slice_get (insert xs at y) at ≡ Some y
  insert-there xs zero y b = refl
  insert-there [] (suc at) y b = absurd (omega arith)
  insert-there (x ∷ xs) (suc at) y b = insert-there xs at y (omega arith)

  insert-behind : (xs : List X) (at j : ℕ) (y : X) → at ≤ j → at ≤ length xs → slice_get (insert xs at y) (suc j) ≡ slice_get xs j
  insert-behind xs zero j y l b = refl
  insert-behind [] (suc at) j y l b = absurd (omega arith)
  insert-behind (x ∷ xs) (suc at) zero y l b = absurd (omega arith)
  insert-behind (x ∷ xs) (suc at) (suc j) y l b = insert-behind xs at j y (omega arith) (omega arith)

  remove-before : (xs : List X) (at j : ℕ) → j < at → slice_get (remove xs at) j ≡ slice_get xs j
  remove-before [] zero j l = absurd (omega arith)
  remove-before [] (suc at) j l = refl
  remove-before (x ∷ xs) zero j l = absurd (omega arith)
  remove-before (x ∷ xs) (suc at) zero l = refl
  remove-before (x ∷ xs) (suc at) (suc j) l = remove-before xs at j (omega arith)

  remove-behind : (xs : List X) (at j : ℕ) → at ≤ j → slice_get (remove xs at) j ≡ slice_get xs (suc j)
  remove-behind [] zero j l = refl
  remove-behind [] (suc at) j l = refl
  remove-behind (x ∷ xs) zero j l = refl
  remove-behind (x ∷ xs) (suc at) zero l = absurd (omega arith)
  remove-behind (x ∷ xs) (suc at) (suc j) l = remove-behind xs at j (omega arith)

  set-there : (xs : List X) (at : ℕ) (y : X) → at < length xs → slice_get (set xs at y) at ≡ Some y
  set-there [] at y b = absurd (omega arith)
  set-there (x ∷ xs) zero y b = refl
  set-there (x ∷ xs) (suc at) y b = set-there xs at y (omega arith)

  set-elsewhere : (xs : List X) (at j : ℕ) (y : X) → j ≢ at → slice_get (set xs at y) j ≡ slice_get xs j
  set-elsewhere [] at j y ne = refl
  set-elsewhere (x ∷ xs) zero zero y ne = absurd (ne refl)
  set-elsewhere (x ∷ xs) zero (suc j) y ne = refl
  set-elsewhere (x ∷ xs) (suc at) zero y ne = refl
  set-elsewhere (x ∷ xs) (suc at) (suc j) y ne = set-elsewhere xs at j y (λ e. ne (ap suc e))

-- ---- one record with its bounds

-- what AreBounds says of one record with its bounds, over those that stand in the order
pub record Suits (order : List Record) (bounds : List Bounds) (r : Record) (b : Bounds) : Type 0 where
  pub own : r.hidden ≡ false → HoldsOwn r.kind r.pose b
  pub below : (j : ℕ) (s : Record) (c : Bounds) → slice_get order j ≡ Some s → slice_get bounds j ≡ Some c → is_child (Shape r.id) s ≡ true → r.hidden ≡ false → r.kind ≡ Group → IsCarriedWithin r.pose c b

own-same : (r s : Record) (b : Bounds) → HaveOneShape r s → HoldsOwn r.kind r.pose b → HoldsOwn s.kind s.pose b
own-same r s b e h =
    let P : Kind → Type 0 = λ k. HoldsOwn k r.pose b in
    let Q : Pose → Type 0 = λ p. HoldsOwn s.kind p b in
    subst Q (sym e.pose) (subst P (sym e.kind) h)

carried-same : (r s : Record) (c b : Bounds) → HaveOneShape r s → IsCarriedWithin r.pose c b → IsCarriedWithin s.pose c b
carried-same r s c b e h = let P : Pose → Type 0 = λ p. IsCarriedWithin p c b in subst P (sym e.pose) h

-- ---- another record at one position

-- the items of two lists but those at one position, each in its other position
pub record MovedBeside (at : ℕ) (order now : List Record) (bounds then : List Bounds) (j : ℕ) : Type 0 where
  pub from : ℕ
  pub shape : slice_get now j ≡ slice_get order from
  pub box : slice_get then j ≡ slice_get bounds from

module _ (at : ℕ) (order now : List Record) (bounds then : List Bounds) (r : Record) (b : Bounds) (kept : AreBounds order bounds) (suits : Suits order bounds r b) (shape : slice_get now at ≡ Some r) (box : slice_get then at ≡ Some b) (others : (j : ℕ) → j ≢ at → MovedBeside at order now bounds then j) where
  new-own : (k : ℕ) (s : Record) (c : Bounds) → slice_get now k ≡ Some s → slice_get then k ≡ Some c → s.hidden ≡ false → HoldsOwn s.kind s.pose c
  new-own k s c e f h = elim (cases_Bool (k == at)) [
    | inl t ↦ (
        let same : k ≡ at = eqb-true k at t in
        let one : r ≡ s = same_Some r s (sym shape ∙ ap (slice_get now) (sym same) ∙ e) in
        let other : b ≡ c = same_Some b c (sym box ∙ ap (slice_get then) (sym same) ∙ f) in
        let P : Record → Type 0 = λ x. x.hidden ≡ false → HoldsOwn x.kind x.pose c in
        let Q : Bounds → Type 0 = λ x. r.hidden ≡ false → HoldsOwn r.kind r.pose x in
        subst P one (subst Q other suits.own) h)
    | inr g ↦ (
        let m = others k (λ q. true≢false (sym (eq-eqb k at q) ∙ g)) in
        kept.own m.from s c (sym m.shape ∙ e) (sym m.box ∙ f) h)
  ]

  new-below : (i j : ℕ) (s t : Record) (c d : Bounds) → j ≢ at → slice_get now i ≡ Some s → slice_get now j ≡ Some t → slice_get then i ≡ Some c → slice_get then j ≡ Some d → is_child (Shape s.id) t ≡ true → s.hidden ≡ false → s.kind ≡ Group → IsCarriedWithin s.pose d c
  new-below i j s t c d ne e f g h =
      let m = others j ne in
      let there : slice_get order m.from ≡ Some t = sym m.shape ∙ f in
      let held : slice_get bounds m.from ≡ Some d = sym m.box ∙ h in
      elim (cases_Bool (i == at)) [
        | inl q ↦ (
            let same : i ≡ at = eqb-true i at q in
            let one : r ≡ s = same_Some r s (sym shape ∙ ap (slice_get now) (sym same) ∙ e) in
            let other : b ≡ c = same_Some b c (sym box ∙ ap (slice_get then) (sym same) ∙ g) in
            let P : Record → Type 0 = λ x. is_child (Shape x.id) t ≡ true → x.hidden ≡ false → x.kind ≡ Group → IsCarriedWithin x.pose d c in
            let Q : Bounds → Type 0 = λ x. is_child (Shape r.id) t ≡ true → r.hidden ≡ false → r.kind ≡ Group → IsCarriedWithin r.pose d x in
            subst P one (subst Q other (suits.below m.from t d there held)))
        | inr q ↦ (
            let n = others i (λ z. true≢false (sym (eq-eqb i at z) ∙ q)) in
            kept.below n.from m.from s t c d (sym n.shape ∙ e) there (sym n.box ∙ g) held)
      ]

  with-new : length then ≡ length now → AreBoundsBut at now then
  with-new long = record { long = long; own = new-own; below = new-below }

  -- the same, where the group above holds the new bounds
  held-new : length then ≡ length now → is_child (Shape r.id) r ≡ false → IsHeldAbove order bounds r b → AreBounds now then
  held-new long alone above = record {
    long = long;
    own = new-own;
    below = λ i j s t c d e f g h child shown group. elim (cases_Bool (j == at)) [
      | inl q ↦ (
          let same : j ≡ at = eqb-true j at q in
          let one : r ≡ t = same_Some r t (sym shape ∙ ap (slice_get now) (sym same) ∙ f) in
          let other : b ≡ d = same_Some b d (sym box ∙ ap (slice_get then) (sym same) ∙ h) in
          let under : is_child (Shape s.id) r ≡ true = ap (is_child (Shape s.id)) one ∙ child in
          elim (cases_Bool (i == at)) [
            | inl p ↦ (
                let itself : r ≡ s = same_Some r s (sym shape ∙ ap (slice_get now) (sym (eqb-true i at p)) ∙ e) in
                absurd (true≢false (sym under ∙ ap (λ (x : Record). is_child (Shape x.id) r) (sym itself) ∙ alone)))
            | inr p ↦ (
                let n = others i (λ z. true≢false (sym (eq-eqb i at z) ∙ p)) in
                subst (λ x. IsCarriedWithin s.pose x c) other (above.holds n.from s c (sym n.shape ∙ e) (sym n.box ∙ g) under shown group))
          ])
      | inr q ↦ new-below i j s t c d (λ z. true≢false (sym (eq-eqb j at z) ∙ q)) e f g h child shown group
    ];
  }

-- where the others stand beside one more
more-beside : (order : List Record) (bounds : List Bounds) (at : ℕ) (r : Record) (b : Bounds) → at ≤ length order → at ≤ length bounds → (j : ℕ) → j ≢ at → MovedBeside at order (insert order at r) bounds (insert bounds at b) j
more-beside order bounds at r b within fits = λ j ne. elim (cases_Bool (nat_lt j at)) [
  | inl t ↦ (
      let before : j < at = grind (arith, nat_tests) in
      record { from = j; shape = insert-before order at j r before within; box = insert-before bounds at j b before fits })
  | inr f ↦ (
      let behind : at ≤ j - 1 = grind (arith, nat_tests) in
      let next : j ≡ suc (j - 1) = grind (arith, nat_tests) in
      record {
        from = j - 1;
        shape = ap (slice_get (insert order at r)) next ∙ insert-behind order at (j - 1) r behind within;
        box = ap (slice_get (insert bounds at b)) next ∙ insert-behind bounds at (j - 1) b behind fits;
      })
]

-- where the others stand beside one that was changed
set-beside : (order : List Record) (bounds : List Bounds) (at : ℕ) (r : Record) (b : Bounds) → (j : ℕ) → j ≢ at → MovedBeside at order (set order at r) bounds (set bounds at b) j
set-beside order bounds at r b = λ j ne. record { from = j; shape = set-elsewhere order at j r ne; box = set-elsewhere bounds at j b ne }

-- one more record
pub put : (order : List Record) (bounds : List Bounds) (at : ℕ) (r : Record) (b : Bounds) → AreBounds order bounds → at ≤ length order → Suits order bounds r b → AreBoundsBut at (insert order at r) (insert bounds at b)
put order bounds at r b kept within suits =
    let same : length bounds ≡ length order = kept.long in
    let fits : at ≤ length bounds = omega arith in
    with-new at order (insert order at r) bounds (insert bounds at b) r b kept suits (insert-there order at r within) (insert-there bounds at b fits) (more-beside order bounds at r b within fits)
    (length-insert bounds at b fits ∙ ap (λ n. n + 1) same ∙ sym (length-insert order at r within))

-- the same, where the group above holds it
pub put-held : (order : List Record) (bounds : List Bounds) (at : ℕ) (r : Record) (b : Bounds) → AreBounds order bounds → at ≤ length order → Suits order bounds r b → is_child (Shape r.id) r ≡ false → IsHeldAbove order bounds r b → AreBounds (insert order at r) (insert bounds at b)
put-held order bounds at r b kept within suits alone above =
    let same : length bounds ≡ length order = kept.long in
    let fits : at ≤ length bounds = omega arith in
    held-new at order (insert order at r) bounds (insert bounds at b) r b kept suits (insert-there order at r within) (insert-there bounds at b fits) (more-beside order bounds at r b within fits)
    (length-insert bounds at b fits ∙ ap (λ n. n + 1) same ∙ sym (length-insert order at r within)) alone above

-- another record in the place of one
pub changed : (order : List Record) (bounds : List Bounds) (at : ℕ) (r : Record) (b : Bounds) → AreBounds order bounds → at < length order → Suits order bounds r b → AreBoundsBut at (set order at r) (set bounds at b)
changed order bounds at r b kept within suits =
    let same : length bounds ≡ length order = kept.long in
    with-new at order (set order at r) bounds (set bounds at b) r b kept suits (set-there order at r within) (set-there bounds at b (omega arith)) (set-beside order bounds at r b)
    (length-set bounds at b ∙ same ∙ sym (length-set order at r))

-- the same, where the group above holds it
pub changed-held : (order : List Record) (bounds : List Bounds) (at : ℕ) (r : Record) (b : Bounds) → AreBounds order bounds → at < length order → Suits order bounds r b → is_child (Shape r.id) r ≡ false → IsHeldAbove order bounds r b → AreBounds (set order at r) (set bounds at b)
changed-held order bounds at r b kept within suits alone above =
    let same : length bounds ≡ length order = kept.long in
    held-new at order (set order at r) bounds (set bounds at b) r b kept suits (set-there order at r within) (set-there bounds at b (omega arith)) (set-beside order bounds at r b)
    (length-set bounds at b ∙ same ∙ sym (length-set order at r)) alone above

-- ---- records that all come from those of another list

-- a record with its bounds stands in other lists, but for its index
pub record ComesFrom (order : List Record) (bounds : List Bounds) (s : Record) (c : Bounds) : Type 0 where
  pub at : ℕ
  pub old : Record
  pub shape : slice_get order at ≡ Some old
  pub box : slice_get bounds at ≡ Some c
  pub same : HaveOneShape old s
  pub parent : s.place.parent ≡ old.place.parent

-- one that stands there itself
pub comes-itself : (order : List Record) (bounds : List Bounds) (s : Record) (c : Bounds) (at : ℕ) → slice_get order at ≡ Some s → slice_get bounds at ≡ Some c → ComesFrom order bounds s c
comes-itself order bounds s c at e f = record {
  at = at;
  old = s;
  shape = e;
  box = f;
  same = record { id = refl; kind = refl; pose = refl; hidden = refl };
  parent = refl;
}

pub all-come : (order now : List Record) (bounds then : List Bounds) → AreBounds order bounds → length then ≡ length now → ((k : ℕ) (s : Record) (c : Bounds) → slice_get now k ≡ Some s → slice_get then k ≡ Some c → ComesFrom order bounds s c) → AreBounds now then
all-come order now bounds then kept long from = record {
  long = long;
  own = λ k s c e f h.
      let o : ComesFrom order bounds s c = from k s c e f in
      own-same o.old s c o.same (kept.own o.at o.old c o.shape o.box (sym o.same.hidden ∙ h));
  below = λ i j s t c d e f g h child shown group.
      let o : ComesFrom order bounds s c = from i s c e g in
      let p : ComesFrom order bounds t d = from j t d f h in
      let under : is_child (Shape o.old.id) p.old ≡ true = ap (λ q. same_parent q (Shape o.old.id)) (sym p.parent) ∙ ap (λ n. is_child (Shape n) t) (sym o.same.id) ∙ child in
      carried-same o.old s d c o.same (kept.below o.at p.at o.old p.old c d o.shape p.shape o.box p.box under (sym o.same.hidden ∙ shown) (sym o.same.kind ∙ group));
}

-- ---- one record less

module _ (order : List Record) (bounds : List Bounds) (at : ℕ) where
  one-of : (k : ℕ) (s : Record) (c : Bounds) → slice_get (remove order at) k ≡ Some s → slice_get (remove bounds at) k ≡ Some c → (j : ℕ) × (slice_get order j ≡ Some s) × (slice_get bounds j ≡ Some c)
  one-of k s c e f = elim (cases_Bool (nat_lt k at)) [
    | inl t ↦ (let before : k < at = grind (arith, nat_tests) in (k, sym (remove-before order at k before) ∙ e, sym (remove-before bounds at k before) ∙ f))
    | inr g ↦ (let behind : at ≤ k = grind (arith, nat_tests) in (suc k, sym (remove-behind order at k behind) ∙ e, sym (remove-behind bounds at k behind) ∙ f))
  ]

  pub taken : AreBounds order bounds → at < length order → AreBounds (remove order at) (remove bounds at)
  taken kept within =
      let same : length bounds ≡ length order = kept.long in
      let fits : at < length bounds = omega arith in
      all-come order (remove order at) bounds (remove bounds at) kept
      (let a : length (remove order at) + 1 ≡ length order = length-remove order at within in let b : length (remove bounds at) + 1 ≡ length bounds = length-remove bounds at fits in omega arith)
      (λ k s c e f. (let o = one-of k s c e f in comes-itself order bounds s c o.0 o.1 o.2))

  -- a record keeps its bounds at another place
  pub suits-moved : (r s : Record) (b : Bounds) → AreBounds order bounds → slice_get order at ≡ Some r → slice_get bounds at ≡ Some b → HaveOneShape r s → Suits (remove order at) (remove bounds at) s b
  suits-moved r s b kept shape box e = record {
    own = λ h. own-same r s b e (kept.own at r b shape box (sym e.hidden ∙ h));
    below = λ j t c f g child shown group.
        let o = one-of j t c f g in
        carried-same r s c b e (kept.below at o.0 r t b c shape o.1 box o.2 (ap (λ n. is_child (Shape n) t) (sym e.id) ∙ child) (sym e.hidden ∙ shown) (sym e.kind ∙ group));
  }

  -- a group that holds a record's bounds still does
  held-taken : (s : Record) (b : Bounds) → IsHeldAbove order bounds s b → IsHeldAbove (remove order at) (remove bounds at) s b
  held-taken s b above = record { holds = λ i r c e f child shown group. (let o = one-of i r c e f in above.holds o.0 r c o.1 o.2 child shown group) }

-- a record at another place, with its bounds
pub moved : (order : List Record) (bounds : List Bounds) (from to : ℕ) (r s : Record) (b : Bounds) → AreBounds order bounds → slice_get order from ≡ Some r → slice_get bounds from ≡ Some b → HaveOneShape r s → to ≤ length (remove order from) → AreBoundsBut to (insert (remove order from) to s) (insert (remove bounds from) to b)
moved order bounds from to r s b kept shape box e within =
    put (remove order from) (remove bounds from) to s b (taken order bounds from kept (slice_get_within order from r shape)) within (suits-moved order bounds from r s b kept shape box e)

-- the same, where the group at the other place holds it
pub moved-held : (order : List Record) (bounds : List Bounds) (from to : ℕ) (r s : Record) (b : Bounds) → AreBounds order bounds → slice_get order from ≡ Some r → slice_get bounds from ≡ Some b → HaveOneShape r s → to ≤ length (remove order from) → is_child (Shape s.id) s ≡ false → IsHeldAbove order bounds s b → AreBounds (insert (remove order from) to s) (insert (remove bounds from) to b)
moved-held order bounds from to r s b kept shape box e within alone above =
    put-held (remove order from) (remove bounds from) to s b (taken order bounds from kept (slice_get_within order from r shape)) within (suits-moved order bounds from r s b kept shape box e) alone (held-taken order bounds from s b above)

-- ---- new indexes

-- what a change of each record keeps: all but the indexes
pub record KeepsShapes (f : Record → Record) : Type 0 where
  pub same : (r : Record) → HaveOneShape r (f r)
  pub parents : (r : Record) → (f r).place.parent ≡ r.place.parent

mapped-from : (f : Record → Record) (o : Option Record) (s : Record) → option_map f o ≡ Some s → (r : Record) × (o ≡ Some r) × (f r ≡ s)
mapped-from f None s e = cc
mapped-from f (Some r) s e = (r, refl, same_Some (f r) s e)

pub mapped : (order : List Record) (bounds : List Bounds) (f : Record → Record) → KeepsShapes f → AreBounds order bounds → AreBounds (map f order) bounds
mapped order bounds f k kept = all-come order (map f order) bounds bounds kept (kept.long ∙ sym (length-map order f))
    (λ j s c e g.
    let o = mapped-from f (slice_get order j) s (sym (slice_get-map f order j) ∙ e) in
    let P : Record → Type 0 = λ x. ComesFrom order bounds x c in
    subst P o.2 (record { at = j; old = o.0; shape = o.1; box = g; same = k.same o.0; parent = k.parents o.0 }))

respaced-keeps : (p : Parent) (rs : List Record) → KeepsShapes (respaced p rs)
respaced-keeps p rs = record {
  same = λ r. elim (is_child p r) as (λ b. HaveOneShape r (cond b (record r { place = record r.place { index = fresh_key (rank_of rs r) } }) r)) [
    | true ↦ record { id = refl; kind = refl; pose = refl; hidden = refl }
    | false ↦ record { id = refl; kind = refl; pose = refl; hidden = refl }
  ];
  parents = λ r. elim (is_child p r) as (λ b. (cond b (record r { place = record r.place { index = fresh_key (rank_of rs r) } }) r).place.parent ≡ r.place.parent) [ true ↦ refl | false ↦ refl ];
}

pub respaced-bounds : (order : List Record) (bounds : List Bounds) (p : Parent) (rs : List Record) → AreBounds order bounds → AreBounds (map (respaced p rs) order) bounds
respaced-bounds order bounds p rs kept = mapped order bounds (respaced p rs) (respaced-keeps p rs) kept

-- ---- shapes that have no child, or not themselves

-- a path that comes back to where it begins never reaches the page
circle-stays : (n : ℕ) (rs : List Record) (r : Record) → record_of r.id rs ≡ Some r → r.place.parent ≡ Shape r.id → reaches_page n rs (Shape r.id) ≡ false
unfolding reaches_page
circle-stays zero rs r found own = refl
circle-stays (suc n) rs r found own =
    ap (reaches_from (λ q. reaches_page n rs q)) found
    ∙ ap (λ q. is_container r.kind && reaches_page n rs q) own
    ∙ ap (λ b. is_container r.kind && b) (circle-stays n rs r found own)
    ∙ and_right (is_container r.kind) false refl

-- no shape is its own child
pub no-own_child : (rs : List Record) (r : Record) → AreRising rs → All (λ (s : Record). reaches_page 31 rs s.place.parent ≡ true) rs → Contains rs r → is_child (Shape r.id) r ≡ false
no-own_child rs r rising grounded there = elim (cases_Bool (is_child (Shape r.id) r)) [
  | inl t ↦ (
      let own : r.place.parent ≡ Shape r.id = same_parent-is r.place.parent (Shape r.id) t in
      let found : record_of r.id rs ≡ Some r = sym (found-at rs there.0 r.id r rising there.1 (sym there.2) refl) in
      let reaches : reaches_page 31 rs r.place.parent ≡ true = All-contains (λ (s : Record). reaches_page 31 rs s.place.parent ≡ true) rs r grounded there in
      absurd (true≢false (sym reaches ∙ ap (reaches_page 31 rs) own ∙ circle-stays 31 rs r found own)))
  | inr f ↦ f
]
