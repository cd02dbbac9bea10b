-- Bounds of groups, made wide enough to hold those of their children.
use Rattle.std.proofs.Common.{◌≡◌, ◌≢◌, ℕ, zero, suc, ◌+◌, ◌-◌, ◌<◌, ◌≤◌, ◌==◌, List, [], ◌∷◌, true, false, Option, Some, refl, sym, ap, subst, ◌∙◌, arith, inl, inr, length, get_or, set, All, ◌||◌, ℤ}
use Rattle.std.specs.List.{Contains, slice_get}
use Rattle.std.proofs.Math.ListN.{length-set}
use Rattle.std.proofs.lemmas.Bool.{cases_Bool, eq-eqb, eqb-true, true≢false}
use Rattle.std.proofs.lemmas.List.{get_or-set_same}
use Rattle.std.proofs.lemmas.List.Elements.{All-contains}
use Rattle.std.proofs.lemmas.Option.{get_or_from_slice_get, slice_get_read, slice_get_within}
use Rattle.canvas_plane.specs.declared.Point.{Point}
use Rattle.canvas_plane.specs.declared.Pose.{Pose}
use Rattle.canvas_plane.specs.Motion.{carry}
use Rattle.canvas_shape.specs.declared.Kind.{Kind}
use Rattle.canvas_shape.specs.declared.Kind.TheVariants.{Ellipse, Frame, Group, Polygon, Rect}
use Rattle.canvas_doc.specs.declared.bounds.Bounds.{Bounds}
use Rattle.canvas_record.specs.declared.records.Parent.{Parent}
use Rattle.canvas_record.specs.declared.records.Parent.TheVariants.{Page, Shape}
use Rattle.canvas_record.specs.declared.records.Record.{Record}
use Rattle.canvas_doc.specs.Bounds.{holds_on_page, is_empty, is_group, is_whole, left_top, right_bottom, AreBounds, AreWithin, HoldChildren, HoldChildrenBut, HoldsOwn, IsCarriedWithin, IsGroupAt, IsGroupPosition, IsHeldAbove, IsWithinBounds}
use Rattle.canvas_record.specs.Children.{is_child}
use Rattle.canvas_record.specs.Contents.{AreRising, reaches_page, record_of}
use Rattle.canvas_doc.specs.PlaceOrder.{IsInPlaceOrder, IsPlaceOf}
use Rattle.canvas_record.specs.Tree.{IsInLimits}
use Rattle.canvas_doc.proofs.boxes.BoundsLaws.{carried-within, own-within, within-itself, within-trans}
use Rattle.canvas_doc.proofs.boxes.EdgeLaws.{empty-none}
use Rattle.canvas_doc.proofs.tree.Found.{found-here, found-has}
use Rattle.canvas_doc.proofs.tree.Marks.{reaches-up}
use Rattle.canvas_doc.proofs.lists.Members.{EachOnce, apart, item-at, item-in}
use Rattle.canvas_doc.proofs.siblings.Neighbours.{found-contained}
use Rattle.canvas_doc.proofs.extents.Pulled.{compose, Composed, pulled}
use Rattle.canvas_doc.proofs.places.Reordered.{places-once, stands-at}
use Rattle.canvas_doc.proofs.tree.Parents.{same_parent-is}

-- ---- items by position

set-same : (bs : List Bounds) (k : ℕ) (b : Bounds) → k < length bs → slice_get (set bs k b) k ≡ Some b
set-same bs k b h =
    let l : length (set bs k b) ≡ length bs = length-set bs k b in
    slice_get_read (set bs k b) (length (set bs k b)) k b refl (omega arith) (sym (get_or-set_same bs k b b h))

set-other : (bs : List Bounds) (k j : ℕ) (b : Bounds) → j ≢ k → slice_get (set bs k b) j ≡ slice_get bs j
set-other [] k j b ne = refl
set-other (x ∷ xs) zero zero b ne = absurd (ne refl)
set-other (x ∷ xs) zero (suc j) b ne = refl
set-other (x ∷ xs) (suc k) zero b ne = refl
set-other (x ∷ xs) (suc k) (suc j) b ne = set-other xs k j b (λ e. ne (ap suc e))

differ : (a b : ℕ) → (a == b) ≡ false → a ≢ b
differ a b f e = true≢false (sym (eq-eqb a b e) ∙ f)

-- two items at one position
pub one-item : {X : Type 0} (xs : List X) (k : ℕ) (x y : X) → slice_get xs k ≡ Some x → slice_get xs k ≡ Some y → x ≡ y
one-item xs k x y e f = sym (get_or_from_slice_get xs k x x e) ∙ get_or_from_slice_get xs k y x f

pub same-at : {X : Type 0} (xs : List X) (j k : ℕ) (x y : X) → j ≡ k → slice_get xs j ≡ Some x → slice_get xs k ≡ Some y → x ≡ y
same-at xs j k x y s e f = one-item xs k x y (subst (λ n. slice_get xs n ≡ Some x) s e) f

-- an item that stands once, at one position
pub position-of : {X : Type 0} (xs : List X) (i k : ℕ) (x : X) → EachOnce xs → slice_get xs i ≡ Some x → k < length xs → get_or xs k x ≡ x → i ≡ k
position-of xs i k x once e b f = elim (cases_Bool (i == k)) [
  | inl t ↦ eqb-true i k t
  | inr n ↦ absurd (apart xs i k x once (differ i k n) (slice_get_within xs i x e) b (get_or_from_slice_get xs i x x e ∙ sym f))
]

-- ---- empty bounds

none-shown : (out : Pose) (a : Bounds) (x y : ℤ) → is_empty a ≡ true → holds_on_page (carry out) a x y ≡ false
none-shown out a x y e =
    ap (λ t. is_whole a || t) ((pulled out x y).same (left_top a) (right_bottom a))
    ∙ empty-none a.left a.top a.right a.bottom (pulled out x y).u (pulled out x y).v a.edges e

empty-carried : (pose : Pose) (a b : Bounds) → pose.quarter ≤ 3 → is_empty a ≡ true → IsCarriedWithin pose a b
empty-carried pose a b quarter e = record {
  holds = λ out x y q t.
      let both : Composed pose out = compose pose out quarter q in
      absurd (true≢false (sym t ∙ ap (λ (f : Point → Point). holds_on_page f a x y) (sym both.carries) ∙ none-shown both.pose a x y e));
}

-- ---- wider bounds

pub within-set : (bounds : List Bounds) (k : ℕ) (b w : Bounds) → slice_get bounds k ≡ Some b → IsWithinBounds b w → AreWithin bounds (set bounds k w)
within-set bounds k b w e h = record {
  long = length-set bounds k w;
  each = λ j c d f g. elim (cases_Bool (j == k)) [
    | inl t ↦ (
        let same : j ≡ k = eqb-true j k t in
        let first : b ≡ c = sym (same-at bounds j k c b same f e) in
        let last : w ≡ d = sym (same-at (set bounds k w) j k d w same g (set-same bounds k w (slice_get_within bounds k b e))) in
        subst (IsWithinBounds c) last (subst (λ z. IsWithinBounds z w) first h))
    | inr n ↦ subst (IsWithinBounds c) (one-item bounds j c d f (sym (set-other bounds k j w (differ j k n)) ∙ g)) (within-itself c)
  ];
}

abbrev pub HoldOwn : List Record → List Bounds → Type 0
HoldOwn order bounds = (k : ℕ) (r : Record) (b : Bounds) → slice_get order k ≡ Some r → slice_get bounds k ≡ Some b → r.hidden ≡ false → HoldsOwn r.kind r.pose b

pub within-steps : (bounds between after : List Bounds) → AreWithin bounds between → AreWithin between after → AreWithin bounds after
within-steps bounds between after h k = record {
  long = k.long ∙ h.long;
  each = λ j b d e f.
      let c = item-in bounds between j b h.long e in
      within-trans b c.0 d (h.each j b c.0 e c.1) (k.each j c.0 d c.1 f);
}

-- the same of so many records from the first
abbrev pub HoldOwnBelow : ℕ → List Record → List Bounds → Type 0
HoldOwnBelow n order bounds = (k : ℕ) (r : Record) (b : Bounds) → k < n → slice_get order k ≡ Some r → slice_get bounds k ≡ Some b → r.hidden ≡ false → HoldsOwn r.kind r.pose b

pub own-of_all : (order : List Record) (bounds : List Bounds) (n : ℕ) → length order ≤ n → HoldOwnBelow n order bounds → HoldOwn order bounds
own-of_all order bounds n l own = λ k r b e f shown.
    let below : k < length order = slice_get_within order k r e in
    own k r b (omega arith) e f shown

-- one more record's bounds were made wide enough, and all may have grown since
pub own-more : (order : List Record) (bounds after : List Bounds) (at : ℕ) (s : Record) (held own w : Bounds) → HoldOwnBelow at order bounds → slice_get order at ≡ Some s → slice_get bounds at ≡ Some held → (s.hidden ≡ false → HoldsOwn s.kind s.pose own) → IsWithinBounds held w → IsWithinBounds own w → AreWithin (set bounds at w) after → HoldOwnBelow (at + 1) order after
own-more order bounds after at s held own w old e f holds grown added wider = λ k r c below g h shown.
    let within : AreWithin bounds after = within-steps bounds (set bounds at w) after (within-set bounds at held w f grown) wider in
    elim (cases_Bool (k == at)) [
      | inl t ↦ (
          let place : k ≡ at = eqb-true k at t in
          let is : s ≡ r = sym (same-at order k at r s place g e) in
          let now : slice_get after at ≡ Some c = subst (λ n. slice_get after n ≡ Some c) place h in
          let box : IsWithinBounds w c = wider.each at w c (set-same bounds at w (slice_get_within bounds at held f)) now in
          let P : Record → Type 0 = λ x. x.hidden ≡ false → HoldsOwn x.kind x.pose c in
          let Q : P s = λ seen. own-within s.kind s.pose own c (holds seen) (within-trans own w c added box) in
          subst P is Q shown)
      | inr n ↦ (
          let other : k ≢ at = differ k at n in
          let before = item-in after bounds k c (sym within.long) h in
          own-within r.kind r.pose before.0 c (old k r before.0 (omega arith) g before.1 shown) (within.each k before.0 c before.1 h))
    ]

-- ---- the group about a record

-- groups alone pass the test
is-group : (kind : Kind) → is_group kind ≡ true → kind ≡ Group
is-group Group h = refl
is-group (Frame w h fill) t = cc
is-group (Rect w h fill) t = cc
is-group (Ellipse w h fill) t = cc
is-group (Polygon points fill) t = cc

pub group-found : (p : Parent) (id : ℕ) (rs : List Record) (g : Record) → p ≡ Shape id → record_of id rs ≡ Some g → is_group g.kind ≡ true → g.hidden ≡ false → IsGroupAt p rs g
group-found p id rs g e found group shown =
    let same : g.id ≡ id = eqb-true g.id id (found-has id rs g found) in
    record { is = e ∙ ap Shape (sym same); there = ap (λ n. record_of n rs) same ∙ found; group = is-group g.kind group; shown = shown }

pub one-group : (p : Parent) (rs : List Record) (r g : Record) → IsGroupAt p rs r → IsGroupAt p rs g → r ≡ g
one-group p rs r g h k =
    let parents : Shape r.id ≡ Shape g.id = sym h.is ∙ k.is in
    let ids : r.id ≡ g.id = cc in
    let found : Some r ≡ Some g = sym h.there ∙ ap (λ n. record_of n rs) ids ∙ k.there in
    cc

pub page-no-group : (rs : List Record) (g : Record) → ¬ IsGroupAt Page rs g
page-no-group rs g h = let e : Page ≡ Shape g.id = h.is in cc

-- a record, and where the shown group stands that is its parent
pub above-at : (order rs : List Record) (at k : ℕ) (up : Option ℕ) → at < length order → ((s : Record) → slice_get order at ≡ Some s → IsGroupPosition s.place.parent rs order up) → up ≡ Some k → (s : Record) × (slice_get order at ≡ Some s) × IsGroupPosition s.place.parent rs order (Some k)
above-at order rs at k up within above is =
    let s = item-at order at within in
    (s.0, s.1, subst (IsGroupPosition s.0.place.parent rs order) is (above s.0 s.1))

-- the page is reached from that group, a step up
pub reaches-group : (n : ℕ) (rs : List Record) (s g : Record) → IsGroupAt s.place.parent rs g → reaches_page n rs s.place.parent ≡ true → (order : List Record) (k : ℕ) → slice_get order k ≡ Some g → (r : Record) → slice_get order k ≡ Some r → reaches_page (n - 1) rs r.place.parent ≡ true
reaches-group n rs s g group h order k e = λ r f.
    subst (λ (x : Record). reaches_page (n - 1) rs x.place.parent ≡ true) (one-item order k g r e f)
    (reaches-up n g.id rs g (ap (reaches_page n rs) (sym group.is) ∙ h) group.there)

-- a record, the shown group that is its parent, where both stand, and their bounds
pub record IsStep (order rs : List Record) (bounds : List Bounds) (at k : ℕ) (s g : Record) (c h : Bounds) : Type 0 where
  pub shape : slice_get order at ≡ Some s
  pub own : slice_get bounds at ≡ Some c
  pub group : IsGroupAt s.place.parent rs g
  pub there : slice_get order k ≡ Some g
  pub held : slice_get bounds k ≡ Some h
  pub quarter : g.pose.quarter ≤ 3

module _ (order rs : List Record) (o : IsInPlaceOrder order rs) (rising : AreRising rs) where
  group-of : (i : ℕ) (r s : Record) → slice_get order i ≡ Some r → is_child (Shape r.id) s ≡ true → r.kind ≡ Group → r.hidden ≡ false → IsGroupAt s.place.parent rs r
  group-of i r s e child group shown =
      let there : Contains rs r = subst (Contains rs) (get_or_from_slice_get order i r r e) (o.listed i r (slice_get_within order i r e)) in
      record {
        is = same_parent-is s.place.parent (Shape r.id) child;
        there = found-here rs there.0 r.id r rising there.1 (ap (λ (x : Record). x.id) there.2) ∙ ap Some there.2;
        group = group;
        shown = shown;
      }

  one-place : (i k : ℕ) (r : Record) → slice_get order i ≡ Some r → slice_get order k ≡ Some r → i ≡ k
  one-place i k r e f = position-of order i k r (places-once order o.rising) e (slice_get_within order k r f) (get_or_from_slice_get order k r r f)

  -- the groups that hold a record's bounds are all that is left to know
  done : (bounds : List Bounds) (at : ℕ) (s : Record) → slice_get order at ≡ Some s → HoldChildrenBut at order bounds → ((i : ℕ) (r : Record) (b c : Bounds) → slice_get order i ≡ Some r → slice_get bounds i ≡ Some b → slice_get bounds at ≡ Some c → IsGroupAt s.place.parent rs r → IsCarriedWithin r.pose c b) → HoldChildren order bounds
  done bounds at s e but last = record {
    long = but.long;
    below = λ i j r q b c ei ej eb ec child shown group. elim (cases_Bool (j == at)) [
      | inl t ↦ (
          let same : j ≡ at = eqb-true j at t in
          let is : q ≡ s = same-at order j at q s same ej e in
          last i r b c ei eb (subst (λ n. slice_get bounds n ≡ Some c) same ec) (subst (λ (x : Record). IsGroupAt x.place.parent rs r) is (group-of i r q ei child group shown)))
      | inr n ↦ but.below i j r q b c (differ j at n) ei ej eb ec child shown group
    ];
  }

  -- no group holds the record
  pub done-above : (bounds : List Bounds) (at : ℕ) (s : Record) → slice_get order at ≡ Some s → HoldChildrenBut at order bounds → ((g : Record) → ¬ IsGroupAt s.place.parent rs g) → HoldChildren order bounds
  done-above bounds at s e but none = done bounds at s e but (λ i r b c ei eb ec group. absurd (none r group))

  -- the group's bounds are wide enough
  pub done-held : (bounds : List Bounds) (at k : ℕ) (s g : Record) (c h : Bounds) → IsStep order rs bounds at k s g c h → HoldChildrenBut at order bounds → IsCarriedWithin g.pose c h → HoldChildren order bounds
  done-held bounds at k s g c h step but held = done bounds at s step.shape but (λ i r b d ei eb ed group.
      let is : g ≡ r = sym (one-group s.place.parent rs r g group step.group) in
      let place : i ≡ k = one-place i k r ei (subst (λ x. slice_get order k ≡ Some x) is step.there) in
      let child : c ≡ d = one-item bounds at c d step.own ed in
      let box : h ≡ b = sym (same-at bounds i k b h place eb step.held) in
      subst (λ (x : Record). IsCarriedWithin x.pose d b) is (subst (IsCarriedWithin g.pose d) box (subst (λ x. IsCarriedWithin g.pose x h) child held)))

  -- no group holds a record
  pub none-above : (bounds : List Bounds) (s : Record) (c : Bounds) → ((g : Record) → ¬ IsGroupAt s.place.parent rs g) → IsHeldAbove order bounds s c
  none-above bounds s c none = record { holds = λ i r b ei eb child shown group. absurd (none r (group-of i r s ei child group shown)) }

  -- a group was found, whose bounds are wide enough for others of a record
  pub found-above : (bounds : List Bounds) (k : ℕ) (s g : Record) (c h : Bounds) → IsGroupAt s.place.parent rs g → slice_get order k ≡ Some g → slice_get bounds k ≡ Some h → IsCarriedWithin g.pose c h → IsHeldAbove order bounds s c
  found-above bounds k s g c h group there held within = record {
    holds = λ i r b ei eb child shown kind.
        let is : g ≡ r = sym (one-group s.place.parent rs r g (group-of i r s ei child kind shown) group) in
        let place : i ≡ k = one-place i k r ei (subst (λ x. slice_get order k ≡ Some x) is there) in
        let box : h ≡ b = sym (same-at bounds i k b h place eb held) in
        subst (λ (x : Record). IsCarriedWithin x.pose c b) is (subst (IsCarriedWithin g.pose c) box within);
  }

  -- the group's bounds are made wide enough; then those about the group may not be
  pub widened : (bounds : List Bounds) (at k : ℕ) (s g : Record) (c h w : Bounds) → IsStep order rs bounds at k s g c h → HoldChildrenBut at order bounds → IsCarriedWithin g.pose c w → IsWithinBounds h w → HoldChildrenBut k order (set bounds k w)
  widened bounds at k s g c h w step but held wider = record {
    long = length-set bounds k w ∙ but.long;
    below = λ i j r q b d ne ei ej eb ed child shown group.
        let old : slice_get bounds j ≡ Some d = sym (set-other bounds k j w ne) ∙ ed in
        elim (cases_Bool (i == k)) [
          | inl t ↦ (
              let place : i ≡ k = eqb-true i k t in
              let is : g ≡ r = sym (same-at order i k r g place ei step.there) in
              let box : w ≡ b = sym (same-at (set bounds k w) i k b w place eb (set-same bounds k w (slice_get_within bounds k h step.held))) in
              subst (IsCarriedWithin r.pose d) box (elim (cases_Bool (j == at)) [
                | inl u ↦ subst (λ x. IsCarriedWithin r.pose x w) (sym (same-at bounds j at d c (eqb-true j at u) old step.own)) (subst (λ (x : Record). IsCarriedWithin x.pose c w) is held)
                | inr n ↦ (
                    let before : slice_get bounds i ≡ Some h = subst (λ m. slice_get bounds m ≡ Some h) (sym place) step.held in
                    let quarter : r.pose.quarter ≤ 3 = subst (λ (x : Record). x.pose.quarter ≤ 3) is step.quarter in
                    carried-within r.pose d d h w quarter (within-itself d) (but.below i j r q h d (differ j at n) ei ej before old child shown group) wider)
              ]))
          | inr f ↦ (
              let before : slice_get bounds i ≡ Some b = sym (set-other bounds k i w (differ i k f)) ∙ eb in
              elim (cases_Bool (j == at)) [
                | inl u ↦ (
                    let same : q ≡ s = same-at order j at q s (eqb-true j at u) ej step.shape in
                    let is : r ≡ g = one-group s.place.parent rs r g (subst (λ (x : Record). IsGroupAt x.place.parent rs r) same (group-of i r q ei child group shown)) step.group in
                    absurd (differ i k f (one-place i k g (subst (λ x. slice_get order i ≡ Some x) is ei) step.there)))
                | inr n ↦ but.below i j r q b d (differ j at n) ei ej before old child shown group
              ])
        ];
  }

  -- where a group stands that was found
  pub group-at : (p : Parent) (g : Record) (k : ℕ) → IsGroupAt p rs g → IsPlaceOf g.place order k → slice_get order k ≡ Some g
  group-at p g k group place =
      let there : Contains order g = All-contains (Contains order) rs g o.complete (found-contained g.id rs g group.there) in
      let stands = stands-at order g k o.rising there place in
      slice_get_read order (length order) k g refl stands.0 (sym stands.1)

  pub group-limits : (p : Parent) (g : Record) → All IsInLimits rs → IsGroupAt p rs g → IsInLimits g
  group-limits p g limits group = All-contains IsInLimits rs g limits (found-contained g.id rs g group.there)

  -- a record of the order
  pub order-limits : (k : ℕ) (r : Record) → All IsInLimits rs → slice_get order k ≡ Some r → IsInLimits r
  order-limits k r limits e =
      let there : Contains rs r = subst (Contains rs) (get_or_from_slice_get order k r r e) (o.listed k r (slice_get_within order k r e)) in
      All-contains IsInLimits rs r limits there

  -- the bounds of one record were made wider
  pub grown : (bounds : List Bounds) (k : ℕ) (h w : Bounds) → All IsInLimits rs → HoldChildren order bounds → slice_get bounds k ≡ Some h → IsWithinBounds h w → HoldChildrenBut k order (set bounds k w)
  grown bounds k h w limits children held wider = record {
    long = length-set bounds k w ∙ children.long;
    below = λ i j r q b d ne ei ej eb ed child shown group.
        let old : slice_get bounds j ≡ Some d = sym (set-other bounds k j w ne) ∙ ed in
        elim (cases_Bool (i == k)) [
          | inl t ↦ (
              let place : i ≡ k = eqb-true i k t in
              let before : slice_get bounds i ≡ Some h = subst (λ m. slice_get bounds m ≡ Some h) (sym place) held in
              let box : w ≡ b = sym (same-at (set bounds k w) i k b w place eb (set-same bounds k w (slice_get_within bounds k h held))) in
              subst (IsCarriedWithin r.pose d) box (carried-within r.pose d d h w (order-limits i r limits ei).quarter (within-itself d) (children.below i j r q h d ei ej before old child shown group) wider))
          | inr f ↦ children.below i j r q b d ei ej (sym (set-other bounds k i w (differ i k f)) ∙ eb) old child shown group
        ];
  }

  -- where no bounds have a pixel, a group's hold those of its children
  pub none-held : (bounds : List Bounds) → All IsInLimits rs → length bounds ≡ length order → All (λ b. is_empty b ≡ true) bounds → HoldChildren order bounds
  none-held bounds limits long none = record {
    long = long;
    below = λ i j r q b c ei ej eb ec child shown group.
        let empty : is_empty c ≡ true = ap is_empty (sym (get_or_from_slice_get bounds j c c ec)) ∙ none j c (slice_get_within bounds j c ec) in
        empty-carried r.pose c b (order-limits i r limits ei).quarter empty;
  }

  -- each record of the order is one of those that reach the page
  pub order-reaches : (k : ℕ) (r : Record) → All (λ s. reaches_page 31 rs s.place.parent ≡ true) rs → slice_get order k ≡ Some r → reaches_page 31 rs r.place.parent ≡ true
  order-reaches k r grounded e =
      let there : Contains rs r = subst (Contains rs) (get_or_from_slice_get order k r r e) (o.listed k r (slice_get_within order k r e)) in
      All-contains (λ s. reaches_page 31 rs s.place.parent ≡ true) rs r grounded there

  -- the group that is read where one stands
  pub above-read : (at k : ℕ) (up : Option ℕ) (r g : Record) → at < length order → ((s : Record) → slice_get order at ≡ Some s → IsGroupPosition s.place.parent rs order up) → up ≡ Some k → r ≡ get_or order k r → g ≡ r → (s : Record) × (slice_get order at ≡ Some s) × (slice_get order k ≡ Some g) × IsGroupAt s.place.parent rs g
  above-read at k up r g within above is here same =
      let p = above-at order rs at k up within above is in
      let there : slice_get order k ≡ Some g = slice_get_read order (length order) k r refl (slice_get_within order k p.2.0 p.2.1) here ∙ ap Some (sym same) in
      (p.0, p.1, there, subst (IsGroupAt p.0.place.parent rs) (one-item order k p.2.0 g p.2.1 there) p.2.2)

  -- what the code reads
  pub step-read : (bounds : List Bounds) (at k : ℕ) (s g : Record) (c h : Bounds) → All IsInLimits rs → length bounds ≡ length order → slice_get order at ≡ Some s → slice_get order k ≡ Some g → IsGroupAt s.place.parent rs g → c ≡ get_or bounds at c → h ≡ get_or bounds k h → IsStep order rs bounds at k s g c h
  step-read bounds at k s g c h limits long shape there group e f =
      let within : at < length order = slice_get_within order at s shape in
      let below : k < length order = slice_get_within order k g there in
      record {
        shape = shape;
        own = slice_get_read bounds (length bounds) at c refl (omega arith) e;
        group = group;
        there = there;
        held = slice_get_read bounds (length bounds) k h refl (omega arith) f;
        quarter = (group-limits s.place.parent g limits group).quarter;
      }

-- ---- bounds of all records

pub all-bounds : (order : List Record) (bounds : List Bounds) → HoldOwn order bounds → HoldChildren order bounds → AreBounds order bounds
all-bounds order bounds own children = record { long = children.long; own = own; below = children.below }
