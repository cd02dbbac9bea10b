-- Nothing shows outside of bounds: what they keep off an area answers nothing there.
use Rattle.std.proofs.Common.{◌≡◌, ℕ, zero, suc, ◌≤◌, List, [], ◌∷◌, ◌++◌, Bool, true, false, cond, filter, map, Option, Some, None, All, ℤ, ◌⊎◌, inl, inr, refl, sym, subst, ap, ◌∙◌}
use Rattle.std.specs.List.{Contains, slice_get}
use Rattle.std.proofs.lemmas.Bool.{cases_Bool, true≢false}
use Rattle.std.proofs.lemmas.List.Elements.{All-cons, All-contains, All-head, All-nil, All-tail, All-weaker, All-contains_itself}
use Rattle.std.proofs.lemmas.List.Sorted.{All-permutation}
use Rattle.canvas_plane.specs.declared.Point.{Point}
use Rattle.canvas_plane.specs.declared.Pose.{Pose}
use Rattle.canvas_plane.specs.Motion.{carry}
use Rattle.canvas_shape.specs.declared.Colour.{Colour}
use Rattle.canvas_shape.specs.declared.Kind.{Kind}
use Rattle.canvas_shape.specs.declared.Kind.TheVariants.{Ellipse, Frame, Group, Polygon, Rect}
use Rattle.canvas_shape.specs.Inside.{holds_of}
use Rattle.canvas_doc.specs.declared.bounds.Bounds.{Bounds}
use Rattle.canvas_record.specs.declared.records.Parent.{Parent}
use Rattle.canvas_record.specs.declared.records.Parent.TheVariants.{Shape}
use Rattle.canvas_record.specs.declared.records.Record.{Record}
use Rattle.canvas_doc.specs.Bounds.{AreBounds, holds_on_page, LieApart}
use Rattle.canvas_record.specs.Children.{children, is_child}
use Rattle.canvas_record.specs.Picture.{answer_among, answer_of, first_answer, kind_answer, or_else}
use Rattle.canvas_record.specs.Tree.{IsInLimits}
use Rattle.canvas_doc.proofs.extents.Pulled.{compose, Composed}
use Rattle.canvas_doc.proofs.siblings.Sorting.{all-children, front_first-moves}
use Rattle.canvas_doc.proofs.lists.Members.{item-in}

-- ---- what answers

held-by : (holds : Bool) (o : Option Colour) (c : Colour) → cond holds o None ≡ Some c → holds ≡ true
held-by true o c h = refl
held-by false o c h = cc

-- a shape that answers holds the pixel, or is a group of which a child answers
shape-cases : (kind : Kind) (holds : Bool) (inner : Option Colour) (c : Colour) → kind_answer kind holds inner ≡ Some c → (holds ≡ true) ⊎ ((kind ≡ Group) × (inner ≡ Some c))
shape-cases Group holds inner c h = inr (refl, h)
shape-cases (Frame w t fill) holds inner c h = inl (held-by holds (or_else inner fill) c h)
shape-cases (Rect w t fill) holds inner c h = inl (held-by holds (Some fill) c h)
shape-cases (Ellipse w t fill) holds inner c h = inl (held-by holds (Some fill) c h)
shape-cases (Polygon points fill) holds inner c h = inl (held-by holds (Some fill) c h)

hidden-none : (hidden : Bool) (o : Option Colour) (c : Colour) → cond hidden None o ≡ Some c → (hidden ≡ false) × (o ≡ Some c)
hidden-none true o c h = cc
hidden-none false o c h = (refl, h)

or_else-cases : (a b : Option Colour) (c : Colour) → or_else a b ≡ Some c → (a ≡ Some c) ⊎ (b ≡ Some c)
or_else-cases None b c h = inr h
or_else-cases (Some d) b c h = inl h

or_else-none : (a : Option Colour) → or_else a None ≡ a
or_else-none None = refl
or_else-none (Some c) = refl

or_else-assoc : (a b c : Option Colour) → or_else (or_else a b) c ≡ or_else a (or_else b c)
or_else-assoc None b c = refl
or_else-assoc (Some d) b c = refl

-- one of the list answers
pub record Answers (P : Record → Type 0) (f : Record → Option Colour) (c : Colour) : Type 0 where
  pub one : Record
  pub fact : P one
  pub answer : f one ≡ Some c

one-answers : (P : Record → Type 0) (f : Record → Option Colour) (c : Colour) (rs : List Record) → All P rs → first_answer f rs ≡ Some c → Answers P f c
one-answers P f c [] h e = cc
one-answers P f c (r ∷ rs) h e = elim (or_else-cases (f r) (first_answer f rs) c e) [
  | inl a ↦ record { one = r; fact = All-head P r rs h; answer = a }
  | inr a ↦ one-answers P f c rs (All-tail P r rs h) a
]

-- ---- children

filter-passes : (test : Record → Bool) (rs : List Record) → All (λ r. test r ≡ true) (filter test rs)
filter-passes test [] = All-nil (λ r. test r ≡ true)
filter-passes test (r ∷ rs) = elim (cases_Bool (test r)) [
  | inl t ↦
      let P : List Record → Type 0 = λ l. All (λ s. test s ≡ true) l in
      subst P (ap (λ b. cond b (r ∷ filter test rs) (filter test rs)) (sym t)) (All-cons (λ s. test s ≡ true) r (filter test rs) t (filter-passes test rs))
  | inr f ↦
      let P : List Record → Type 0 = λ l. All (λ s. test s ≡ true) l in
      subst P (ap (λ b. cond b (r ∷ filter test rs) (filter test rs)) (sym f)) (filter-passes test rs)
]

children-known : (p : Parent) (rs : List Record) → All (λ s. Contains rs s × (is_child p s ≡ true)) (children p rs)
children-known p rs =
    let there : All (Contains rs) (children p rs) = all-children (Contains rs) p rs (All-contains_itself rs) in
    let own : All (λ s. is_child p s ≡ true) (children p rs) = All-permutation (λ s. is_child p s ≡ true) (filter (is_child p) rs) (children p rs) (front_first-moves (filter (is_child p) rs)) (filter-passes (is_child p) rs) in
    λ k d h. (there k d h, own k d h)

-- ---- the law

-- each record has a position in the order
pub record StandIn (rs order : List Record) : Type 0 where
  pub at : (r : Record) → Contains rs r → (k : ℕ) × (slice_get order k ≡ Some r)

-- what a group's children answer, one of them does
child-answers : (levels : ℕ) (rs : List Record) (p : Parent) (out : Point → Point) (x y : ℤ) (c : Colour) → answer_among (suc levels) rs p out x y ≡ Some c → Answers (λ s. Contains rs s × (is_child p s ≡ true)) (answer_of levels rs out x y) c
unfolding answer_among
child-answers levels rs p out x y c e = one-answers (λ s. Contains rs s × (is_child p s ≡ true)) (answer_of levels rs out x y) c (children p rs) (children-known p rs) e

no-level : (rs : List Record) (p : Parent) (out : Point → Point) (x y : ℤ) (c : Colour) → answer_among zero rs p out x y ≡ Some c → ⊥
unfolding answer_among
no-level rs p out x y c e = cc

none-by : (o : Option Colour) → ((c : Colour) → o ≡ Some c → ⊥) → o ≡ None
none-by None h = refl
none-by (Some c) h = absurd (h c refl)

-- ---- lists, of which some are left out

answers-cons : (f : Record → Option Colour) (r : Record) (xs ys : List Record) → first_answer f xs ≡ first_answer f ys → first_answer f (r ∷ xs) ≡ first_answer f (r ∷ ys)
answers-cons f r xs ys h = ap (or_else (f r)) h

-- one that answers nothing may be left out
answers-skip : (f : Record → Option Colour) (r : Record) (xs ys : List Record) → f r ≡ None → first_answer f xs ≡ first_answer f ys → first_answer f xs ≡ first_answer f (r ∷ ys)
answers-skip f r xs ys e h = h ∙ ap (λ o. or_else o (first_answer f ys)) (sym e)

filter-answers : (f : Record → Option Colour) (test : (Record × Bounds) → Bool) (pairs : List (Record × Bounds)) → All (λ p. test p ≡ false → f p.0 ≡ None) pairs → first_answer f (map (λ p. p.0) (filter test pairs)) ≡ first_answer f (map (λ p. p.0) pairs)
filter-answers f test [] h = refl
filter-answers f test (p ∷ ps) h =
    let rest = filter-answers f test ps (All-tail (λ q. test q ≡ false → f q.0 ≡ None) p ps h) in
    elim (cases_Bool (test p)) [
      | inl t ↦ ap (λ b. first_answer f (map (λ q. q.0) (cond b (p ∷ filter test ps) (filter test ps)))) t ∙ answers-cons f p.0 (map (λ q. q.0) (filter test ps)) (map (λ q. q.0) ps) rest
      | inr e ↦ ap (λ b. first_answer f (map (λ q. q.0) (cond b (p ∷ filter test ps) (filter test ps)))) e ∙ answers-skip f p.0 (map (λ q. q.0) (filter test ps)) (map (λ q. q.0) ps) (All-head (λ q. test q ≡ false → f q.0 ≡ None) p ps h e) rest
    ]

pub answers-append : (f : Record → Option Colour) (xs ys : List Record) → first_answer f (xs ++ ys) ≡ or_else (first_answer f xs) (first_answer f ys)
answers-append f [] ys = refl
answers-append f (r ∷ xs) ys = ap (or_else (f r)) (answers-append f xs ys) ∙ sym (or_else-assoc (f r) (first_answer f xs) (first_answer f ys))

-- a loop's step: one more record, which is kept, or which answers nothing and is left out
pub answers-push : (f : Record → Option Colour) (xs ys : List Record) (r : Record) → first_answer f xs ≡ first_answer f ys → first_answer f (xs ++ r ∷ []) ≡ first_answer f (ys ++ r ∷ [])
answers-push f xs ys r h = answers-append f xs (r ∷ []) ∙ ap (λ o. or_else o (first_answer f (r ∷ []))) h ∙ sym (answers-append f ys (r ∷ []))

pub answers-pass : (f : Record → Option Colour) (xs ys : List Record) (r : Record) → f r ≡ None → first_answer f xs ≡ first_answer f ys → first_answer f xs ≡ first_answer f (ys ++ r ∷ [])
answers-pass f xs ys r e h = h ∙ sym (or_else-none (first_answer f ys)) ∙ ap (λ o. or_else (first_answer f ys) (or_else o None)) (sym e) ∙ sym (answers-append f ys (r ∷ []))

-- a record and its bounds, at one position of the order
pub record StandsWith (order : List Record) (bounds : List Bounds) (r : Record) (b : Bounds) : Type 0 where
  pub at : ℕ
  pub shape : slice_get order at ≡ Some r
  pub box : slice_get bounds at ≡ Some b
  pub quarter : r.pose.quarter ≤ 3

-- at so many levels, a pixel at which a record answers lies in its bounds
abbrev ShowsWithin : List Record → List Record → List Bounds → ℕ → Type 0
ShowsWithin rs order bounds levels = (r : Record) (b : Bounds) → StandsWith order bounds r b → (out : Pose) (x y : ℤ) (c : Colour) → out.quarter ≤ 3 → answer_of levels rs (carry out) x y r ≡ Some c → holds_on_page (carry out) b x y ≡ true

-- the same of a group of which a child answers
abbrev GroupWithin : List Record → List Record → List Bounds → ℕ → Type 0
GroupWithin rs order bounds levels = (r : Record) (b : Bounds) → StandsWith order bounds r b → (out : Pose) (x y : ℤ) (c : Colour) → out.quarter ≤ 3 → r.hidden ≡ false → r.kind ≡ Group → answer_among levels rs (Shape r.id) (λ q. carry out (carry r.pose q)) x y ≡ Some c → holds_on_page (carry out) b x y ≡ true

module _ (rs order : List Record) (bounds : List Bounds) (kept : AreBounds order bounds) where
  shape-step : (levels : ℕ) → GroupWithin rs order bounds levels → ShowsWithin rs order bounds levels
  shape-step levels group r b s out x y c quarter e =
      let page : Point → Point = λ q. carry out (carry r.pose q) in
      let inner : Option Colour = answer_among levels rs (Shape r.id) page x y in
      let shown = hidden-none r.hidden (kind_answer r.kind (holds_of r.kind page x y) inner) c e in
      elim (shape-cases r.kind (holds_of r.kind page x y) inner c shown.1) [
        | inl held ↦ (kept.own s.at r b s.shape s.box shown.0).holds out x y quarter held
        | inr deeper ↦ group r b s out x y c quarter shown.0 deeper.0 deeper.1
      ]

  module _ (stand : StandIn rs order) (limits : All IsInLimits rs) where
    -- a record of the list, with its bounds
    with-bounds : (s : Record) → Contains rs s → (c : Bounds) × StandsWith order bounds s c
    with-bounds s there =
        let at = stand.at s there in
        let box = item-in order bounds at.0 s kept.long at.1 in
        (box.0, record { at = at.0; shape = at.1; box = box.1; quarter = (All-contains IsInLimits rs s limits there).quarter })

    group-step : (levels : ℕ) → ShowsWithin rs order bounds levels → GroupWithin rs order bounds (suc levels)
    group-step levels shows r b s out x y c quarter shown group e =
        let page : Point → Point = λ q. carry out (carry r.pose q) in
        let child : Answers (λ s. Contains rs s × (is_child (Shape r.id) s ≡ true)) (answer_of levels rs page x y) c = child-answers levels rs (Shape r.id) page x y c e in
        let own = with-bounds child.one child.fact.0 in
        let both : Composed r.pose out = compose r.pose out s.quarter quarter in
        let P : (Point → Point) → Type 0 = λ f. holds_on_page f own.0 x y ≡ true in
        let held : holds_on_page (carry both.pose) own.0 x y ≡ true = shows child.one own.0 own.1 both.pose x y c both.quarter (ap (λ f. answer_of levels rs f x y child.one) both.carries ∙ child.answer) in
        (kept.below s.at own.1.at r child.one b own.0 s.shape own.1.shape s.box own.1.box child.fact.1 shown group).holds out x y quarter (subst P both.carries held)

    -- a pixel at which a record answers lies in its bounds
    pub shows-within : (levels : ℕ) → ShowsWithin rs order bounds levels
    shows-within zero = shape-step zero (λ r b s out x y c quarter shown group e. absurd (no-level rs (Shape r.id) (λ q. carry out (carry r.pose q)) x y c e))
    shows-within (suc levels) = shape-step (suc levels) (group-step levels (shows-within levels))

    -- a record answers nothing in an area that lies apart from its bounds
    pub apart-none : (levels : ℕ) (r : Record) (b area : Bounds) (out : Pose) (x y : ℤ) → StandsWith order bounds r b → LieApart b area → out.quarter ≤ 3 → holds_on_page (carry out) area x y ≡ true → answer_of levels rs (carry out) x y r ≡ None
    apart-none levels r b area out x y s apart quarter held = none-by (answer_of levels rs (carry out) x y r) (λ c e. true≢false (sym held ∙ apart.none out x y quarter (shows-within levels r b s out x y c quarter e)))

    -- the first answer of records, in an area, is that of those whose bounds may have a part of it
    pub culled : (levels : ℕ) (meets : Bounds → Bool) (area : Bounds) (out : Pose) (x y : ℤ) (pairs : List (Record × Bounds)) → ((b : Bounds) → meets b ≡ false → LieApart b area) → All (λ p. StandsWith order bounds p.0 p.1) pairs → out.quarter ≤ 3 → holds_on_page (carry out) area x y ≡ true → first_answer (answer_of levels rs (carry out) x y) (map (λ p. p.0) (filter (λ p. meets p.1) pairs)) ≡ first_answer (answer_of levels rs (carry out) x y) (map (λ p. p.0) pairs)
    culled levels meets area out x y pairs apart s quarter held =
        filter-answers (answer_of levels rs (carry out) x y) (λ p. meets p.1) pairs
        (All-weaker (λ p. StandsWith order bounds p.0 p.1) (λ p. meets p.1 ≡ false → answer_of levels rs (carry out) x y p.0 ≡ None) (λ p t m. apart-none levels p.0 p.1 area out x y t (apart p.1 m) quarter held) pairs s)
