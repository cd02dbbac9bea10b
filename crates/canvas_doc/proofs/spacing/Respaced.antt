-- New indexes for the children of a parent: they are distinct and in the old order, so no colour changes.
use Rattle.std.proofs.Common.{◌≡◌, ◌≢◌, ℕ, zero, suc, ◌<◌, ◌≤◌, ◌^◌, List, [], ◌∷◌, Bool, true, false, cond, not, ◌&&◌, Option, Result, Ok, refl, sym, ap, ◌∙◌, arith, inl, inr, subst, map, length}
use Rattle.std.specs.List.{AllByRecursion}
use Rattle.std.proofs.lemmas.Bool.{cases_Bool, true≢false, and_parts, and_from}
use Rattle.std.proofs.lemmas.List.{length-map}
use Rattle.canvas_record.specs.declared.records.Parent.{Parent}
use Rattle.canvas_record.specs.declared.records.Parent.TheVariants.{Page, Shape}
use Rattle.canvas_record.specs.declared.records.Record.{Record}
use Rattle.canvas_record.specs.declared.records.Place.{Place}
use Rattle.canvas_record.specs.declared.edits.Change.{Change}
use Rattle.canvas_record.specs.declared.edits.Change.TheVariants as change
use Rattle.canvas_record.specs.declared.refusals.Refusal.{Refusal}
use Rattle.canvas_record.specs.declared.refusals.Refusal.TheVariants.{NoSuchParent, NotAContainer}
use Rattle.canvas_record.specs.Children.{same_parent}
use Rattle.canvas_record.specs.Contents.{Contents, IsWellFormed, record_of, is_container, most_records}
use Rattle.canvas_record.specs.Tree.{HavePlaces, IsElsewhere, IsInLimits}
use Rattle.canvas_record.specs.Effect.{effect_of, Fits}
use Rattle.canvas_record.specs.Siblings.{refused_if}
use Rattle.canvas_record.specs.Decision.{has_parent, can_have_children}
use Rattle.canvas_doc.proofs.tree.Maps.{rising-map, ids-map, all-map, KeepsPaths, grounded-map}
use Rattle.canvas_doc.proofs.fitting.Fit.{some-there}
use Rattle.canvas_record.proofs.Accepted.{refused-ok, not-false}
use Rattle.std.proofs.Common.{filter, ◌⊎◌, ℤ}
use Rattle.std.specs.List.{count_by}
use Rattle.std.proofs.lemmas.List.Sums.{length-filter, count_by-le-length}
use Rattle.std.specs.Ordering.{is_lt}
use Rattle.canvas_key.specs.Order.{is_before}
use Rattle.canvas_key.specs.Rank.{fresh_key}
use Rattle.canvas_key.proofs.FreshKeys.{fresh-rises, fresh-is-key}
use Rattle.canvas_plane.specs.declared.Point.{Point}
use Rattle.canvas_plane.specs.Motion.{carry}
use Rattle.canvas_shape.specs.declared.Colour.{Colour}
use Rattle.canvas_shape.specs.Inside.{holds_of}
use Rattle.canvas_record.specs.Children.{is_child, is_in_front, put, front_first, children}
use Rattle.canvas_record.specs.Effect.{rank_of, respaced, IsThere}
use Rattle.canvas_record.specs.Picture.{answer_among, answer_with, first_answer, or_else, or_white, colour, shape_answer}
use Rattle.canvas_record.specs.Decision.{respace_decision}
use Rattle.canvas_doc.proofs.siblings.Fronts.{before-trans, before-itself, before-asym, before-or-same, same_parent-both, same-key, before-differs}
use Rattle.canvas_doc.proofs.tree.Parents.{same_parent-itself, same_parent-is}

-- one of a list
abbrev pub IsIn : Record → List Record → Type 0
IsIn y [] = ⊥
IsIn y (x ∷ xs) = (x ≡ y) ⊎ IsIn y xs

more-length : (p q : Record → Bool) (x : Record) (xs : List Record) (a b : Bool) → p x ≡ a → q x ≡ b → (a ≡ true → b ≡ true) → length (filter p xs) ≤ length (filter q xs) → length (cond a (x ∷ filter p xs) (filter p xs)) ≤ length (cond b (x ∷ filter q xs) (filter q xs))
more-length p q x xs true true e f i h = omega arith
more-length p q x xs true false e f i h = absurd (true≢false (sym (i refl)))
more-length p q x xs false true e f i h = omega arith
more-length p q x xs false false e f i h = h

weaker-le : (p q : Record → Bool) → ((x : Record) → p x ≡ true → q x ≡ true) → (xs : List Record) → length (filter p xs) ≤ length (filter q xs)
weaker-le p q i [] = omega arith
weaker-le p q i (x ∷ xs) = more-length p q x xs (p x) (q x) refl refl (i x) (weaker-le p q i xs)

lt-length : (p q : Record → Bool) (x : Record) (xs : List Record) (a b : Bool) → p x ≡ a → q x ≡ b → (a ≡ true → b ≡ true) → length (filter p xs) < length (filter q xs) → length (cond a (x ∷ filter p xs) (filter p xs)) < length (cond b (x ∷ filter q xs) (filter q xs))
lt-length p q x xs true true e f i h = omega arith
lt-length p q x xs true false e f i h = absurd (true≢false (sym (i refl)))
lt-length p q x xs false true e f i h = omega arith
lt-length p q x xs false false e f i h = h

weaker-lt : (p q : Record → Bool) → ((x : Record) → p x ≡ true → q x ≡ true) → (y : Record) → p y ≡ false → q y ≡ true → (xs : List Record) → IsIn y xs → length (filter p xs) < length (filter q xs)
weaker-lt p q i y f t [] m = absurd m
weaker-lt p q i y f t (x ∷ xs) (inl e) =
    let no : p x ≡ false = ap p e ∙ f in
    let yes : q x ≡ true = ap q e ∙ t in
    let le : length (filter p xs) ≤ length (filter q xs) = weaker-le p q i xs in
    rw (no, yes) (omega arith)
weaker-lt p q i y f t (x ∷ xs) (inr m) = lt-length p q x xs (p x) (q x) refl refl (i x) (weaker-lt p q i y f t xs m)

-- of two children of one parent, the one in front has the greater rank
rank-less : (rs : List Record) (r s : Record) → IsIn s rs → s.place.parent ≡ r.place.parent → is_in_front r s ≡ true → rank_of rs s < rank_of rs r
rank-less rs r s m e h =
    let p : Record → Bool = λ x. is_child s.place.parent x && is_in_front s x in
    let q : Record → Bool = λ x. is_child r.place.parent x && is_in_front r x in
    let implies : (x : Record) → p x ≡ true → q x ≡ true = λ x k.
    let parts = and_parts (is_child s.place.parent x) (is_in_front s x) k in
    and_from (is_child r.place.parent x) (is_in_front r x) (ap (λ y. is_child y x) (sym e) ∙ parts.0) (before-trans x.place.index s.place.index r.place.index parts.1 h) in
    let out : p s ≡ false = ap (λ b. is_child s.place.parent s && b) (before-itself s.place.index) ∙ (elim (is_child s.place.parent s) as (λ b. (b && false) ≡ false) [ true ↦ refl | false ↦ refl ]) in
    let inside : q s ≡ true = and_from (is_child r.place.parent s) (is_in_front r s) (ap (same_parent s.place.parent) (sym e) ∙ same_parent-itself s.place.parent) h in
    let less : length (filter p rs) < length (filter q rs) = weaker-lt p q implies s out inside rs m in
    let a : length (filter p rs) ≡ rank_of rs s = length-filter p rs in
    let b : length (filter q rs) ≡ rank_of rs r = length-filter q rs in
    omega arith

rank-few : (rs : List Record) (r : Record) → length rs ≤ most_records → rank_of rs r < 2 ^ 32
rank-few rs r h =
    let le : rank_of rs r ≤ length rs = count_by-le-length (λ s. is_child r.place.parent s && is_in_front r s) rs in
    omega arith

fresh-front : (rs : List Record) (r s : Record) → length rs ≤ most_records → IsIn s rs → s.place.parent ≡ r.place.parent → is_in_front r s ≡ true → is_before (fresh_key (rank_of rs s)) (fresh_key (rank_of rs r)) ≡ true
fresh-front rs r s few m e h = ap is_lt (fresh-rises (rank_of rs s) (rank_of rs r) (rank-less rs r s m e h) (rank-few rs r few))

pub respaced-keeps : (p : Parent) (rs : List Record) → KeepsPaths (respaced p rs)
respaced-keeps p rs = record {
  ids = λ r. elim (is_child p r) as (λ b. (cond b (record r { place = record r.place { index = fresh_key (rank_of rs r) } }) r).id ≡ r.id) [ true ↦ refl | false ↦ refl ];
  kinds = λ r. elim (is_child p r) as (λ b. is_container (cond b (record r { place = record r.place { index = fresh_key (rank_of rs r) } }) r).kind ≡ is_container r.kind) [ true ↦ refl | false ↦ refl ];
  parents = λ r. elim (is_child p r) as (λ b. (cond b (record r { place = record r.place { index = fresh_key (rank_of rs r) } }) r).place.parent ≡ r.place.parent) [ true ↦ refl | false ↦ refl ];
}

index-child : (p : Parent) (rs : List Record) (r : Record) → is_child p r ≡ true → (respaced p rs r).place.index ≡ fresh_key (rank_of rs r)
index-child p rs r h = rw h refl

index-other : (p : Parent) (rs : List Record) (r : Record) → is_child p r ≡ false → (respaced p rs r).place.index ≡ r.place.index
index-other p rs r h = rw h refl

-- two children of one parent with different indexes have different new ones
fresh-differs : (rs : List Record) (r s : Record) → length rs ≤ most_records → IsIn r rs → IsIn s rs → s.place.parent ≡ r.place.parent → s.place.index ≢ r.place.index → fresh_key (rank_of rs s) ≢ fresh_key (rank_of rs r)
fresh-differs rs r s few m n e d = elim (cases_Bool (is_in_front r s)) [
  | inl t ↦ before-differs (fresh_key (rank_of rs s)) (fresh_key (rank_of rs r)) (fresh-front rs r s few n e t)
  | inr f ↦ (λ k. before-differs (fresh_key (rank_of rs r)) (fresh_key (rank_of rs s)) (fresh-front rs s r few m (sym e) (before-or-same s.place.index r.place.index f d)) (sym k))
]

elsewhere-respaced : (p : Parent) (rs : List Record) (r s : Record) → length rs ≤ most_records → IsIn r rs → IsIn s rs → IsElsewhere r s → IsElsewhere (respaced p rs r) (respaced p rs s)
elsewhere-respaced p rs r s few m n d k =
    let keeps = respaced-keeps p rs in
    let parent : s.place.parent ≡ r.place.parent = sym (keeps.parents s) ∙ same_parent-is (respaced p rs s).place.parent (respaced p rs r).place.parent k ∙ keeps.parents r in
    let differs : s.place.index ≢ r.place.index = d (ap (same_parent s.place.parent) (sym parent) ∙ same_parent-itself s.place.parent) in
    elim (cases_Bool (is_child p r)) [
      | inl t ↦ (λ i. fresh-differs rs r s few m n parent differs (sym (index-child p rs s (ap (λ x. same_parent x p) parent ∙ t)) ∙ i ∙ index-child p rs r t))
      | inr f ↦ (λ i. differs (sym (index-other p rs s (ap (λ x. same_parent x p) parent ∙ f)) ∙ i ∙ index-other p rs r f))
    ]

elsewhere-all : (p : Parent) (rs : List Record) (r : Record) (xs : List Record) → length rs ≤ most_records → IsIn r rs → AllByRecursion (λ x. IsIn x rs) xs → AllByRecursion (IsElsewhere r) xs → AllByRecursion (IsElsewhere (respaced p rs r)) (map (respaced p rs) xs)
elsewhere-all p rs r [] few m a d = tt
elsewhere-all p rs r (s ∷ xs) few m a d = (elsewhere-respaced p rs r s few m a.0 d.0, elsewhere-all p rs r xs few m a.1 d.1)

places-all : (p : Parent) (rs xs : List Record) → length rs ≤ most_records → AllByRecursion (λ x. IsIn x rs) xs → HavePlaces xs → HavePlaces (map (respaced p rs) xs)
places-all p rs [] few a h = tt
places-all p rs (r ∷ xs) few a h = (elsewhere-all p rs r xs few a.0 a.1 h.0, places-all p rs xs few a.1 h.1)

all-later : (x : Record) (rs xs : List Record) → AllByRecursion (λ y. IsIn y rs) xs → AllByRecursion (λ y. IsIn y (x ∷ rs)) xs
all-later x rs [] a = tt
all-later x rs (y ∷ xs) a = (inr a.0, all-later x rs xs a.1)

all-in : (rs : List Record) → AllByRecursion (λ x. IsIn x rs) rs
all-in [] = tt
all-in (r ∷ rs) = (inl refl, all-later r rs rs (all-in rs))

pub respaced-well : (d : Contents) → IsWellFormed d → (p : Parent) → IsWellFormed (effect_of (change.Respace p) d)
respaced-well d w p =
    let g = respaced p d.records in
    let keeps = respaced-keeps p d.records in
    record {
      next_above = w.next_above;
      next_below = w.next_below;
      few = rw (length-map d.records g) w.few;
      rising = rising-map g keeps.ids d.records w.rising;
      ids = ids-map d.next g keeps.ids d.records w.ids;
      limits = all-map IsInLimits g (λ r h. elim (is_child p r) as (λ b. IsInLimits (cond b (record r { place = record r.place { index = fresh_key (rank_of d.records r) } }) r)) [ true ↦ record { quarter = h.quarter; reach = h.reach; kind = h.kind; key = fresh-is-key (rank_of d.records r) (rank-few d.records r w.few) } | false ↦ h ]) d.records w.limits;
      places = places-all p d.records d.records w.few (all-in d.records) w.places;
      grounded = grounded-map g keeps d.records w.grounded;
    }

pub there : (p : Parent) (rs : List Record) → has_parent rs p ≡ true → IsThere p rs
there Page rs h = tt
there (Shape id) rs h = some-there (record_of id rs) h

pub respace-fits : (d : Contents) → IsWellFormed d → (p : Parent) (c : Change) → respace_decision p d.records ≡ Ok c → Fits c d
respace-fits d w p c h =
    let rs = d.records in
    let last : Result Change Refusal = Ok (change.Respace p) in
    let leaf : Result Change Refusal = refused_if (not (can_have_children rs p)) NotAContainer last in
    let a = refused-ok (not (has_parent rs p)) NoSuchParent leaf c h in
    let b = refused-ok (not (can_have_children rs p)) NotAContainer last c a.1 in
    let e : change.Respace p ≡ c = cc (b.1) in
    subst (λ x. Fits x d) e
    (record {
      named = there p rs (not-false (has_parent rs p) a.0);
      left = respaced-well d w p;
    })

place-same : (a b : Place) → a.parent ≡ b.parent → a.index ≡ b.index → a ≡ b
place-same a b e f = ap (λ p. record { parent = p; index = a.index }) e ∙ ap (λ i. record { parent = b.parent; index = i }) f

front-fresh : (rs : List Record) (r s : Record) → length rs ≤ most_records → IsIn r rs → IsIn s rs → s.place.parent ≡ r.place.parent → is_before (fresh_key (rank_of rs r)) (fresh_key (rank_of rs s)) ≡ is_in_front s r
front-fresh rs r s few m n e = elim (cases_Bool (is_in_front s r)) [
  | inl t ↦ fresh-front rs s r few m (sym e) t ∙ sym t
  | inr f ↦ (elim (cases_Bool (is_in_front r s)) [
    | inl u ↦ before-asym (fresh_key (rank_of rs s)) (fresh_key (rank_of rs r)) (fresh-front rs r s few n e u) ∙ sym f
    | inr v ↦ (
        let index : r.place.index ≡ s.place.index = same-key r.place.index s.place.index f v in
        let place : r.place ≡ s.place = place-same r.place s.place (sym e) index in
        let rank : rank_of rs r ≡ rank_of rs s = ap (λ (x : Place). count_by (λ t. is_child x.parent t && is_before t.place.index x.index) rs) place in
        ap (λ k. is_before (fresh_key k) (fresh_key (rank_of rs s))) rank ∙ before-itself (fresh_key (rank_of rs s)) ∙ sym f)
  ])
]

pub in_front-respaced : (p q : Parent) (rs : List Record) (r s : Record) → length rs ≤ most_records → IsIn r rs × (is_child q r ≡ true) → IsIn s rs × (is_child q s ≡ true) → is_in_front (respaced p rs s) (respaced p rs r) ≡ is_in_front s r
in_front-respaced p q rs r s few m n =
    let parent : s.place.parent ≡ r.place.parent = same_parent-is s.place.parent r.place.parent (same_parent-both s.place.parent r.place.parent q n.1 m.1) in
    elim (cases_Bool (is_child p r)) [
      | inl t ↦ ap (λ k. is_before k (respaced p rs s).place.index) (index-child p rs r t) ∙ ap (is_before (fresh_key (rank_of rs r))) (index-child p rs s (ap (λ x. same_parent x p) parent ∙ t)) ∙ front-fresh rs r s few m.0 n.0 parent
      | inr f ↦ ap (λ k. is_before k (respaced p rs s).place.index) (index-other p rs r f) ∙ ap (is_before r.place.index) (index-other p rs s (ap (λ x. same_parent x p) parent ∙ f))
    ]

-- changes that keep the order of any two of a list keep the order of it
put-map : (g : Record → Record) (r : Record) (l : List Record) → AllByRecursion (λ s. is_in_front (g s) (g r) ≡ is_in_front s r) l → put (g r) (map g l) ≡ map g (put r l)
put-map g r [] a = refl
put-map g r (s ∷ rest) a = elim (cases_Bool (is_in_front s r)) [
  | inl t ↦ rw (a.0, t) (ap (λ l. g s ∷ l) (put-map g r rest a.1))
  | inr f ↦ rw (a.0, f) refl
]

put-all : (P : Record → Type 0) (r : Record) (l : List Record) → P r → AllByRecursion P l → AllByRecursion P (put r l)
put-all P r [] h a = (h, tt)
put-all P r (s ∷ rest) h a = elim (cases_Bool (is_in_front s r)) [ inl t ↦ rw t (a.0, put-all P r rest h a.1) | inr f ↦ rw f (h, a) ]

front-all : (P : Record → Type 0) (l : List Record) → AllByRecursion P l → AllByRecursion P (front_first l)
front-all P [] a = tt
front-all P (r ∷ rs) a = put-all P r (front_first rs) a.0 (front-all P rs a.1)

all-weaker : (P Q : Record → Type 0) → ((r : Record) → P r → Q r) → (l : List Record) → AllByRecursion P l → AllByRecursion Q l
all-weaker P Q f [] a = tt
all-weaker P Q f (r ∷ rs) a = (f r a.0, all-weaker P Q f rs a.1)

front-map : (g : Record → Record) (P : Record → Type 0) → ((r s : Record) → P r → P s → is_in_front (g s) (g r) ≡ is_in_front s r) → (l : List Record) → AllByRecursion P l → front_first (map g l) ≡ map g (front_first l)
front-map g P k [] a = refl
front-map g P k (r ∷ rs) a =
    ap (put (g r)) (front-map g P k rs a.1)
    ∙ put-map g r (front_first rs) (all-weaker P (λ s. is_in_front (g s) (g r) ≡ is_in_front s r) (λ s h. k r s a.0 h) (front_first rs) (front-all P rs a.1))

child-map : (g : Record → Record) (q : Parent) → ((r : Record) → (g r).place.parent ≡ r.place.parent) → (rs : List Record) → filter (is_child q) (map g rs) ≡ map g (filter (is_child q) rs)
child-map g q k [] = refl
child-map g q k (r ∷ rs) = elim (cases_Bool (is_child q r)) [
  | inl t ↦ (let e : is_child q (g r) ≡ true = ap (λ x. same_parent x q) (k r) ∙ t in rw (e, t) (ap (λ l. g r ∷ l) (child-map g q k rs)))
  | inr f ↦ (let e : is_child q (g r) ≡ false = ap (λ x. same_parent x q) (k r) ∙ f in rw (e, f) (child-map g q k rs))
]

in-children : (q : Parent) (rs xs : List Record) → AllByRecursion (λ x. IsIn x rs) xs → AllByRecursion (λ x. IsIn x rs × (is_child q x ≡ true)) (filter (is_child q) xs)
in-children q rs [] a = tt
in-children q rs (r ∷ xs) a = elim (cases_Bool (is_child q r)) [ inl t ↦ rw t ((a.0, t), in-children q rs xs a.1) | inr f ↦ rw f (in-children q rs xs a.1) ]

pub children-respaced : (p q : Parent) (rs : List Record) → length rs ≤ most_records → children q (map (respaced p rs) rs) ≡ map (respaced p rs) (children q rs)
children-respaced p q rs few =
    ap front_first (child-map (respaced p rs) q (λ r. (respaced-keeps p rs).parents r) rs)
    ∙ front-map (respaced p rs) (λ x. IsIn x rs × (is_child q x ≡ true)) (λ r s m n. in_front-respaced p q rs r s few m n) (filter (is_child q) rs) (in-children q rs rs (all-in rs))

first-map : (g : Record → Record) (f h : Record → Option Colour) → ((r : Record) → f (g r) ≡ h r) → (l : List Record) → first_answer f (map g l) ≡ first_answer h l
first-map g f h k [] = refl
first-map g f h k (r ∷ rs) = ap (λ o. or_else o (first_answer f (map g rs))) (k r) ∙ ap (or_else (h r)) (first-map g f h k rs)

with-respaced : (p : Parent) (rs : List Record) (among : Parent → (Point → Point) → Option Colour) (out : Point → Point) (x y : ℤ) (r : Record) → answer_with among out x y (respaced p rs r) ≡ answer_with among out x y r
with-respaced p rs among out x y r = elim (is_child p r) as (λ b. answer_with among out x y (cond b (record r { place = record r.place { index = fresh_key (rank_of rs r) } }) r) ≡ answer_with among out x y r) [ true ↦ refl | false ↦ refl ]

answers-respaced : (n : ℕ) (p : Parent) (rs : List Record) → length rs ≤ most_records → (q : Parent) (out : Point → Point) (x y : ℤ) → answer_among n (map (respaced p rs) rs) q out x y ≡ answer_among n rs q out x y
unfolding answer_among
answers-respaced zero p rs few q out x y = refl
answers-respaced (suc n) p rs few q out x y =
    let after : Parent → (Point → Point) → Option Colour = λ k into. answer_among n (map (respaced p rs) rs) k into x y in
    let before : Parent → (Point → Point) → Option Colour = λ k into. answer_among n rs k into x y in
    ap (first_answer (answer_with after out x y)) (children-respaced p q rs few)
    ∙ first-map (respaced p rs) (answer_with after out x y) (answer_with before out x y)
    (λ r. with-respaced p rs after out x y r
    ∙ ap (shape_answer r (holds_of r.kind (λ k. out (carry r.pose k)) x y)) (answers-respaced n p rs few (Shape r.id) (λ k. out (carry r.pose k)) x y))
    (children q rs)

-- no pixel changes its colour
pub colour-respaced : (p : Parent) (rs : List Record) → length rs ≤ most_records → (x y : ℤ) → colour (map (respaced p rs) rs) x y ≡ colour rs x y
colour-respaced p rs few x y = ap or_white (answers-respaced 32 p rs few Page (λ q. q) x y)
