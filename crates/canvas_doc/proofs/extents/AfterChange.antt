-- The extent of the shape of a change in the document after it, told of the document before it.
use Rattle.std.proofs.Common.{◌≡◌, ℕ, zero, suc, ◌+◌, ◌<◌, ◌==◌, List, [], ◌∷◌, ◌++◌, Bool, true, false, cond, not, ◌&&◌, ◌||◌, Option, Some, None, ◌⊎◌, inl, inr, refl, sym, ap, ◌∙◌, arith, All, ◌≤◌, get_or, map, filter}
use Rattle.std.proofs.lemmas.Bool.{cases_Bool, true≢false, eq-eqb, eqb-true, or_parts, and_from, or_right}
use Rattle.std.proofs.lemmas.List.Elements.{All-head, All-tail, All-push, All-weaker, filter_passes}
use Rattle.std.proofs.lemmas.List.Sorted.{All-permutation}
use Rattle.std.proofs.lemmas.Option.{same_Some}
use Rattle.canvas_plane.specs.declared.PageBox.{PageBox}
use Rattle.canvas_plane.specs.declared.Point.{Point}
use Rattle.canvas_plane.specs.declared.Pose.{Pose}
use Rattle.canvas_plane.specs.Motion.{carry}
use Rattle.canvas_plane.specs.Page.{empty_box, hull_of}
use Rattle.canvas_shape.specs.declared.Kind.{Kind}
use Rattle.canvas_record.specs.declared.edits.Change.TheVariants as change
use Rattle.canvas_record.specs.declared.records.Parent.{Parent}
use Rattle.canvas_record.specs.declared.records.Parent.TheVariants.{Page, Shape}
use Rattle.canvas_record.specs.declared.records.Place.{Place}
use Rattle.canvas_record.specs.declared.records.Record.{Record}
use Rattle.canvas_record.specs.Children.{children, front_first, is_child, same_parent}
use Rattle.canvas_record.specs.Contents.{AreRising, Contents, IsWellFormed, is_container, reaches_from, reaches_page, record_of}
use Rattle.canvas_record.specs.Damage.{extent_among, extent_at, extent_on_page, extent_with, hull_round, own_extent, to_page, to_page_from}
use Rattle.canvas_record.specs.Effect.{at_id, effect_of, Fits, is_below, is_below_from, is_in_subtree}
use Rattle.canvas_doc.proofs.tree.Childless.{IsChildless}
use Rattle.canvas_doc.proofs.fitting.Fit.{found-all}
use Rattle.canvas_doc.proofs.fitting.FitDelete.{below-fuel}
use Rattle.canvas_doc.proofs.tree.Found.{found-here, found-none, found-has, found-push, found-last}
use Rattle.canvas_doc.proofs.tree.Paths.{changed, found-after}
use Rattle.canvas_doc.proofs.siblings.Sorting.{all-children, front_first-moves}
use Rattle.canvas_doc.proofs.tree.Parents.{same_parent-is, from-some}

-- ---- tests

or-cases : (a b : Bool) → (a || b) ≡ true → (a ≡ true) ⊎ (b ≡ true)
or-cases true b h = inl refl
or-cases false b h = inr h

or-more : (a b c : Bool) → (a || b) ≡ true → (b ≡ true → c ≡ true) → (a || c) ≡ true
or-more true b c h k = refl
or-more false b c h k = k h

-- ---- ways up

below-some : (id : ℕ) (up : Parent → Bool) (o : Option Record) → is_below_from id up o ≡ true → (r : Record) × (o ≡ Some r) × (((r.id == id) || up r.place.parent) ≡ true)
below-some id up None h = cc
below-some id up (Some r) h = (r, refl, h)

below-nothing : (id : ℕ) (rs : List Record) (q : Parent) → is_below zero id rs q ≡ false
unfolding is_below
below-nothing id rs Page = refl
below-nothing id rs (Shape p) = refl

-- a way that meets the shape meets it within more steps, too
below-more : (k m id : ℕ) (rs : List Record) (q : Parent) → is_below k id rs q ≡ true → is_below (k + m) id rs q ≡ true
unfolding is_below
below-more zero m id rs Page h = cc
below-more zero m id rs (Shape p) h = cc
below-more (suc k) m id rs Page h = cc
below-more (suc k) m id rs (Shape p) h =
    let e : suc k + m ≡ suc (k + m) = omega arith in
    let s = below-some id (λ q. is_below k id rs q) (record_of p rs) h in
    ap (λ j. is_below j id rs (Shape p)) e
    ∙ ap (is_below_from id (λ q. is_below (k + m) id rs q)) s.1
    ∙ or-more (s.0.id == id) (is_below k id rs s.0.place.parent) (is_below (k + m) id rs s.0.place.parent) s.2 (below-more k m id rs s.0.place.parent)

reaches-more : (n : ℕ) (rs : List Record) (q : Parent) → reaches_page n rs q ≡ true → reaches_page (suc n) rs q ≡ true
unfolding reaches_page
reaches-more zero rs Page h = refl
reaches-more zero rs (Shape p) h = cc
reaches-more (suc n) rs Page h = refl
reaches-more (suc n) rs (Shape p) h =
    let s = from-some (λ q. reaches_page n rs q) (record_of p rs) h in
    ap (reaches_from (λ q. reaches_page (suc n) rs q)) s.1
    ∙ and_from (is_container s.0.kind) (reaches_page (suc n) rs s.0.place.parent) s.2 (reaches-more n rs s.0.place.parent s.3)

-- the record that was found under an id, and has the other, is that of the other
same-found : (id p : ℕ) (rs : List Record) (r s : Record) → record_of id rs ≡ Some r → record_of p rs ≡ Some s → (s.id == id) ≡ true → s ≡ r
same-found id p rs r s e g t =
    let at : s.id ≡ p = eqb-true s.id p (found-has p rs s g) in
    let own : s.id ≡ id = eqb-true s.id id t in
    same_Some s r (sym g ∙ ap (λ n. record_of n rs) (sym at ∙ own) ∙ e)

-- a way to the page that meets a shape goes on from it in fewer steps
way-beyond : (n id : ℕ) (rs : List Record) (r : Record) → record_of id rs ≡ Some r → (q : Parent) → reaches_page (suc n) rs q ≡ true → is_below (suc n) id rs q ≡ true → reaches_page n rs r.place.parent ≡ true
unfolding is_below reaches_page
way-beyond zero id rs r e Page h b = cc
way-beyond zero id rs r e (Shape p) h b =
    let s = from-some (λ q. reaches_page zero rs q) (record_of p rs) h in
    let meets : ((s.0.id == id) || is_below zero id rs s.0.place.parent) ≡ true = sym (ap (is_below_from id (λ q. is_below zero id rs q)) s.1) ∙ b in
    elim (or-cases (s.0.id == id) (is_below zero id rs s.0.place.parent) meets) [
      | inl t ↦ ap (λ (x : Record). reaches_page zero rs x.place.parent) (sym (same-found id p rs r s.0 e s.1 t)) ∙ s.3
      | inr u ↦ absurd (true≢false (sym u ∙ below-nothing id rs s.0.place.parent))
    ]
way-beyond (suc n) id rs r e Page h b = cc
way-beyond (suc n) id rs r e (Shape p) h b =
    let s = from-some (λ q. reaches_page (suc n) rs q) (record_of p rs) h in
    let meets : ((s.0.id == id) || is_below (suc n) id rs s.0.place.parent) ≡ true = sym (ap (is_below_from id (λ q. is_below (suc n) id rs q)) s.1) ∙ b in
    elim (or-cases (s.0.id == id) (is_below (suc n) id rs s.0.place.parent) meets) [
      | inl t ↦ ap (λ (x : Record). reaches_page (suc n) rs x.place.parent) (sym (same-found id p rs r s.0 e s.1 t)) ∙ s.3
      | inr u ↦ reaches-more n rs r.place.parent (way-beyond n id rs r e s.0.place.parent s.3 u)
    ]

-- so the way of a shape's parent does not meet the shape
apart-on_way : (n id : ℕ) (rs : List Record) (r : Record) → record_of id rs ≡ Some r → reaches_page n rs r.place.parent ≡ true → is_below n id rs r.place.parent ≡ false
apart-on_way zero id rs r e h = below-nothing id rs r.place.parent
apart-on_way (suc n) id rs r e h = elim (cases_Bool (is_below (suc n) id rs r.place.parent)) [
  | inl t ↦ (
      let less : reaches_page n rs r.place.parent ≡ true = way-beyond n id rs r e r.place.parent h t in
      let one : n + 1 ≡ suc n = omega arith in
      ap (λ k. is_below k id rs r.place.parent) (sym one) ∙ below-fuel n 1 id rs r.place.parent less ∙ apart-on_way n id rs r e less)
  | inr f ↦ f
]

pub parent-apart : (d : Contents) → IsWellFormed d → (id : ℕ) (r : Record) → record_of id d.records ≡ Some r → is_below 31 id d.records r.place.parent ≡ false
parent-apart d w id r e =
    apart-on_way 31 id d.records r e (found-all (λ (s : Record). reaches_page 31 d.records s.place.parent ≡ true) id d.records r w.grounded e)

-- the parent's way does not meet the shape, however far it is followed
abbrev pub LiesApart : ℕ → List Record → Parent → Type 0
LiesApart id rs q = (k : ℕ) → is_below k id rs q ≡ false

apart-ever : (n id : ℕ) (rs : List Record) (q : Parent) → reaches_page n rs q ≡ true → is_below n id rs q ≡ false → LiesApart id rs q
apart-ever n id rs q h b k = elim (cases_Bool (is_below k id rs q)) [
  | inl t ↦ (
      let far : is_below (k + n) id rs q ≡ true = below-more k n id rs q t in
      let turned : k + n ≡ n + k = omega arith in
      absurd (true≢false (sym far ∙ ap (λ j. is_below j id rs q) turned ∙ below-fuel n k id rs q h ∙ b)))
  | inr f ↦ f
]

pub parent-lies_apart : (d : Contents) → IsWellFormed d → (id : ℕ) (r : Record) → record_of id d.records ≡ Some r → LiesApart id d.records r.place.parent
parent-lies_apart d w id r e =
    apart-ever 31 id d.records r.place.parent
    (found-all (λ (s : Record). reaches_page 31 d.records s.place.parent ≡ true) id d.records r w.grounded e)
    (parent-apart d w id r e)

from-changed : (id : ℕ) (f : Record → Record) (up down : Parent → Bool) (r : Record) (same : Bool) → (r.id == id) ≡ same → (f r).id ≡ r.id → ((q : Parent) → up q ≡ down q) → (((cond same (f r) r).id == id) || up (cond same (f r) r).place.parent) ≡ ((r.id == id) || down r.place.parent)
from-changed id f up down r true e k s = rw (k, e) refl
from-changed id f up down r false e k s = ap (λ b. (r.id == id) || b) (s r.place.parent)

below-from_changed : (id : ℕ) (f : Record → Record) → ((r : Record) → (f r).id ≡ r.id) → (up down : Parent → Bool) → ((q : Parent) → up q ≡ down q) → (o : Option Record) → is_below_from id up (changed id f o) ≡ is_below_from id down o
below-from_changed id f k up down s None = refl
below-from_changed id f k up down s (Some r) = from-changed id f up down r (r.id == id) refl (k r) s

-- a change of the shape's record changes nothing on the ways up to it
pub below-changed : (n id : ℕ) (f : Record → Record) → ((r : Record) → (f r).id ≡ r.id) → (rs : List Record) (q : Parent) → is_below n id (at_id id f rs) q ≡ is_below n id rs q
unfolding is_below
below-changed zero id f k rs Page = refl
below-changed zero id f k rs (Shape p) = refl
below-changed (suc n) id f k rs Page = refl
below-changed (suc n) id f k rs (Shape p) =
    ap (is_below_from id (λ q. is_below n id (at_id id f rs) q)) (found-after id p f k rs)
    ∙ below-from_changed id f k (λ q. is_below n id (at_id id f rs) q) (λ q. is_below n id rs q) (λ q. below-changed n id f k rs q) (record_of p rs)

way-from : (id : ℕ) (f : Record → Record) (up down : Parent → Point → Point) (o : Option Record) → ((r : Record) → o ≡ Some r → (r.id == id) ≡ false) → ((r : Record) → o ≡ Some r → up r.place.parent ≡ down r.place.parent) → to_page_from up (changed id f o) ≡ to_page_from down o
way-from id f up down None other s = refl
way-from id f up down (Some r) other s =
    ap (λ b. to_page_from up (Some (cond b (f r) r))) (other r refl)
    ∙ ap (λ (u : Point → Point). λ (q : Point). u (carry r.pose q)) (s r refl)

below-none_of : (id : ℕ) (up : Parent → Bool) (o : Option Record) (r : Record) → o ≡ Some r → is_below_from id up o ≡ false → ((r.id == id) ≡ false) × (up r.place.parent ≡ false)
below-none_of id up o r e h = or_parts (r.id == id) (up r.place.parent) (sym (ap (is_below_from id up) e) ∙ h)

-- the way from a parent that does not lie in the shape's subtree up to the page is the same
pub way-same : (d : Contents) (id : ℕ) (f : Record → Record) → ((r : Record) → (f r).id ≡ r.id) → (p : Parent) (n : ℕ) → is_below n id d.records p ≡ false → to_page n (at_id id f d.records) p ≡ to_page n d.records p
unfolding to_page is_below
way-same d id f k Page zero b = refl
way-same d id f k Page (suc n) b = refl
way-same d id f k (Shape p) zero b = refl
way-same d id f k (Shape p) (suc n) b =
    let rs = d.records in
    let up : Parent → Point → Point = λ q. to_page n (at_id id f rs) q in
    let down : Parent → Point → Point = λ q. to_page n rs q in
    ap (to_page_from up) (found-after id p f k rs)
    ∙ way-from id f up down (record_of p rs)
    (λ r e. (below-none_of id (λ q. is_below n id rs q) (record_of p rs) r e b).0)
    (λ r e. way-same d id f k r.place.parent n (below-none_of id (λ q. is_below n id rs q) (record_of p rs) r e b).1)

-- ---- children of the shape and of those below it

-- neither the old nor the new parent of the shape of an id lies in its subtree
abbrev LieApart : ℕ → (Record → Record) → List Record → Type 0
LieApart id f rs = All (λ (r : Record). (r.id == id) ≡ true → LiesApart id rs r.place.parent × LiesApart id rs (f r).place.parent) rs

each-found : (rs : List Record) → AreRising rs → All (λ (r : Record). record_of r.id rs ≡ Some r) rs
each-found rs w = λ k d l. found-here rs k (get_or rs k d).id d w l refl

not-child : (k id : ℕ) (rs : List Record) (p q : Parent) → is_below k id rs p ≡ true → LiesApart id rs q → same_parent q p ≡ false
not-child k id rs p q b a = elim (cases_Bool (same_parent q p)) [
  | inl t ↦ absurd (true≢false (sym b ∙ ap (is_below k id rs) (sym (same_parent-is q p t)) ∙ a k))
  | inr f ↦ f
]

filter-beside : (p : Parent) (id : ℕ) (f : Record → Record) (rs : List Record) → All (λ (r : Record). (r.id == id) ≡ true → (is_child p r ≡ false) × (is_child p (f r) ≡ false)) rs → filter (is_child p) (at_id id f rs) ≡ filter (is_child p) rs
filter-beside p id f [] a = refl
filter-beside p id f (r ∷ rs) a =
    let P : Record → Type 0 = λ s. (s.id == id) ≡ true → (is_child p s ≡ false) × (is_child p (f s) ≡ false) in
    let rest : filter (is_child p) (at_id id f rs) ≡ filter (is_child p) rs = filter-beside p id f rs (All-tail P r rs a) in
    elim (cases_Bool (r.id == id)) [
      | inl t ↦ (let no = All-head P r rs a t in rw (t, no.0, no.1) rest)
      | inr g ↦ (elim (cases_Bool (is_child p r)) [
        | inl u ↦ rw (g, u) (ap (λ l. r ∷ l) rest)
        | inr u ↦ rw (g, u) rest
      ])
    ]

-- a parent in the subtree has the same children
children-same : (k id : ℕ) (f : Record → Record) (rs : List Record) (p : Parent) → LieApart id f rs → is_below k id rs p ≡ true → children p (at_id id f rs) ≡ children p rs
children-same k id f rs p a b =
    ap front_first
    (filter-beside p id f rs
    (λ i d l t.
    let both = a i d l t in
    (not-child k id rs p (get_or rs i d).place.parent b both.0, not-child k id rs p (f (get_or rs i d)).place.parent b both.1)))

child-below : (k id : ℕ) (rs : List Record) (p : Parent) (r : Record) → record_of r.id rs ≡ Some r → is_child p r ≡ true → is_below k id rs p ≡ true → is_below (suc k) id rs (Shape r.id) ≡ true
unfolding is_below
child-below k id rs p r e c b =
    ap (is_below_from id (λ q. is_below k id rs q)) e
    ∙ or_right (r.id == id) (is_below k id rs r.place.parent) (ap (is_below k id rs) (same_parent-is r.place.parent p c) ∙ b)

-- and its children lie in the subtree
children-below : (k id : ℕ) (rs : List Record) (p : Parent) → AreRising rs → is_below k id rs p ≡ true → All (λ (r : Record). is_below (suc k) id rs (Shape r.id) ≡ true) (children p rs)
children-below k id rs p w b =
    let there : All (λ (r : Record). record_of r.id rs ≡ Some r) (children p rs) = all-children (λ (r : Record). record_of r.id rs ≡ Some r) p rs (each-found rs w) in
    let own : All (λ (r : Record). is_child p r ≡ true) (children p rs) = All-permutation (λ (r : Record). is_child p r ≡ true) (filter (is_child p) rs) (children p rs) (front_first-moves (filter (is_child p) rs)) (filter_passes (is_child p) rs) in
    λ i d l. child-below k id rs p (get_or (children p rs) i d) (there i d l) (own i d l) b

map-same : (g h : Record → PageBox) (rs : List Record) → All (λ (r : Record). g r ≡ h r) rs → map g rs ≡ map h rs
map-same g h [] a = refl
map-same g h (r ∷ rs) a =
    ap (λ b. b ∷ map g rs) (All-head (λ (s : Record). g s ≡ h s) r rs a)
    ∙ ap (λ l. h r ∷ l) (map-same g h rs (All-tail (λ (s : Record). g s ≡ h s) r rs a))

extent-same : (n k id : ℕ) (f : Record → Record) (rs : List Record) → AreRising rs → LieApart id f rs → (p : Parent) → is_below k id rs p ≡ true → (out : Point → Point) → extent_among n (at_id id f rs) p out ≡ extent_among n rs p out
unfolding extent_among
extent-same zero k id f rs w a p b out = refl
extent-same (suc n) k id f rs w a p b out =
    let after : Parent → (Point → Point) → PageBox = λ q into. extent_among n (at_id id f rs) q into in
    let before : Parent → (Point → Point) → PageBox = λ q into. extent_among n rs q into in
    let below : All (λ (r : Record). is_below (suc k) id rs (Shape r.id) ≡ true) (children p rs) = children-below k id rs p w b in
    ap (λ l. hull_round (map (extent_with after out) l)) (children-same k id f rs p a b)
    ∙ ap hull_round
    (map-same (extent_with after out) (extent_with before out) (children p rs)
    (λ i d l.
    let r : Record = get_or (children p rs) i d in
    let page : Point → Point = λ q. out (carry r.pose q) in
    ap (hull_of (own_extent r.kind page)) (extent-same n (suc k) id f rs w a (Shape r.id) (below i d l) page)))

-- ---- a change of the shape's record

-- the document with another record of the shape
abbrev pub with_changed : ℕ → (Record → Record) → Contents → Contents
with_changed id f d = record d { records = at_id id f d.records }

changed-found : (id : ℕ) (f : Record → Record) → ((r : Record) → (f r).id ≡ r.id) → (rs : List Record) (r : Record) → record_of id rs ≡ Some r → record_of id (at_id id f rs) ≡ Some (f r)
changed-found id f k rs r e =
    found-after id id f k rs ∙ ap (changed id f) e ∙ ap (λ b. Some (cond b (f r) r)) (found-has id rs r e)

-- nor does the parent to which a change takes the shape lie below it
pub new_parent-lies_apart : (d : Contents) (id : ℕ) (f : Record → Record) → ((r : Record) → (f r).id ≡ r.id) → IsWellFormed (with_changed id f d) → (r : Record) → record_of id d.records ≡ Some r → LiesApart id d.records (f r).place.parent
new_parent-lies_apart d id f k after r e =
    let far : LiesApart id (at_id id f d.records) (f r).place.parent = parent-lies_apart (with_changed id f d) after id (f r) (changed-found id f k d.records r e) in
    λ n. sym (below-changed n id f k d.records (f r).place.parent) ∙ far n

lie-apart : (d : Contents) → IsWellFormed d → (id : ℕ) (f : Record → Record) → ((r : Record) → (f r).id ≡ r.id) → IsWellFormed (with_changed id f d) → LieApart id f d.records
lie-apart d w id f k after = λ i e l t.
    let r : Record = get_or d.records i e in
    let found : record_of id d.records ≡ Some r = ap (λ n. record_of n d.records) (sym (eqb-true r.id id t)) ∙ each-found d.records w.rising i e l in
    (parent-lies_apart d w id r found, new_parent-lies_apart d id f k after r found)

-- the shape itself counts as below it
below-itself : (n id : ℕ) (rs : List Record) (r : Record) → record_of id rs ≡ Some r → is_below (suc n) id rs (Shape id) ≡ true
unfolding is_below
below-itself n id rs r e =
    ap (is_below_from id (λ q. is_below n id rs q)) e ∙ ap (λ b. b || is_below n id rs r.place.parent) (found-has id rs r e)

-- below the shape nothing changes but where it is carried
pub below-same : (d : Contents) → IsWellFormed d → (id : ℕ) (f : Record → Record) → ((r : Record) → (f r).id ≡ r.id) → IsWellFormed (with_changed id f d) → (r : Record) → record_of id d.records ≡ Some r → (n : ℕ) (page : Point → Point)
    → extent_among n (at_id id f d.records) (Shape id) page ≡ extent_among n d.records (Shape id) page
below-same d w id f k after r e n page =
    extent-same n 1 id f d.records w.rising (lie-apart d w id f k after) (Shape id) (below-itself 0 id d.records r e) page

-- the extent that the shape of an id has with this kind and pose under this parent
abbrev pub extent_standing : ℕ → List Record → Kind → Pose → Parent → PageBox
extent_standing id rs kind pose parent =
    let page : Point → Point = λ q. to_page 31 rs parent (carry pose q) in
    hull_of (own_extent kind page) (extent_among 31 rs (Shape id) page)

pub extent-now : (id : ℕ) (rs : List Record) (r : Record) → record_of id rs ≡ Some r → extent_at id rs ≡ extent_standing id rs r.kind r.pose r.place.parent
extent-now id rs r e =
    let page : Point → Point = λ q. to_page 31 rs r.place.parent (carry r.pose q) in
    ap (extent_on_page rs) e
    ∙ ap (λ i. hull_of (own_extent r.kind page) (extent_among 31 rs (Shape i) page)) (eqb-true r.id id (found-has id rs r e))

pub changed-extent : (d : Contents) → IsWellFormed d → (id : ℕ) (f : Record → Record) → ((r : Record) → (f r).id ≡ r.id) → IsWellFormed (with_changed id f d) → (r : Record) → record_of id d.records ≡ Some r
    → extent_at id (at_id id f d.records) ≡ extent_standing id d.records (f r).kind (f r).pose (f r).place.parent
changed-extent d w id f k after r e =
    let rs = d.records in
    let s : Record = f r in
    let carried : (Point → Point) → Point → Point = λ u q. u (carry s.pose q) in
    extent-now id (at_id id f rs) s (changed-found id f k rs r e)
    ∙ ap (λ u. hull_of (own_extent s.kind (carried u)) (extent_among 31 (at_id id f rs) (Shape id) (carried u))) (way-same d id f k s.place.parent 31 (new_parent-lies_apart d id f k after r e 31))
    ∙ ap (hull_of (own_extent s.kind (carried (to_page 31 rs s.place.parent)))) (below-same d w id f k after r e 31 (carried (to_page 31 rs s.place.parent)))

-- ---- a new shape

-- no record has an id that is still to come
next-none : (n : ℕ) (rs : List Record) → All (λ (r : Record). (1 ≤ r.id) × (r.id < n)) rs → record_of n rs ≡ None
next-none n rs a = sym (found-none rs n (λ k d l e. let under : (get_or rs k d).id < n = (a k d l).1 in omega arith))

pub create-before : (d : Contents) → IsWellFormed d → (id : ℕ) (kind : Kind) (pose : Pose) (hidden : Bool) (place : Place) → Fits (change.Create id kind pose hidden place) d → extent_at id d.records ≡ empty_box
create-before d w id kind pose hidden place fits =
    ap (extent_on_page d.records) (ap (λ n. record_of n d.records) fits.named ∙ next-none d.next d.records w.ids)

way-first_from : (up down : Parent → Point → Point) (rs : List Record) (r : Record) (p : ℕ) → ((s : Record) → record_of p (rs ++ r ∷ []) ≡ Some s → (s.id == r.id) ≡ false) → ((s : Record) → record_of p rs ≡ Some s → up s.place.parent ≡ down s.place.parent) → (o : Option Record) → record_of p rs ≡ o → to_page_from up (record_of p (rs ++ r ∷ [])) ≡ to_page_from down (record_of p rs)
way-first_from up down rs r p other same None e = elim (cases_Bool (r.id == p)) [
  | inl t ↦ absurd (true≢false (sym (eq-eqb r.id r.id refl) ∙ other r (found-last p rs r e ∙ ap (λ b. cond b (Some r) None) t)))
  | inr f ↦ (
      let none : record_of p (rs ++ r ∷ []) ≡ None = found-last p rs r e ∙ ap (λ b. cond b (Some r) None) f in
      ap (to_page_from up) none ∙ ap (to_page_from down) (sym e))
]
way-first_from up down rs r p other same (Some s) e =
    ap (to_page_from up) (found-push p rs r s e)
    ∙ ap (λ (u : Point → Point). λ (q : Point). u (carry s.pose q)) (same s e)
    ∙ ap (to_page_from down) (sym e)

-- a way that does not meet the new record is the same without it
way-first : (n : ℕ) (rs : List Record) (r : Record) (p : Parent) → is_below n r.id (rs ++ r ∷ []) p ≡ false → to_page n (rs ++ r ∷ []) p ≡ to_page n rs p
unfolding to_page is_below
way-first zero rs r Page b = refl
way-first zero rs r (Shape p) b = refl
way-first (suc n) rs r Page b = refl
way-first (suc n) rs r (Shape p) b =
    let all = rs ++ r ∷ [] in
    let apart : (s : Record) → record_of p all ≡ Some s → ((s.id == r.id) ≡ false) × (is_below n r.id all s.place.parent ≡ false) = λ s e. below-none_of r.id (λ q. is_below n r.id all q) (record_of p all) s e b in
    way-first_from (λ q. to_page n all q) (λ q. to_page n rs q) rs r p
    (λ s e. (apart s e).0)
    (λ s e. way-first n rs r s.place.parent (apart s (found-push p rs r s e)).1)
    (record_of p rs) refl

filter-none : (test : Record → Bool) (rs : List Record) → All (λ (r : Record). test r ≡ false) rs → filter test rs ≡ []
filter-none test [] a = refl
filter-none test (r ∷ rs) a = rw (All-head (λ (s : Record). test s ≡ false) r rs a) (filter-none test rs (All-tail (λ (s : Record). test s ≡ false) r rs a))

-- nothing lies below a shape without children
pub extent-childless : (n id : ℕ) (rs : List Record) (out : Point → Point) → IsChildless id rs → extent_among n rs (Shape id) out ≡ empty_box
unfolding extent_among
extent-childless zero id rs out a = refl
extent-childless (suc n) id rs out a =
    let among : Parent → (Point → Point) → PageBox = λ q into. extent_among n rs q into in
    ap (λ l. hull_round (map (extent_with among out) (front_first l))) (filter-none (is_child (Shape id)) rs a)

nowhere : (n p : ℕ) (rs : List Record) → record_of p rs ≡ None → reaches_page (suc n) rs (Shape p) ≡ false
unfolding reaches_page
nowhere n p rs e = ap (reaches_from (λ q. reaches_page n rs q)) e

not-shape : (test : Parent → Bool) (id : ℕ) (q : Parent) → test q ≡ true → test (Shape id) ≡ false → same_parent q (Shape id) ≡ false
not-shape test id q h k = elim (cases_Bool (same_parent q (Shape id))) [
  | inl t ↦ absurd (true≢false (sym h ∙ ap test (same_parent-is q (Shape id) t) ∙ k))
  | inr f ↦ f
]

-- a leaf has no children
leaf-nowhere : (n p : ℕ) (rs : List Record) (r : Record) → record_of p rs ≡ Some r → is_container r.kind ≡ false → reaches_page (suc n) rs (Shape p) ≡ false
unfolding reaches_page
leaf-nowhere n p rs r e leaf =
    ap (reaches_from (λ q. reaches_page n rs q)) e ∙ ap (λ b. b && reaches_page n rs r.place.parent) leaf

pub leaf-childless : (d : Contents) → IsWellFormed d → (id : ℕ) (r : Record) → record_of id d.records ≡ Some r → is_container r.kind ≡ false → IsChildless id d.records
leaf-childless d w id r e leaf =
    All-weaker (λ (s : Record). reaches_page 31 d.records s.place.parent ≡ true) (λ (s : Record). is_child (Shape id) s ≡ false)
    (λ s h. not-shape (reaches_page 31 d.records) id s.place.parent h (leaf-nowhere 30 id d.records r e leaf)) d.records w.grounded

-- a new record, at the end of the records
new-found : (rs : List Record) (r : Record) → record_of r.id rs ≡ None → record_of r.id (rs ++ r ∷ []) ≡ Some r
new-found rs r e = found-last r.id rs r e ∙ ap (λ b. cond b (Some r) None) (eq-eqb r.id r.id refl)

new-childless : (rs : List Record) (r : Record) → record_of r.id rs ≡ None → All (λ (s : Record). reaches_page 31 rs s.place.parent ≡ true) rs → is_below 31 r.id (rs ++ r ∷ []) r.place.parent ≡ false → IsChildless r.id (rs ++ r ∷ [])
new-childless rs r e a b =
    All-push (λ (s : Record). is_child (Shape r.id) s ≡ false) rs r
    (All-weaker (λ (s : Record). reaches_page 31 rs s.place.parent ≡ true) (λ (s : Record). is_child (Shape r.id) s ≡ false) (λ s h. not-shape (reaches_page 31 rs) r.id s.place.parent h (nowhere 30 r.id rs e)) rs a)
    (not-shape (λ q. not (is_below 31 r.id (rs ++ r ∷ []) q)) r.id r.place.parent (ap not b) (ap not (below-itself 30 r.id (rs ++ r ∷ []) r (new-found rs r e))))

new-extent : (rs : List Record) (r : Record) → record_of r.id rs ≡ None → All (λ (s : Record). reaches_page 31 rs s.place.parent ≡ true) rs → is_below 31 r.id (rs ++ r ∷ []) r.place.parent ≡ false
    → extent_at r.id (rs ++ r ∷ []) ≡ hull_of (own_extent r.kind (λ q. to_page 31 rs r.place.parent (carry r.pose q))) empty_box
new-extent rs r e a b =
    let all = rs ++ r ∷ [] in
    let carried : (Point → Point) → Point → Point = λ u q. u (carry r.pose q) in
    extent-now r.id all r (new-found rs r e)
    ∙ ap (λ u. hull_of (own_extent r.kind (carried u)) (extent_among 31 all (Shape r.id) (carried u))) (way-first 31 rs r r.place.parent b)
    ∙ ap (hull_of (own_extent r.kind (carried (to_page 31 rs r.place.parent)))) (extent-childless 31 r.id all (carried (to_page 31 rs r.place.parent)) (new-childless rs r e a b))

-- a new shape has nothing below it, and the ways to the page stay as they were
pub create-extent : (d : Contents) → IsWellFormed d → (id : ℕ) (kind : Kind) (pose : Pose) (hidden : Bool) (place : Place) → Fits (change.Create id kind pose hidden place) d
    → extent_at id (effect_of (change.Create id kind pose hidden place) d).records ≡ hull_of (own_extent kind (λ q. to_page 31 d.records place.parent (carry pose q))) empty_box
create-extent d w id kind pose hidden place fits =
    let r : Record = record { id = id; kind = kind; place = place; pose = pose; hidden = hidden } in
    let none : record_of id d.records ≡ None = ap (λ n. record_of n d.records) fits.named ∙ next-none d.next d.records w.ids in
    new-extent d.records r none w.grounded
    (parent-apart (effect_of (change.Create id kind pose hidden place) d) fits.left id r (new-found d.records r none))

-- ---- a shape that goes

none-left : (id : ℕ) (test : Record → Bool) → ((r : Record) → (r.id == id) ≡ true → test r ≡ false) → (rs : List Record) → record_of id (filter test rs) ≡ None
none-left id test k [] = refl
none-left id test k (r ∷ rs) = elim (cases_Bool (test r)) [
  | inl t ↦ (elim (cases_Bool (r.id == id)) [
    | inl own ↦ absurd (true≢false (sym t ∙ k r own))
    | inr other ↦ rw (t, other) (none-left id test k rs)
  ])
  | inr f ↦ rw f (none-left id test k rs)
]

pub delete-after : (d : Contents) → IsWellFormed d → (id : ℕ) → extent_at id (effect_of (change.Delete id) d).records ≡ empty_box
delete-after d w id =
    let rs = d.records in
    let left : List Record = filter (λ r. not (is_in_subtree id rs r)) rs in
    ap (extent_on_page left) (none-left id (λ r. not (is_in_subtree id rs r)) (λ r t. ap (λ b. not (b || is_below 32 id rs r.place.parent)) t) rs)
