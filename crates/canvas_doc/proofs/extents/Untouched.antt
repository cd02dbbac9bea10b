-- Outside of the extent of a shape, a document without it and all below it has the same colours.
use Rattle.std.proofs.Common.{◌≡◌, ℕ, zero, suc, ◌+◌, ◌-◌, ◌≤◌, ◌==◌, List, [], ◌∷◌, Bool, true, false, cond, not, ◌||◌, Option, Some, None, All, filter, map, get_or, ℤ, pos, ◌⊎◌, inl, inr, refl, sym, subst, ap, ◌∙◌, arith}
use Rattle.std.specs.List.{Contains}
use Rattle.std.proofs.lemmas.Bool.{cases_Bool, eqb-true, true≢false, or_parts, or_from, and_from}
use Rattle.std.proofs.lemmas.List.Elements.{All-contains, All-contains_itself, All-filter, All-head, All-tail, All-weaker, filter_passes}
use Rattle.std.proofs.lemmas.List.Sorted.{Contains-permutation, IsPermutation-sym}
use mathlib.Core.Path.{fun_ext}
use Rattle.canvas_plane.specs.declared.PageBox.{PageBox}
use Rattle.canvas_plane.specs.declared.Point.{Point}
use Rattle.canvas_plane.specs.declared.Pose.{Pose}
use Rattle.canvas_plane.specs.Motion.{carry}
use Rattle.canvas_plane.specs.Page.{empty_box, hull_of, is_empty_box, is_in, IsWithin, joined}
use Rattle.canvas_plane.proofs.Boxes.{empty-none, joined-first, joined-second}
use Rattle.canvas_shape.specs.declared.Colour.{Colour}
use Rattle.canvas_shape.specs.declared.Kind.{Kind}
use Rattle.canvas_shape.specs.declared.Kind.TheVariants.{Ellipse, Frame, Group, Polygon, Rect}
use Rattle.canvas_shape.specs.Bounds.{bounds_of}
use Rattle.canvas_shape.specs.Box.{box_of}
use Rattle.canvas_shape.specs.Edges.{is_in_polygon}
use Rattle.canvas_shape.specs.Ellipse.{is_in_ellipse}
use Rattle.canvas_shape.specs.Inside.{holds_of, IsSound}
use Rattle.canvas_shape.proofs.LeafRows.{polygon-held}
use Rattle.canvas_record.specs.declared.records.Parent.{Parent}
use Rattle.canvas_record.specs.declared.records.Parent.TheVariants.{Page, Shape}
use Rattle.canvas_record.specs.declared.records.Record.{Record}
use Rattle.canvas_record.specs.Children.{children, is_child, is_in_front}
use Rattle.canvas_record.specs.Contents.{Contents, is_container, IsWellFormed, reaches_from, reaches_page, record_of}
use Rattle.canvas_record.specs.Damage.{extent_among, extent_at, extent_of, extent_on_page, hull_round, own_extent, to_page, to_page_from}
use Rattle.canvas_record.specs.Effect.{is_below, is_below_from, is_in_subtree}
use Rattle.canvas_record.specs.Picture.{answer_among, answer_of, colour, first_answer, kind_answer, or_else, or_white}
use Rattle.canvas_record.specs.Tree.{HavePlaces, IsInLimits}
use Rattle.canvas_doc.proofs.places.ChildrenInOrder.{children-apart}
use Rattle.canvas_doc.proofs.fitting.Fit.{found-all}
use Rattle.canvas_doc.proofs.fitting.FitDelete.{deleted-well}
use Rattle.canvas_doc.proofs.tree.Found.{found-at}
use Rattle.canvas_doc.proofs.tree.Paths.{below-page, reaches-page}
use Rattle.canvas_doc.proofs.extents.Pulled.{compose, Composed}
use Rattle.canvas_doc.proofs.places.Reordered.{passed-in}
use Rattle.canvas_doc.proofs.extents.Shown.{ellipse-between}
use Rattle.canvas_doc.proofs.siblings.Sorting.{all-children, AreApart, front_first-moves, same-order}
use Rattle.canvas_doc.proofs.lists.Tests.{or-false}
use Rattle.canvas_doc.proofs.tree.Parents.{same_parent-is, from-some}
use Rattle.canvas_doc.proofs.lists.SameMembers.{Contains-filter}
use Rattle.canvas_doc.proofs.extents.Extents.{plus-none}

-- the records without a shape and all below it
abbrev pub others : ℕ → List Record → List Record
others id rs = filter (λ r. not (is_in_subtree id rs r)) rs

-- ---- outside of a hull

not-held : (a b : Bool) → (a ≡ true → b ≡ true) → b ≡ false → a ≡ false
not-held true b f h = absurd (true≢false (sym (f refl) ∙ h))
not-held false b f h = refl

outside : (inner outer : PageBox) (x y : ℤ) → IsWithin inner outer → is_in outer x y ≡ false → is_in inner x y ≡ false
outside inner outer x y w h = not-held (is_in inner x y) (is_in outer x y) (w x y) h

hull-cases : (a b : PageBox) (x y : ℤ) (p q : Bool) → is_empty_box a ≡ p → is_empty_box b ≡ q → is_in (cond p (cond q empty_box b) (cond q a (joined a b))) x y ≡ false → (is_in a x y ≡ false) × (is_in b x y ≡ false)
hull-cases a b x y true true e f h = ((empty-none a).0 e x y, (empty-none b).0 f x y)
hull-cases a b x y true false e f h = ((empty-none a).0 e x y, h)
hull-cases a b x y false true e f h = (h, (empty-none b).0 f x y)
hull-cases a b x y false false e f h = (outside a (joined a b) x y (joined-first a b) h, outside b (joined a b) x y (joined-second a b) h)

-- neither box holds a pixel that their hull does not
pub hull-parts : (a b : PageBox) (x y : ℤ) → is_in (hull_of a b) x y ≡ false → (is_in a x y ≡ false) × (is_in b x y ≡ false)
hull-parts a b x y h = hull-cases a b x y (is_empty_box a) (is_empty_box b) refl refl h

-- ---- shapes answer nothing outside of their extents

-- a kind holds no pixel outside of its own extent
own-silent : (kind : Kind) (out : Pose) (x y : ℤ) → out.quarter ≤ 3 → IsSound kind → is_in (own_extent kind (carry out)) x y ≡ false → holds_of kind (carry out) x y ≡ false
own-silent Group out x y quarter sound h = refl
own-silent (Frame w t fill) out x y quarter sound h = h
own-silent (Rect w t fill) out x y quarter sound h = h
own-silent (Ellipse w t fill) out x y quarter sound h =
    not-held (is_in_ellipse (box_of (carry out) w t) x y) (is_in (box_of (carry out) w t) x y) (ellipse-between out w t x y quarter sound) h
own-silent (Polygon points fill) out x y quarter sound h =
    let carried : List Point = map (carry out) points in
    not-held (is_in_polygon carried x y) (is_in (bounds_of carried) x y) (polygon-held carried (bounds_of carried) x y refl) h

kind-silent : (kind : Kind) (holds : Bool) (inner : Option Colour) → holds ≡ false → inner ≡ None → kind_answer kind holds inner ≡ None
kind-silent Group holds inner h k = k
kind-silent (Frame w t fill) holds inner h k = ap (λ b. cond b (or_else inner fill) None) h
kind-silent (Rect w t fill) holds inner h k = ap (λ b. cond b (Some fill) None) h
kind-silent (Ellipse w t fill) holds inner h k = ap (λ b. cond b (Some fill) None) h
kind-silent (Polygon points fill) holds inner h k = ap (λ b. cond b (Some fill) None) h

hidden-silent : (hidden : Bool) (o : Option Colour) → o ≡ None → cond hidden None o ≡ None
hidden-silent true o h = refl
hidden-silent false o h = h

-- outside of the extent of a parent's children they answer nothing
abbrev AreSilentAt : ℕ → ℕ → List Record → ℤ → ℤ → Type 0
AreSilentAt n m rs x y = (p : Parent) (out : Pose) → out.quarter ≤ 3 → is_in (extent_among m rs p (carry out)) x y ≡ false → answer_among n rs p (carry out) x y ≡ None

record-silent : (n m : ℕ) (rs : List Record) (x y : ℤ) → AreSilentAt n m rs x y → (r : Record) (out : Pose) → IsInLimits r → out.quarter ≤ 3 → is_in (extent_of m rs (carry out) r) x y ≡ false → answer_of n rs (carry out) x y r ≡ None
record-silent n m rs x y below r out limits quarter h =
    let page : Point → Point = λ q. carry out (carry r.pose q) in
    let both : Composed r.pose out = compose r.pose out limits.quarter quarter in
    let parts = hull-parts (own_extent r.kind page) (extent_among m rs (Shape r.id) page) x y h in
    let own : is_in (own_extent r.kind (carry both.pose)) x y ≡ false = subst (λ f. is_in (own_extent r.kind f) x y ≡ false) (sym both.carries) parts.0 in
    let among : is_in (extent_among m rs (Shape r.id) (carry both.pose)) x y ≡ false = subst (λ f. is_in (extent_among m rs (Shape r.id) f) x y ≡ false) (sym both.carries) parts.1 in
    let held : holds_of r.kind page x y ≡ false = subst (λ f. holds_of r.kind f x y ≡ false) both.carries (own-silent r.kind both.pose x y both.quarter limits.kind own) in
    let inner : answer_among n rs (Shape r.id) page x y ≡ None = subst (λ f. answer_among n rs (Shape r.id) f x y ≡ None) both.carries (below (Shape r.id) both.pose both.quarter among) in
    hidden-silent r.hidden (kind_answer r.kind (holds_of r.kind page x y) (answer_among n rs (Shape r.id) page x y))
    (kind-silent r.kind (holds_of r.kind page x y) (answer_among n rs (Shape r.id) page x y) held inner)

list-silent : (f : Record → Option Colour) (g : Record → PageBox) (x y : ℤ) (cs : List Record) → All (λ c. is_in (g c) x y ≡ false → f c ≡ None) cs → is_in (hull_round (map g cs)) x y ≡ false → first_answer f cs ≡ None
list-silent f g x y [] a h = refl
list-silent f g x y (c ∷ cs) a h =
    let parts = hull-parts (g c) (hull_round (map g cs)) x y h in
    let here : f c ≡ None = All-head (λ s. is_in (g s) x y ≡ false → f s ≡ None) c cs a parts.0 in
    let rest : first_answer f cs ≡ None = list-silent f g x y cs (All-tail (λ s. is_in (g s) x y ≡ false → f s ≡ None) c cs a) parts.1 in
    ap (λ o. or_else o (first_answer f cs)) here ∙ rest

-- an extent that counts at least as many levels
among-silent : (n m : ℕ) (rs : List Record) (x y : ℤ) → All IsInLimits rs → n ≤ m → AreSilentAt n m rs x y
unfolding answer_among extent_among
among-silent zero m rs x y limits l = λ p out quarter h. refl
among-silent (suc n) zero rs x y limits l = absurd (omega arith)
among-silent (suc n) (suc m) rs x y limits l = λ p out quarter h.
    let below : AreSilentAt n m rs x y = among-silent n m rs x y limits (omega arith) in
    let f : Record → Option Colour = answer_of n rs (carry out) x y in
    let g : Record → PageBox = extent_of m rs (carry out) in
    list-silent f g x y (children p rs)
    (All-weaker IsInLimits (λ c. is_in (g c) x y ≡ false → f c ≡ None) (λ c k. record-silent n m rs x y below c out k quarter) (children p rs) (all-children IsInLimits p rs limits)) h

-- ---- steps up to the page

less-from : (id : ℕ) (up down : Parent → Bool) → ((q : Parent) → up q ≡ false → down q ≡ false) → (o : Option Record) → is_below_from id up o ≡ false → is_below_from id down o ≡ false
less-from id up down k None h = refl
less-from id up down k (Some r) h =
    let parts = or_parts (r.id == id) (up r.place.parent) h in
    or_from (r.id == id) (down r.place.parent) parts.0 (k r.place.parent parts.1)

-- what is not below the shape is not below it within fewer steps
below-less : (n id : ℕ) (rs : List Record) (q : Parent) → is_below (suc n) id rs q ≡ false → is_below n id rs q ≡ false
unfolding is_below
below-less zero id rs Page h = refl
below-less zero id rs (Shape p) h = refl
below-less (suc n) id rs Page h = refl
below-less (suc n) id rs (Shape p) h = less-from id (λ q. is_below (suc n) id rs q) (λ q. is_below n id rs q) (λ q k. below-less n id rs q k) (record_of p rs) h

-- a child of what is not below the shape is not below it, unless it is the shape
below-child : (n id : ℕ) (rs : List Record) (r : Record) → record_of r.id rs ≡ Some r → (r.id == id) ≡ false → is_below (suc n) id rs r.place.parent ≡ false → is_below (suc n) id rs (Shape r.id) ≡ false
unfolding is_below
below-child n id rs r found other h =
    ap (is_below_from id (λ q. is_below n id rs q)) found
    ∙ or_from (r.id == id) (is_below n id rs r.place.parent) other (below-less n id rs r.place.parent h)

reaches-child : (k : ℕ) (rs : List Record) (r : Record) → record_of r.id rs ≡ Some r → is_container r.kind ≡ true → reaches_page k rs r.place.parent ≡ true → reaches_page (suc k) rs (Shape r.id) ≡ true
unfolding reaches_page
reaches-child k rs r found holds h =
    ap (reaches_from (λ q. reaches_page k rs q)) found ∙ and_from (is_container r.kind) (reaches_page k rs r.place.parent) holds h

page-still : (k : ℕ) (rs : List Record) → to_page k rs Page ≡ (λ q. q)
unfolding to_page
page-still k rs = elim k as (λ m. to_page m rs Page ≡ (λ q. q)) [ zero ↦ refl | suc m ↦ refl ]

page-child : (k : ℕ) (rs : List Record) (r : Record) → record_of r.id rs ≡ Some r → to_page (suc k) rs (Shape r.id) ≡ (λ q. to_page k rs r.place.parent (carry r.pose q))
unfolding to_page
page-child k rs r found = ap (to_page_from (λ p. to_page k rs p)) found

-- a step from a record's own points, and on from its parent's
abbrev after : Record → (Point → Point) → Point → Point
after r f q = f (carry r.pose q)

-- once the page is reached, more steps lead no further
page-fuel : (n m : ℕ) (rs : List Record) (q : Parent) → reaches_page n rs q ≡ true → to_page (n + m) rs q ≡ to_page n rs q
unfolding to_page reaches_page
page-fuel zero m rs Page h = page-still (zero + m) rs ∙ sym (page-still zero rs)
page-fuel zero m rs (Shape p) h = cc
page-fuel (suc n) m rs Page h = page-still (suc n + m) rs ∙ sym (page-still (suc n) rs)
page-fuel (suc n) m rs (Shape p) h =
    let e : suc n + m ≡ suc (n + m) = omega arith in
    let s = from-some (λ q. reaches_page n rs q) (record_of p rs) h in
    let r : Record = s.0 in
    let ih : to_page (n + m) rs r.place.parent ≡ to_page n rs r.place.parent = page-fuel n m rs r.place.parent s.3 in
    ap (λ k. to_page k rs (Shape p)) e
    ∙ (ap (to_page_from (λ q. to_page (n + m) rs q)) s.1 ∙ ap (after r) ih ∙ sym (ap (to_page_from (λ q. to_page n rs q)) s.1))

-- a function that carries as a pose does
record IsMotion (f : Point → Point) : Type 0 where
  pose : Pose
  quarter : pose.quarter ≤ 3
  carries : f ≡ carry pose

-- the pose that moves nothing
abbrev still : Pose
still = record { dx = pos 0; dy = pos 0; quarter = 0; flip = false }

carry-still : (p : Point) → p ≡ carry still p
carry-still p = rw (plus-none p.x, plus-none p.y) refl

still-motion : IsMotion (λ q. q)
still-motion = record { pose = still; quarter = omega arith; carries = fun_ext (λ p. carry-still p) }

motion-from : (up : Parent → Point → Point) → ((p : Parent) → IsMotion (up p)) → (o : Option Record) → ((r : Record) → o ≡ Some r → r.pose.quarter ≤ 3) → IsMotion (to_page_from up o)
motion-from up m None k = still-motion
motion-from up m (Some r) k =
    let out : IsMotion (up r.place.parent) = m r.place.parent in
    let both : Composed r.pose out.pose = compose r.pose out.pose (k r refl) out.quarter in
    record { pose = both.pose; quarter = both.quarter; carries = ap (after r) out.carries ∙ sym both.carries }

page-motion : (k : ℕ) (rs : List Record) → All IsInLimits rs → (p : Parent) → IsMotion (to_page k rs p)
unfolding to_page
page-motion zero rs limits Page = still-motion
page-motion zero rs limits (Shape id) = still-motion
page-motion (suc k) rs limits Page = still-motion
page-motion (suc k) rs limits (Shape id) =
    motion-from (λ p. to_page k rs p) (page-motion k rs limits) (record_of id rs) (λ r e. (found-all IsInLimits id rs r limits e).quarter)

-- ---- children of which some were taken out

passed : (t : Record → Bool) (xs : List Record) (x : Record) → Contains (filter t xs) x → t x ≡ true
passed t xs x there = ap t (sym there.2) ∙ filter_passes t xs there.0 x there.1

of-children : (p : Parent) (rs : List Record) (c : Record) → Contains (children p rs) c → Contains rs c × (is_child p c ≡ true)
of-children p rs c there =
    let own : List Record = filter (is_child p) rs in
    let among : Contains own c = Contains-permutation (children p rs) own c (IsPermutation-sym own (children p rs) (front_first-moves own)) there in
    (passed-in (is_child p) rs c among, passed (is_child p) rs c among)

in-children : (p : Parent) (rs : List Record) (c : Record) → Contains rs c → is_child p c ≡ true → Contains (children p rs) c
in-children p rs c there h =
    let own : List Record = filter (is_child p) rs in
    Contains-permutation own (children p rs) c (front_first-moves own) (Contains-filter (is_child p) rs c there h)

apart-filter : (t : Record → Bool) (l : List Record) → AreApart l → AreApart (filter t l)
apart-filter t [] a = tt
apart-filter t (s ∷ rest) a = elim (cases_Bool (t s)) [
  | inl e ↦ rw e (All-filter t (λ r. is_in_front s r ≡ true) rest a.0, apart-filter t rest a.1)
  | inr e ↦ rw e (apart-filter t rest a.1)
]

left-in : (t : Record → Bool) (p : Parent) (rs : List Record) (c : Record) → Contains (children p (filter t rs)) c → Contains (filter t (children p rs)) c
left-in t p rs c there =
    let of = of-children p (filter t rs) c there in
    Contains-filter t (children p rs) c (in-children p rs c (passed-in t rs c of.0) of.1) (passed t rs c of.0)

left-from : (t : Record → Bool) (p : Parent) (rs : List Record) (c : Record) → Contains (filter t (children p rs)) c → Contains (children p (filter t rs)) c
left-from t p rs c there =
    let of = of-children p rs c (passed-in t (children p rs) c there) in
    in-children p (filter t rs) c (Contains-filter t rs c of.0 (passed t (children p rs) c there)) of.1

-- the children of a parent among the records that stay
children-left : (t : Record → Bool) (p : Parent) (rs : List Record) → HavePlaces rs → HavePlaces (filter t rs) → children p (filter t rs) ≡ filter t (children p rs)
children-left t p rs before after =
    let left : List Record = children p (filter t rs) in
    let kept : List Record = filter t (children p rs) in
    same-order left kept (children-apart p (filter t rs) after) (apart-filter t (children p rs) (children-apart p rs before))
    (λ i d l. left-in t p rs (get_or left i d) (All-contains_itself left i d l))
    (λ i d l. left-from t p rs (get_or kept i d) (All-contains_itself kept i d l))

-- a record that stays, with the same answer, or one that goes and answers nothing
abbrev IsKeptOrSilent : (Record → Bool) → (Record → Option Colour) → (Record → Option Colour) → Record → Type 0
IsKeptOrSilent t g f c = ((t c ≡ true) × (g c ≡ f c)) ⊎ ((t c ≡ false) × (f c ≡ None))

first-kept : (t : Record → Bool) (g f : Record → Option Colour) (cs : List Record) → All (IsKeptOrSilent t g f) cs → first_answer g (filter t cs) ≡ first_answer f cs
first-kept t g f [] a = refl
first-kept t g f (c ∷ cs) a =
    let rest : first_answer g (filter t cs) ≡ first_answer f cs = first-kept t g f cs (All-tail (IsKeptOrSilent t g f) c cs a) in
    elim (All-head (IsKeptOrSilent t g f) c cs a) [
      | inl k ↦ ap (λ b. first_answer g (cond b (c ∷ filter t cs) (filter t cs))) k.0 ∙ ap (λ o. or_else o (first_answer g (filter t cs))) k.1 ∙ ap (or_else (f c)) rest
      | inr k ↦ ap (λ b. first_answer g (cond b (c ∷ filter t cs) (filter t cs))) k.0 ∙ rest ∙ sym (ap (λ o. or_else o (first_answer f cs)) k.1)
    ]

-- ---- the walk

-- a leaf's answer does not depend on what lies below it
kind-alike : (kind : Kind) (holds : Bool) (a b : Option Colour) → (is_container kind ≡ true → a ≡ b) → kind_answer kind holds a ≡ kind_answer kind holds b
kind-alike Group holds a b h = h refl
kind-alike (Frame w t fill) holds a b h = ap (λ o. cond holds (or_else o fill) None) (h refl)
kind-alike (Rect w t fill) holds a b h = refl
kind-alike (Ellipse w t fill) holds a b h = refl
kind-alike (Polygon points fill) holds a b h = refl

-- a child of what is not below the shape goes if it is the shape
child-test : (id : ℕ) (rs : List Record) (p : Parent) (c : Record) → c.place.parent ≡ p → is_below 32 id rs p ≡ false → not (is_in_subtree id rs c) ≡ not (c.id == id)
child-test id rs p c parent below =
    ap (λ q. not ((c.id == id) || is_below 32 id rs q)) parent ∙ ap (λ b. not ((c.id == id) || b)) below ∙ ap not (or-false (c.id == id))

module _ (id : ℕ) (d : Contents) (w : IsWellFormed d) (x y : ℤ) (outer : is_in (extent_at id d.records) x y ≡ false) where
  -- the answers below a parent that is k steps from the page and not below the shape are the same
  abbrev AreSameAt : ℕ → Type 0
  AreSameAt n = (k : ℕ) (p : Parent) → n + k ≡ 32 → reaches_page k d.records p ≡ true → is_below 32 id d.records p ≡ false → answer_among n (others id d.records) p (to_page k d.records p) x y ≡ answer_among n d.records p (to_page k d.records p) x y

  found-child : (c : Record) → Contains d.records c → (n : ℕ) → c.id ≡ n → record_of n d.records ≡ Some c
  found-child c there n e = sym (found-at d.records there.0 n c w.rising there.1 (sym there.2) e)

  -- the shape itself answers nothing
  shape-silent : (n k : ℕ) (p : Parent) (c : Record) → suc n + k ≡ 32 → reaches_page k d.records p ≡ true → Contains d.records c → c.place.parent ≡ p → c.id ≡ id → answer_of n d.records (to_page k d.records p) x y c ≡ None
  shape-silent n k p c sum reach there parent same =
      let rs : List Record = d.records in
      let up : IsMotion (to_page k rs p) = page-motion k rs w.limits p in
      let steps : k + (31 - k) ≡ 31 = omega arith in
      let few : n ≤ 31 = omega arith in
      let far : to_page 31 rs c.place.parent ≡ carry up.pose = ap (to_page 31 rs) parent ∙ ap (λ m. to_page m rs p) (sym steps) ∙ page-fuel k (31 - k) rs p reach ∙ up.carries in
      let apart : is_in (extent_of 31 rs (to_page 31 rs c.place.parent) c) x y ≡ false = sym (ap (λ o. is_in (extent_on_page rs o) x y) (found-child c there id same)) ∙ outer in
      let limits : IsInLimits c = All-contains IsInLimits rs c w.limits there in
      let silent : answer_of n rs (carry up.pose) x y c ≡ None = record-silent n 31 rs x y (among-silent n 31 rs x y w.limits few) c up.pose limits up.quarter (subst (λ f. is_in (extent_of 31 rs f c) x y ≡ false) far apart) in
      subst (λ f. answer_of n rs f x y c ≡ None) (sym up.carries) silent

  -- another child answers the same
  other-same : (n k : ℕ) (p : Parent) (c : Record) → AreSameAt n → suc n + k ≡ 32 → reaches_page k d.records p ≡ true → is_below 32 id d.records p ≡ false → Contains d.records c → c.place.parent ≡ p → (c.id == id) ≡ false
      → answer_of n (others id d.records) (to_page k d.records p) x y c ≡ answer_of n d.records (to_page k d.records p) x y c
  other-same n k p c deeper sum reach below there parent other =
      let rs : List Record = d.records in
      let page : Point → Point = λ q. to_page k rs p (carry c.pose q) in
      let found : record_of c.id rs ≡ Some c = found-child c there c.id refl in
      let along : Parent → Point → Point = λ q z. to_page k rs q (carry c.pose z) in
      let out : to_page (suc k) rs (Shape c.id) ≡ page = page-child k rs c found ∙ ap along parent in
      let more : n + suc k ≡ 32 = omega arith in
      let apart : is_below 32 id rs (Shape c.id) ≡ false = below-child 31 id rs c found other (ap (is_below 32 id rs) parent ∙ below) in
      let inner : is_container c.kind ≡ true → answer_among n (others id rs) (Shape c.id) page x y ≡ answer_among n rs (Shape c.id) page x y =
      λ holds. subst (λ f. answer_among n (others id rs) (Shape c.id) f x y ≡ answer_among n rs (Shape c.id) f x y) out
      (deeper (suc k) (Shape c.id) more (reaches-child k rs c found holds (ap (reaches_page k rs) parent ∙ reach)) apart) in
      ap (cond c.hidden None) (kind-alike c.kind (holds_of c.kind page x y) (answer_among n (others id rs) (Shape c.id) page x y) (answer_among n rs (Shape c.id) page x y) inner)

  child-kept : (n k : ℕ) (p : Parent) (c : Record) → AreSameAt n → suc n + k ≡ 32 → reaches_page k d.records p ≡ true → is_below 32 id d.records p ≡ false → Contains d.records c → c.place.parent ≡ p
      → IsKeptOrSilent (λ r. not (is_in_subtree id d.records r)) (answer_of n (others id d.records) (to_page k d.records p) x y) (answer_of n d.records (to_page k d.records p) x y) c
  child-kept n k p c deeper sum reach below there parent =
      let test : not (is_in_subtree id d.records c) ≡ not (c.id == id) = child-test id d.records p c parent below in
      elim (cases_Bool (c.id == id)) [
        | inl t ↦ inr (test ∙ ap not t, shape-silent n k p c sum reach there parent (eqb-true c.id id t))
        | inr f ↦ inl (test ∙ ap not f, other-same n k p c deeper sum reach below there parent f)
      ]

  walk-step : (n : ℕ) → AreSameAt n → AreSameAt (suc n)
  unfolding answer_among
  walk-step n deeper = λ k p sum reach below.
      let rs : List Record = d.records in
      let t : Record → Bool = λ r. not (is_in_subtree id rs r) in
      let g : Record → Option Colour = answer_of n (others id rs) (to_page k rs p) x y in
      let f : Record → Option Colour = answer_of n rs (to_page k rs p) x y in
      let left : children p (others id rs) ≡ filter t (children p rs) = children-left t p rs w.places (deleted-well d w id).places in
      ap (first_answer g) left
      ∙ first-kept t g f (children p rs) (λ i e l.
      let c : Record = get_or (children p rs) i e in
      let of = of-children p rs c (All-contains_itself (children p rs) i e l) in
      child-kept n k p c deeper sum reach below of.0 (same_parent-is c.place.parent p of.1))

  walk : (n : ℕ) → AreSameAt n
  unfolding answer_among
  walk zero = λ k p sum reach below. refl
  walk (suc n) = walk-step n (walk n)

-- outside of the extent of a shape, colours stay without it and all below it
pub colour-others : (d : Contents) → IsWellFormed d → (id : ℕ) (x y : ℤ) → is_in (extent_at id d.records) x y ≡ false → colour (others id d.records) x y ≡ colour d.records x y
colour-others d w id x y h =
    ap or_white (subst (λ f. answer_among 32 (others id d.records) Page f x y ≡ answer_among 32 d.records Page f x y) (page-still 0 d.records)
    (walk id d w x y h 32 0 Page (omega arith) (reaches-page 0 d.records) (below-page 32 id d.records)))
