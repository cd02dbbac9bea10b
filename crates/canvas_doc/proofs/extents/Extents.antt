-- The steps of a walk for extents against the definition.
use Rattle.std.proofs.Common.{◌≡◌, ◌+ℤ◌, ℕ, zero, suc, ◌+◌, ◌-◌, ◌<◌, ◌≤◌, ℤ, pos, List, [], ◌∷◌, Bool, true, false, cond, Option, Some, refl, sym, ap, subst, ◌∙◌, arith, length, get_or, take, drop, map}
use Rattle.std.specs.Prelude.{int_le}
use Rattle.std.specs.List.{Contains}
use Rattle.std.proofs.lemmas.List.{get_or-map, length-map}
use Rattle.std.specs.Int.{int_min, int_max}
use Rattle.std.proofs.lemmas.Int.{ints}
use Rattle.std.proofs.lemmas.Bool.{or_parts, or_from}
use mathlib.Core.Path.{fun_ext}
use Rattle.canvas_plane.specs.declared.PageBox.{PageBox}
use Rattle.canvas_plane.specs.declared.Point.{Point}
use Rattle.canvas_plane.specs.declared.Pose.{Pose}
use Rattle.canvas_plane.specs.Motion.{carry}
use Rattle.canvas_plane.specs.Page.{empty_box, hull_of, is_empty_box, joined}
use Rattle.canvas_record.specs.declared.records.Parent.{Parent}
use Rattle.canvas_record.specs.declared.records.Parent.TheVariants.{Page, Shape}
use Rattle.canvas_record.specs.declared.records.Record.{Record}
use Rattle.canvas_shape.specs.Bounds.{grown_along, grown_to}
use Rattle.canvas_shape.specs.declared.Kind.{Kind}
use Rattle.canvas_record.specs.Children.{children}
use Rattle.canvas_record.specs.Contents.{record_of, AreRising}
use Rattle.canvas_record.specs.Damage.{extent_among, extent_of, extent_on_page, hull_round, own_extent, to_page, to_page_from}
use Rattle.canvas_doc.specs.PlaceOrder.{IsInPlaceOrder}
use Rattle.canvas_doc.proofs.places.ChildrenInOrder.{first-and-rest}
use Rattle.canvas_doc.proofs.tree.Found.{found-at}

-- no level, no extent
pub extent-none : (levels : ℕ) (rs : List Record) (p : Parent) (out : Point → Point) → levels ≡ 0 → empty_box ≡ extent_among levels rs p out
unfolding extent_among
extent-none levels rs p out h = rw h refl

-- a level down
pub extent-children : (levels : ℕ) (rs : List Record) (p : Parent) (out : Point → Point) → 0 < levels → extent_among levels rs p out ≡ hull_round (map (extent_of (levels - 1) rs out) (children p rs))
unfolding extent_among
extent-children zero rs p out h = absurd (omega arith)
extent-children (suc n) rs p out h =
    let e : suc n - 1 ≡ n = omega arith in
    rw e refl

-- the page's own points lie where they are
pub to_page-page : (steps : ℕ) (rs : List Record) (q : Point) → to_page steps rs Page q ≡ q
unfolding to_page
to_page-page zero rs q = refl
to_page-page (suc n) rs q = refl

pub to_page-none : (steps id : ℕ) (rs : List Record) (q : Point) → steps ≡ 0 → to_page steps rs (Shape id) q ≡ q
unfolding to_page
to_page-none steps id rs q h = rw h refl

pub to_page-step : (steps id : ℕ) (rs : List Record) (o : Option Record) (q : Point) → 0 < steps → o ≡ record_of id rs → to_page steps rs (Shape id) q ≡ to_page_from (λ p. to_page (steps - 1) rs p) o q
unfolding to_page
to_page-step zero id rs o q h e = absurd (omega arith)
to_page-step (suc n) id rs o q h e = let m : suc n - 1 ≡ n = omega arith in rw (m, e) refl

int-le-grows : (a b c d : ℤ) → int_le b a ≡ false → int_le (int_max b d) (int_min a c) ≡ false
int-le-grows a b c d h = grind (arith, ints)

-- what is joined to a box that is not empty is not empty
joined-some : (a b : PageBox) → is_empty_box a ≡ false → is_empty_box (joined a b) ≡ false
joined-some a b h =
    let n = or_parts (int_le a.right a.left) (int_le a.bottom a.top) h in
    or_from (int_le (joined a b).right (joined a b).left) (int_le (joined a b).bottom (joined a b).top) (int-le-grows a.left a.right b.left b.right n.0) (int-le-grows a.top a.bottom b.top b.bottom n.1)

min-same : (a : ℤ) → int_min a a ≡ a
min-same a = grind (arith, ints)

max-same : (a : ℤ) → int_max a a ≡ a
max-same a = grind (arith, ints)

joined-same : (a : PageBox) → joined a a ≡ a
joined-same a = λ k. record { left = min-same a.left k; top = min-same a.top k; right = max-same a.right k; bottom = max-same a.bottom k }

-- of a hull that is empty or not, an empty one adds nothing
pub record IsHull (b : PageBox) : Type 0 where
  pub plain : cond (is_empty_box b) empty_box b ≡ b

hull-case : (a b : PageBox) (p q : Bool) → is_empty_box a ≡ p → is_empty_box b ≡ q → cond (is_empty_box (cond p (cond q empty_box b) (cond q a (joined a b)))) empty_box (cond p (cond q empty_box b) (cond q a (joined a b))) ≡ cond p (cond q empty_box b) (cond q a (joined a b))
hull-case a b true true h k = refl
hull-case a b true false h k = ap (λ t. cond t empty_box b) k
hull-case a b false true h k = ap (λ t. cond t empty_box a) h
hull-case a b false false h k = ap (λ t. cond t empty_box (joined a b)) (joined-some a b h)

pub hull-is : (a b : PageBox) → IsHull (hull_of a b)
hull-is a b = record { plain = hull-case a b (is_empty_box a) (is_empty_box b) refl refl }

-- nothing before a hull
pub hull-second : (b : PageBox) → IsHull b → hull_of empty_box b ≡ b
hull-second b h = h.plain

-- nothing behind a hull
pub hull-first : (b : PageBox) → IsHull b → hull_of b empty_box ≡ b
hull-first b h = h.plain

same-case : (a : PageBox) (p : Bool) → cond p empty_box a ≡ a → cond p (cond p empty_box a) (cond p a (joined a a)) ≡ a
same-case a true h = h
same-case a false h = joined-same a

-- a hull with itself
pub hull-same : (b : PageBox) → IsHull b → hull_of b b ≡ b
hull-same b h = same-case b (is_empty_box b) h.plain

pub plus-none : (x : ℤ) → x +ℤ pos 0 ≡ x
plus-none x = grind (arith, ints)

-- the pose that moves nothing
abbrev pub still : Pose
still = record { dx = pos 0; dy = pos 0; quarter = 0; flip = false }

pub still-carries : (q : Point) → carry still q ≡ q
still-carries q = λ k. record { x = plus-none q.x k; y = plus-none q.y k }

-- a box that grew by one vertex more
grown-next : (b : PageBox) (points : List Point) (i : ℕ) (d : Point) (all : PageBox) → i < length points → grown_along b (drop i points) ≡ all → grown_along (grown_to b (get_or points i d)) (drop (i + 1) points) ≡ all
grown-next b [] i d all l h = absurd (omega arith)
grown-next b (p ∷ ps) zero d all l h = h
grown-next b (p ∷ ps) (suc i) d all l h =
    let more : suc i + 1 ≡ suc (i + 1) = omega arith in
    ap (λ n. grown_along (grown_to b (get_or ps i d)) (drop n (p ∷ ps))) more ∙ grown-next b ps i d all (omega arith) h

pub grown-carried : (out : Point → Point) (b next all : PageBox) (points : List Point) (i : ℕ) (d q : Point) → i < length points → q ≡ out (get_or points i d) → next ≡ grown_to b q → grown_along b (drop i (map out points)) ≡ all → grown_along next (drop (i + 1) (map out points)) ≡ all
grown-carried out b next all points i d q l e g h =
    let within : i < length (map out points) = subst (λ n. i < n) (sym (length-map points out)) l in
    let here : q ≡ get_or (map out points) i (out d) = e ∙ sym (get_or-map out points i d (out d) l) in
    ap (λ x. grown_along x (drop (i + 1) (map out points))) (g ∙ ap (grown_to b) here) ∙ grown-next b (map out points) i (out d) all within h

-- a record of the order is found by its id
pub order-there : (order rs : List Record) (k : ℕ) (r : Record) → IsInPlaceOrder order rs → AreRising rs → k < length order → r ≡ get_or order k r → record_of r.id rs ≡ Some r
order-there order rs k r o rising l e =
    let c : Contains rs r = subst (Contains rs) (sym e) (o.listed k r l) in
    sym (found-at rs c.0 r.id r rising c.1 (sym c.2) refl)

-- the box round one more, before those that it is round
pub round-more : (f : Record → PageBox) (order : List Record) (slot end : ℕ) (r d : Record) (box area wider : PageBox) → 0 < slot → slot ≤ end → end ≤ length order → r ≡ get_or order (slot - 1) d → box ≡ f r
    → area ≡ hull_round (map f (take (end - slot) (drop slot order))) → wider ≡ hull_of box area → wider ≡ hull_round (map f (take (end - (slot - 1)) (drop (slot - 1) order)))
round-more f order slot end r d box area wider some within bound e b a w =
    let next : slot - 1 + 1 ≡ slot = omega arith in
    w ∙ ap (λ x. hull_of x area) b ∙ ap (hull_of (f r)) a
    ∙ ap (λ n. hull_of (f r) (hull_round (map f (take (end - n) (drop n order))))) (sym next)
    ∙ ap (λ list. hull_round (map f list)) (sym (first-and-rest order (slot - 1) end r d (omega arith) bound e))

-- the box of a shape, by what was computed of it
pub extent-by : (levels : ℕ) (rs : List Record) (out : Point → Point) (id : ℕ) (kind : Kind) (pose : Pose) (page : Pose) (own among whole : PageBox) → ((q : Point) → carry page q ≡ out (carry pose q)) → own ≡ own_extent kind (carry page) → among ≡ extent_among levels rs (Shape id) (carry page) → whole ≡ hull_of own among
    → whole ≡ hull_of (own_extent kind (λ q. out (carry pose q))) (extent_among levels rs (Shape id) (λ q. out (carry pose q)))
extent-by levels rs out id kind pose page own among whole carries o a w =
    let same : carry page ≡ (λ q. out (carry pose q)) = fun_ext carries in
    w ∙ ap (λ x. hull_of x among) o ∙ ap (hull_of (own_extent kind (carry page))) a ∙ ap (λ (f : Point → Point). hull_of (own_extent kind f) (extent_among levels rs (Shape id) f)) same

-- the same with nothing below it
pub alone-by : (out : Point → Point) (kind : Kind) (pose : Pose) (page : Pose) (own whole : PageBox) → ((q : Point) → carry page q ≡ out (carry pose q)) → own ≡ own_extent kind (carry page) → whole ≡ hull_of own empty_box → whole ≡ hull_of (own_extent kind (λ q. out (carry pose q))) empty_box
alone-by out kind pose page own whole carries o w =
    let same : carry page ≡ (λ q. out (carry pose q)) = fun_ext carries in
    w ∙ ap (λ x. hull_of x empty_box) o ∙ ap (λ (f : Point → Point). hull_of (own_extent kind f) empty_box) same

-- the box of a record, where a pose carries its parent's points to the page
pub on-page : (rs inside : List Record) (r : Record) (up : Pose) (box : PageBox) → inside ≡ rs → ((q : Point) → carry up q ≡ to_page 31 inside r.place.parent q) → box ≡ extent_of 31 rs (carry up) r → box ≡ extent_on_page rs (Some r)
on-page rs inside r up box e carries is =
    let out : carry up ≡ to_page 31 rs r.place.parent = fun_ext carries ∙ ap (λ l. to_page 31 l r.place.parent) e in
    is ∙ ap (λ (f : Point → Point). extent_of 31 rs f r) out
