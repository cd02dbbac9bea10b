-- Bounds, in the plane in which they lie.
use Rattle.std.proofs.Common.{◌≡◌, ℕ, ◌≤◌, Bool, true, false, ◌&&◌, ◌||◌, ℤ, pos, ◌≤ℤ◌, sym, subst, ap, ◌∙◌, arith, map, List}
use Rattle.std.specs.Prelude.{int_le, int_lt}
use Rattle.std.specs.Int.{int_max, int_min}
use Rattle.std.proofs.lemmas.Bool.{and_parts, true≢false, false_from_ne_true, and_from, or_right}
use Rattle.std.proofs.lemmas.Int.{ints}
use Rattle.canvas_plane.specs.declared.PageBox.{PageBox}
use Rattle.canvas_plane.specs.declared.Point.{Point}
use Rattle.canvas_plane.specs.declared.Pose.{Pose}
use Rattle.canvas_plane.specs.Motion.{carry}
use Rattle.canvas_plane.specs.Page.{is_in}
use Rattle.canvas_shape.specs.Bounds.{bounds_of}
use Rattle.canvas_shape.specs.Box.{box_between, box_of}
use Rattle.canvas_shape.specs.Edges.{is_in_polygon}
use Rattle.canvas_shape.specs.Inside.{holds_of}
use Rattle.canvas_shape.specs.declared.Kind.{Kind}
use Rattle.canvas_doc.specs.declared.bounds.Bounds.{Bounds}
use Rattle.canvas_doc.specs.Bounds.{holds_on_page, HoldsAll, HoldsBetween, HoldsClip, HoldsOwn, is_empty, is_whole, IsCarriedWithin, IsWithinBounds, left_top, LieApart, right_bottom}
use Rattle.canvas_doc.specs.Edges.{AreEdges}
use Rattle.canvas_doc.proofs.boxes.EdgeLaws.{common-overlap, empty-none, ends-hold, holds, holds-grows, joined-first, joined-second, Overlap}
use Rattle.canvas_doc.proofs.extents.Pulled.{compose, Composed, pulled}
use Rattle.canvas_doc.proofs.extents.Shown.{polygon-between}

-- a pixel of the bounds' own plane lies in them
abbrev pub holds_at : Bounds → ℤ → ℤ → Bool
holds_at b u v = holds_on_page (λ r. r) b u v

pub on-page : (out : Pose) (b : Bounds) (x y : ℤ) → holds_on_page (carry out) b x y ≡ holds_at b (pulled out x y).u (pulled out x y).v
on-page out b x y = ap (λ t. is_whole b || t) ((pulled out x y).same (left_top b) (right_bottom b))

-- ---- one within another

pub within-by : (a b : Bounds) → ((u v : ℤ) → holds_at a u v ≡ true → holds_at b u v ≡ true) → IsWithinBounds a b
within-by a b f = record { holds = λ out x y q h. on-page out b x y ∙ f (pulled out x y).u (pulled out x y).v (sym (on-page out a x y) ∙ h) }

pub within-itself : (a : Bounds) → IsWithinBounds a a
within-itself a = record { holds = λ out x y q h. h }

pub within-trans : (a b c : Bounds) → IsWithinBounds a b → IsWithinBounds b c → IsWithinBounds a c
within-trans a b c h k = record { holds = λ out x y q t. k.holds out x y q (h.holds out x y q t) }

-- bounds that a pose carries may shrink, and those that they lie within may grow
pub carried-within : (pose : Pose) (a c b d : Bounds) → pose.quarter ≤ 3 → IsWithinBounds a c → IsCarriedWithin pose c b → IsWithinBounds b d → IsCarriedWithin pose a d
carried-within pose a c b d quarter h k m = record {
  holds = λ out x y q t.
      let both : Composed pose out = compose pose out quarter q in
      let P : (Point → Point) → Type 0 = λ f. holds_on_page f a x y ≡ true in
      let Q : (Point → Point) → Type 0 = λ f. holds_on_page f c x y ≡ true in
      m.holds out x y q (k.holds out x y q (subst Q both.carries (h.holds both.pose x y both.quarter (subst P (sym both.carries) t))));
}

pub own-within : (kind : Kind) (pose : Pose) (b d : Bounds) → HoldsOwn kind pose b → IsWithinBounds b d → HoldsOwn kind pose d
own-within kind pose b d h k = record { holds = λ out x y q t. k.holds out x y q (h.holds out x y q t) }

-- an empty one lies within any
pub empty-within : (a b : Bounds) → is_empty a ≡ true → IsWithinBounds a b
empty-within a b e = within-by a b (λ u v h. absurd (true≢false (sym h ∙ empty-none a.left a.top a.right a.bottom u v a.edges e)))

le-known : (a b : ℤ) → int_le a b ≡ true → a ≤ℤ b
le-known a b h = grind (arith, ints)

-- one with edges between those of another lies within it
pub spanned-within : (a b : Bounds) (empty across down : Bool) → empty ≡ is_empty a → across ≡ (int_le b.left a.left && int_le a.right b.right) → down ≡ (int_le b.top a.top && int_le a.bottom b.bottom) → (empty || (across && down)) ≡ true → IsWithinBounds a b
spanned-within a b true across down e f g h = empty-within a b (sym e)
spanned-within a b false across down e f g h =
    let both = and_parts across down h in
    let x = and_parts (int_le b.left a.left) (int_le a.right b.right) (sym f ∙ both.0) in
    let y = and_parts (int_le b.top a.top) (int_le a.bottom b.bottom) (sym g ∙ both.1) in
    within-by a b (λ u v t. holds-grows a.left a.top a.right a.bottom b.left b.top b.right b.bottom u v a.edges.across a.edges.down (le-known b.left a.left x.0) (le-known b.top a.top y.0) (le-known a.right b.right x.1) (le-known a.bottom b.bottom y.1) t)

-- ---- two apart

pub apart-by : (a b : Bounds) (across down : Bool) → across ≡ (int_lt a.left b.right && int_lt b.left a.right) → down ≡ (int_lt a.top b.bottom && int_lt b.top a.bottom) → (across && down) ≡ false → LieApart a b
apart-by a b across down f g h = record {
  none = λ out x y q t. false_from_ne_true (holds_on_page (carry out) b x y) (λ s.
      let u : ℤ = (pulled out x y).u in
      let v : ℤ = (pulled out x y).v in
      let o : Overlap a.left a.top a.right a.bottom b.left b.top b.right b.bottom = common-overlap a.left a.top a.right a.bottom b.left b.top b.right b.bottom u v a.edges b.edges (sym (on-page out a x y) ∙ t) (sym (on-page out b x y) ∙ s) in
      true≢false (sym (and_from across down (f ∙ o.across) (g ∙ o.down)) ∙ h));
}

-- ---- the box of two boxes, and of two points

pub edges-same : (l t r b l' t' r' b' : ℤ) → l ≡ l' → t ≡ t' → r ≡ r' → b ≡ b' → AreEdges l' t' r' b' → AreEdges l t r b
edges-same l t r b l' t' r' b' e f g h k =
    let P : ℤ → Type 0 = λ z. AreEdges z t' r' b' in
    let Q : ℤ → Type 0 = λ z. AreEdges l z r' b' in
    let R : ℤ → Type 0 = λ z. AreEdges l t z b' in
    let S : ℤ → Type 0 = λ z. AreEdges l t r z in
    subst S (sym h) (subst R (sym g) (subst Q (sym f) (subst P (sym e) k)))

-- the bounds have these edges
pub record HasEdges (l t r b : ℤ) (bounds : Bounds) : Type 0 where
  pub left : bounds.left ≡ l
  pub top : bounds.top ≡ t
  pub right : bounds.right ≡ r
  pub bottom : bounds.bottom ≡ b

holds-same : (l t r b : ℤ) (bounds : Bounds) (u v : ℤ) → HasEdges l t r b bounds → holds_at bounds u v ≡ holds l t r b u v
holds-same l t r b bounds u v e =
    ap (λ z. holds z bounds.top bounds.right bounds.bottom u v) e.left
    ∙ ap (λ z. holds l z bounds.right bounds.bottom u v) e.top
    ∙ ap (λ z. holds l t z bounds.bottom u v) e.right
    ∙ ap (λ z. holds l t r z u v) e.bottom

pub joined-has-first : (a o b : Bounds) → HasEdges (int_min a.left o.left) (int_min a.top o.top) (int_max a.right o.right) (int_max a.bottom o.bottom) b → IsWithinBounds a b
joined-has-first a o b e = within-by a b (λ u v h.
    holds-same (int_min a.left o.left) (int_min a.top o.top) (int_max a.right o.right) (int_max a.bottom o.bottom) b u v e
    ∙ joined-first a.left a.top a.right a.bottom o.left o.top o.right o.bottom u v a.edges h)

pub joined-has-second : (a o b : Bounds) → HasEdges (int_min a.left o.left) (int_min a.top o.top) (int_max a.right o.right) (int_max a.bottom o.bottom) b → IsWithinBounds o b
joined-has-second a o b e = within-by o b (λ u v h.
    holds-same (int_min a.left o.left) (int_min a.top o.top) (int_max a.right o.right) (int_max a.bottom o.bottom) b u v e
    ∙ joined-second a.left a.top a.right a.bottom o.left o.top o.right o.bottom u v o.edges h)

pub between-has : (p q : Point) (b : Bounds) → HasEdges (int_min p.x q.x) (int_min p.y q.y) (int_max p.x q.x) (int_max p.y q.y) b → HoldsBetween p q b
between-has p q b e = record {
  holds = λ x y h. holds-same (int_min p.x q.x) (int_min p.y q.y) (int_max p.x q.x) (int_max p.y q.y) b x y e ∙ ends-hold p.x p.y q.x q.y x y h;
}

-- what a pose carries to the page is held there
pub between-on-page : (out : Pose) (p q : Point) (b : Bounds) (x y : ℤ) → HoldsBetween p q b → is_in (box_between (carry out p) (carry out q)) x y ≡ true → holds_on_page (carry out) b x y ≡ true
between-on-page out p q b x y h t = on-page out b x y ∙ h.holds (pulled out x y).u (pulled out x y).v (sym ((pulled out x y).same p q) ∙ t)

-- ---- carried bounds

-- bounds that are not the whole plane, by their carried corners
pub corners-carried : (pose : Pose) (c b : Bounds) (p q s t : Point) → is_whole c ≡ false → s ≡ left_top c → t ≡ right_bottom c → p ≡ carry pose s → q ≡ carry pose t → HoldsBetween p q b → IsCarriedWithin pose c b
corners-carried pose c b p q s t w es et ep eq h =
    let P : Point → Type 0 = λ z. HoldsBetween z q b in
    let Q : Point → Type 0 = λ z. HoldsBetween (carry pose (left_top c)) z b in
    let k : HoldsBetween (carry pose (left_top c)) (carry pose (right_bottom c)) b = subst Q (eq ∙ ap (carry pose) et) (subst P (ep ∙ ap (carry pose) es) h) in
    record {
      holds = λ out x y quarter g.
          between-on-page out (carry pose (left_top c)) (carry pose (right_bottom c)) b x y k
          (ap (λ z. z || is_in (box_between (carry out (carry pose (left_top c))) (carry out (carry pose (right_bottom c)))) x y) (sym w) ∙ g);
    }

-- a kind's own bounds, carried
pub own-carried : (kind : Kind) (pose : Pose) (o b : Bounds) → pose.quarter ≤ 3 → HoldsAll kind o → IsCarriedWithin pose o b → HoldsOwn kind pose b
own-carried kind pose o b quarter h k = record {
  holds = λ out x y q t.
      let both : Composed pose out = compose pose out quarter q in
      let P : (Point → Point) → Type 0 = λ f. holds_of kind f x y ≡ true in
      let Q : (Point → Point) → Type 0 = λ f. holds_on_page f o x y ≡ true in
      k.holds out x y q (subst Q both.carries (h.holds both.pose x y both.quarter (subst P (sym both.carries) t)));
}

side-holds : (a b x : ℤ) → (int_le a x && int_lt x b) ≡ true → (int_le (int_min a b) x && int_lt x (int_max a b)) ≡ true
side-holds a b x h = grind (arith, ints)

-- the box between the corners of a box has its pixels
sides-hold : (clip : PageBox) (x y : ℤ) → is_in clip x y ≡ true → is_in (box_between (record { x = clip.left; y = clip.top }) (record { x = clip.right; y = clip.bottom })) x y ≡ true
sides-hold clip x y h =
    let both = and_parts (int_le clip.left x && int_lt x clip.right) (int_le clip.top y && int_lt y clip.bottom) h in
    and_from (int_le (int_min clip.left clip.right) x && int_lt x (int_max clip.left clip.right)) (int_le (int_min clip.top clip.bottom) y && int_lt y (int_max clip.top clip.bottom)) (side-holds clip.left clip.right x both.0) (side-holds clip.top clip.bottom y both.1)

-- a box of the page, carried back
pub clip-held : (out back : Pose) (clip : PageBox) (b : Bounds) (p q s t : Point) → s ≡ record { x = clip.left; y = clip.top } → t ≡ record { x = clip.right; y = clip.bottom } → p ≡ carry back s → q ≡ carry back t → ((r : Point) → carry out (carry back r) ≡ r) → HoldsBetween p q b → HoldsClip out clip b
clip-held out back clip b p q s t es et ep eq undone h = record {
  holds = λ x y g. between-on-page out p q b x y h
      (ap (λ z. is_in (box_between z (carry out q)) x y) (ap (carry out) ep ∙ undone s ∙ es)
      ∙ ap (λ z. is_in (box_between (record { x = clip.left; y = clip.top }) z) x y) (ap (carry out) eq ∙ undone t ∙ et)
      ∙ sides-hold clip x y g);
}

-- ---- kinds in their own planes

-- the bounds go from the origin to (w, h)
pub record IsSized (w h : ℕ) (b : Bounds) : Type 0 where
  pub first : left_top b ≡ record { x = pos 0; y = pos 0 }
  pub last : right_bottom b ≡ record { x = pos w; y = pos h }

box-held : (w h : ℕ) (b : Bounds) (f : Point → Point) (x y : ℤ) → IsSized w h b → is_in (box_of f w h) x y ≡ true → holds_on_page f b x y ≡ true
box-held w h b f x y s t = or_right (is_whole b) (is_in (box_between (f (left_top b)) (f (right_bottom b))) x y)
    (ap (λ p. is_in (box_between (f p) (f (right_bottom b))) x y) s.first ∙ ap (λ q. is_in (box_between (f (record { x = pos 0; y = pos 0 })) (f q)) x y) s.last ∙ t)

-- what holds at most its own box is held by the bounds of these sides
pub sized-held : (kind : Kind) (w h : ℕ) (b : Bounds) → ((out : Pose) (x y : ℤ) → out.quarter ≤ 3 → holds_of kind (carry out) x y ≡ true → is_in (box_of (carry out) w h) x y ≡ true) → IsSized w h b → HoldsAll kind b
sized-held kind w h b f s = record { holds = λ out x y q t. box-held w h b (carry out) x y s (f out x y q t) }

pub polygon-held : (kind : Kind) (points : List Point) (sides : PageBox) (p q : Point) (b : Bounds) → ((out : Pose) (x y : ℤ) → holds_of kind (carry out) x y ≡ is_in_polygon (map (carry out) points) x y) → sides ≡ bounds_of points → p ≡ record { x = sides.left; y = sides.top } → q ≡ record { x = sides.right; y = sides.bottom } → HoldsBetween p q b → HoldsAll kind b
polygon-held kind points sides p q b f es ep eq h =
    let P : Point → Type 0 = λ z. HoldsBetween z q b in
    let Q : Point → Type 0 = λ z. HoldsBetween (record { x = (bounds_of points).left; y = (bounds_of points).top }) z b in
    let first : p ≡ record { x = (bounds_of points).left; y = (bounds_of points).top } = ep ∙ ap (λ (s : PageBox). record { x = s.left; y = s.top }) es in
    let last : q ≡ record { x = (bounds_of points).right; y = (bounds_of points).bottom } = eq ∙ ap (λ (s : PageBox). record { x = s.right; y = s.bottom }) es in
    let k : HoldsBetween (record { x = (bounds_of points).left; y = (bounds_of points).top }) (record { x = (bounds_of points).right; y = (bounds_of points).bottom }) b = subst Q last (subst P first h) in
    record {
      holds = λ out x y quarter t. between-on-page out _ _ b x y k (polygon-between out points x y (sym (f out x y) ∙ t));
    }
