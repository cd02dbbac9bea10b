-- The clips of branches.
use Rattle.std.proofs.Common.{◌≡◌, List, [], ◌∷◌, ◌++◌, Bool, true, false, ◌&&◌, ◌||◌, cond, Option, Some, None, ℤ, map, refl, sym, ap, ◌∙◌, reverse, All, IfSome, subst}
use Rattle.std.proofs.lemmas.List.{reverse-append}
use Rattle.std.proofs.lemmas.List.Elements.{All-head, All-push, All-tail}
use Rattle.canvas_plane.specs.declared.PageBox.{PageBox}
use Rattle.canvas_plane.specs.Page.{is_in}
use Rattle.canvas_shape.specs.Leaves.{carried_holds}
use Rattle.canvas_paint.specs.declared.item.Item.{Item}
use Rattle.canvas_scene.specs.declared.nodes.Node.{Node}
use Rattle.canvas_scene.specs.Clips.{all_keep, AtPixel, at_pixel, back_holds, branch_at, IsClipped, leaf_at, some_holds}

either : (p q c : Bool) → (p ≡ true → c ≡ true) → (q ≡ true → c ≡ true) → (p || q) ≡ true → c ≡ true
either true q c f g h = f refl
either false q c f g h = g h

both : (p q : Bool) → p ≡ true → q ≡ true → (p && q) ≡ true
both true q e f = f
both false q e f = cc

second : (p q : Bool) → (p && q) ≡ true → q ≡ true
second true q h = h
second false true h = refl
second false false h = h

where-held : (held inside : Bool) → (held ≡ true → inside ≡ true) → cond held inside true ≡ true
where-held true inside h = h refl
where-held false inside h = refl

-- what some node holds lies within the clip of all
pub some-within : (clip : PageBox) (nodes : List Node) (x y : ℤ) → All (IsClipped clip) nodes → some_holds (map (at_pixel x y) nodes) ≡ true → is_in clip x y ≡ true
some-within clip [] x y h e = cc
some-within clip (n ∷ ns) x y h e =
    either (at_pixel x y n).holds (some_holds (map (at_pixel x y) ns)) (is_in clip x y) (All-head (IsClipped clip) n ns h x y).0 (some-within clip ns x y (All-tail (IsClipped clip) n ns h)) e

pub all-kept : (clip : PageBox) (nodes : List Node) (x y : ℤ) → All (IsClipped clip) nodes → all_keep (map (at_pixel x y) nodes) ≡ true
all-kept clip [] x y h = refl
all-kept clip (n ∷ ns) x y h =
    both (at_pixel x y n).keeps (all_keep (map (at_pixel x y) ns)) (All-head (IsClipped clip) n ns h x y).1 (all-kept clip ns x y (All-tail (IsClipped clip) n ns h))

-- a leaf under its clip
pub leaf-clipped : (clip : PageBox) (node : Node) (i : Item) → ((x y : ℤ) → at_pixel x y node ≡ leaf_at x y i) → i.clip ≡ clip → IsClipped clip node
leaf-clipped clip node i e c = λ x y. (
  λ h. ap (λ b. is_in b x y) (sym c) ∙ second (carried_holds i.leaf x y) (is_in i.clip x y) (ap (λ (a : AtPixel). a.holds) (sym (e x y)) ∙ h),
  ap (λ (a : AtPixel). a.keeps) (e x y),
)

back-within : (clip : PageBox) (back : Option Item) (x y : ℤ) → IfSome back (λ i. i.clip ≡ clip) → back_holds back x y ≡ true → is_in clip x y ≡ true
back-within clip None x y c h = cc
back-within clip (Some i) x y c h = ap (λ b. is_in b x y) (sym c) ∙ second (carried_holds i.leaf x y) (is_in i.clip x y) h

-- a branch whose children keep to its clip, which lies within another
pub branch-clipped : (outer clip : PageBox) (back : Option Item) (nodes : List Node) (node : Node) → ((x y : ℤ) → at_pixel x y node ≡ branch_at x y clip back (map (at_pixel x y) nodes)) → ((x y : ℤ) → is_in clip x y ≡ true → is_in outer x y ≡ true) → IfSome back (λ i. i.clip ≡ outer) → All (IsClipped clip) nodes → IsClipped outer node
branch-clipped outer clip back nodes node e w b h = λ x y. (
  λ held. either (back_holds back x y) (some_holds (map (at_pixel x y) nodes)) (is_in outer x y) (back-within outer back x y b) (λ s. w x y (some-within clip nodes x y h s)) (ap (λ (a : AtPixel). a.holds) (sym (e x y)) ∙ held),
  ap (λ (a : AtPixel). a.keeps) (e x y)
      ∙ both (cond (some_holds (map (at_pixel x y) nodes)) (is_in clip x y) true) (all_keep (map (at_pixel x y) nodes)) (where-held (some_holds (map (at_pixel x y) nodes)) (is_in clip x y) (some-within clip nodes x y h)) (all-kept clip nodes x y h),
)

first-of : (p q : Bool) → (p && q) ≡ true → p ≡ true
first-of true q h = refl
first-of false q h = h

-- what two boxes have in common lies within the first
pub meet-within : (clip box common : PageBox) → ((x y : ℤ) → is_in common x y ≡ (is_in clip x y && is_in box x y)) → (x y : ℤ) → is_in common x y ≡ true → is_in clip x y ≡ true
meet-within clip box common m x y h = first-of (is_in clip x y) (is_in box x y) (sym (m x y) ∙ h)

-- ---- lists of nodes

-- the order of nodes says nothing of their clips
pub all-reversed : (P : Node → Type 0) (nodes : List Node) → All P nodes → All P (reverse nodes)
all-reversed P [] h = h
all-reversed P (n ∷ ns) h =
    let Q : List Node → Type 0 = λ l. All P l in
    subst Q (sym (reverse-append (n ∷ []) ns)) (All-push P (reverse ns) n (all-reversed P ns (All-tail P n ns h)) (All-head P n ns h))

-- one node more
pub all-more : (P : Node → Type 0) (nodes news : List Node) (node : Node) → news ≡ nodes ++ node ∷ [] → All P nodes → P node → All P news
all-more P nodes news n e h k =
    let Q : List Node → Type 0 = λ l. All P l in
    subst Q (sym e) (All-push P nodes n h k)
