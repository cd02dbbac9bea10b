-- The nodes of a tree against the document's records.
use Rattle.std.proofs.Common.{◌≡◌, ℕ, List, [], ◌∷◌, ◌++◌, Bool, true, false, ◌&&◌, ◌||◌, Option, Some, None, ℤ, map, refl, sym, ap, ◌∙◌, reverse, IfSome, append_assoc, append-nil, arith, Result, Ok, Err, OnOk, inl, inr}
use Rattle.std.specs.Prelude.{not}
use Rattle.std.specs.Ordering.{int_eq}
use Rattle.std.proofs.lemmas.Int.{ints}
use Rattle.std.proofs.lemmas.Slice.Eq.{bytes_eq-Decides}
use Rattle.std.proofs.lemmas.List.{map-append, reverse-append, reverse-reverse}
use mathlib.Core.Path.{fun_ext}
use Rattle.canvas_plane.specs.declared.PageBox.{PageBox}
use Rattle.canvas_plane.specs.declared.Point.{Point}
use Rattle.canvas_plane.specs.declared.Pose.{Pose}
use Rattle.canvas_plane.specs.Motion.{carry}
use Rattle.canvas_shape.specs.declared.Colour.{Colour}
use Rattle.canvas_shape.specs.declared.Kind.TheVariants.{Frame}
use Rattle.canvas_record.specs.declared.records.Parent.{Parent}
use Rattle.canvas_record.specs.declared.records.Parent.TheVariants.{Shape}
use Rattle.canvas_record.specs.declared.records.Record.{Record}
use Rattle.canvas_record.specs.Children.{IsPartOf, children}
use Rattle.canvas_record.specs.Contents.{is_container}
use Rattle.canvas_paint.specs.declared.item.Item.{Item}
use Rattle.canvas_scene.specs.declared.nodes.Node.{Node}
use Rattle.canvas_scene.specs.Trees.{are_in_order, AreNodesOf, clip_of, fill_of, is_back_of, is_branch_of, is_filled_by, is_leaf_of, is_node_of, is_same_box, IsOneMore, Test}

both : (p q : Bool) → p ≡ true → q ≡ true → (p && q) ≡ true
both true q e f = f
both false q e f = cc

first-holds : (p q : Bool) → p ≡ true → (p || q) ≡ true
first-holds true q e = refl
first-holds false q e = cc

second-holds : (p q : Bool) → q ≡ true → (p || q) ≡ true
second-holds true q e = refl
second-holds false q e = e

or-more : (p b d c e : Bool) → (b ≡ true → d ≡ true) → (c ≡ true → e ≡ true) → ((p && b) || c) ≡ true → ((p && d) || e) ≡ true
or-more p b d true e f g h = second-holds (p && d) e (g refl)
or-more true true d false e f g h = first-holds d e (f refl)
or-more true false d false e f g h = cc
or-more false b d false e f g h = cc

none-not : (p : Bool) → p ≡ false → not p ≡ true
none-not true e = cc
none-not false e = refl

same-edge : (a : ℤ) → int_eq a a ≡ true
same-edge a = grind (arith, ints)

same : (b : PageBox) → is_same_box b b ≡ true
same b = both (int_eq b.left b.left && int_eq b.top b.top) (int_eq b.right b.right && int_eq b.bottom b.bottom)
    (both (int_eq b.left b.left) (int_eq b.top b.top) (same-edge b.left) (same-edge b.top))
    (both (int_eq b.right b.right) (int_eq b.bottom b.bottom) (same-edge b.right) (same-edge b.bottom))

same-box : (a b : PageBox) → a ≡ b → is_same_box a b ≡ true
same-box a b e = ap (λ c. is_same_box c b) e ∙ same b

same-fill : (c : Colour) (fill : Option Colour) → fill ≡ Some c → is_filled_by c fill ≡ true
same-fill c fill e = ap (is_filled_by c) e ∙ (bytes_eq-Decides c.0 c.0).1 refl

-- ---- the order of nodes

-- no node is left to place
pub none-in_order : (out : Point → Point) (clip : PageBox) (rs : List Record) → are_in_order out clip [] rs ≡ true
none-in_order out clip rs = refl

-- a record is left out
pub left-out : (out : Point → Point) (clip : PageBox) (ns : List Test) (r : Record) (rs : List Record) → are_in_order out clip ns rs ≡ true → are_in_order out clip ns (r ∷ rs) ≡ true
left-out out clip [] r rs h = refl
left-out out clip (n ∷ ns) r rs h = second-holds ((not r.hidden && n r (λ q. out (carry r.pose q)) clip) && are_in_order out clip ns rs) (are_in_order out clip (n ∷ ns) rs) h

-- a record has its node
taken : (out : Point → Point) (clip : PageBox) (n : Test) (ns : List Test) (r : Record) (rs : List Record) → r.hidden ≡ false → n r (λ q. out (carry r.pose q)) clip ≡ true → are_in_order out clip ns rs ≡ true → are_in_order out clip (n ∷ ns) (r ∷ rs) ≡ true
taken out clip n ns r rs s h g =
    first-holds ((not r.hidden && n r (λ q. out (carry r.pose q)) clip) && are_in_order out clip ns rs) (are_in_order out clip (n ∷ ns) rs)
    (both (not r.hidden && n r (λ q. out (carry r.pose q)) clip) (are_in_order out clip ns rs) (both (not r.hidden) (n r (λ q. out (carry r.pose q)) clip) (none-not r.hidden s) h) g)

-- the nodes so far, and whichever are those of the records left, are those of all
abbrev pub AreSoFar : List Record → (Point → Point) → PageBox → List Record → List Record → List Node → Type 0
AreSoFar rs out clip all left nodes = (more : List Test) → are_in_order out clip more left ≡ true → are_in_order out clip (map (is_node_of rs) nodes ++ more) all ≡ true

-- the first record of the part is that of the whole
among-taken : (out : Point → Point) (clip : PageBox) (n : Test) (ns : List Test) (r s : Record) (part whole : List Record) → r ≡ s → (are_in_order out clip ns part ≡ true → are_in_order out clip ns whole ≡ true) → (are_in_order out clip (n ∷ ns) part ≡ true → are_in_order out clip (n ∷ ns) whole ≡ true) → are_in_order out clip (n ∷ ns) (r ∷ part) ≡ true → are_in_order out clip (n ∷ ns) (s ∷ whole) ≡ true
among-taken out clip n ns r s part whole e rest later h =
    ap (λ t. are_in_order out clip (n ∷ ns) (t ∷ whole)) (sym e)
    ∙ or-more (not r.hidden && n r (λ q. out (carry r.pose q)) clip) (are_in_order out clip ns part) (are_in_order out clip ns whole) (are_in_order out clip (n ∷ ns) part) (are_in_order out clip (n ∷ ns) whole) rest later h

-- the nodes of some of the records are those of all, more left out
pub among-part : (out : Point → Point) (clip : PageBox) (ns : List Test) (part whole : List Record) → IsPartOf part whole → are_in_order out clip ns part ≡ true → are_in_order out clip ns whole ≡ true
among-part out clip [] part whole p h = refl
among-part out clip (n ∷ ns) [] whole p h = cc
among-part out clip (n ∷ ns) (r ∷ part) [] p h = absurd p
among-part out clip (n ∷ ns) (r ∷ part) (s ∷ whole) p h = elim p [
  | inl w ↦ among-taken out clip n ns r s part whole w.0 (among-part out clip ns part whole w.1) (among-part out clip (n ∷ ns) part whole w.1) h
  | inr w ↦ left-out out clip (n ∷ ns) s whole (among-part out clip (n ∷ ns) (r ∷ part) whole w h)
]

pub so-far-none : (rs : List Record) (out : Point → Point) (clip : PageBox) (all part left : List Record) (nodes : List Node) → nodes ≡ [] → left ≡ part → IsPartOf part all → AreSoFar rs out clip all left nodes
so-far-none rs out clip all part left nodes e f p = λ more h.
    ap (λ l. are_in_order out clip (map (is_node_of rs) l ++ more) all) e ∙ among-part out clip more part all p (ap (are_in_order out clip more) (sym f) ∙ h)

pub so-far-left_out : (rs : List Record) (out : Point → Point) (clip : PageBox) (all left rest : List Record) (r : Record) (nodes : List Node) → left ≡ r ∷ rest → AreSoFar rs out clip all left nodes → AreSoFar rs out clip all rest nodes
so-far-left_out rs out clip all left rest r nodes e f = λ more h.
    f more (ap (are_in_order out clip more) e ∙ left-out out clip more r rest h)

pub so-far-more : (rs : List Record) (out : Point → Point) (clip : PageBox) (all left rest : List Record) (r : Record) (page : Pose) (nodes news : List Node) → ((q : Point) → carry page q ≡ out (carry r.pose q)) → r.hidden ≡ false → left ≡ r ∷ rest → IsOneMore (λ node. is_node_of rs node r (carry page) clip ≡ true) nodes news → AreSoFar rs out clip all left nodes → AreSoFar rs out clip all rest news
so-far-more rs out clip all left rest r page nodes news carries shown e one f = λ more h.
    let n : Test = is_node_of rs one.node in
    ap (λ l. are_in_order out clip (map (is_node_of rs) l ++ more) all) one.is
    ∙ ap (λ l. are_in_order out clip (l ++ more) all) (map-append (is_node_of rs) nodes (one.node ∷ []))
    ∙ ap (λ l. are_in_order out clip l all) (append_assoc (map (is_node_of rs) nodes) (n ∷ []) more)
    ∙ f (n ∷ more) (ap (are_in_order out clip (n ∷ more)) e ∙ taken out clip n more r rest shown (ap (λ (g : Point → Point). n r g clip) (sym (fun_ext carries)) ∙ one.has) h)

map-reverse : {A B : Type 0} (f : A → B) (l : List A) → map f (reverse l) ≡ reverse (map f l)
map-reverse f [] = refl
map-reverse f (a ∷ l) =
    ap (map f) (reverse-append (a ∷ []) l)
    ∙ map-append f (reverse l) (a ∷ [])
    ∙ ap (λ k. k ++ f a ∷ []) (map-reverse f l)
    ∙ sym (reverse-append (f a ∷ []) (map f l))

-- all of them, from back to front
pub so-far-all : (rs : List Record) (parent : Parent) (out : Point → Point) (clip : PageBox) (left : List Record) (nodes news : List Node) → news ≡ reverse nodes → AreSoFar rs out clip (children parent rs) left nodes → AreNodesOf rs parent out clip news
so-far-all rs parent out clip left nodes news e f =
    let tests : List Test = map (is_node_of rs) nodes in
    let back : reverse (map (is_node_of rs) news) ≡ tests ++ [] = ap (λ l. reverse (map (is_node_of rs) l)) e ∙ ap reverse (map-reverse (is_node_of rs) nodes) ∙ reverse-reverse tests ∙ sym (append-nil tests) in
    ap (λ l. are_in_order out clip l (children parent rs)) back ∙ f [] refl

pub nodes-none : (rs : List Record) (parent : Parent) (out : Point → Point) (clip : PageBox) (nodes : List Node) → nodes ≡ [] → AreNodesOf rs parent out clip nodes
nodes-none rs parent out clip nodes e = ap (λ l. are_in_order out clip (reverse (map (is_node_of rs) l)) (children parent rs)) e

-- ---- the node of a record

-- a leaf's
one-leaf : (rs : List Record) (r : Record) (out : Point → Point) (clip : PageBox) (fill : Colour) (nodes news : List Node) → is_container r.kind ≡ false → fill_of r.kind ≡ Some fill → IsOneMore (λ node. (ss : List Record) → is_node_of ss node ≡ is_leaf_of clip fill) nodes news → IsOneMore (λ node. is_node_of rs node r out clip ≡ true) nodes news
one-leaf rs r out clip fill nodes news k f one = record {
  node = one.node;
  is = one.is;
  has = ap (λ (n : Test). n r out clip) (one.has rs)
      ∙ both (not (is_container r.kind) && is_same_box clip clip) (is_filled_by fill (fill_of r.kind))
      (both (not (is_container r.kind)) (is_same_box clip clip) (none-not (is_container r.kind) k) (same clip)) (same-fill fill (fill_of r.kind) f);
}

-- the same where a call gave it
pub leaf-added : {A E : Type 0} (result : Result A E) (rs : List Record) (r : Record) (out : Point → Point) (clip : PageBox) (fill : Colour) (nodes news : List Node) → is_container r.kind ≡ false → fill_of r.kind ≡ Some fill → OnOk result (IsOneMore (λ node. (ss : List Record) → is_node_of ss node ≡ is_leaf_of clip fill) nodes news) → OnOk result (IsOneMore (λ node. is_node_of rs node r out clip ≡ true) nodes news)
leaf-added (Ok v) rs r out clip fill nodes news k f one = one-leaf rs r out clip fill nodes news k f one
leaf-added (Err e) rs r out clip fill nodes news k f t = t

-- a group's or a frame's
pub is-branch : (rs : List Record) (r : Record) (page : Point → Point) (outer clip : PageBox) (back : Option Item) (nodes : List Node) (node : Node) → is_node_of rs node ≡ is_branch_of rs clip back (map (is_node_of rs) nodes) → is_container r.kind ≡ true → clip ≡ clip_of r.kind page outer → is_back_of back r.kind outer ≡ true → AreNodesOf rs (Shape r.id) page clip nodes → is_node_of rs node r page outer ≡ true
is-branch rs r page outer clip back nodes node e k c b h =
    ap (λ (n : Test). n r page outer) e
    ∙ both ((is_container r.kind && is_same_box clip (clip_of r.kind page outer)) && is_back_of back r.kind outer) (are_in_order page clip (reverse (map (is_node_of rs) nodes)) (children (Shape r.id) rs))
    (both (is_container r.kind && is_same_box clip (clip_of r.kind page outer)) (is_back_of back r.kind outer) (both (is_container r.kind) (is_same_box clip (clip_of r.kind page outer)) k (same-box clip (clip_of r.kind page outer) c)) b) h

-- a frame's own item
pub frame-back : (back : Option Item) (w h : ℕ) (fill : Option Colour) (outer : PageBox) → IfSome back (λ i. i.clip ≡ outer) → IfSome back (λ i. fill ≡ Some i.fill) → is_back_of back (Frame w h fill) outer ≡ true
frame-back None w h fill outer e f = refl
frame-back (Some i) w h fill outer e f = both (is_same_box i.clip outer) (is_filled_by i.fill fill) (same-box i.clip outer e) (same-fill i.fill fill f)
