-- What is hidden behind the items in front of it.
use Rattle.std.proofs.Common.{◌≡◌, List, [], ◌∷◌, ◌++◌, Bool, true, false, ◌&&◌, ◌||◌, cond, Option, Some, None, ℤ, refl, sym, ap, ◌∙◌, reverse, All, subst, Result, OnOk}
use Rattle.std.proofs.lemmas.List.{reverse-append}
use Rattle.std.proofs.lemmas.List.Elements.{All-weaker}
use Rattle.canvas_plane.specs.declared.PageBox.{PageBox}
use Rattle.canvas_plane.specs.Page.{is_in}
use Rattle.canvas_shape.specs.declared.Colour.{Colour}
use Rattle.canvas_shape.specs.declared.Carried.{Carried}
use Rattle.canvas_shape.specs.declared.Carried.TheVariants.{Rect}
use Rattle.canvas_shape.specs.declared.parts.LeafBox.{LeafBox}
use Rattle.canvas_shape.specs.Leaves.{carried_holds, page_box_of}
use Rattle.canvas_record.specs.declared.records.Record.{Record}
use Rattle.canvas_record.specs.Picture.{first_answer, or_else}
use Rattle.canvas_scene.specs.declared.cells.Cells.{Cells}
use Rattle.canvas_paint.specs.declared.item.Item.{Item}
use Rattle.canvas_scene.specs.Cells.{is_covered}
use Rattle.canvas_scene.specs.Covers.{AreCellsHidden, first_fill, is_filled, IsHidden}
use Rattle.canvas_paint.specs.Items.{fill_at, item_holds, last_fill}
use Rattle.canvas_scene.specs.Nodes.{seen}
use Rattle.canvas_scene.proofs.Results.{on-ok}
use Rattle.canvas_scene.proofs.Seen.{frame-cases, last_fill-append, or_else-assoc, or_else-none, seen-or_else, swap-seen}

pub first_fill-append : (xs ys : List Item) (x y : ℤ) → first_fill (xs ++ ys) x y ≡ or_else (first_fill xs x y) (first_fill ys x y)
first_fill-append [] ys x y = refl
first_fill-append (i ∷ xs) ys x y =
    ap (or_else (fill_at i x y)) (first_fill-append xs ys x y)
    ∙ sym (or_else-assoc (fill_at i x y) (first_fill xs x y) (first_fill ys x y))

-- from front to back the first item wins, from back to front the last
pub last-is-first : (is : List Item) (x y : ℤ) → last_fill (reverse is) x y ≡ first_fill is x y
last-is-first [] x y = refl
last-is-first (i ∷ is) x y =
    ap (λ l. last_fill l x y) (reverse-append (i ∷ []) is) ∙ last_fill-append (reverse is) (i ∷ []) x y ∙ ap (or_else (fill_at i x y)) (last-is-first is x y)

-- ---- what is hidden

filled-stays : (a b : Option Colour) → is_filled a ≡ true → a ≡ or_else a b
filled-stays None b e = cc
filled-stays (Some c) b e = refl

filled-more : (a b : Option Colour) → is_filled a ≡ true → is_filled (or_else a b) ≡ true
filled-more None b e = cc
filled-more (Some c) b e = refl

hidden : (inside : Bool) (a o : Option Colour) → (inside ≡ true → is_filled a ≡ true) → a ≡ or_else a (seen inside o)
hidden true a o h = filled-stays a o (h refl)
hidden false a o h = or_else-none a

-- what is seen in a hidden box alone is not seen
pub hidden-box : (items : List Item) (box : PageBox) (o : Option Colour) (x y : ℤ) → IsHidden items box → first_fill items x y ≡ or_else (first_fill items x y) (seen (is_in box x y) o)
hidden-box items box o x y h = hidden (is_in box x y) (first_fill items x y) o (h x y)

-- what lies in a hidden box where it lies in its clip is not seen
pub hidden-part : (clip held : Bool) (a o : Option Colour) → (clip ≡ true → held ≡ true → is_filled a ≡ true) → a ≡ or_else a (seen clip (seen held o))
hidden-part true true a o h = filled-stays a o (h refl refl)
hidden-part true false a o h = or_else-none a
hidden-part false true a o h = or_else-none a
hidden-part false false a o h = or_else-none a

-- what both boxes hold is held by what they have in common
pub in-both : (common clip box : Bool) → common ≡ (clip && box) → clip ≡ true → box ≡ true → common ≡ true
in-both common true true e h g = e
in-both common true false e h g = cc
in-both common false box e h g = cc

pub swapped : (a b : Bool) → (a && b) ≡ (b && a)
swapped true true = refl
swapped true false = refl
swapped false true = refl
swapped false false = refl

cut-twice : (held box clip : Bool) (o : Option Colour) → (held ≡ true → box ≡ true) → seen (box && clip) (seen held o) ≡ seen clip (seen held o)
cut-twice true true clip o h = refl
cut-twice true false clip o h = let z : false ≡ true = h refl in cc
cut-twice false true true o h = refl
cut-twice false true false o h = refl
cut-twice false false true o h = refl
cut-twice false false false o h = refl

-- what a leaf or a frame answers is seen through its clip where its box and its clip have a box in common
pub cut-by-box : (held : ℤ → ℤ → Bool) (box clip common : PageBox) (answer o : Option Colour) (x y : ℤ) → ((x y : ℤ) → held x y ≡ true → is_in box x y ≡ true) → ((x y : ℤ) → is_in common x y ≡ (is_in box x y && is_in clip x y)) → answer ≡ seen (held x y) o → seen (is_in common x y) answer ≡ seen (is_in clip x y) answer
cut-by-box held box clip common answer o x y has m e =
    ap (seen (is_in common x y)) e
    ∙ ap (λ b. seen b (seen (held x y) o)) (m x y)
    ∙ cut-twice (held x y) (is_in box x y) (is_in clip x y) o (has x y)
    ∙ ap (seen (is_in clip x y)) (sym e)

hidden-more : (items more : List Item) (box : PageBox) → IsHidden items box → IsHidden (items ++ more) box
hidden-more items more box h = λ x y e.
    ap is_filled (first_fill-append items more x y) ∙ filled-more (first_fill items x y) (first_fill more x y) (h x y e)

-- more items hide no less
pub all-hidden-more : (covers : List PageBox) (items more : List Item) → All (IsHidden items) covers → All (IsHidden (items ++ more)) covers
all-hidden-more covers items more h = All-weaker (IsHidden items) (IsHidden (items ++ more)) (λ box. hidden-more items more box) covers h

filled-after : (a b : Option Colour) → is_filled b ≡ true → is_filled (or_else a b) ≡ true
filled-after None b e = e
filled-after (Some c) b e = refl

filled-by : (held : Bool) (c : Colour) → held ≡ true → is_filled (or_else (cond held (Some c) None) None) ≡ true
filled-by true c e = refl
filled-by false c e = cc

-- an item hides a box of which it holds all
pub hidden-by : (items : List Item) (i : Item) (box : PageBox) → ((x y : ℤ) → is_in box x y ≡ true → item_holds i x y ≡ true) → IsHidden (items ++ i ∷ []) box
hidden-by items i box h = λ x y e.
    ap is_filled (first_fill-append items (i ∷ []) x y)
    ∙ filled-after (first_fill items x y) (first_fill (i ∷ []) x y) (filled-by (item_holds i x y) i.fill (h x y e))

-- one item more hides what was hidden
pub still-hidden : (covers : List PageBox) (items news : List Item) (i : Item) → news ≡ items ++ i ∷ [] → All (IsHidden items) covers → All (IsHidden news) covers
still-hidden covers items news i e h =
    let P : List Item → Type 0 = λ l. All (IsHidden l) covers in
    subst P (sym e) (all-hidden-more covers items (i ∷ []) h)

-- and the box of which it holds all
pub newly-hidden : (items news : List Item) (i : Item) (part : PageBox) → news ≡ items ++ i ∷ [] → ((x y : ℤ) → is_in part x y ≡ true → item_holds i x y ≡ true) → IsHidden news part
newly-hidden items news i part e held =
    let P : List Item → Type 0 = λ l. IsHidden l part in
    subst P (sym e) (hidden-by items i part held)

-- the same of cells that were hidden
pub cells-still-hidden : (cells : Cells) (items news : List Item) (i : Item) → news ≡ items ++ i ∷ [] → AreCellsHidden items cells → AreCellsHidden news cells
cells-still-hidden cells items news i e h = λ x y m.
    ap (λ l. is_filled (first_fill l x y)) e
    ∙ ap is_filled (first_fill-append items (i ∷ []) x y) ∙ filled-more (first_fill items x y) (first_fill (i ∷ []) x y) (h x y m)

either-filled : (cell box filled : Bool) → (cell || box) ≡ true → (cell ≡ true → filled ≡ true) → (box ≡ true → filled ≡ true) → filled ≡ true
either-filled true box filled h f g = f refl
either-filled false box filled h f g = g h

-- and of those that lie in the box of which it holds all
pub more-cells-hidden : (cells after : Cells) (items news : List Item) (i : Item) (part : PageBox) → news ≡ items ++ i ∷ [] → ((x y : ℤ) → is_covered after x y ≡ true → (is_covered cells x y || is_in part x y) ≡ true) → ((x y : ℤ) → is_in part x y ≡ true → item_holds i x y ≡ true) → AreCellsHidden items cells → AreCellsHidden news after
more-cells-hidden cells after items news i part e marks held h = λ x y m.
    let P : List Item → Type 0 = λ l. IsHidden l part in
    either-filled (is_covered cells x y) (is_in part x y) (is_filled (first_fill news x y)) (marks x y m)
    (cells-still-hidden cells items news i e h x y)
    (subst P (sym e) (hidden-by items i part held) x y)

-- a rectangle holds all that its box and its clip have in common
pub rectangle-holds : (leaf : Carried) (sides : LeafBox) (box clip common : PageBox) (fill : Colour) → leaf ≡ Rect sides → box ≡ page_box_of leaf → ((x y : ℤ) → is_in common x y ≡ (is_in box x y && is_in clip x y)) → (x y : ℤ) → is_in common x y ≡ true → item_holds (record { leaf = leaf; clip = clip; fill = fill }) x y ≡ true
rectangle-holds leaf sides box clip common fill e f m x y h =
    ap (λ b. b && is_in clip x y) (ap (λ l. carried_holds l x y) e ∙ ap (λ l. is_in (page_box_of l) x y) (sym e) ∙ ap (λ b. is_in b x y) (sym f))
    ∙ sym (m x y) ∙ h

-- ---- what is added behind

-- one item more
pub added-item : (items : List Item) (i : Item) (held clip : Bool) (x y : ℤ) → item_holds i x y ≡ (held && clip) → first_fill (items ++ i ∷ []) x y ≡ or_else (first_fill items x y) (seen clip (seen held (Some i.fill)))
added-item items i held clip x y e =
    first_fill-append items (i ∷ []) x y
    ∙ ap (or_else (first_fill items x y)) (sym (or_else-none (fill_at i x y)) ∙ ap (λ b. cond b (Some i.fill) None) e ∙ swap-seen held clip (Some i.fill))

-- one child more
pub added-child : (clip : Bool) (start old new whole : Option Colour) (f : Record → Option Colour) (child : Record) (kids rest : List Record) → new ≡ or_else old (seen clip (f child)) → kids ≡ child ∷ rest → or_else old (seen clip (first_answer f kids)) ≡ or_else start (seen clip whole) → or_else new (seen clip (first_answer f rest)) ≡ or_else start (seen clip whole)
added-child clip start old new whole f child kids rest en ek e =
    ap (λ o. or_else o (seen clip (first_answer f rest))) en
    ∙ or_else-assoc old (seen clip (f child)) (seen clip (first_answer f rest))
    ∙ ap (or_else old) (seen-or_else clip (f child) (first_answer f rest))
    ∙ ap (λ l. or_else old (seen clip (first_answer f l))) (sym ek) ∙ e

-- a frame's own fill behind its children, cut by its box
pub added-frame : (old mid new fill inner : Option Colour) (clip box common : Bool) → common ≡ (clip && box) → mid ≡ or_else old (seen common inner) → new ≡ or_else mid (seen clip (seen box fill)) → new ≡ or_else old (seen clip (cond box (or_else inner fill) None))
added-frame old mid new fill inner clip box common ec em en =
    en ∙ ap (λ o. or_else o (seen clip (seen box fill))) (em ∙ ap (λ b. or_else old (seen b inner)) ec)
    ∙ or_else-assoc old (seen (clip && box) inner) (seen clip (seen box fill))
    ∙ ap (or_else old) (frame-cases clip box inner fill)

-- nothing is hidden where no cell is marked
pub none-marked : (items : List Item) (cells : Cells) → ((x y : ℤ) → is_covered cells x y ≡ false) → AreCellsHidden items cells
none-marked items cells none = λ x y h. let z : false ≡ true = sym (none x y) ∙ h in cc

-- what a leaf's item shows is what its kind does, where a call added it
pub leaf-filled : {A E : Type 0} (result : Result A E) (old new : List Item) (clip : PageBox) (item kind : ℤ → ℤ → Option Colour) → ((x y : ℤ) → item x y ≡ kind x y) → OnOk result ((x y : ℤ) → first_fill new x y ≡ or_else (first_fill old x y) (seen (is_in clip x y) (item x y))) → OnOk result ((x y : ℤ) → first_fill new x y ≡ or_else (first_fill old x y) (seen (is_in clip x y) (kind x y)))
leaf-filled result old new clip item kind same h = on-ok result (λ g. λ x y. g x y ∙ ap (λ o. or_else (first_fill old x y) (seen (is_in clip x y) o)) (same x y)) h
