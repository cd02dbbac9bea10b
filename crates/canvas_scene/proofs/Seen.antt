-- The last item of a tree against the first answer of a walk.
use Rattle.std.proofs.Common.{◌≡◌, List, [], ◌∷◌, ◌++◌, Bool, true, false, ◌&&◌, cond, Option, Some, None, ℤ, refl, sym, ap, ◌∙◌, reverse, append-nil, append_assoc}
use Rattle.std.proofs.lemmas.List.{reverse-append}
use Rattle.canvas_shape.specs.declared.Colour.{Colour}
use Rattle.canvas_record.specs.Picture.{or_else}
use Rattle.canvas_paint.specs.declared.item.Item.{Item}
use Rattle.canvas_paint.specs.Items.{fill_at, last_fill}
use Rattle.canvas_scene.specs.declared.nodes.Node.{Node}
use Rattle.canvas_scene.specs.Nodes.{back_item, items_along, items_of, seen}

pub or_else-none : (o : Option Colour) → o ≡ or_else o None
or_else-none None = refl
or_else-none (Some c) = refl

pub or_else-assoc : (a b c : Option Colour) → or_else (or_else a b) c ≡ or_else a (or_else b c)
or_else-assoc None b c = refl
or_else-assoc (Some x) b c = refl

pub last_fill-append : (xs ys : List Item) (x y : ℤ) → last_fill (xs ++ ys) x y ≡ or_else (last_fill ys x y) (last_fill xs x y)
last_fill-append [] ys x y = or_else-none (last_fill ys x y)
last_fill-append (i ∷ xs) ys x y =
    ap (λ o. or_else o (fill_at i x y)) (last_fill-append xs ys x y)
    ∙ or_else-assoc (last_fill ys x y) (last_fill xs x y) (fill_at i x y)

pub seen-or_else : (b : Bool) (o p : Option Colour) → or_else (seen b o) (seen b p) ≡ seen b (or_else o p)
seen-or_else true o p = refl
seen-or_else false o p = refl

pub seen-none : (b : Bool) → None ≡ seen b None
seen-none true = refl
seen-none false = refl

-- what is the same within the clip is seen through it as the same
pub seen-same : (b : Bool) (o p : Option Colour) → (b ≡ true → o ≡ p) → seen b o ≡ seen b p
seen-same true o p h = h refl
seen-same false o p h = refl

-- ---- leaves

pub swap-seen : (held clip : Bool) (o : Option Colour) → cond (held && clip) o None ≡ seen clip (seen held o)
swap-seen true true o = refl
swap-seen true false o = refl
swap-seen false true o = refl
swap-seen false false o = refl

-- ---- frames

pub frame-cases : (c b : Bool) (inner fill : Option Colour) → or_else (seen (c && b) inner) (seen c (seen b fill)) ≡ seen c (cond b (or_else inner fill) None)
frame-cases true true inner fill = refl
frame-cases true false inner fill = refl
frame-cases false true inner fill = refl
frame-cases false false inner fill = refl

-- ---- the list of items, from front to back

pub list-none : (old items : List Item) → items ≡ [] → old ≡ old ++ reverse items
list-none old items e = sym (append-nil old) ∙ ap (λ l. old ++ reverse l) (sym e)

-- once a node is added, its items stand before those of the nodes in front of it
pub one-more : (nodes news : List Node) (node : Node) → news ≡ nodes ++ node ∷ [] → items_along (reverse news) ≡ items_of node ++ items_along (reverse nodes)
one-more nodes news node e = ap (λ l. items_along (reverse l)) e ∙ ap items_along (reverse-append nodes (node ∷ []))

-- more items were shown, from front to back
pub shown-more : (start shown news added along after : List Item) → shown ≡ start ++ reverse along → after ≡ added ++ along → news ≡ shown ++ reverse added → news ≡ start ++ reverse after
shown-more start shown news added along after h a e =
    e ∙ ap (λ l. l ++ reverse added) h ∙ append_assoc start (reverse along) (reverse added)
    ∙ ap (λ l. start ++ l) (sym (ap reverse a ∙ reverse-append added along))

back-reversed : (back : Option Item) → back_item back ≡ reverse (back_item back)
back-reversed None = refl
back-reversed (Some i) = refl

-- a frame's children were shown, and then its own item
pub frame-shown : (start shown mid news kids along after : List Item) (back : Option Item) → shown ≡ start ++ reverse along → mid ≡ shown ++ reverse kids → news ≡ mid ++ back_item back → after ≡ (back_item back ++ kids) ++ along → news ≡ start ++ reverse after
frame-shown start shown mid news kids along after back h m e a =
    shown-more start shown news (back_item back ++ kids) along after h a
    (e ∙ ap (λ l. l ++ back_item back) m ∙ append_assoc shown (reverse kids) (back_item back)
    ∙ ap (λ l. shown ++ (reverse kids ++ l)) (back-reversed back) ∙ ap (λ l. shown ++ l) (sym (reverse-append (back_item back) kids)))
