-- Items cut to a window, and the words of their rows.
use Rattle.std.proofs.Common.{◌≡◌, ℕ, zero, suc, ◌+◌, ◌-◌, ◌*◌, ◌^◌, ◌<◌, ◌≤◌, max, min, List, [], ◌∷◌, ◌++◌, ℤ, Bool, true, false, ◌&&◌, cond, Option, Some, None, refl, sym, ap, ◌∙◌, arith, length, take, get_or, pos, ◌-ℤ◌, FitsSigned, w64, nat_le, nat_lt, ◌/◌, ◌%◌, slice_index, set, get_or-set_same, get_or-set_other, ◌≢◌, ⊎_elim}
use Rattle.std.specs.Prelude.{int_le, int_lt, unsigned_abs}
use Rattle.canvas_plane.specs.Sides.{scale_of}
use Rattle.canvas_plane.proofs.Levels.{along}
use Rattle.std.proofs.lemmas.List.{get_or-take, length-take, length-take-le, take_more}
use Rattle.std.proofs.lemmas.Bool.{cases_eq}
use Rattle.std.proofs.lemmas.Bool.Decides.{nat_tests}
use Rattle.std.proofs.Math.Nat.{div-le_of_le-mul, div-mul-le_self, le-div_iff_mul-le, mod-eq_of_lt, mul-le-mul_right}
use Rattle.std.proofs.lemmas.Int.{fits_signed_from_abs, ints, to_z-of_z}
use mir.Val.{of_z, to_z}
use Rattle.canvas_plane.specs.Page.{is_in}
use Rattle.canvas_plane.specs.declared.Point.{Point}
use Rattle.canvas_shape.specs.Spans.{is_from_to}
use Rattle.canvas_shape.specs.Ellipse.{is_in_ellipse}
use Rattle.canvas_shape.specs.Edges.{is_in_polygon}
use Rattle.canvas_shape.specs.Flags.{is_held}
use Rattle.canvas_shape.specs.declared.edge_flags.EdgeFlags.{EdgeFlags}
use Rattle.canvas_plane.specs.declared.PageBox.{PageBox}
use Rattle.canvas_plane.specs.declared.windows.Window.{Window}
use Rattle.canvas_shape.specs.declared.Colour.{Colour}
use Rattle.canvas_shape.specs.Leaves.{carried_holds, page_box_of}
use Rattle.canvas_record.specs.Picture.{or_else}
use Rattle.canvas_paint.specs.Items.{fill_at, item_holds, last_fill}
use Rattle.canvas_paint.specs.declared.item.Item.{Item}
use Rattle.canvas_paint.specs.declared.block.Block.{Block}
use Rattle.canvas_plane.specs.Window.{column_shown, row_shown}
use Rattle.canvas_paint.specs.Blocks.{block_fill, block_holds, form_holds, row_has}
use Rattle.canvas_shape.specs.Words.{has}
use Rattle.canvas_paint.specs.Words.{is_within, IsWord}
use Rattle.canvas_paint.proofs.Bits.{has-zero}

-- no column of the word lies between the two
pub part-none : (from to base i start end : ℕ) → start ≡ min (from - base) 64 → end ≡ min (to - base) 64 → end ≤ start → i < 64 → has 0 i ≡ is_within from (base + i) to
part-none from to base i start end s e le lt =
    let out : is_within from (base + i) to ≡ false = grind (arith, nat_tests) in
    has-zero i ∙ sym out

-- the difference of two rows of the page fits
pub fits-apart : (at from : ℤ) → FitsSigned w64 at → FitsSigned w64 from → unsigned_abs at ≤ 4294967296 → unsigned_abs from ≤ 2147483648 → FitsSigned w64 (to_z w64 (of_z w64 at) -ℤ to_z w64 (of_z w64 from))
fits-apart at from a f h k = simp to_z-of_z (fits_signed_from_abs w64 (at -ℤ from) (omega (arith, ints)))

-- the columns between the ends of an ellipse's row
pub ellipse-between : (w : Window) (sides : PageBox) (k j from to : ℕ) (y s t : ℤ) → nat_le from k ≡ int_le s (column_shown w k) → nat_lt k to ≡ int_lt (column_shown w k) t → ((z : ℤ) → is_from_to s z t ≡ is_in_ellipse sides z y) → y ≡ row_shown w j → is_within from k to ≡ is_in_ellipse sides (column_shown w k) (row_shown w j)
ellipse-between w sides k j from to y s t f g h ey =
    ap (λ u. u && nat_lt k to) f
    ∙ ap (λ u. int_le s (column_shown w k) && u) g
    ∙ h (column_shown w k) ∙ ap (is_in_ellipse sides (column_shown w k)) ey

four-words : (test : ℕ → Bool) (a b c d n i : ℕ) → n < 4 → i < 64 → IsWord a (λ i. test (0 + i)) → IsWord b (λ i. test (64 + i)) → IsWord c (λ i. test (128 + i)) → IsWord d (λ i. test (192 + i)) → has (slice_index (a ∷ b ∷ c ∷ d ∷ []) n) i ≡ test (64 * n + i)
four-words test a b c d zero i lt below p q r s = p i below
four-words test a b c d (suc zero) i lt below p q r s = q i below
four-words test a b c d (suc (suc zero)) i lt below p q r s = r i below
four-words test a b c d (suc (suc (suc zero))) i lt below p q r s = s i below
four-words test a b c d (suc (suc (suc (suc n)))) i lt below p q r s = absurd (omega arith)

-- four words that have the columns of a test
pub row-of-four : (test : ℕ → Bool) (a b c d k : ℕ) → k < 256 → IsWord a (λ i. test (0 + i)) → IsWord b (λ i. test (64 + i)) → IsWord c (λ i. test (128 + i)) → IsWord d (λ i. test (192 + i)) → row_has (a ∷ b ∷ c ∷ d ∷ []) k ≡ test k
row-of-four test a b c d k lt p q r s =
    let same : 64 * (k / 64) + k % 64 ≡ k = omega arith in
    four-words test a b c d (k / 64) (k % 64) (omega arith) (omega arith) p q r s ∙ ap test same

-- rows from `top` on that have the columns of a test, with one more of them put down
pub put-row : (test : ℕ → ℕ → Bool) (rows : List (List ℕ)) (row : List ℕ) (top n width : ℕ) → n < length rows → ((k j : ℕ) → k < width → top ≤ j → j < top + n → row_has (get_or rows (j - top) []) k ≡ test k j) → ((k : ℕ) → k < width → row_has row k ≡ test k (top + n)) → (k j : ℕ) → k < width → top ≤ j → j < top + (n + 1) → row_has (get_or (set rows n row) (j - top) []) k ≡ test k j
put-row test rows row top n width inside before last k j lt low high =
    ⊎_elim
    (λ (e : j - top ≡ n).
    let same : top + n ≡ j = omega arith in
    let at : get_or (set rows n row) (j - top) [] ≡ row = ap (λ m. get_or (set rows n row) m []) e ∙ get_or-set_same rows n row [] inside in
    ap (λ r. row_has r k) at ∙ last k lt ∙ ap (test k) same)
    (λ (ne : j - top ≢ n).
    ap (λ r. row_has r k) (get_or-set_other rows n (j - top) row [] ne) ∙ before k j lt low (omega arith))
    (cases_eq (j - top) n)

-- the same of those that are put down
pub taken-rows : (test : ℕ → ℕ → Bool) (rows : List (List ℕ)) (top n width : ℕ) → n ≤ length rows → ((k j : ℕ) → k < width → top ≤ j → j < top + n → row_has (get_or rows (j - top) []) k ≡ test k j) → (k j : ℕ) → k < width → top ≤ j → j < top + length (take n rows) → row_has (get_or (take n rows) (j - top) []) k ≡ test k j
taken-rows test rows top n width inside made k j lt low high =
    let long : length (take n rows) ≡ n = length-take-le n rows inside in
    let below : j < top + n = omega (arith, high, long) in
    ap (λ r. row_has r k) (get_or-take n rows (j - top) [] (omega (arith, below, low))) ∙ made k j lt low below

pub take-most : {A : Type 0} (n most : ℕ) (l : List A) → n ≤ most → length (take n l) ≤ most
take-most n most l h = let long : length (take n l) ≡ min n (length l) = length-take n l in omega (arith, long, h)

pub width-taken : {A : Type 0} (n width most : ℕ) (l : List A) → length l ≡ most → n ≤ most → n ≡ width → length (take n l) ≡ width
width-taken n width most l all h is = let long : length (take n l) ≡ min n (length l) = length-take n l in omega (arith, long, all, h, is)

-- the rows of a strip begin before they end, and end within the picture
pub rows-order : (h all k n : ℕ) → h ≡ all → k < n → (k * h / n ≤ (k + 1) * h / n) × ((k + 1) * h / n ≤ all)
rows-order h all k n is lt =
    let low : k * h / n * n ≤ k * h = div-mul-le_self (k * h) n in
    let more : (k + 1) * h ≡ k * h + h = omega arith in
    let most : (k + 1) * h ≤ n * h = mul-le-mul_right h (omega (arith, lt)) in
    let end : (k + 1) * h / n ≤ h = div-le_of_le-mul n most in
    let above : 0 < n = omega (arith, lt) in
    ((le-div_iff_mul-le above).1 (omega (arith, low, more)), omega (arith, end, is))

-- none is no held one
pub none-held : (i : ℕ) (held : Bool) → has 0 i ≡ true → held ≡ true
none-held i held h = let e : false ≡ true = sym (has-zero i) ∙ h in cc

-- ---- the block of an item

and-true : (p : Bool) → (p && true) ≡ p
and-true true = refl
and-true false = refl

rows-in : (top bottom first end at to j : ℕ) → at ≡ max top first → to ≡ min bottom end → first ≤ j → j < end → is_within at j to ≡ is_within top j bottom
rows-in top bottom first end at to j e f p q = rw (e, f) (let r : is_within (max top first) j (min bottom end) ≡ is_within top j bottom = grind (arith, nat_tests) in r)

-- the columns and the rows of a strip that lie in a box
pub region-is : (w : Window) (box : PageBox) (f t u v first end top bottom k j : ℕ) → nat_le f k ≡ int_le box.left (column_shown w k) → nat_lt k t ≡ int_lt (column_shown w k) box.right → nat_le u j ≡ int_le box.top (row_shown w j) → nat_lt j v ≡ int_lt (row_shown w j) box.bottom → top ≡ max u first → bottom ≡ min v end → first ≤ j → j < end → (is_within f k t && is_within top j bottom) ≡ is_in box (column_shown w k) (row_shown w j)
region-is w box f t u v first end top bottom k j e1 e2 e3 e4 et eb p q =
    ap (λ r. is_within f k t && r) (rows-in u v first end top bottom j et eb p q)
    ∙ (let edges : (is_within f k t && is_within u j v) ≡ is_in box (column_shown w k) (row_shown w j) = rw (e1, e2, e3, e4) refl in edges)

-- what of a box and a clip the region has
pub region-met : (here : Bool) (box page clip cut : PageBox) (x y : ℤ) → here ≡ is_in cut x y → ((x y : ℤ) → is_in cut x y ≡ (is_in box x y && is_in clip x y)) → box ≡ page → here ≡ (is_in page x y && is_in clip x y)
region-met here box page clip cut x y e m is = e ∙ m x y ∙ ap (λ b. is_in b x y && is_in clip x y) is

none-of : (box clip leaf : Bool) → (box && clip) ≡ false → (leaf ≡ true → box ≡ true) → (leaf && clip) ≡ false
none-of true true leaf e h = cc
none-of true false true e h = refl
none-of true false false e h = refl
none-of false clip true e h = let z : false ≡ true = h refl in cc
none-of false clip false e h = refl

-- an item that leaves no pixel of the strip
pub cut-none : (w : Window) (item : Item) (here : Bool) (k j : ℕ) → here ≡ false → here ≡ (is_in (page_box_of item.leaf) (column_shown w k) (row_shown w j) && is_in item.clip (column_shown w k) (row_shown w j)) → ((x y : ℤ) → carried_holds item.leaf x y ≡ true → is_in (page_box_of item.leaf) x y ≡ true) → None ≡ fill_at item (column_shown w k) (row_shown w j)
cut-none w item here k j e f h =
    let x = column_shown w k in
    let y = row_shown w j in
    sym (ap (λ t. cond t (Some item.fill) None) (none-of (is_in (page_box_of item.leaf) x y) (is_in item.clip x y) (carried_holds item.leaf x y) (sym f ∙ e) (h x y)))

some-of : (here box clip leaf form : Bool) → here ≡ (box && clip) → (here ≡ true → box ≡ true → form ≡ leaf) → (leaf ≡ true → box ≡ true) → (here && form) ≡ (leaf && clip)
some-of here true true leaf form e f h = ap (λ t. t && form) e ∙ f e refl ∙ sym (and-true leaf)
some-of here true false true form e f h = ap (λ t. t && form) e
some-of here true false false form e f h = ap (λ t. t && form) e
some-of here false clip true form e f h = let z : false ≡ true = h refl in cc
some-of here false clip false form e f h = ap (λ t. t && form) e

-- the block of an item
pub cut-some : (w : Window) (item : Item) (b : Block) (k j : ℕ) → (is_within b.from k b.to && is_within b.top j b.bottom) ≡ (is_in (page_box_of item.leaf) (column_shown w k) (row_shown w j) && is_in item.clip (column_shown w k) (row_shown w j)) → ((is_within b.from k b.to && is_within b.top j b.bottom) ≡ true → is_in (page_box_of item.leaf) (column_shown w k) (row_shown w j) ≡ true → form_holds b.form k j ≡ carried_holds item.leaf (column_shown w k) (row_shown w j)) → ((x y : ℤ) → carried_holds item.leaf x y ≡ true → is_in (page_box_of item.leaf) x y ≡ true) → b.fill ≡ item.fill → block_fill b k j ≡ fill_at item (column_shown w k) (row_shown w j)
cut-some w item b k j e f h same =
    let x = column_shown w k in
    let y = row_shown w j in
    ap (λ t. cond t (Some b.fill) None) (some-of (is_within b.from k b.to && is_within b.top j b.bottom) (is_in (page_box_of item.leaf) x y) (is_in item.clip x y) (carried_holds item.leaf x y) (form_holds b.form k j) e f (h x y))
    ∙ ap (λ c. cond (item_holds item x y) (Some c) None) same

and-right : (p q : Bool) → (p && q) ≡ true → q ≡ true
and-right true q e = e
and-right false q e = cc

pub inside-low : (p : Bool) (top j bottom : ℕ) → (p && is_within top j bottom) ≡ true → top ≤ j
inside-low p top j bottom e = let h : is_within top j bottom ≡ true = and-right p (is_within top j bottom) e in grind (arith, nat_tests)

pub inside-high : (p : Bool) (top j bottom : ℕ) → (p && is_within top j bottom) ≡ true → j < bottom
inside-high p top j bottom e = let h : is_within top j bottom ≡ true = and-right p (is_within top j bottom) e in grind (arith, nat_tests)

-- ---- the blocks of items

or_else-none : (o : Option Colour) → or_else None o ≡ or_else o None
or_else-none None = refl
or_else-none (Some c) = refl

or_else-assoc : (a b c : Option Colour) → or_else (or_else a b) c ≡ or_else a (or_else b c)
or_else-assoc None b c = refl
or_else-assoc (Some x) b c = refl

last_fill-push : (xs : List Item) (i : Item) (x y : ℤ) → last_fill (xs ++ i ∷ []) x y ≡ or_else (fill_at i x y) (last_fill xs x y)
last_fill-push [] i x y = or_else-none (fill_at i x y)
last_fill-push (j ∷ xs) i x y =
    ap (λ o. or_else o (fill_at j x y)) (last_fill-push xs i x y)
    ∙ or_else-assoc (fill_at i x y) (last_fill xs x y) (fill_at j x y)

pub last_fill-more : (xs : List Item) (n : ℕ) (d : Item) (x y : ℤ) → n < length xs → last_fill (take (n + 1) xs) x y ≡ or_else (fill_at (get_or xs n d) x y) (last_fill (take n xs) x y)
last_fill-more xs n d x y lt = ap (λ l. last_fill l x y) (take_more xs n d lt) ∙ last_fill-push (take n xs) (get_or xs n d) x y

columns-out : (from to k : ℕ) → to ≤ from → is_within from k to ≡ false
columns-out from to k h = grind (arith, nat_tests)

and-out : (c r m : Bool) → r ≡ false → ((c && r) && m) ≡ false
and-out true true m e = cc
and-out true false m e = refl
and-out false r m e = refl

above-rows : (top bottom j : ℕ) → j < top → is_within top j bottom ≡ false
above-rows top bottom j h = grind (arith, nat_tests)

below-rows : (top bottom j : ℕ) → bottom ≤ j → is_within top j bottom ≡ false
below-rows top bottom j h = grind (arith, nat_tests)

pub within-rows : (top bottom j : ℕ) → top ≤ j → j < bottom → is_within top j bottom ≡ true
within-rows top bottom j h k = grind (arith, nat_tests)

-- a block holds nothing above it and below it
pub holds-above : (b : Block) (k j : ℕ) → j < b.top → block_holds b k j ≡ false
holds-above b k j h = and-out (is_within b.from k b.to) (is_within b.top j b.bottom) (form_holds b.form k j) (above-rows b.top b.bottom j h)

pub holds-below : (b : Block) (k j : ℕ) → b.bottom ≤ j → block_holds b k j ≡ false
holds-below b k j h = and-out (is_within b.from k b.to) (is_within b.top j b.bottom) (form_holds b.form k j) (below-rows b.top b.bottom j h)

not-met : (p met : Bool) → (p ≡ true → met ≡ true) → met ≡ false → p ≡ false
not-met true met h e = sym (h refl) ∙ e
not-met false met h e = refl

pub outside-columns : (b : Block) (k j : ℕ) (met : Bool) → (is_within b.from k b.to ≡ true → met ≡ true) → met ≡ false → block_holds b k j ≡ false
outside-columns b k j met h e = ap (λ t. (t && is_within b.top j b.bottom) && form_holds b.form k j) (not-met (is_within b.from k b.to) met h e)

pub outside-rows : (b : Block) (k j : ℕ) (met : Bool) → (is_within b.top j b.bottom ≡ true → met ≡ true) → met ≡ false → block_holds b k j ≡ false
outside-rows b k j met h e = and-out (is_within b.from k b.to) (is_within b.top j b.bottom) (form_holds b.form k j) (not-met (is_within b.top j b.bottom) met h e)

no-rows : (top bottom j : ℕ) → bottom ≤ top → is_within top j bottom ≡ false
no-rows top bottom j h = grind (arith, nat_tests)

and-no : (p : Bool) → (p && false) ≡ false
and-no true = refl
and-no false = refl

pub empty-columns : (from to top bottom k j : ℕ) → to ≤ from → (is_within from k to && is_within top j bottom) ≡ false
empty-columns from to top bottom k j h = ap (λ t. t && is_within top j bottom) (columns-out from to k h)

pub empty-rows : (from to top bottom k j : ℕ) → bottom ≤ top → (is_within from k to && is_within top j bottom) ≡ false
empty-rows from to top bottom k j h = ap (λ t. is_within from k to && t) (no-rows top bottom j h) ∙ and-no (is_within from k to)

-- ---- rows of four words

-- the words of the held columns have these
pub held-row : (words flags : List ℕ) → ((n i : ℕ) → n < 4 → i < 64 → has (slice_index words n) i ≡ is_held flags (64 * n + i)) → (k : ℕ) → k < 256 → row_has words k ≡ is_held flags k
held-row words flags h k lt =
    let same : 64 * (k / 64) + k % 64 ≡ k = omega arith in
    h (k / 64) (k % 64) (omega arith) (omega arith) ∙ ap (is_held flags) same

-- the rows of a polygon from one of a window's rows on
pub polygon-rows : (w : Window) (points : List Point) (flags : List EdgeFlags) (words : List (List ℕ)) (top k j : ℕ) (d : EdgeFlags) → k < w.w → w.w ≤ 256 → top ≤ j → j - top < length flags → ((j k : ℕ) (d : EdgeFlags) → j < length flags → k < 256 → row_has (get_or words j []) k ≡ is_held (get_or flags j d).words k) → ((j i : ℕ) (d : EdgeFlags) → j < length flags → is_held (get_or flags j d).words i ≡ (nat_lt i w.w && is_in_polygon points (column_shown w i) (row_shown w (top + j)))) → row_has (get_or words (j - top) []) k ≡ is_in_polygon points (column_shown w k) (row_shown w j)
polygon-rows w points flags words top k j d lt narrow low inside held flagged =
    let on : nat_lt k w.w ≡ true = grind (arith, nat_tests) in
    let down : top + (j - top) ≡ j = omega arith in
    held (j - top) k d inside (omega arith)
    ∙ flagged (j - top) k d inside
    ∙ ap (λ t. t && is_in_polygon points (column_shown w k) (row_shown w (top + (j - top)))) on
    ∙ ap (λ n. is_in_polygon points (column_shown w k) (row_shown w n)) down

-- the row so many whole steps below a window's first
pub row-below : (w : Window) (at first : ℤ) (n : ℕ) → first ≡ row_shown w 0 → pos (n * 2 ^ w.level) ≡ at -ℤ first → row_shown w n ≡ at
row-below w at first n e d =
    let s = scale_of w.level in
    let top = along w.y 0 s in
    let down = along w.y n s in
    let none : 0 * s ≡ 0 = omega arith in
    omega (arith, ints, top, down, none, e, d)

-- what is shifted down and up again and stays is whole steps of a level
pub whole-steps : (n a k : ℕ) → a ≡ k → n < 2 ^ 64 → (n / 2 ^ a * 2 ^ a) % 2 ^ 64 ≡ n → n / 2 ^ a * 2 ^ k ≡ n
whole-steps n a k e fits h =
    let low : n / 2 ^ a * 2 ^ a ≤ n = div-mul-le_self n (2 ^ a) in
    let same : n / 2 ^ a * 2 ^ a ≡ n = sym (mod-eq_of_lt (omega (arith, low, fits))) ∙ h in
    ap (λ m. n / 2 ^ a * 2 ^ m) (sym e) ∙ same
