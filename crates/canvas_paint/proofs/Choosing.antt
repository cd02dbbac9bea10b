-- Steps of choosing the blocks that show in a word, from front to back.
use Rattle.std.proofs.Common.{min, ◌≡◌, ℕ, ◌+◌, ◌-◌, ◌<◌, ◌≤◌, List, [], ◌∷◌, ◌++◌, Bool, true, false, not, ◌&&◌, cond, Option, Some, None, refl, sym, ap, ◌∙◌, arith, length, take, get_or, map, ◌⊎◌, inl, inr, ⊎_elim}
use Rattle.std.proofs.lemmas.Bool.{cases_Bool}
use Rattle.std.proofs.lemmas.List.{map-append, take_more, take_all}
use Rattle.canvas_shape.specs.declared.Colour.{Colour}
use Rattle.canvas_shape.specs.Words.{has}
use Rattle.canvas_record.specs.Picture.{or_else}
use Rattle.canvas_paint.specs.declared.active.Active.{Active}
use Rattle.canvas_paint.specs.declared.block.Block.{Block}
use Rattle.canvas_paint.specs.Blocks.{block_fill, block_holds, form_holds, last_block_fill}
use Rattle.canvas_paint.specs.Columns.{IsChosen, active_fill, active_holds, first_some}
use Rattle.canvas_paint.specs.Words.{is_within}
use Rattle.canvas_paint.proofs.Bits.{has-zero}
use Rattle.canvas_paint.proofs.Painting.{last-push, or_else-assoc, true-not}

last-take : (bs : List Block) (left : ℕ) (b d : Block) (x y : ℕ) → 0 < left → left ≤ length bs → b ≡ get_or bs (left - 1) d → last_block_fill (take left bs) x y ≡ or_else (block_fill b x y) (last_block_fill (take (left - 1) bs) x y)
last-take bs left b d x y pos le is =
    ap (λ n. last_block_fill (take n bs) x y) (let e : left ≡ left - 1 + 1 = omega arith in e)
    ∙ ap (λ l. last_block_fill l x y) (take_more bs (left - 1) d (omega arith))
    ∙ last-push (take (left - 1) bs) (get_or bs (left - 1) d) x y
    ∙ ap (λ c. or_else (block_fill c x y) (last_block_fill (take (left - 1) bs) x y)) (sym is)

or-none : (o : Option Colour) → or_else o None ≡ o
or-none None = refl
or-none (Some c) = refl

first-append : (cs : List (Option Colour)) (c : Option Colour) → first_some (cs ++ c ∷ []) ≡ or_else (first_some cs) c
first-append [] c = or-none c
first-append (b ∷ cs) c = ap (or_else b) (first-append cs c) ∙ sym (or_else-assoc b (first_some cs) c)

-- the active blocks with one more
active-push : (base : ℕ) (active : List Active) (a : Active) (i j : ℕ) → active_fill base (active ++ a ∷ []) i j ≡ or_else (active_fill base active i j) (cond (active_holds base a i j) (Some a.fill) None)
active-push base active a i j =
    let give : Active → Option Colour = λ a. cond (active_holds base a i j) (Some a.fill) None in
    ap first_some (map-append give active (a ∷ []))
    ∙ first-append (map give active) (give a)

-- what is chosen, with so many blocks left to look at: with these it shows what all do, and where nothing is free it hides these
pub record IsChoosing (width : ℕ) (bs : List Block) (active : List Active) (left y base free end : ℕ) : Type 0 where
  pub count : left ≤ length bs
  pub live : y < end
  pub parts : (i j : ℕ) → i < 64 → base + i < width → y ≤ j → j < end → or_else (active_fill base active i j) (last_block_fill (take left bs) (base + i) j) ≡ last_block_fill bs (base + i) j
  pub hides : (i j : ℕ) (o : Option Colour) → i < 64 → base + i < width → has free i ≡ false → y ≤ j → j < end → or_else (active_fill base active i j) o ≡ active_fill base active i j

pub start-choosing : (width : ℕ) (bs : List Block) (y base free end : ℕ) → y < end → ((i : ℕ) → i < 64 → has free i ≡ is_within 0 (base + i) width) → IsChoosing width bs [] (length bs) y base free end
start-choosing width bs y base free end live f = record {
  count = omega arith;
  live = live;
  parts = λ i j below lt p q. ap (λ l. last_block_fill l (base + i) j) (take_all (length bs) bs (omega arith));
  hides = λ i j o below lt e p q. absurd (true-not (base + i) width lt (sym (f i below) ∙ e));
}

-- where a block changes before the next change, that is the next one
pub next-change : (y end at next : ℕ) → next ≡ min end at → y < end → y < at → (y < next) × ((next ≤ end) × ((j : ℕ) → j < next → j < at))
next-change y end at next is live lt = (omega arith, (omega arith, λ j below. omega arith))

pub same-change : (y end next : ℕ) → next ≡ end → y < end → (y < next) × (next ≤ end)
same-change y end next is live = (omega arith, omega arith)

pub later : (at y j : ℕ) → at ≤ y → y ≤ j → at ≤ j
later at y j p q = omega arith

-- one block less to look at, which shows in no free pixel up to the next change
pub pass-block : (width : ℕ) (bs : List Block) (active : List Active) (left y base free end next : ℕ) (b d : Block) → 0 < left → b ≡ get_or bs (left - 1) d → y < next → next ≤ end → ((i j : ℕ) → i < 64 → has free i ≡ true → y ≤ j → j < next → block_holds b (base + i) j ≡ false) → IsChoosing width bs active left y base free end → IsChoosing width bs active (left - 1) y base free next
pass-block width bs active left y base free end next b d pos is live le misses h = record {
  count = omega (arith, h.count);
  live = live;
  parts = λ i j below lt p q.
      let old = h.parts i j below lt p (omega arith) in
      let behind = last_block_fill (take (left - 1) bs) (base + i) j in
      let split = last-take bs left b d (base + i) j pos h.count is in
      ⊎_elim
      (λ (on : has free i ≡ true).
      ap (or_else (active_fill base active i j)) (sym (split ∙ ap (λ t. or_else (cond t (Some b.fill) None) behind) (misses i j below on p q)))
      ∙ old)
      (λ (off : has free i ≡ false).
      h.hides i j behind below lt off p (omega arith)
      ∙ sym (h.hides i j (last_block_fill (take left bs) (base + i) j) below lt off p (omega arith))
      ∙ old)
      (cases_Bool (has free i));
  hides = λ i j o below lt off p q. h.hides i j o below lt off p (omega arith);
}

free-or-held : (free word : Bool) → (free && not word) ≡ false → (free ≡ false) ⊎ (word ≡ true)
free-or-held false word e = inl refl
free-or-held true true e = inr refl
free-or-held true false e = cc

-- one block more, which hides what is behind it in the pixels that it covers
pub choose-block : (width : ℕ) (bs : List Block) (active new : List Active) (left y base free end next cover rest : ℕ) (b d : Block) (a : Active) → 0 < left → b ≡ get_or bs (left - 1) d → y < next → next ≤ end → new ≡ active ++ a ∷ [] → a.fill ≡ b.fill → ((i j : ℕ) → i < 64 → has free i ≡ true → y ≤ j → j < next → active_holds base a i j ≡ block_holds b (base + i) j) → ((i j : ℕ) → has cover i ≡ true → active_holds base a i j ≡ true) → ((i : ℕ) → i < 64 → has rest i ≡ (has free i && not (has cover i))) → IsChoosing width bs active left y base free end → IsChoosing width bs new (left - 1) y base rest next
choose-block width bs active new left y base free end next cover rest b d a pos is live le e fill holds covered r h =
    let give : ℕ → ℕ → Option Colour = λ i j. cond (active_holds base a i j) (Some a.fill) None in
    let pushed : (i j : ℕ) → active_fill base new i j ≡ or_else (active_fill base active i j) (give i j) = λ i j. ap (λ l. active_fill base l i j) e ∙ active-push base active a i j in
    record {
      count = omega (arith, h.count);
      live = live;
      parts = λ i j below lt p q.
          let old = h.parts i j below lt p (omega arith) in
          let behind = last_block_fill (take (left - 1) bs) (base + i) j in
          ap (λ o. or_else o behind) (pushed i j)
          ∙ or_else-assoc (active_fill base active i j) (give i j) behind
          ∙ ⊎_elim
          (λ (on : has free i ≡ true).
          ap (λ t. or_else (active_fill base active i j) (or_else (cond t (Some a.fill) None) behind)) (holds i j below on p q)
          ∙ ap (λ c. or_else (active_fill base active i j) (or_else (cond (block_holds b (base + i) j) (Some c) None) behind)) fill
          ∙ ap (or_else (active_fill base active i j)) (sym (last-take bs left b d (base + i) j pos h.count is))
          ∙ old)
          (λ (off : has free i ≡ false).
          h.hides i j (or_else (give i j) behind) below lt off p (omega arith)
          ∙ sym (h.hides i j (last_block_fill (take left bs) (base + i) j) below lt off p (omega arith))
          ∙ old)
          (cases_Bool (has free i));
      hides = λ i j o below lt off p q.
          ap (λ f. or_else f o) (pushed i j)
          ∙ or_else-assoc (active_fill base active i j) (give i j) o
          ∙ ⊎_elim
          (λ (no : has free i ≡ false).
          h.hides i j (or_else (give i j) o) below lt no p (omega arith)
          ∙ sym (h.hides i j (give i j) below lt no p (omega arith)))
          (λ (on : has cover i ≡ true).
          ap (λ t. or_else (active_fill base active i j) (or_else (cond t (Some a.fill) None) o)) (covered i j on)
          ∙ sym (ap (λ t. or_else (active_fill base active i j) (cond t (Some a.fill) None)) (covered i j on)))
          (free-or-held (has free i) (has cover i) (sym (r i below) ∙ off))
          ∙ sym (pushed i j);
    }

-- nothing is left to look at, or nothing is free
pub all-chosen : (width : ℕ) (bs : List Block) (active : List Active) (left y base free end : ℕ) → IsChoosing width bs active left y base free end → (left ≡ 0) ⊎ (free ≡ 0) → IsChosen width bs active base y end
all-chosen width bs active left y base free end h (inl e) = λ i j below lt p q.
    sym (or-none (active_fill base active i j))
    ∙ ap (λ n. or_else (active_fill base active i j) (last_block_fill (take n bs) (base + i) j)) (sym e)
    ∙ h.parts i j below lt p q
all-chosen width bs active left y base free end h (inr e) = λ i j below lt p q.
    let off : has free i ≡ false = ap (λ n. has n i) e ∙ has-zero i in
    sym (h.hides i j (last_block_fill (take left bs) (base + i) j) below lt off p q) ∙ h.parts i j below lt p q

and-parts : (free part columns rows form : Bool) → free ≡ true → part ≡ columns → rows ≡ true → ((free && part) && form) ≡ ((columns && rows) && form)
and-parts true part true true form e f g = ap (λ t. t && form) f
and-parts true part false true form e f g = ap (λ t. t && form) f
and-parts true part columns false form e f g = cc
and-parts false part columns rows form e f g = cc

-- where it may show, an active block holds what its block does
pub reach-holds : (b : Block) (free part reach base i j : ℕ) → has reach i ≡ (has free i && has part i) → has part i ≡ is_within b.from (base + i) b.to → has free i ≡ true → is_within b.top j b.bottom ≡ true → (has reach i && form_holds b.form (base + i) j) ≡ block_holds b (base + i) j
reach-holds b free part reach base i j r p on rows =
    ap (λ t. t && form_holds b.form (base + i) j) r
    ∙ and-parts (has free i) (has part i) (is_within b.from (base + i) b.to) (is_within b.top j b.bottom) (form_holds b.form (base + i) j) on p rows

no-columns : (free part columns rows form : Bool) → free ≡ true → part ≡ columns → (free && part) ≡ false → ((columns && rows) && form) ≡ false
no-columns true true columns rows form e f g = cc
no-columns true false true rows form e f g = cc
no-columns true false false rows form e f g = refl
no-columns false part columns rows form e f g = cc

-- a block that reaches no free pixel
pub none-reached : (b : Block) (free part reach base i j : ℕ) → has reach i ≡ (has free i && has part i) → has part i ≡ is_within b.from (base + i) b.to → reach ≡ 0 → has free i ≡ true → block_holds b (base + i) j ≡ false
none-reached b free part reach base i j r p e on =
    no-columns (has free i) (has part i) (is_within b.from (base + i) b.to) (is_within b.top j b.bottom) (form_holds b.form (base + i) j) on p
    (sym r ∙ ap (λ n. has n i) e ∙ has-zero i)
