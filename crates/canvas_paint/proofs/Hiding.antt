-- Steps of cutting items from front to back, where those further in front hide others.
use Rattle.std.proofs.Common.{◌≡◌, ℕ, ◌+◌, ◌-◌, ◌<◌, ◌≤◌, ◌≢◌, List, [], ◌∷◌, ◌++◌, Bool, true, false, ◌&&◌, cond, Option, Some, None, refl, sym, ap, ◌∙◌, arith, length, get_or, take, reverse, replicate, ⊎_elim}
use Rattle.std.proofs.lemmas.Bool.{cases_Bool, cases_eq, cases_lt}
use Rattle.std.proofs.lemmas.Bool.Decides.{nat_tests}
use Rattle.std.proofs.lemmas.List.{get_or-replicate, length-replicate, reverse-append, take_all}
use Rattle.canvas_plane.specs.declared.windows.Window.{Window}
use Rattle.canvas_plane.specs.Window.{column_shown, row_shown}
use Rattle.canvas_shape.specs.declared.Colour.{Colour}
use Rattle.canvas_shape.specs.Words.{has}
use Rattle.canvas_record.specs.Picture.{or_else}
use Rattle.canvas_paint.specs.Items.{fill_at, last_fill}
use Rattle.canvas_paint.specs.declared.item.Item.{Item}
use Rattle.canvas_paint.specs.declared.block.Block.{Block}
use Rattle.canvas_paint.specs.Blocks.{block_fill, cut_fill, is_free, last_block_fill, row_has}
use Rattle.canvas_paint.specs.Words.{is_within}
use Rattle.canvas_paint.proofs.Bits.{mask-test}
use Rattle.canvas_paint.proofs.Cutting.{last_fill-more, row-of-four}
use Rattle.canvas_paint.proofs.Painting.{or_else-assoc}
use Rattle.canvas_paint.proofs.RowWords.{empty-row}

-- ---- regions and free pixels

no-met : (free reach : Bool) → (free && reach) ≡ false → reach ≡ true → free ≡ false
no-met true reach e f = sym f ∙ e
no-met false reach e f = refl

-- in a row that has no free pixel of a region
row-covered : (free : List (List ℕ)) (met reach : List ℕ) (from to j k : ℕ) → met ≡ 0 ∷ 0 ∷ 0 ∷ 0 ∷ [] → ((k : ℕ) → k < 256 → row_has met k ≡ (row_has (get_or free j []) k && row_has reach k)) → ((k : ℕ) → k < 256 → row_has reach k ≡ is_within from k to) → k < 256 → is_within from k to ≡ true → is_free free k j ≡ false
row-covered free met reach from to j k none both between lt columns = no-met (is_free free k j) (row_has reach k) (sym (both k lt) ∙ ap (λ r. row_has r k) none ∙ empty-row k lt) (between k lt ∙ columns)

-- one such row more at the top
pub row-above : (free : List (List ℕ)) (met reach : List ℕ) (from to top at k z : ℕ) → met ≡ 0 ∷ 0 ∷ 0 ∷ 0 ∷ [] → ((k : ℕ) → k < 256 → row_has met k ≡ (row_has (get_or free at []) k && row_has reach k)) → ((k : ℕ) → k < 256 → row_has reach k ≡ is_within from k to) → ((k z : ℕ) → k < 256 → top ≤ z → z < at → is_within from k to ≡ true → is_free free k z ≡ false) → k < 256 → top ≤ z → z < at + 1 → is_within from k to ≡ true → is_free free k z ≡ false
row-above free met reach from to top at k z none both between before lt low high columns =
    ⊎_elim
    (λ (e : z ≡ at). ap (is_free free k) e ∙ row-covered free met reach from to at k none both between lt columns)
    (λ (ne : z ≢ at). before k z lt low (omega arith) columns)
    (cases_eq z at)

-- and at the bottom
pub row-below : (free : List (List ℕ)) (met reach : List ℕ) (from to bottom at k z : ℕ) → met ≡ 0 ∷ 0 ∷ 0 ∷ 0 ∷ [] → ((k : ℕ) → k < 256 → row_has met k ≡ (row_has (get_or free (at - 1) []) k && row_has reach k)) → ((k : ℕ) → k < 256 → row_has reach k ≡ is_within from k to) → ((k z : ℕ) → k < 256 → at ≤ z → z < bottom → is_within from k to ≡ true → is_free free k z ≡ false) → k < 256 → at - 1 ≤ z → z < bottom → is_within from k to ≡ true → is_free free k z ≡ false
row-below free met reach from to bottom at k z none both between before lt low high columns =
    ⊎_elim
    (λ (e : z ≡ at - 1). ap (is_free free k) e ∙ row-covered free met reach from to (at - 1) k none both between lt columns)
    (λ (ne : z ≢ at - 1). before k z lt (omega arith) high columns)
    (cases_eq z (at - 1))

same-rows : (top bottom at to j : ℕ) → top ≤ at → to ≤ bottom → (top ≤ j → j < at → ⊥) → (to ≤ j → j < bottom → ⊥) → is_within at j to ≡ is_within top j bottom
same-rows top bottom at to j low high above below =
    ⊎_elim
    (λ (lt : j < at).
    ⊎_elim
    (λ (out : j < top). let e : is_within at j to ≡ is_within top j bottom = grind (arith, nat_tests) in e)
    (λ (ge : top ≤ j). absurd (above ge lt))
    (cases_lt j top))
    (λ (ge : at ≤ j).
    ⊎_elim
    (λ (lt : j < to). let e : is_within at j to ≡ is_within top j bottom = grind (arith, nat_tests) in e)
    (λ (after : to ≤ j).
    ⊎_elim
    (λ (lt : j < bottom). absurd (below after lt))
    (λ (out : bottom ≤ j). let e : is_within at j to ≡ is_within top j bottom = grind (arith, nat_tests) in e)
    (cases_lt j bottom))
    (cases_lt j to))
    (cases_lt j at)

-- without rows that have no free pixel the region has the same free pixels
pub same-region : (columns : Bool) (top bottom at to j : ℕ) (free : Bool) → top ≤ at → to ≤ bottom → (columns ≡ true → top ≤ j → j < at → free ≡ false) → (columns ≡ true → to ≤ j → j < bottom → free ≡ false) → free ≡ true → (columns && is_within at j to) ≡ (columns && is_within top j bottom)
same-region false top bottom at to j free low high above below on = refl
same-region true top bottom at to j free low high above below on =
    same-rows top bottom at to j low high
    (λ p q. let z : true ≡ false = sym on ∙ above refl p q in cc)
    (λ p q. let z : true ≡ false = sym on ∙ below refl p q in cc)

pub no-fill : (holds : Bool) (c : Colour) → cond holds (Some c) None ≡ None → holds ≡ false
no-fill true c e = cc
no-fill false c e = refl

-- ---- the blocks of items

or-none : (o : Option Colour) → or_else o None ≡ o
or-none None = refl
or-none (Some c) = refl

-- what is cut, with so many items left to look at: with these the blocks show what all items do, and where nothing is free they hide these
pub record IsCutting (w : Window) (items : List Item) (blocks : List Block) (free : List (List ℕ)) (left first end : ℕ) : Type 0 where
  pub count : left ≤ length items
  pub rows : length free ≡ 256
  pub parts : (k j : ℕ) → k < w.w → first ≤ j → j < end → or_else (last_block_fill (reverse blocks) k j) (last_fill (take left items) (column_shown w k) (row_shown w j)) ≡ last_fill items (column_shown w k) (row_shown w j)
  pub hides : (k j : ℕ) (o : Option Colour) → k < w.w → first ≤ j → j < end → is_free free k j ≡ false → or_else (last_block_fill (reverse blocks) k j) o ≡ last_block_fill (reverse blocks) k j

full-word : (i : ℕ) → i < 64 → has 18446744073709551615 i ≡ true
full-word i lt = mask-test 0 64 i ∙ (let e : is_within 0 i 64 ≡ true = grind (arith, nat_tests) in e)

full-row : (k : ℕ) → k < 256 → row_has (18446744073709551615 ∷ 18446744073709551615 ∷ 18446744073709551615 ∷ 18446744073709551615 ∷ []) k ≡ true
full-row k lt = row-of-four (λ k. true) 18446744073709551615 18446744073709551615 18446744073709551615 18446744073709551615 k lt full-word full-word full-word full-word

pub start-cutting : (w : Window) (items : List Item) (blocks : List Block) (free : List (List ℕ)) (first end : ℕ) → blocks ≡ [] → free ≡ replicate 256 (18446744073709551615 ∷ 18446744073709551615 ∷ 18446744073709551615 ∷ 18446744073709551615 ∷ []) → w.w ≤ 256 → end ≤ 256 → IsCutting w items blocks free (length items) first end
start-cutting w items blocks free first end none full narrow low =
    let row : List ℕ = 18446744073709551615 ∷ 18446744073709551615 ∷ 18446744073709551615 ∷ 18446744073709551615 ∷ [] in
    record {
      count = omega arith;
      rows = ap length full ∙ length-replicate 256 row;
      parts = λ k j p q r.
          ap (λ bs. or_else (last_block_fill (reverse bs) k j) (last_fill (take (length items) items) (column_shown w k) (row_shown w j))) none
          ∙ ap (λ l. last_fill l (column_shown w k) (row_shown w j)) (take_all (length items) items (omega arith));
      hides = λ k j o p q r off.
          let on : is_free free k j ≡ true = ap (λ rows. is_free rows k j) full ∙ ap (λ r. row_has r k) (get_or-replicate 256 j row [] (omega (arith, r, low))) ∙ full-row k (omega (arith, p, narrow)) in
          absurd (let z : true ≡ false = sym on ∙ off in cc);
    }

-- one block more, behind the others
pub block-behind : (bs : List Block) (b : Block) (k j : ℕ) → last_block_fill (reverse (bs ++ b ∷ [])) k j ≡ or_else (last_block_fill (reverse bs) k j) (block_fill b k j)
block-behind bs b k j = ap (λ l. last_block_fill l k j) (reverse-append bs (b ∷ []))

pub no-block-behind : (o : Option Colour) → o ≡ or_else o None
no-block-behind o = sym (or-none o)

some-hides : (front here behind : Option Colour) → (here ≡ None → ⊥) → or_else front (or_else here behind) ≡ or_else front here
some-hides front None behind h = absurd (h refl)
some-hides front (Some c) behind h = refl

-- one item less to look at, of which there may be a block
pub cut-next : (w : Window) (items : List Item) (blocks new : List Block) (free rest : List (List ℕ)) (left first end : ℕ) (i : Item) (cut : Option Block) → 0 < left → i ≡ get_or items (left - 1) i → length rest ≡ length free → ((k j : ℕ) → last_block_fill (reverse new) k j ≡ or_else (last_block_fill (reverse blocks) k j) (cut_fill cut k j)) → ((k j : ℕ) → k < w.w → first ≤ j → j < end → is_free free k j ≡ true → cut_fill cut k j ≡ fill_at i (column_shown w k) (row_shown w j)) → ((k j : ℕ) → k < w.w → is_free free k j ≡ true → cut_fill cut k j ≡ None → is_free rest k j ≡ true) → IsCutting w items blocks free left first end → IsCutting w items new rest (left - 1) first end
cut-next w items blocks new free rest left first end i cut some is long pushed fills kept h = record {
  count = omega (arith, h.count);
  rows = long ∙ h.rows;
  parts = λ k j p q r.
      let x = column_shown w k in
      let y = row_shown w j in
      let front = last_block_fill (reverse blocks) k j in
      let here = cut_fill cut k j in
      let behind = last_fill (take (left - 1) items) x y in
      let split : last_fill (take left items) x y ≡ or_else (fill_at i x y) behind =
      ap (λ n. last_fill (take n items) x y) (let e : left ≡ left - 1 + 1 = omega arith in e)
      ∙ last_fill-more items (left - 1) i x y (omega (arith, h.count))
      ∙ ap (λ z. or_else (fill_at z x y) behind) (sym is) in
      ap (λ o. or_else o behind) (pushed k j)
      ∙ or_else-assoc front here behind
      ∙ ⊎_elim
      (λ (on : is_free free k j ≡ true).
      ap (λ c. or_else front (or_else c behind)) (fills k j p q r on) ∙ ap (or_else front) (sym split) ∙ h.parts k j p q r)
      (λ (off : is_free free k j ≡ false).
      h.hides k j (or_else here behind) p q r off
      ∙ sym (h.hides k j (last_fill (take left items) x y) p q r off)
      ∙ h.parts k j p q r)
      (cases_Bool (is_free free k j));
  hides = λ k j o p q r off.
      let front = last_block_fill (reverse blocks) k j in
      let here = cut_fill cut k j in
      ap (λ f. or_else f o) (pushed k j)
      ∙ or_else-assoc front here o
      ∙ ⊎_elim
      (λ (on : is_free free k j ≡ true).
      some-hides front here o (λ e. let z : true ≡ false = sym (kept k j p on e) ∙ off in cc))
      (λ (no : is_free free k j ≡ false).
      h.hides k j (or_else here o) p q r no ∙ sym (h.hides k j here p q r no))
      (cases_Bool (is_free free k j))
      ∙ sym (pushed k j);
}

-- no item is left to look at
pub all-cut : (w : Window) (items : List Item) (blocks : List Block) (free : List (List ℕ)) (left first end : ℕ) → left ≡ 0 → IsCutting w items blocks free left first end → (k j : ℕ) → k < w.w → first ≤ j → j < end → last_block_fill (reverse blocks) k j ≡ last_fill items (column_shown w k) (row_shown w j)
all-cut w items blocks free left first end none h k j p q r =
    sym (or-none (last_block_fill (reverse blocks) k j))
    ∙ ap (λ n. or_else (last_block_fill (reverse blocks) k j) (last_fill (take n items) (column_shown w k) (row_shown w j))) (sym none)
    ∙ h.parts k j p q r
