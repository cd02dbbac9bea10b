-- Lists of columns and of rows, one longer each time, and rows filled from a place up to another.
use Rattle.std.proofs.Common.{◌≡◌, ℕ, zero, suc, ◌+◌, ◌-◌, ◌*◌, ◌/◌, ◌%◌, ◌<◌, ◌≤◌, ◌≢◌, List, [], ◌∷◌, ◌++◌, None, refl, sym, ap, ◌∙◌, arith, cond, length, get_or, slice_index, take, vec_len, ⊎_elim}
use Rattle.std.proofs.lemmas.Bool.{cases_eq}
use Rattle.std.proofs.lemmas.Bool.Decides.{nat_tests}
use Rattle.std.proofs.lemmas.List.{get_or_append_left, get_or_default, get_or_push, map_push, nil_from_length, places}
use borrow.Rule.Slice.PartMut.{put_mid}
use Rattle.canvas_shape.specs.Flags.{is_held}
use Rattle.canvas_shape.specs.Words.{has}
use Rattle.canvas_shape.specs.declared.edge_flags.EdgeFlags.{EdgeFlags}
use Rattle.canvas_paint.specs.declared.block.Block.{Block}
use Rattle.canvas_paint.specs.declared.column.Column.{Column}
use Rattle.canvas_paint.specs.Blocks.{last_block_fill, row_has}
use Rattle.canvas_paint.specs.Columns.{blocks_in, fill_in}
use Rattle.canvas_paint.specs.Words.{is_within}

none-more : (lists : List (List Block)) (n k j : ℕ) → last_block_fill (get_or lists n []) k j ≡ None → last_block_fill (get_or (lists ++ [] ∷ []) n []) k j ≡ None
none-more [] zero k j h = refl
none-more [] (suc n) k j h = refl
none-more (l ∷ ls) zero k j h = h
none-more (l ∷ ls) (suc n) k j h = none-more ls n k j h

-- one column more that has no block
pub column-more : (columns : List Column) (column : Column) → vec_len column.blocks ≡ 0 → ((k j : ℕ) → fill_in (blocks_in columns) k j ≡ None) → (k j : ℕ) → fill_in (blocks_in (columns ++ column ∷ [])) k j ≡ None
column-more columns column none h k j =
    ap (λ lists. fill_in lists k j) (map_push (λ (c : Column). c.blocks.items) columns column ∙ ap (λ l. blocks_in columns ++ l ∷ []) (nil_from_length column.blocks.items (sym column.blocks.ok.0 ∙ none)))
    ∙ none-more (blocks_in columns) (k / 64) k j (h k j)

-- a pixel of a row that is filled up to a place, after as many more
pub filled-more : (from at next k : ℕ) (new old start colour put : List ℕ) → from ≤ at → at ≤ next → new ≡ cond (is_within at k next) put old → old ≡ cond (is_within from k at) colour start → (at ≤ k → k < next → put ≡ colour) → new ≡ cond (is_within from k next) colour start
filled-more from at next k new old start colour put low high n o p = grind (arith, nat_tests)

-- the held pixels of one row more
pub row-held-more : (words new : List (List ℕ)) (word : List ℕ) (rows : List EdgeFlags) (e : EdgeFlags) (n : ℕ) → length words ≡ n → n < length rows → new ≡ words ++ word ∷ [] → ((k i : ℕ) → k < 4 → i < 64 → has (slice_index word k) i ≡ is_held (get_or rows n e).words (64 * k + i)) → ((j k : ℕ) (d : EdgeFlags) → j < n → k < 256 → row_has (get_or words j []) k ≡ is_held (get_or rows j d).words k) → (j k : ℕ) (d : EdgeFlags) → j < n + 1 → k < 256 → row_has (get_or new j []) k ≡ is_held (get_or rows j d).words k
row-held-more words new word rows e n long inside eq held before j k d lt in_row =
    let whole : 64 * (k / 64) + k % 64 ≡ k = omega arith in
    ap (λ l. row_has (get_or l j []) k) eq
    ∙ ⊎_elim
    (λ (same : j ≡ n).
    ap (λ row. row_has row k) (get_or_push words word [] j (long ∙ sym same))
    ∙ held (k / 64) (k % 64) (omega arith) (omega arith)
    ∙ ap (is_held (get_or rows n e).words) whole
    ∙ ap (λ (f : EdgeFlags). is_held f.words k) (get_or_default rows n e d inside ∙ ap (λ m. get_or rows m d) (sym same)))
    (λ (ne : j ≢ n). ap (λ row. row_has row k) (get_or_append_left words (word ∷ []) [] j (omega arith)) ∙ before j k d (omega arith) in_row)
    (cases_eq j n)

-- a pixel of a row of which a part was copied
pub part-copied : (row mid pattern : List (List ℕ)) (from to k : ℕ) (d : List ℕ) → from ≤ to → to ≤ length row → to ≤ from + length pattern → mid ≡ take (to - from) pattern → k < length row → get_or (put_mid from (to - from) row mid) k d ≡ cond (is_within from k to) (get_or pattern (k - from) d) (get_or row k d)
part-copied row mid pattern from to k d ends within long e lt = grind (arith, nat_tests, places)
