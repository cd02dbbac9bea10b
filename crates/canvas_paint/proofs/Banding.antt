-- Steps of painting a strip of many blocks, band by band.
use Rattle.std.proofs.Common.{◌≡◌, ℕ, ◌+◌, ◌-◌, ◌/◌, ◌<◌, ◌≤◌, ◌≢◌, List, [], ◌∷◌, ◌++◌, false, cond, Option, Some, None, sym, ap, ◌∙◌, arith, length, length-append, get_or, take, take-take, set, get_or-set_same, get_or-set_other, subst, ⊎_elim}
use Rattle.std.proofs.lemmas.Bool.{cases_eq}
use Rattle.std.proofs.lemmas.List.{get_or-map, take_more}
use Rattle.canvas_shape.specs.declared.Colour.{Colour}
use Rattle.canvas_record.specs.Picture.{or_else}
use Rattle.canvas_paint.specs.Pictures.{raster_of}
use Rattle.canvas_paint.proofs.Raster.{band-more, raster-agree}
use Rattle.canvas_paint.specs.declared.block.Block.{Block}
use Rattle.canvas_paint.specs.declared.column.Column.{Column}
use Rattle.canvas_paint.specs.Blocks.{block_fill, block_holds, last_block_fill}
use Rattle.canvas_paint.specs.Columns.{IsNew, blocks_in, fill_in}
use Rattle.canvas_paint.proofs.Joined.{begins-same}
use Rattle.canvas_paint.proofs.Painting.{last-push}

-- ---- the columns of a band

-- so many columns have no block, and no row of them was painted
pub record AreCleared (count : ℕ) (columns : List Column) : Type 0 where
  pub new : (k : ℕ) (d : Column) → k < count → IsNew (get_or columns k d)
  pub empty : (k : ℕ) (d : Column) → k < count → (get_or columns k d).blocks.items ≡ []

pub start-clearing : (columns : List Column) → AreCleared 0 columns
start-clearing columns = record { new = λ k d lt. absurd (omega arith); empty = λ k d lt. absurd (omega arith) }

-- one column more
pub more-cleared : (count : ℕ) (columns : List Column) (column : Column) → count < length columns → IsNew column → column.blocks.items ≡ [] → AreCleared count columns → AreCleared (count + 1) (set columns count column)
more-cleared count columns column lt new empty h =
    let here : (k : ℕ) (d : Column) → k ≡ count → get_or (set columns count column) k d ≡ column = λ k d e. ap (λ m. get_or (set columns count column) m d) e ∙ get_or-set_same columns count column d lt in
    record {
      new = λ k d below.
          ⊎_elim
          (λ (e : k ≡ count). subst IsNew (sym (here k d e)) new)
          (λ (ne : k ≢ count). subst IsNew (sym (get_or-set_other columns count k column d ne)) (h.new k d (omega arith)))
          (cases_eq k count);
      empty = λ k d below.
          ⊎_elim
          (λ (e : k ≡ count). ap (λ c. c.blocks.items) (here k d e) ∙ empty)
          (λ (ne : k ≢ count). ap (λ c. c.blocks.items) (get_or-set_other columns count k column d ne) ∙ h.empty k d (omega arith))
          (cases_eq k count);
    }

-- no column has a block
pub all-cleared : (count : ℕ) (columns : List Column) → length columns ≡ 4 → 4 ≤ count → AreCleared count columns → (k j : ℕ) → k < 256 → fill_in (blocks_in columns) k j ≡ None
all-cleared count [] four all h k j lt = absurd (omega (arith, four))
all-cleared count (c ∷ cs) four all h k j lt =
    let n = k / 64 in
    let below : n < 4 = omega arith in
    ap (λ bs. last_block_fill bs k j) (get_or-map (λ c. c.blocks.items) (c ∷ cs) n c [] (omega arith) ∙ h.empty n c (omega arith))

last-more : (bs : List Block) (n : ℕ) (d : Block) (x y : ℕ) → n < length bs → last_block_fill (take (n + 1) bs) x y ≡ or_else (block_fill (get_or bs n d) x y) (last_block_fill (take n bs) x y)
last-more bs n d x y lt = ap (λ l. last_block_fill l x y) (take_more bs n d lt) ∙ last-push (take n bs) (get_or bs n d) x y

-- one block more, which was put in front
pub block-more : (bs : List Block) (n : ℕ) (b d : Block) (x y : ℕ) (old new : Option Colour) → n < length bs → b ≡ get_or bs n d → old ≡ last_block_fill (take n bs) x y → new ≡ or_else (block_fill b x y) old → new ≡ last_block_fill (take (n + 1) bs) x y
block-more bs n b d x y old new lt is o e =
    e ∙ ap (or_else (block_fill b x y)) o
    ∙ ap (λ c. or_else (block_fill c x y) (last_block_fill (take n bs) x y)) is
    ∙ sym (last-more bs n d x y lt)

-- one block more, which holds nothing there
pub block-passed : (bs : List Block) (n : ℕ) (b d : Block) (x y : ℕ) (old : Option Colour) → n < length bs → b ≡ get_or bs n d → old ≡ last_block_fill (take n bs) x y → block_holds b x y ≡ false → old ≡ last_block_fill (take (n + 1) bs) x y
block-passed bs n b d x y old lt is o out =
    block-more bs n b d x y old old lt is o (sym (ap (λ t. or_else (cond t (Some b.fill) None) old) out))

-- ---- the bytes of bands

-- the bytes after one band more
pub band-after : (f g : ℕ → ℕ → List ℕ) (n w first at next : ℕ) (start old new : List ℕ) → first ≤ at → at ≤ next → n ≡ w → old ≡ start ++ raster_of g w first (at - first) → new ≡ old ++ raster_of f n at (next - at) → ((x z : ℕ) → x < w → at ≤ z → z < next → f x z ≡ g x z) → new ≡ start ++ raster_of g w first (next - first)
band-after f g n w first at next start old new low le same o e agree =
    band-more g w first at next start old new (raster_of f n at (next - at)) low le o
    (ap (λ m. raster_of f m at (next - at)) same ∙ raster-agree f g w at (next - at) (λ x z p q r. agree x z p q (omega arith)))
    e

-- what keeps its beginning keeps the beginning of that
pub begins-kept : (start rest middle whole : List ℕ) → middle ≡ start ++ rest → take (length middle) whole ≡ middle → take (length start) whole ≡ start
begins-kept start rest middle whole e kept =
    let short : length start ≤ length middle = omega (arith, ap length e ∙ length-append start rest) in
    sym (take-take (length start) (length middle) whole short) ∙ ap (take (length start)) kept ∙ begins-same start rest middle e
