-- Steps of painting a row column by column.
use Rattle.std.proofs.Common.{◌≡◌, ℕ, ◌+◌, ◌-◌, ◌*◌, ◌/◌, ◌<◌, ◌≤◌, ◌≢◌, List, [], ◌∷◌, ◌++◌, Bool, true, false, ◌&&◌, cond, All, refl, sym, ap, ◌∙◌, arith, length, get_or, take, drop, Vec, Global, ⊎_elim, set, length-set, get_or-set_same, get_or-set_other, subst}
use Rattle.std.specs.Vec.{with_items}
use Rattle.std.proofs.Math.Seq.{map-set_same, take-append_seam}
use Rattle.std.proofs.lemmas.Bool.{cases_Bool, cases_eq, cases_lt}
use Rattle.std.proofs.lemmas.Bool.Decides.{nat_tests}
use Rattle.std.proofs.lemmas.List.{get_or-map}
use Rattle.canvas_shape.specs.Words.{has}
use Rattle.canvas_record.specs.Picture.{or_else, or_white}
use Rattle.canvas_paint.specs.Pictures.{raster_of}
use Rattle.canvas_paint.proofs.Raster.{raster-agree}
use Rattle.canvas_paint.specs.declared.active.Active.{Active}
use Rattle.canvas_paint.specs.declared.block.Block.{Block}
use Rattle.canvas_paint.specs.declared.column.Column.{Column}
use Rattle.canvas_paint.specs.Words.{covers, is_within, IsWord}
use Rattle.canvas_paint.specs.Blocks.{block_fill, last_block_fill, shown}
use Rattle.canvas_paint.specs.Columns.{AreColumns, IsChosen, IsColumn, IsNew, active_fill, blocks_in, fill_in, masked, masked_fill, shown_in}
use Rattle.canvas_paint.proofs.Painting.{covers-in}

-- ---- one column

-- the word of a row that was painted where it has changed
pub refreshed : (base y : ℕ) (row new : List (List ℕ)) (mid active : List Active) (column : Column) (pixels : ℕ) → column.active.items ≡ active → length new ≡ length row → column.until ≤ column.end → IsChosen (length row) column.blocks.items mid base y column.end → IsWord column.inside (λ i. is_within 0 (base + i) (length row)) → ((i z : ℕ) → active_fill base active i z ≡ active_fill base mid i z) → ((i z : ℕ) → i < 64 → y ≤ z → z < column.until → masked_fill active i ≡ active_fill base active i z) → ((k : ℕ) (d : List ℕ) → k < length row → get_or new k d ≡ cond (covers base pixels k) (masked active (k - base)) (get_or row k d)) → ((i : ℕ) (d : List ℕ) → i < 64 → base + i < length row → has pixels i ≡ false → get_or row (base + i) d ≡ masked active i) → IsColumn base new column y
refreshed base y row new mid active column pixels same-active long most chosen inside kept exact put rest =
    let shows : (i : ℕ) (d : List ℕ) → i < 64 → base + i < length row → get_or new (base + i) d ≡ masked active i = λ i d small lt.
    let at : base + i - base ≡ i = omega arith in
    put (base + i) d lt ∙ ap (λ t. cond t (masked active (base + i - base)) (get_or row (base + i) d)) (covers-in base pixels i small)
    ∙ ⊎_elim
    (λ (on : has pixels i ≡ true). ap (λ t. cond t (masked active (base + i - base)) (get_or row (base + i) d)) on ∙ ap (masked active) at)
    (λ (off : has pixels i ≡ false). ap (λ t. cond t (masked active (base + i - base)) (get_or row (base + i) d)) off ∙ rest i d small lt off)
    (cases_Bool (has pixels i)) in
    record {
      chosen = λ i j small lt p q. ap (λ l. active_fill base l i j) same-active ∙ kept i j ∙ chosen i j small (omega arith) p q;
      inside = λ before i small. inside i small ∙ ap (is_within 0 (base + i)) (sym long);
      masks = λ before i d small lt. shows i d small (omega arith) ∙ ap (λ l. masked l i) (sym same-active);
      painted = λ x z d low high lt p q.
          let i = x - base in
          let same : base + i ≡ x = omega arith in
          let small : i < 64 = omega arith in
          let within : base + i < length row = omega arith in
          ap (λ n. get_or new n d) (sym same)
          ∙ shows i d small within
          ∙ ap (λ o. (or_white o).0) (exact i z small p q ∙ kept i z ∙ chosen i z small within p (omega arith))
          ∙ ap (λ n. shown column.blocks.items n z) same;
    }

-- a list of as many elements, put into a Vec
pub items-put : {X : Type 0} (v : Vec X Global) (xs : List X) → length xs ≡ v.len → (with_items v xs).items ≡ xs
items-put v xs long = ap (λ n. take n (xs ++ drop (length xs) v.items)) (sym long) ∙ take-append_seam xs (drop (length xs) v.items)

both-false : (p q : Bool) → p ≡ true → (p && q) ≡ false → q ≡ false
both-false true q e f = f
both-false false q e f = cc

inside-true : (x n : ℕ) → x < n → is_within 0 x n ≡ true
inside-true x n lt = grind (arith, nat_tests)

-- a pixel of the row is not unchanged where all are to be painted
pub none-unchanged : (base all i width : ℕ) → base + i < width → has all i ≡ is_within 0 (base + i) width → has all i ≡ false → ⊥
none-unchanged base all i width lt e off = let z : true ≡ false = sym (inside-true (base + i) width lt) ∙ sym e ∙ off in cc

-- one that is unchanged is none of the changed ones
pub unchanged : (base all pixels both i width : ℕ) → base + i < width → has all i ≡ is_within 0 (base + i) width → has both i ≡ (has all i && has pixels i) → has both i ≡ false → has pixels i ≡ false
unchanged base all pixels both i width lt e f off = both-false (has all i) (has pixels i) (e ∙ inside-true (base + i) width lt) (sym f ∙ off)

-- ---- the columns of a row

-- what holds from a row on holds from the next one on
later-column : (base : ℕ) (row : List (List ℕ)) (column : Column) (y : ℕ) → IsColumn base row column y → IsColumn base row column (y + 1)
later-column base row column y h = record {
  chosen = λ i j a b p q. h.chosen i j a b (omega arith) q;
  inside = λ before. h.inside (omega arith);
  masks = λ before i d a b. h.masks (omega arith) i d a b;
  painted = λ x z d a b c p q. h.painted x z d a b c (omega arith) q;
}

pub later-columns : (row : List (List ℕ)) (columns : List Column) (y : ℕ) → AreColumns row columns y → AreColumns row columns (y + 1)
later-columns row columns y h = λ k d lt. later-column (64 * k) row (get_or columns k d) y (h k d lt)

-- another row of pixels that is the same in the columns of the word
pub same-row : (base : ℕ) (row new : List (List ℕ)) (column : Column) (y : ℕ) → length new ≡ length row → ((x : ℕ) (d : List ℕ) → base ≤ x → x < base + 64 → x < length row → get_or new x d ≡ get_or row x d) → IsColumn base row column y → IsColumn base new column y
same-row base row new column y long same h = record {
  chosen = λ i j a b p q. h.chosen i j a (omega arith) p q;
  inside = λ before i small. h.inside before i small ∙ ap (is_within 0 (base + i)) (sym long);
  masks = λ before i d a b. same (base + i) d (omega arith) (omega arith) (omega arith) ∙ h.masks before i d a (omega arith);
  painted = λ x z d a b c p q. same x d a b (omega arith) ∙ h.painted x z d a b (omega arith) p q;
}

-- columns of which no row was painted
pub new-columns : (row : List (List ℕ)) (columns : List Column) (y : ℕ) → length columns ≡ 4 → All IsNew columns → AreColumns row columns y
new-columns row columns y four new = λ k d lt.
    let h = new k d (omega arith) in
    record {
      chosen = λ i j a b p q. absurd (omega (arith, h.0));
      inside = λ before i small. absurd (omega (arith, h.0));
      masks = λ before i d a b. absurd (omega (arith, h.0));
      painted = λ x z e a b c p q. absurd (omega (arith, h.1));
    }

-- a word painted anew
pub column-painted : (row new : List (List ℕ)) (columns : List Column) (column : Column) (y k : ℕ) → k < 4 → length columns ≡ 4 → length new ≡ length row → ((x : ℕ) (d : List ℕ) → x < length row → is_within (64 * k) x (64 * k + 64) ≡ false → get_or new x d ≡ get_or row x d) → IsColumn (64 * k) new column y → AreColumns row columns y → AreColumns new (set columns k column) y
column-painted row new columns column y k lt four long outside painted kept = λ j d jlt.
    ⊎_elim
    (λ (e : j ≡ k).
    let at : get_or (set columns k column) j d ≡ column = ap (λ m. get_or (set columns k column) m d) e ∙ get_or-set_same columns k column d (omega arith) in
    subst (λ c. IsColumn (64 * j) new c y) (sym at) (subst (λ m. IsColumn (64 * m) new column y) (sym e) painted))
    (λ (ne : j ≢ k).
    let at : get_or (set columns k column) j d ≡ get_or columns j d = get_or-set_other columns k j column d ne in
    subst (λ c. IsColumn (64 * j) new c y) (sym at)
    (same-row (64 * j) row new (get_or columns j d) y long
    (λ x e low high inside. let apart : is_within (64 * k) x (64 * k + 64) ≡ false = grind (arith, nat_tests) in outside x e inside apart)
    (kept j d jlt)))
    (cases_eq j k)

-- the words that look the same past a row, after one more
pub live-more : (columns : List Column) (column : Column) (y k : ℕ) → k < length columns → y < column.until → ((j : ℕ) (d : Column) → j < k → y < (get_or columns j d).until) → (j : ℕ) (d : Column) → j < k + 1 → y < (get_or (set columns k column) j d).until
live-more columns column y k lt high live j d below =
    ⊎_elim
    (λ (e : j ≡ k).
    let at : get_or (set columns k column) j d ≡ column = ap (λ m. get_or (set columns k column) m d) e ∙ get_or-set_same columns k column d lt in
    subst (λ c. y < c.until) (sym at) high)
    (λ (ne : j ≢ k). subst (λ c. y < c.until) (sym (get_or-set_other columns k j column d ne)) (live j d (omega arith)))
    (cases_eq j k)

-- the blocks of the columns, where one more has the blocks that it had
pub same-blocks : (columns old : List Column) (a column : Column) (k : ℕ) → column.blocks.items ≡ (get_or columns k a).blocks.items → blocks_in columns ≡ blocks_in old → blocks_in (set columns k column) ≡ blocks_in old
same-blocks columns old a column k e h = map-set_same (λ c. c.blocks.items) columns k column a e ∙ h

-- the pixel of a row whose words all look the same past it
pub row-fresh : (row : List (List ℕ)) (columns : List Column) (y k : ℕ) → length columns ≡ 4 → 4 ≤ k → length row ≤ 256 → AreColumns row columns y → ((j : ℕ) (d : Column) → j < k → y < (get_or columns j d).until) → (x : ℕ) (d : List ℕ) → x < length row → get_or row x d ≡ shown_in (blocks_in columns) x y
row-fresh row [] y k four all narrow kept live x d lt = absurd (omega (arith, four))
row-fresh row (c ∷ cs) y k four all narrow kept live x d lt =
    let n = x / 64 in
    let h : n < 4 = omega arith in
    (kept n c h).painted x y d (omega arith) (omega arith) lt (omega arith) (live n c (omega arith))
    ∙ ap (λ bs. shown bs x y) (sym (get_or-map (λ c. c.blocks.items) (c ∷ cs) n c [] (omega arith)))

-- the bytes of a strip of rows so wide
pub before-end : (first end z : ℕ) → first ≤ z → z < first + (end - first) → z < end
before-end first end z low high = omega arith

pub strip-bytes : (f g : ℕ → ℕ → List ℕ) (n w first rows : ℕ) (start old out : List ℕ) → out ≡ old ++ raster_of f n first rows → old ≡ start → n ≡ w → ((x z : ℕ) → x < w → first ≤ z → z < first + rows → f x z ≡ g x z) → out ≡ start ++ raster_of g w first rows
strip-bytes f g n w first rows start old out e o same agree =
    e ∙ ap (λ l. l ++ raster_of f n first rows) o
    ∙ ap (λ m. start ++ raster_of f m first rows) same
    ∙ ap (λ l. start ++ l) (raster-agree f g w first rows agree)

-- ---- a block in front of the others

-- in the columns of the word, a column has the fills of another with a block in front
abbrev pub IsAdded : Block → ℕ → Column → Column → Type 0
IsAdded b base old new = (k j : ℕ) → base ≤ k → k < base + 64 → last_block_fill new.blocks.items k j ≡ or_else (block_fill b k j) (last_block_fill old.blocks.items k j)

-- so many columns have a block in front, and the others are as they were
pub record AreAdding (b : Block) (count : ℕ) (old columns : List Column) : Type 0 where
  pub new : All IsNew columns
  pub added : (k j : ℕ) (d : Column) → k < 64 * count → k < 256 → last_block_fill (get_or columns (k / 64) d).blocks.items k j ≡ or_else (block_fill b k j) (last_block_fill (get_or old (k / 64) d).blocks.items k j)
  pub rest : (k : ℕ) (d : Column) → count ≤ k → get_or columns k d ≡ get_or old k d

pub start-adding : (b : Block) (columns : List Column) → All IsNew columns → AreAdding b 0 columns columns
start-adding b columns new = record {
  new = new;
  added = λ k j d lt small. absurd (omega arith);
  rest = λ k d le. refl;
}

get_or-any : (columns : List Column) (k : ℕ) (d e : Column) → k < length columns → get_or columns k d ≡ get_or columns k e
get_or-any columns k d e lt = sym (get_or-map (λ c. c) columns k d d lt) ∙ get_or-map (λ c. c) columns k e d lt

pub more-added : (b : Block) (count : ℕ) (old columns : List Column) (a column : Column) → count < length columns → a ≡ get_or columns count a → IsAdded b (64 * count) a column → (IsNew a → IsNew column) → AreAdding b count old columns → AreAdding b (count + 1) old (set columns count column)
more-added b count old columns a column lt is front new h = record {
  new = λ k d below.
      ⊎_elim
      (λ (e : k ≡ count).
      let at : get_or (set columns count column) k d ≡ column = ap (λ m. get_or (set columns count column) m d) e ∙ get_or-set_same columns count column d lt in
      subst IsNew (sym at) (new (subst IsNew (sym is) (h.new count a lt))))
      (λ (ne : k ≢ count).
      subst IsNew (sym (get_or-set_other columns count k column d ne)) (h.new k d (omega (arith, below, length-set {A = Column}))))
      (cases_eq k count);
  added = λ k j d below small.
      ⊎_elim
      (λ (less : k < 64 * count).
      let ne : k / 64 ≢ count = omega arith in
      ap (λ c. last_block_fill c.blocks.items k j) (get_or-set_other columns count (k / 64) column d ne) ∙ h.added k j d less small)
      (λ (more : 64 * count ≤ k).
      let e : k / 64 ≡ count = omega arith in
      let at : get_or (set columns count column) (k / 64) d ≡ column = ap (λ m. get_or (set columns count column) m d) e ∙ get_or-set_same columns count column d lt in
      let was : a ≡ get_or old (k / 64) d = is ∙ get_or-any columns count a d lt ∙ h.rest count d (omega arith) ∙ ap (λ m. get_or old m d) (sym e) in
      ap (λ c. last_block_fill c.blocks.items k j) at
      ∙ front k j more (omega arith)
      ∙ ap (λ c. or_else (block_fill b k j) (last_block_fill c.blocks.items k j)) was)
      (cases_lt k (64 * count));
  rest = λ k d le.
      let ne : k ≢ count = omega arith in
      get_or-set_other columns count k column d ne ∙ h.rest k d (omega arith);
}

-- all columns have the block in front
pub all-added : (b : Block) (count : ℕ) (old columns : List Column) → length old ≡ 4 → length columns ≡ 4 → 4 ≤ count → AreAdding b count old columns → (k j : ℕ) → k < 256 → fill_in (blocks_in columns) k j ≡ or_else (block_fill b k j) (fill_in (blocks_in old) k j)
all-added b count old [] four four2 all h k j lt = absurd (omega (arith, four2))
all-added b count old (c ∷ cs) four four2 all h k j lt =
    let n = k / 64 in
    let below : n < 4 = omega arith in
    ap (λ bs. last_block_fill bs k j) (get_or-map (λ c. c.blocks.items) (c ∷ cs) n c [] (omega arith))
    ∙ h.added k j c (omega arith) lt
    ∙ ap (λ bs. or_else (block_fill b k j) (last_block_fill bs k j)) (sym (get_or-map (λ c. c.blocks.items) old n c [] (omega arith)))
