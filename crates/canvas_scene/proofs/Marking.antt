-- Cells that are marked, and the pixels that lie in them.
use Rattle.std.proofs.Common.{◌≡◌, ◌≢◌, ◌⊎◌, ℕ, zero, suc, replicate, ◌+◌, ◌<◌, ◌≤◌, List, get_or, length, set, Bool, true, false, ◌&&◌, ◌||◌, refl, sym, ap, ◌∙◌, arith, inl, inr, subst}
use Rattle.std.specs.Prelude.{ℤ}
use Rattle.std.proofs.lemmas.List.{get_or-set_other, get_or-set_same}
use Rattle.canvas_plane.specs.declared.PageBox.{PageBox}
use Rattle.canvas_plane.specs.Page.{is_in}
use Rattle.canvas_shape.specs.Spans.{is_from_to}
use Rattle.canvas_scene.specs.declared.side.Side.{Side}
use Rattle.canvas_scene.specs.Cells.{is_marked}
use Rattle.canvas_scene.specs.Places.{cell_of, is_among, is_bit}
use Rattle.canvas_scene.proofs.Bits.{no-bit}
use Rattle.canvas_scene.proofs.Sides.{among, is-among}

-- the pixel lies on both sides, in a marked cell of these rows
abbrev pub covered : Side → Side → List ℕ → ℤ → ℤ → Bool
covered a d rows x y = (is_from_to a.start x a.end && is_from_to d.start y d.end) && is_marked rows (cell_of a.start a.shift x) (cell_of d.start d.shift y)

either-kept : (old more new : Bool) → (more ≡ true → (old || new) ≡ true) → (more || new) ≡ true → (old || new) ≡ true
either-kept old true new f h = f refl
either-kept true false new f h = refl
either-kept false false new f h = h

both : (p q : Bool) → (p && q) ≡ true → (p ≡ true) × (q ≡ true)
both true q h = (refl, h)
both false q h = cc

and : (p q : Bool) → p ≡ true → q ≡ true → (p && q) ≡ true
and true q e f = f
and false q e f = cc

same : (i j : ℕ) → (i ≡ j) ⊎ (i ≢ j)
same i j = grind arith

-- ---- marks of one row more

-- a row after it got the bits of a word
pub row-marked : (olds rows : List ℕ) (i first end row word : ℕ) → i < length rows → first ≤ i → i < end → ((k : ℕ) → is_bit row k ≡ (is_bit (get_or rows i 0) k || is_bit word k)) → ((column at : ℕ) → is_marked rows column at ≡ true → (is_marked olds column at || (is_among first end at && is_bit word column)) ≡ true) → (column at : ℕ) → is_marked (set rows i row) column at ≡ true → (is_marked olds column at || (is_among first end at && is_bit word column)) ≡ true
row-marked olds rows i first end row word inside low high bits before column at h = elim (same at i) [
  | inl e ↦
      let P : ℕ → Type 0 = λ a. (is_marked olds column a || (is_among first end a && is_bit word column)) ≡ true in
      let n : is_among first end i ≡ true = is-among first end i low high in
      let new : (is_marked rows column i || is_bit word column) ≡ true =
      sym (ap (λ r. is_bit r column) (get_or-set_same rows i row 0 inside) ∙ bits column) ∙ ap (λ a. is_marked (set rows i row) column a) (sym e) ∙ h in
      subst P (sym e) (either-kept (is_marked olds column i) (is_marked rows column i) (is_among first end i && is_bit word column) (before column i) (ap (λ b. is_marked rows column i || (b && is_bit word column)) n ∙ new))
  | inr d ↦ before column at (ap (λ r. is_bit r column) (sym (get_or-set_other rows i at row 0 d)) ∙ h)
]

marked-or-new : (inside old new part : Bool) → inside ≡ true → (old || new) ≡ true → (new ≡ true → part ≡ true) → ((inside && old) || part) ≡ true
marked-or-new true true new part e h f = refl
marked-or-new true false new part e h f = f h
marked-or-new false old new part e h f = cc

-- what rows cover that have a run's bits in a run of rows more
pub covered-more : (a d : Side) (olds rows : List ℕ) (part : PageBox) (word fa ea fd ed : ℕ) → ((column at : ℕ) → is_marked rows column at ≡ true → (is_marked olds column at || (is_among fd ed at && is_bit word column)) ≡ true) → ((k : ℕ) → is_bit word k ≡ is_among fa ea k) → ((x : ℤ) → is_from_to a.start x a.end ≡ true → is_among fa ea (cell_of a.start a.shift x) ≡ true → is_from_to part.left x part.right ≡ true) → ((y : ℤ) → is_from_to d.start y d.end ≡ true → is_among fd ed (cell_of d.start d.shift y) ≡ true → is_from_to part.top y part.bottom ≡ true) → (x y : ℤ) → covered a d rows x y ≡ true → (covered a d olds x y || is_in part x y) ≡ true
covered-more a d olds rows part word fa ea fd ed marks bits across down x y h =
    let column = cell_of a.start a.shift x in
    let row = cell_of d.start d.shift y in
    let inside = is_from_to a.start x a.end && is_from_to d.start y d.end in
    let parts = both inside (is_marked rows column row) h in
    let sides = both (is_from_to a.start x a.end) (is_from_to d.start y d.end) parts.0 in
    marked-or-new inside (is_marked olds column row) (is_among fd ed row && is_bit word column) (is_in part x y) parts.0 (marks column row parts.1)
    (λ new.
    let cell = both (is_among fd ed row) (is_bit word column) new in
    and (is_from_to part.left x part.right) (is_from_to part.top y part.bottom)
    (across x sides.0 (sym (bits column) ∙ cell.1))
    (down y sides.1 cell.0))

-- ---- cells that are all marked

-- one row more whose cells are
pub row-has_all : (rows : List ℕ) (first i word : ℕ) → ((k : ℕ) → is_bit word k ≡ true → is_bit (get_or rows i 0) k ≡ true) → ((column at : ℕ) → is_among first i at ≡ true → is_bit word column ≡ true → is_marked rows column at ≡ true) → (column at : ℕ) → is_among first (i + 1) at ≡ true → is_bit word column ≡ true → is_marked rows column at ≡ true
row-has_all rows first i word has before column at h b = elim (same at i) [
  | inl e ↦ ap (λ a. is_marked rows column a) e ∙ has column b
  | inr d ↦
      let bounds = among first (i + 1) at h in
      before column at (is-among first i at bounds.0 (grind (arith, d, bounds.1))) b
]

-- a box whose cells are all marked
pub covered-all : (a d : Side) (rows : List ℕ) (part : PageBox) (word fa ea fd ed past : ℕ) → ed ≤ past → ((column at : ℕ) → is_among fd past at ≡ true → is_bit word column ≡ true → is_marked rows column at ≡ true) → ((k : ℕ) → is_bit word k ≡ is_among fa ea k) → ((x : ℤ) → is_from_to a.start x a.end ≡ true → is_from_to part.left x part.right ≡ true → is_among fa ea (cell_of a.start a.shift x) ≡ true) → ((y : ℤ) → is_from_to d.start y d.end ≡ true → is_from_to part.top y part.bottom ≡ true → is_among fd ed (cell_of d.start d.shift y) ≡ true) → (x y : ℤ) → (is_from_to a.start x a.end && is_from_to d.start y d.end) ≡ true → is_in part x y ≡ true → covered a d rows x y ≡ true
covered-all a d rows part word fa ea fd ed past le marks bits across down x y inside h =
    let column = cell_of a.start a.shift x in
    let row = cell_of d.start d.shift y in
    let sides = both (is_from_to a.start x a.end) (is_from_to d.start y d.end) inside in
    let parts = both (is_from_to part.left x part.right) (is_from_to part.top y part.bottom) h in
    let at-column : is_among fa ea column ≡ true = across x sides.0 parts.0 in
    let at-row : is_among fd ed row ≡ true = down y sides.1 parts.1 in
    let bounds = among fd ed row at-row in
    and (is_from_to a.start x a.end && is_from_to d.start y d.end) (is_marked rows column row) inside
    (marks column row (is-among fd past row bounds.0 (omega (arith, le, bounds.1))) (bits column ∙ at-column))

-- ---- no cell is marked

none : (p q : Bool) → q ≡ false → (p && q) ≡ false
none true q e = e
none false q e = refl

pub none-covered : (a d : Side) (rows : List ℕ) (x y : ℤ) → ((column at : ℕ) → is_marked rows column at ≡ false) → covered a d rows x y ≡ false
none-covered a d rows x y h =
    let column = cell_of a.start a.shift x in
    let row = cell_of d.start d.shift y in
    none (is_from_to a.start x a.end && is_from_to d.start y d.end) (is_marked rows column row) (h column row)

zero-at : (n i : ℕ) → get_or (replicate n zero) i zero ≡ zero
zero-at zero i = refl
zero-at (suc n) zero = refl
zero-at (suc n) (suc i) = zero-at n i

pub unmarked : (n column at : ℕ) → is_marked (replicate n zero) column at ≡ false
unmarked n column at = ap (λ r. is_bit r column) (zero-at n at) ∙ no-bit column
