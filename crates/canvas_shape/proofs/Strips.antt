-- Edge flags of many rows.
use Rattle.canvas_shape.proofs.Sizes.{y-fits}
use Rattle.std.proofs.Common.{◌≡◌, ℕ, suc, ◌+◌, ◌<◌, ◌≤◌, ◌≢◌, List, ◌∷◌, length, get_or, slice_set, drop, ℤ, pos, ◌+ℤ◌, ◌-ℤ◌, ◌≤ℤ◌, ◌<ℤ◌, Bool, true, false, ◌&&◌, refl, sym, ap, ◌∙◌, arith, inl, inr, drop-cons, add-one, ◌*◌, FitsSigned, to_z, of_z, lt_of_lt_of_le}
use Rattle.std.specs.Prelude.{int_le, int_lt, nat_lt, cond}
use Rattle.std.specs.Int.{int_min, int_max, w64}
use Rattle.std.proofs.lemmas.Int.{ints, to_z-of_z}
use Rattle.std.proofs.lemmas.Bool.{cases_eq, cases_Bool, cases_lt, lt-ltb, le-ltb}
use Rattle.std.proofs.lemmas.List.{get_or-set_same, get_or-set_other}
use Rattle.std.proofs.Math.ListN.{drop_of_length-le}
use Rattle.canvas_plane.specs.declared.Point.{Point}
use Rattle.canvas_plane.specs.Motion.{not_same, size_of}
use Rattle.canvas_plane.specs.Window.{column_shown}
use Rattle.canvas_plane.specs.declared.windows.Window.{Window}
use Rattle.canvas_shape.specs.declared.edge_flags.EdgeFlags.{EdgeFlags}
use Rattle.canvas_shape.specs.Edges.{counts, crosses_row, is_right_of, is_odd_along}
use Rattle.canvas_shape.specs.Flags.{is_held}
use Rattle.canvas_shape.proofs.Edge.{lt_test-true, lt_test-false}
use Rattle.canvas_shape.proofs.Grids.{columns-from}
use Rattle.canvas_shape.proofs.Outside.{counts-left, counts-past}
use Rattle.canvas_shape.proofs.Odd.{same-false, not_same-assoc}

not-past : (a y m : ℤ) → m ≤ℤ a → int_lt y m ≡ true → int_le a y ≡ false
not-past a y m h e = grind (arith, ints)

past : (a y m : ℤ) → a ≤ℤ m → int_lt y m ≡ false → int_le a y ≡ true
past a y m h e = grind (arith, ints)

-- an edge counts nowhere above both its ends
above-none : (p q : Point) (x y m : ℤ) → m ≤ℤ p.y → m ≤ℤ q.y → int_lt y m ≡ true → counts p q x y ≡ false
above-none p q x y m hp hq e =
    ap (λ u. not_same u (int_le q.y y) && is_right_of p q x y) (not-past p.y y m hp e)
    ∙ ap (λ u. not_same false u && is_right_of p q x y) (not-past q.y y m hq e)

-- and nowhere below them
below-none : (p q : Point) (x y m : ℤ) → p.y ≤ℤ m → q.y ≤ℤ m → int_lt y m ≡ false → counts p q x y ≡ false
below-none p q x y m hp hq e =
    ap (λ u. not_same u (int_le q.y y) && is_right_of p q x y) (past p.y y m hp e)
    ∙ ap (λ u. not_same true u && is_right_of p q x y) (past q.y y m hq e)

ends-cross : (a b y least most : ℤ) → least ≡ a → most ≡ b → least ≤ℤ y → int_lt y most ≡ true → not_same (int_le a y) (int_le b y) ≡ true
ends-cross a b y least most ea eb h e = grind (arith, ints)

ends-cross-back : (a b y least most : ℤ) → least ≡ b → most ≡ a → least ≤ℤ y → int_lt y most ≡ true → not_same (int_le a y) (int_le b y) ≡ true
ends-cross-back a b y least most ea eb h e = grind (arith, ints)

and-false : (b : Bool) → (b && false) ≡ false
and-false true = refl
and-false false = refl

-- a row in which an edge counts nowhere is right as it is
pub kept-row : (old : List ℕ) (i width : ℕ) (c : Bool) → c ≡ false → is_held old i ≡ not_same (is_held old i) (nat_lt i width && c)
kept-row old i width c e = sym (ap (not_same (is_held old i)) (ap (λ b. nat_lt i width && b) e ∙ and-false (nat_lt i width)) ∙ same-false (is_held old i))

-- between its ends an edge crosses each row
pub crosses : (p q : Point) (y least most : ℤ) → least ≡ int_min p.y q.y → most ≡ int_max p.y q.y → int_lt y least ≡ false → int_lt y most ≡ true → crosses_row p q y ≡ true
crosses p q y least most el em h k = elim (cases_Bool (int_lt q.y p.y)) [
  | inl t ↦ ends-cross-back p.y q.y y least most (el ∙ ap (λ b. cond b q.y p.y) t) (em ∙ ap (λ b. cond b p.y q.y) t) (lt_test-false y least h) k
  | inr t ↦ ends-cross p.y q.y y least most (el ∙ ap (λ b. cond b q.y p.y) t) (em ∙ ap (λ b. cond b p.y q.y) t) (lt_test-false y least h) k
]

-- the rows above an edge
pub row-above : (p q : Point) (shown : ℕ → ℤ) (m x : ℤ) (old : List ℕ) (start count width j i : ℕ) → m ≤ℤ p.y → m ≤ℤ q.y → ((k : ℕ) → k < count → nat_lt k start ≡ int_lt (shown k) m) → j < start → j < count → is_held old i ≡ not_same (is_held old i) (nat_lt i width && counts p q x (shown j))
row-above p q shown m x old start count width j i hp hq place lt below =
    kept-row old i width (counts p q x (shown j)) (above-none p q x (shown j) m hp hq (sym (place j below) ∙ lt-ltb j start lt))

-- and the rows below it
pub row-below : (p q : Point) (shown : ℕ → ℤ) (m x : ℤ) (old : List ℕ) (end count width j i : ℕ) → p.y ≤ℤ m → q.y ≤ℤ m → ((k : ℕ) → k < count → nat_lt k end ≡ int_lt (shown k) m) → end ≤ j → j < count → is_held old i ≡ not_same (is_held old i) (nat_lt i width && counts p q x (shown j))
row-below p q shown m x old end count width j i hp hq place le below =
    kept-row old i width (counts p q x (shown j)) (below-none p q x (shown j) m hp hq (sym (place j below) ∙ le-ltb j end le))

-- the columns before a place are those of the window before a threshold
pub columns-before : (shown : ℕ → ℤ) (t : ℤ) (place width i : ℕ) → place ≤ width → ((k : ℕ) → k < width → nat_lt k place ≡ int_lt (shown k) t) → nat_lt i place ≡ (nat_lt i width && int_lt (shown i) t)
columns-before shown t place width i le h = elim (cases_lt i width) [
  | inl lt ↦ h i lt ∙ ap (λ b. b && int_lt (shown i) t) (sym (lt-ltb i width lt))
  | inr ge ↦ le-ltb i place (omega arith) ∙ ap (λ b. b && int_lt (shown i) t) (sym (le-ltb i width ge))
]

right-of : (a x : ℤ) → x <ℤ a → pos 0 ≤ℤ (a -ℤ x -ℤ pos 1)
right-of a x h = omega (arith, ints)

not-right-of : (a x : ℤ) → a ≤ℤ x → ((a -ℤ x -ℤ pos 1) +ℤ pos 1) ≤ℤ pos 0
not-right-of a x h = omega (arith, ints)

no-later : (a left x : ℤ) → a ≤ℤ left → left ≤ℤ x → a ≤ℤ x
no-later a left x h k = omega (arith, ints)

-- a row is right as it is if all columns lie to the right of both ends
pub column-right : (p q : Point) (y : ℤ) (window : Window) (old : List ℕ) (i : ℕ) → p.x ≤ℤ column_shown window 0 → q.x ≤ℤ column_shown window 0 → is_held old i ≡ not_same (is_held old i) (nat_lt i window.w && counts p q (column_shown window i) y)
column-right p q y window old i hp hq =
    let x = column_shown window i in
    kept-row old i window.w (counts p q x y) (counts-past p q x y (not-right-of p.x x (no-later p.x _ x hp (columns-from window i))) (not-right-of q.x x (no-later q.x _ x hq (columns-from window i))))

-- in a row that it crosses, an edge counts in all columns to the left of both ends
pub columns-left : (p q : Point) (shown : ℕ → ℤ) (y : ℤ) (width i : ℕ) → crosses_row p q y ≡ true → ((k : ℕ) → k < width → (shown k <ℤ p.x) × (shown k <ℤ q.x)) → nat_lt i width ≡ (nat_lt i width && counts p q (shown i) y)
columns-left p q shown y width i cross left = elim (cases_lt i width) [
  | inl lt ↦
      lt-ltb i width lt
      ∙ sym (ap (λ b. b && counts p q (shown i) y) (lt-ltb i width lt) ∙ counts-left p q (shown i) y (right-of p.x (shown i) (left i lt).0) (right-of q.x (shown i) (left i lt).1) ∙ cross)
  | inr ge ↦ le-ltb i width ge ∙ sym (ap (λ b. b && counts p q (shown i) y) (le-ltb i width ge))
]

-- the threshold of an edge lies between its ends
pub between-ends : (p q : Point) (y left right t : ℤ) → crosses_row p q y ≡ true → ((x : ℤ) → counts p q x y ≡ int_lt x t) → (left <ℤ p.x) × (p.x ≤ℤ right) → (left <ℤ q.x) × (q.x ≤ℤ right) → (left <ℤ t) × (t ≤ℤ right)
between-ends p q y left right t c h hp hq = (
  lt_test-true left t (sym (h left) ∙ counts-left p q left y (right-of p.x left hp.0) (right-of q.x left hq.0) ∙ c),
  lt_test-false right t (sym (h right) ∙ counts-past p q right y (not-right-of p.x right hp.1) (not-right-of q.x right hq.1)),
)

-- one more row is flagged
pub rows-step : (rows start : List EdgeFlags) (new : EdgeFlags) (f : ℕ → ℕ → Bool) (k : ℕ) → k < length rows → ((d : EdgeFlags) (i : ℕ) → is_held new.words i ≡ not_same (is_held (get_or start k d).words i) (f k i)) → ((j i : ℕ) (d : EdgeFlags) → j < k → is_held (get_or rows j d).words i ≡ not_same (is_held (get_or start j d).words i) (f j i)) → (j i : ℕ) (d : EdgeFlags) → j < k + 1 → is_held (get_or (slice_set rows k new) j d).words i ≡ not_same (is_held (get_or start j d).words i) (f j i)
rows-step rows start new f k lt here before j i d le = elim (cases_eq j k) [
  | inl e ↦
      ap (λ n. is_held (get_or (slice_set rows k new) n d).words i) e ∙ ap (λ r. is_held r.words i) (get_or-set_same rows k new d lt) ∙ here d i
      ∙ ap (λ n. not_same (is_held (get_or start n d).words i) (f n i)) (sym e)
  | inr ne ↦ ap (λ r. is_held r.words i) (get_or-set_other rows k j new d ne) ∙ before j i d (omega arith)
]

-- the rows after it are as they were
pub rows-after : (rows start : List EdgeFlags) (new : EdgeFlags) (k : ℕ) → ((j : ℕ) (d : EdgeFlags) → k ≤ j → get_or rows j d ≡ get_or start j d) → (j : ℕ) (d : EdgeFlags) → k + 1 ≤ j → get_or (slice_set rows k new) j d ≡ get_or start j d
rows-after rows start new k after j d le = let ne : j ≢ k = λ e. omega arith in get_or-set_other rows k j new d ne ∙ after j d (omega arith)

-- rows that are cleared
pub cleared-step : (rows : List EdgeFlags) (new : EdgeFlags) (k : ℕ) → k < length rows → ((i : ℕ) → is_held new.words i ≡ false) → ((j i : ℕ) (d : EdgeFlags) → j < k → is_held (get_or rows j d).words i ≡ false) → (j i : ℕ) (d : EdgeFlags) → j < k + 1 → is_held (get_or (slice_set rows k new) j d).words i ≡ false
cleared-step rows new k lt here before j i d le = elim (cases_eq j k) [
  | inl e ↦ ap (λ n. is_held (get_or (slice_set rows k new) n d).words i) e ∙ ap (λ r. is_held r.words i) (get_or-set_same rows k new d lt) ∙ here i
  | inr ne ↦ ap (λ r. is_held r.words i) (get_or-set_other rows k j new d ne) ∙ before j i d (omega arith)
]

both-in : (a w c r : Bool) → not_same (not_same a (w && c)) (w && r) ≡ not_same a (w && not_same c r)
both-in a true c r = sym (not_same-assoc a c r)
both-in true false c r = refl
both-in false false c r = refl

-- a step along the edges, of one column of a row
pub edge-step : (a new w b : Bool) (p q d : Point) (points : List Point) (k : ℕ) (x y : ℤ) → k < length points → q ≡ get_or points k d → new ≡ not_same a (w && counts p q x y) → not_same a (w && is_odd_along p (drop k points) x y) ≡ b → not_same new (w && is_odd_along q (drop (k + 1) points) x y) ≡ b
edge-step a new w b p q d points k x y lt eq en h =
    let e : drop k points ≡ q ∷ drop (k + 1) points = drop-cons points k d lt ∙ ap (λ z. z ∷ drop (suc k) points) (sym eq) ∙ ap (λ n. q ∷ drop n points) (sym (add-one k)) in
    ap (λ u. not_same u (w && is_odd_along q (drop (k + 1) points) x y)) en
    ∙ both-in a w (counts p q x y) (is_odd_along q (drop (k + 1) points) x y)
    ∙ ap (λ l. not_same a (w && is_odd_along p l x y)) (sym e) ∙ h

-- after the last edge
pub edge-done : (a w b : Bool) (p : Point) (points : List Point) (k : ℕ) (x y : ℤ) → length points ≤ k → not_same a (w && is_odd_along p (drop k points) x y) ≡ b → a ≡ b
edge-done a w b p points k x y le h =
    sym (ap (λ l. not_same a (w && is_odd_along p l x y)) (drop_of_length-le points le) ∙ ap (not_same a) (and-false w) ∙ same-false a) ∙ h

-- a row from the first that is not above the edge to the last that is not below it
pub crosses-at : (p q : Point) (shown : ℕ → ℤ) (least most : ℤ) (start end count k : ℕ) → least ≡ int_min p.y q.y → most ≡ int_max p.y q.y → ((j : ℕ) → j < count → nat_lt j start ≡ int_lt (shown j) least) → ((j : ℕ) → j < count → nat_lt j end ≡ int_lt (shown j) most) → start ≤ k → k < end → k < count → crosses_row p q (shown k) ≡ true
crosses-at p q shown least most start end count k el em above below le lt inside =
    crosses p q (shown k) least most el em (sym (above k inside) ∙ le-ltb k start le) (sym (below k inside) ∙ lt-ltb k end lt)

min-words : (a b : ℤ) → FitsSigned w64 a → FitsSigned w64 b → int_min (to_z w64 (of_z w64 a)) (to_z w64 (of_z w64 b)) ≡ int_min a b
min-words a b fa fb = ap (λ z. int_min z (to_z w64 (of_z w64 b))) (to_z-of_z w64 a fa) ∙ ap (int_min a) (to_z-of_z w64 b fb)

max-words : (a b : ℤ) → FitsSigned w64 a → FitsSigned w64 b → int_max (to_z w64 (of_z w64 a)) (to_z w64 (of_z w64 b)) ≡ int_max a b
max-words a b fa fb = ap (λ z. int_max z (to_z w64 (of_z w64 b))) (to_z-of_z w64 a fa) ∙ ap (int_max a) (to_z-of_z w64 b fb)

-- the rows before a place that is read from a word
pub rows-read : (shown : ℕ → ℤ) (m : ℤ) (start count : ℕ) → FitsSigned w64 m → ((j : ℕ) → j < count → nat_lt j start ≡ int_lt (shown j) (to_z w64 (of_z w64 m))) → (j : ℕ) → j < count → nat_lt j start ≡ int_lt (shown j) m
rows-read shown m start count fits before j lt = before j lt ∙ ap (int_lt (shown j)) (to_z-of_z w64 m fits)

pub crosses-words : (p q : Point) (shown : ℕ → ℤ) (least most : ℤ) (start end count k : ℕ) → size_of p ≤ 134217728 → size_of q ≤ 134217728 → FitsSigned w64 least → FitsSigned w64 most → least ≡ int_min (to_z w64 (of_z w64 p.y)) (to_z w64 (of_z w64 q.y)) → most ≡ int_max (to_z w64 (of_z w64 p.y)) (to_z w64 (of_z w64 q.y)) → ((j : ℕ) → j < count → nat_lt j start ≡ int_lt (shown j) (to_z w64 (of_z w64 least))) → ((j : ℕ) → j < count → nat_lt j end ≡ int_lt (shown j) (to_z w64 (of_z w64 most))) → start ≤ k → k < end → end ≤ count → crosses_row p q (shown k) ≡ true
crosses-words p q shown least most start end count k np nq fl fm el em above below le lt within =
    crosses-at p q shown least most start end count k (el ∙ min-words p.y q.y (y-fits p np) (y-fits q nq)) (em ∙ max-words p.y q.y (y-fits p np) (y-fits q nq))
    (rows-read shown least start count fl above) (rows-read shown most end count fm below) le lt (lt_of_lt_of_le lt within)

-- how far a line's place has gone
pub here-next : (w n k : ℕ) → w ≤ n + 68719476736 → n ≤ 4611686018427387904 + k * 68719476736 → w ≤ 4611686018427387904 + (k + 1) * 68719476736
here-next w n k h le = omega (arith, h, le)
