-- Records by place and their bounds, as one list is read and changed.
use Rattle.std.proofs.Common.{◌≡◌, ℕ, suc, ◌+◌, ◌-◌, ◌<◌, ◌≤◌, List, [], ◌∷◌, ◌++◌, Bool, true, false, Result, Ok, Err, OnOk, OnErr, cond, ap, sym, subst, ◌∙◌, arith, map, length, get_or, set, take, drop}
use Rattle.std.specs.List.{AllWithin, insert, remove, take-map, drop-map}
use Rattle.std.specs.Result.{is_ok}
use Rattle.std.specs.List.Sorted.{IsPartitionPoint, IsPartitionedBy}
use Rattle.std.proofs.Math.ListN.{get_or-map}
use Rattle.std.proofs.lemmas.List as list
use Rattle.std.proofs.lemmas.List.{append_assoc, drop-drop, length-map, map-append, map-set, take-append-drop}
use Rattle.canvas_list.specs.declared.in_place.ItemChange.{ItemChange}
use Rattle.canvas_list.specs.declared.in_place.ItemChange.TheVariants.{Replace, Remove, Insert}
use Rattle.canvas_list.specs.Changed.{changed_if, IsPositionOf}
use Rattle.canvas_doc.specs.declared.bounds.Bounds.{Bounds}
use Rattle.canvas_doc.specs.declared.placed_shapes.PlacedShape.{PlacedShape}
use Rattle.canvas_record.specs.declared.records.Record.{Record}
use Rattle.canvas_doc.specs.Placements.{Placements, bounds_change, placements_of, shape_change}

abbrev pub shape_of : PlacedShape → Record
shape_of placed = placed.shape

abbrev pub bounds_of : PlacedShape → Bounds
bounds_of placed = placed.bounds

-- ---- one list of pairs, of which each part is seen

pub some-in : {X : Type 0} (xs : List X) (at : ℕ) → at < length xs → X
some-in [] at h = absurd (omega arith)
some-in (x ∷ xs) at h = x

module _ {X : Type 0} {Y : Type 0} (f : X → Y) where
  pub map-insert : (xs : List X) (at : ℕ) (x : X) → map f (insert xs at x) ≡ insert (map f xs) at (f x)
  map-insert xs at x =
      map-append f (take at xs) (x ∷ drop at xs)
      ∙ ap (λ l. l ++ f x ∷ map f (drop at xs)) (sym (take-map f at xs))
      ∙ ap (λ l. take at (map f xs) ++ f x ∷ l) (sym (drop-map f at xs))

  pub map-remove : (xs : List X) (at : ℕ) → map f (remove xs at) ≡ remove (map f xs) at
  map-remove xs at =
      map-append f (take at xs) (drop (suc at) xs)
      ∙ ap (λ l. l ++ map f (drop (suc at) xs)) (sym (take-map f at xs))
      ∙ ap (λ l. take at (map f xs) ++ l) (sym (drop-map f (suc at) xs))

  pub map-splice : (xs ys : List X) (first end : ℕ) → map f (take first xs ++ ys ++ drop end xs) ≡ take first (map f xs) ++ map f ys ++ drop end (map f xs)
  map-splice xs ys first end =
      map-append f (take first xs ++ ys) (drop end xs)
      ∙ ap (λ l. l ++ map f (drop end xs)) (map-append f (take first xs) ys ∙ ap (λ l. l ++ map f ys) (sym (take-map f first xs)))
      ∙ ap (λ l. take first (map f xs) ++ map f ys ++ l) (sym (drop-map f end xs))

  pub map-read : (xs : List X) (at : ℕ) (x : X) → x ≡ get_or xs at x → f x ≡ get_or (map f xs) at (f x)
  map-read xs at x e = ap f e ∙ sym (get_or-map f xs at x)

  pub map-parted : (q : Y → Bool) (xs : List X) → IsPartitionedBy q (map f xs) → IsPartitionedBy (λ x. q (f x)) xs
  map-parted q xs h i j d low b passed =
      let long : length (map f xs) ≡ length xs = length-map xs f in
      ap q (sym (get_or-map f xs i d)) ∙ h i j (f d) low (omega arith) (ap q (get_or-map f xs j d) ∙ passed)

  -- what holds within the first list holds within the other
  map-within : (P : Y → Type 0) (xs : List X) (low high : ℕ) → high ≤ length xs → AllWithin (λ x. P (f x)) xs low high → AllWithin P (map f xs) low high
  map-within P xs low high b h k d from below =
      let within : k < length xs = omega arith in
      let x : X = some-in xs k within in
      subst P (sym (list.get_or-map f xs k x d within)) (h k x from below)

  pub map-point : (q : Y → Bool) (xs : List X) (at : ℕ) → at ≤ length xs → IsPartitionPoint (λ x. q (f x) ≡ true) (λ x. q (f x) ≡ false) xs at → IsPartitionPoint (λ y. q y ≡ true) (λ y. q y ≡ false) (map f xs) at
  map-point q xs at b h = (
    map-within (λ y. q y ≡ true) xs 0 at b h.0,
    subst (λ n. AllWithin (λ y. q y ≡ false) (map f xs) at n) (sym (length-map xs f)) (map-within (λ y. q y ≡ false) xs at (length xs) (omega arith) h.1),
  )

-- a list in three parts
pub parts-whole : {A : Type 0} (xs : List A) (first end : ℕ) → first ≤ end → take first xs ++ take (end - first) (drop first xs) ++ drop end xs ≡ xs
parts-whole xs first end h =
    let all : first + (end - first) ≡ end = omega arith in
    ap (λ l. take first xs ++ take (end - first) (drop first xs) ++ l) (ap (λ n. drop n xs) (sym all) ∙ sym (drop-drop (end - first) first xs))
    ∙ append_assoc (take first xs) (take (end - first) (drop first xs)) (drop (end - first) (drop first xs))
    ∙ ap (λ l. take first xs ++ l) (take-append-drop (end - first) (drop first xs))
    ∙ take-append-drop first xs

-- ---- records by place and their bounds

module _ (all : List PlacedShape) (p : Placements) (is : placements_of all ≡ p) where
  pub shapes-are : map shape_of all ≡ p.shapes
  shapes-are = ap (λ (q : Placements). q.shapes) is

  pub bounds-are : map bounds_of all ≡ p.bounds
  bounds-are = ap (λ (q : Placements). q.bounds) is

  pub long : length all ≡ length p.shapes
  long = sym (length-map all shape_of) ∙ ap length shapes-are

  pub long-bounds : length p.bounds ≡ length p.shapes
  long-bounds = ap length (sym bounds-are) ∙ length-map all bounds_of ∙ long

  -- what is read at a position
  pub shape-at : (at : ℕ) (x : PlacedShape) → x ≡ get_or all at x → x.shape ≡ get_or p.shapes at x.shape
  shape-at at x e = map-read shape_of all at x e ∙ ap (λ l. get_or l at x.shape) shapes-are

  pub bounds-at : (at : ℕ) (x : PlacedShape) → x ≡ get_or all at x → x.bounds ≡ get_or p.bounds at x.bounds
  bounds-at at x e = map-read bounds_of all at x e ∙ ap (λ l. get_or l at x.bounds) bounds-are

  -- where a test of records parts them
  pub point : (q : Record → Bool) (at : ℕ) → at ≤ length all → (IsPartitionedBy (λ x. q (shape_of x)) all → IsPartitionPoint (λ x. q (shape_of x) ≡ true) (λ x. q (shape_of x) ≡ false) all at)
      → IsPartitionedBy q p.shapes → IsPartitionPoint (λ r. q r ≡ true) (λ r. q r ≡ false) p.shapes at
  point q at b found parted =
      subst (λ l. IsPartitionPoint (λ r. q r ≡ true) (λ r. q r ≡ false) l at) shapes-are
      (map-point shape_of q all at b (found (map-parted shape_of q all (subst (IsPartitionedBy q) (sym shapes-are) parted))))

-- ---- a change

-- more of what a call made
pub on-ok : {T E P Q : Type 0} (r : Result T E) → (P → Q) → OnOk r P → OnOk r Q
on-ok (Ok t) f h = f h
on-ok (Err e) f h = h

-- what a call made, or left
pub if-made : {X T E : Type 0} (r : Result T E) (new after before : X) → OnOk r (new ≡ after) → OnErr r (new ≡ before) → new ≡ cond (is_ok r) after before
if-made (Ok t) new after before made same = made
if-made (Err e) new after before made same = same

pub place-changed : (list : List PlacedShape) (all : Placements) (at : ℕ) (ch : ItemChange PlacedShape) → placements_of list ≡ all → IsPositionOf (shape_change ch) at all.shapes → IsPositionOf ch at list
place-changed list all at (Replace placed) e h = omega (arith, length-map list shape_of, ap length (shapes-are list all e))
place-changed list all at Remove e h = omega (arith, length-map list shape_of, ap length (shapes-are list all e))
place-changed list all at (Insert placed) e h = (omega (arith, h.0, length-map list shape_of, ap length (shapes-are list all e)), omega (arith, h.1, length-map list shape_of, ap length (shapes-are list all e)))

pub shapes-changed : (list new : List PlacedShape) (all : Placements) (at : ℕ) (ch : ItemChange PlacedShape) (made : Bool) → placements_of list ≡ all → new ≡ changed_if made ch at list → map shape_of new ≡ changed_if made (shape_change ch) at all.shapes
shapes-changed list new all at ch false e is = ap (map shape_of) is ∙ shapes-are list all e
shapes-changed list new all at (Replace placed) true e is = ap (map shape_of) is ∙ map-set shape_of list at placed ∙ ap (λ l. set l at placed.shape) (shapes-are list all e)
shapes-changed list new all at Remove true e is = ap (map shape_of) is ∙ map-remove shape_of list at ∙ ap (λ l. remove l at) (shapes-are list all e)
shapes-changed list new all at (Insert placed) true e is = ap (map shape_of) is ∙ map-insert shape_of list at placed ∙ ap (λ l. insert l at placed.shape) (shapes-are list all e)

pub bounds-changed : (list new : List PlacedShape) (all : Placements) (at : ℕ) (ch : ItemChange PlacedShape) (made : Bool) → placements_of list ≡ all → new ≡ changed_if made ch at list → map bounds_of new ≡ changed_if made (bounds_change ch) at all.bounds
bounds-changed list new all at ch false e is = ap (map bounds_of) is ∙ bounds-are list all e
bounds-changed list new all at (Replace placed) true e is = ap (map bounds_of) is ∙ map-set bounds_of list at placed ∙ ap (λ l. set l at placed.bounds) (bounds-are list all e)
bounds-changed list new all at Remove true e is = ap (map bounds_of) is ∙ map-remove bounds_of list at ∙ ap (λ l. remove l at) (bounds-are list all e)
bounds-changed list new all at (Insert placed) true e is = ap (map bounds_of) is ∙ map-insert bounds_of list at placed ∙ ap (λ l. insert l at placed.bounds) (bounds-are list all e)

-- ---- a move

pub shapes-moved : (list new : List PlacedShape) (all : Placements) (from to : ℕ) (placed : PlacedShape) (made : Bool) → placements_of list ≡ all → new ≡ cond made (insert (remove list from) to placed) list → map shape_of new ≡ cond made (insert (remove all.shapes from) to placed.shape) all.shapes
shapes-moved list new all from to placed false e is = ap (map shape_of) is ∙ shapes-are list all e
shapes-moved list new all from to placed true e is =
    ap (map shape_of) is ∙ map-insert shape_of (remove list from) to placed ∙ ap (λ l. insert l to placed.shape) (map-remove shape_of list from ∙ ap (λ l. remove l from) (shapes-are list all e))

pub bounds-moved : (list new : List PlacedShape) (all : Placements) (from to : ℕ) (placed : PlacedShape) (made : Bool) → placements_of list ≡ all → new ≡ cond made (insert (remove list from) to placed) list → map bounds_of new ≡ cond made (insert (remove all.bounds from) to placed.bounds) all.bounds
bounds-moved list new all from to placed false e is = ap (map bounds_of) is ∙ bounds-are list all e
bounds-moved list new all from to placed true e is =
    ap (map bounds_of) is ∙ map-insert bounds_of (remove list from) to placed ∙ ap (λ l. insert l to placed.bounds) (map-remove bounds_of list from ∙ ap (λ l. remove l from) (bounds-are list all e))
