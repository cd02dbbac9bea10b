-- A table after an item went from one of its parts to another.
use Rattle.std.proofs.Common.{◌≡◌, ◌≢◌, ◌∙◌, ◌^◌, ℕ, Bool, true, false, cond, zero, suc, ◌+◌, ◌-◌, ◌<◌, ◌≤◌, List, [], ◌∷◌, ◌++◌, take, drop, slice_range, set, add-zero, refl, subst, sym, ap, inl, inr, arith, length, get_or}
use Rattle.std.specs.List.{insert, remove}
use Rattle.std.proofs.lemmas.Bool.{cases_lt}
use Rattle.std.proofs.lemmas.List.{append_assoc, drop-set-lt, get_or-drop, get_or-set_other, get_or-take, length-append, length-take-le, set-append_left, set-append_right, take-append-drop, take-append-le, take-set-le, take_all}
use Rattle.std.proofs.lemmas.List.Edits.{length-insert, length-remove}
use Rattle.std.proofs.lemmas.List.Elements.{All-set}
use Rattle.std.proofs.Math.ListN.{length-set}
use Rattle.canvas_list.specs.declared.in_place.ItemChange.TheVariants.{Remove, Insert}
use Rattle.canvas_list.specs.Changed.{changed_if}
use Rattle.canvas_list.specs.Chunks.{joined, IsSpot, IsTable}
use Rattle.canvas_list.proofs.Blocks.{of-block, one-part}
use Rattle.canvas_list.proofs.Ends.{chunk-unchanged}
use Rattle.canvas_list.proofs.InPlace.{other-part}
use Rattle.canvas_list.proofs.Joined.{fewer, joined-append, len-is, split_at}
use Rattle.canvas_list.proofs.Spliced.{inserted, is-part, moved, part-end, removed, IsIn, IsOfSpot, IsPart}

-- one of two numbers that are not the same is below the other
pub below : (i j : ℕ) → i ≤ j → i ≢ j → i < j
below i j h apart = elim (cases_lt i j) [ inl l ↦ l | inr l ↦ absurd (apart (omega arith)) ]

-- two changes at different positions, in either order
pub set-swap : {X : Type 0} (xs : List X) (i j : ℕ) (a b : X) → i ≢ j → set (set xs i a) j b ≡ set (set xs j b) i a
set-swap [] i j a b apart = refl
set-swap (x ∷ xs) zero zero a b apart = absurd (apart refl)
set-swap (x ∷ xs) zero (suc j) a b apart = refl
set-swap (x ∷ xs) (suc i) zero a b apart = refl
set-swap (x ∷ xs) (suc i) (suc j) a b apart = ap (λ l. x ∷ l) (set-swap xs i j a b (λ e. apart (ap suc e)))

-- one item changed in each of the two parts of a list
set-parted : {X : Type 0} (xs : List X) (i j : ℕ) (a b : X) → i < j → j < length xs → set (take j xs) i a ++ set (drop j xs) 0 b ≡ set (set xs i a) j b
set-parted xs i j a b h k =
    let front : length (take j xs) ≡ j = length-take-le j xs (omega arith) in
    let none : j - j ≡ 0 = omega arith in
    sym (ap (λ l. set (set l i a) j b) (sym (take-append-drop j xs))
    ∙ ap (λ l. set l j b) (set-append_left (take j xs) (drop j xs) i a (omega arith))
    ∙ set-append_right (set (take j xs) i a) (drop j xs) j j b (length-set (take j xs) i a ∙ front) (omega arith)
    ∙ ap (λ n. set (take j xs) i a ++ set (drop j xs) n b) none)

-- the parts that a table is cut into
pub record AreHalves {X : Type 0} (cs front back : List X) (b : ℕ) : Type 0 where
  pub before : front ≡ take b cs
  pub from : back ≡ drop b cs

pub halves : {X : Type 0} (cs rs front back : List X) (b : ℕ) → rs ≡ cs → front ≡ take b rs → back ≡ drop b rs → AreHalves cs front back b
halves cs rs front back b e before from = record { before = before ∙ ap (λ l. take b l) e; from = from ∙ ap (λ l. drop b l) e }

module _ {X : Type 0} (cs front back : List X) (b : ℕ) (parts : AreHalves cs front back b) where
  pub in-front : (i : ℕ) (x : X) → x ≡ get_or front i x → i < b → x ≡ get_or cs i x
  in-front i x e h = e ∙ ap (λ l. get_or l i x) parts.before ∙ get_or-take b cs i x h

  pub in-back : (x : X) → x ≡ get_or back 0 x → x ≡ get_or cs b x
  in-back x e = e ∙ ap (λ l. get_or l 0 x) parts.from ∙ get_or-drop b cs 0 x ∙ ap (λ i. get_or cs i x) (add-zero b)

  -- the table whose halves they are then
  pub changed-halves : (i : ℕ) (x y : X) → i < b → b < length cs → set front i x ++ set back 0 y ≡ set (set cs i x) b y
  changed-halves i x y h k =
      ap (λ l. set l i x ++ set back 0 y) parts.before ∙ ap (λ l. set (take b cs) i x ++ set l 0 y) parts.from ∙ set-parted cs i b x y h k

-- the parts that a table then has, as many as before
pub as-many : {X : Type 0} (cs rs : List X) (len i j : ℕ) (x y : X) → len ≡ length cs → rs ≡ cs → take len (set (set rs j y) i x ++ drop (length (set (set rs j y) i x)) cs) ≡ set (set cs j y) i x
as-many cs rs len i j x y long same =
    let all : length (set (set rs j y) i x) ≡ len = length-set (set rs j y) i x ∙ length-set rs j y ∙ ap length same ∙ sym long in
    take-append-le len (set (set rs j y) i x) (drop (length (set (set rs j y) i x)) cs) (omega arith)
    ∙ take_all len (set (set rs j y) i x) (omega arith)
    ∙ ap (λ l. set (set l j y) i x) same

-- how many items stand before a part and from it on
cut : {X : Type 0} (cs : List (List X)) (k : ℕ) → length (joined cs) ≡ length (joined (take k cs)) + length (joined (drop k cs))
cut cs k =
    ap (λ l. length (joined l)) (sym (take-append-drop k cs))
    ∙ ap length (joined-append (take k cs) (drop k cs))
    ∙ length-append (joined (take k cs)) (joined (drop k cs))

-- a position is a small number
pub to-small : {X : Type 0} (cs : List (List X)) (n : ℕ) (xs : List X) (to : ℕ) → IsTable cs n → joined cs ≡ xs → to < length xs → to < 2 ^ 32
to-small cs n xs to table all h = omega (arith, len-is cs n xs table all, table.is_small)

-- within one part
pub moved-within : {X : Type 0} (cs : List (List X)) (xs : List X) (k s from to : ℕ) (old new : List X) (item : X) → IsOfSpot cs xs k s from old → new ≡ insert (remove old (from - s)) (to - s) item → from < length xs → s ≤ to → to - s < length old → joined (set cs k new) ≡ insert (remove xs from) to item
moved-within cs xs k s from to old new item p e within low high =
    other-part cs k new p.within ∙ moved cs cs xs k (k + 1) s from to old new item p.part p.place refl e within low high

-- what is found of the part that an item leaves, and of the one where it comes to
pub record IsMove {X : Type 0} (cs : List (List X)) (xs : List X) (k s m t from to place : ℕ) (old goal : List X) : Type 0 where
  pub source : IsOfSpot cs xs k s from old
  pub target : IsOfSpot cs xs m t place goal
  pub was : old ≡ get_or cs k old
  pub is : goal ≡ get_or cs m goal
  pub from_within : from < length xs
  pub to_within : to < length xs
  pub behind : from < to → place ≡ to + 1
  pub before : to ≤ from → place ≡ to

pub is-move : {X : Type 0} (cs rs qs : List (List X)) (xs : List X) (n k s m t from to place : ℕ) (old goal : List X) → IsTable cs n → joined cs ≡ xs → rs ≡ cs → IsSpot length rs from k s → qs ≡ cs → IsSpot length qs place m t
    → old ≡ get_or cs k old → goal ≡ get_or cs m goal → from < length xs → to < length xs → (from < to → place ≡ to + 1) → (to ≤ from → place ≡ to) → IsMove cs xs k s m t from to place old goal
is-move cs rs qs xs n k s m t from to place old goal table all rs-are source qs-are target old-is goal-is within low up down = record {
  source = of-block cs rs xs n k s from old old table rs-are source all old-is refl;
  target = of-block cs qs xs n m t place goal goal table qs-are target all goal-is refl;
  is = goal-is;
  was = old-is;
  from_within = within;
  to_within = low;
  behind = up;
  before = down;
}

module _ {X : Type 0} (cs : List (List X)) (xs : List X) (k s m t from to place : ℕ) (old goal : List X) (move : IsMove cs xs k s m t from to place old goal) where
  place-near : place ≤ to + 1
  place-near = elim (cases_lt from to) [ inl up ↦ omega (arith, move.behind up) | inr down ↦ omega (arith, move.before (omega arith)) ]

  -- the parts are the same one
  pub same-part : k ≡ m → (s ≤ to) × (to - s < length old)
  same-part e =
      let start : s ≡ t = move.source.part.start ∙ ap (λ i. length (joined (take i cs))) e ∙ sym move.target.part.start in
      let long : length old ≡ length goal = ap length (move.source.part.items ∙ ap (λ i. joined (slice_range cs i (i + 1))) e ∙ sym move.target.part.items) in
      elim (cases_lt from to) [
        | inl up ↦
            (let at : place ≡ to + 1 = move.behind up in
            let room : place ≤ length xs → place - t ≤ length goal = move.target.place.behind in
            (omega (arith, move.source.place.from), omega (arith, room (omega (arith, move.to_within)))))
        | inr down ↦
            (let at : place ≡ to = move.before (omega arith) in
            (omega (arith, move.target.place.from), omega (arith, move.source.place.from, move.source.place.before move.from_within)))
      ]

  -- the items after a move within one part, if it was made
  pub items-within : (made : Bool) (new : List X) (item : X) → k ≡ m → new ≡ cond made (insert (remove old (from - s)) (to - s) item) old → joined (set cs k new) ≡ cond made (insert (remove xs from) to item) xs
  items-within true new item e in_ =
      let place : (s ≤ to) × (to - s < length old) = same-part e in
      moved-within cs xs k s from to old new item move.source in_ move.from_within place.0 place.1
  items-within false new item e in_ =
      other-part cs k new move.source.within
      ∙ ap (λ l. joined (take k cs) ++ l ++ joined (drop (k + 1) cs)) (in_ ∙ move.was)
      ∙ append_assoc (joined (take k cs)) (get_or cs k old) (joined (drop (k + 1) cs))
      ∙ sym (split_at cs k old move.source.within)
      ∙ move.source.part.all

  -- the part has as many items as before
  long-within : (made : Bool) (new : List X) (item : X) → k ≡ m → new ≡ cond made (insert (remove old (from - s)) (to - s) item) old → length new ≡ length old
  long-within true new item e in_ =
      let place : (s ≤ to) × (to - s < length old) = same-part e in
      let inside : from - s < length old = move.source.place.before move.from_within in
      let less : length (remove old (from - s)) + 1 ≡ length old = omega (arith, length-remove old (from - s) inside, inside) in
      omega (arith, ap length in_, length-insert (remove old (from - s)) (to - s) item (omega (arith, less, place.1)), less)
  long-within false new item e in_ = ap length in_

  all-long : (made : Bool) (item : X) → length (cond made (insert (remove xs from) to item) xs) ≡ length xs
  all-long true item = omega (arith, length-insert (remove xs from) to item (omega (arith, length-remove xs from move.from_within, move.to_within)), length-remove xs from move.from_within, move.from_within)
  all-long false item = refl

  pub table-within : (made : Bool) (n : ℕ) (new : List X) (item : X) → IsTable cs n → k ≡ m → new ≡ cond made (insert (remove old (from - s)) (to - s) item) old → IsTable (set cs k new) n
  table-within made n new item table e in_ =
      let has : List X → Type 0 = λ d. 0 < length d in
      let inside : from - s < length old = move.source.place.before move.from_within in
      record {
        some = All-set has cs k new (omega (arith, long-within made new item e in_)) table.some;
        has_len = len-is cs n xs table move.source.part.all ∙ sym (all-long made item) ∙ ap length (sym (items-within made new item e in_));
        is_small = table.is_small;
      }

  -- the part that the item left, and the list without it
  module _ (left : List X) (out : left ≡ remove old (from - s)) where
    less : joined (set cs k left) ≡ remove xs from
    less = other-part cs k left move.source.within ∙ removed cs cs xs k (k + 1) s from old left move.source.part move.source.place refl out move.from_within

    fewer-by-one : length (remove xs from) + 1 ≡ length xs
    fewer-by-one = omega (arith, length-remove xs from move.from_within, move.from_within)

    -- where the other part starts then, and that the item comes to stand there
    start-then : k ≢ m → (to - length (joined (take m (set cs k left))) ≡ place - t) × (length (joined (take m (set cs k left))) ≤ to)
    start-then apart =
        let parts-k : length (joined (take (k + 1) cs)) ≡ s + length old = part-end cs k (k + 1) move.source.part.order ∙ omega (arith, move.source.part.start, ap length move.source.part.items) in
        let parts-m : length (joined (take (m + 1) cs)) ≡ t + length goal = part-end cs m (m + 1) move.target.part.order ∙ omega (arith, move.target.part.start, ap length move.target.part.items) in
        let inside : from - s < length old = move.source.place.before move.from_within in
        let room : place ≤ length xs → place - t ≤ length goal = move.target.place.behind in
        elim (cases_lt m k) [
          | inl front ↦
              (let same : length (joined (take m (set cs k left))) ≡ t = ap (λ l. length (joined l)) (take-set-le m cs k left (omega arith)) ∙ sym move.target.part.start in
              let low : length (joined (take (m + 1) cs)) ≤ length (joined (take k cs)) = fewer cs (m + 1) k (omega arith) in
              elim (cases_lt from to) [
                | inl up ↦ (let at : place ≡ to + 1 = move.behind up in absurd (omega (arith, room (omega (arith, move.to_within)), move.source.part.start, move.source.place.from, move.target.place.from)))
                | inr down ↦ (let at : place ≡ to = move.before (omega arith) in (omega arith, omega (arith, move.target.place.from)))
              ])
          | inr back ↦
              (let far : k < m = elim (cases_lt k m) [ inl h ↦ h | inr h ↦ absurd (apart (omega arith)) ] in
              let high : length (joined (take (k + 1) cs)) ≤ length (joined (take m cs)) = fewer cs (k + 1) m (omega arith) in
              let rest : length (joined (drop m (set cs k left))) ≡ length (joined (drop m cs)) = ap (λ l. length (joined l)) (drop-set-lt m cs k left far) in
              let one-less : length (joined (take m (set cs k left))) + 1 ≡ t =
              omega (arith, cut cs m, cut (set cs k left) m, rest, ap length less, fewer-by-one, ap length move.source.part.all, move.target.part.start) in
              elim (cases_lt from to) [
                | inl up ↦ (let at : place ≡ to + 1 = move.behind up in (omega (arith, move.target.place.from), omega (arith, move.target.place.from)))
                | inr down ↦ (let at : place ≡ to = move.before (omega arith) in absurd (omega (arith, move.source.place.from, move.target.place.from, move.target.part.start)))
              ])
        ]

    -- the items after the move
    pub moved-apart : (new : List X) (item : X) → new ≡ insert goal (place - t) item → k ≢ m → joined (set (set cs m new) k left) ≡ insert (remove xs from) to item
    moved-apart new item in_ apart =
        let now : List (List X) = set cs k left in
        let then = start-then apart in
        let inside : m < length now = omega (arith, move.target.within, length-set cs k left) in
        let kept : goal ≡ get_or now m goal = move.is ∙ sym (get_or-set_other cs k m left goal (λ e. apart (sym e))) in
        let part : IsPart now (remove xs from) m (m + 1) (length (joined (take m now))) goal =
        is-part now now (remove xs from) m (m + 1) (length (joined (take m now))) goal (omega arith) less refl refl (kept ∙ sym (one-part now m goal inside)) in
        let place-then : IsIn (remove xs from) (length (joined (take m now))) to goal = record {
          from = then.1;
          before = λ h. omega (arith, then.0, move.target.place.before (omega (arith, place-near, fewer-by-one)));
          behind = λ h. omega (arith, then.0, move.target.place.behind (omega (arith, place-near, move.to_within)));
        } in
        ap joined (set-swap cs m k new left (λ e. apart (sym e)))
        ∙ other-part now m new inside
        ∙ inserted now now (remove xs from) m (m + 1) (length (joined (take m now))) to goal new item part place-then refl (in_ ∙ ap (λ i. insert goal i item) (sym then.0)) (omega (arith, fewer-by-one, move.to_within))

    pub table-apart : (n : ℕ) (new : List X) (item : X) → IsTable cs n → 0 < length left → new ≡ insert goal (place - t) item → k ≢ m → IsTable (set (set cs m new) k left) n
    table-apart n new item table some in_ apart =
        let has : List X → Type 0 = λ d. 0 < length d in
        let room : place - t ≤ length goal = move.target.place.behind (omega (arith, place-near, move.to_within)) in
        record {
          some = All-set has (set cs m new) k left some (All-set has cs m new (omega (arith, ap length in_, length-insert goal (place - t) item room)) table.some);
          has_len = len-is cs n xs table move.source.part.all ∙ sym (all-long true item) ∙ ap length (sym (moved-apart new item in_ apart));
          is_small = table.is_small;
        }

  -- the part where the item comes to has room for one more
  pub goal-fits : (n : ℕ) → IsTable cs n → k ≢ m → (place - t ≤ length goal) × (length goal + 1 < 2 ^ 32)
  goal-fits n table apart =
      let parts-k : length (joined (take (k + 1) cs)) ≡ s + length old = part-end cs k (k + 1) move.source.part.order ∙ omega (arith, move.source.part.start, ap length move.source.part.items) in
      let parts-m : length (joined (take (m + 1) cs)) ≡ t + length goal = part-end cs m (m + 1) move.target.part.order ∙ omega (arith, move.target.part.start, ap length move.target.part.items) in
      let inside : from - s < length old = move.source.place.before move.from_within in
      let all : n ≡ length (joined cs) = table.has_len in
      let small : n < 2 ^ 32 = table.is_small in
      let k-ends : length (joined (take (k + 1) cs)) ≤ length (joined cs) = omega (arith, cut cs (k + 1)) in
      let m-ends : length (joined (take (m + 1) cs)) ≤ length (joined cs) = omega (arith, cut cs (m + 1)) in (
        move.target.place.behind (omega (arith, place-near, move.to_within)),
        elim (cases_lt m k) [
          | inl front ↦ (let low : length (joined (take (m + 1) cs)) ≤ length (joined (take k cs)) = fewer cs (m + 1) k (omega arith) in omega (arith, move.source.part.start))
          | inr back ↦
              (let far : k < m = elim (cases_lt k m) [ inl h ↦ h | inr h ↦ absurd (apart (omega arith)) ] in
              let high : length (joined (take (k + 1) cs)) ≤ length (joined (take m cs)) = fewer cs (k + 1) m (omega arith) in
              omega (arith, move.target.part.start))
        ],
      )

  -- both parts after the move, if it was made
  pub items-changed : (made : Bool) (left new : List X) (item : X) → left ≡ changed_if made Remove (from - s) old → new ≡ changed_if made (Insert item) (place - t) goal → k ≢ m → joined (set (set cs m new) k left) ≡ cond made (insert (remove xs from) to item) xs
  items-changed true left new item out in_ apart = moved-apart left out new item in_ apart
  items-changed false left new item out in_ apart =
      ap (λ l. joined (set (set cs m l) k left)) in_
      ∙ ap (λ l. joined (set l k left)) (chunk-unchanged cs m goal goal refl move.is)
      ∙ ap (λ l. joined (set cs k l)) out
      ∙ ap joined (chunk-unchanged cs k old old refl move.was)
      ∙ move.source.part.all

  pub table-changed : (made : Bool) (n : ℕ) (left new : List X) (item : X) → IsTable cs n → 0 < length left → left ≡ changed_if made Remove (from - s) old → new ≡ changed_if made (Insert item) (place - t) goal → k ≢ m → IsTable (set (set cs m new) k left) n
  table-changed true n left new item table some out in_ apart = table-apart left out n new item table some in_ apart
  table-changed false n left new item table some out in_ apart =
      let same : set (set cs m new) k left ≡ cs =
      ap (λ l. set (set cs m l) k left) in_
      ∙ ap (λ l. set l k left) (chunk-unchanged cs m goal goal refl move.is)
      ∙ ap (λ l. set cs k l) out
      ∙ chunk-unchanged cs k old old refl move.was in
      subst (λ l. IsTable l n) (sym same) table
