-- Other items in place of some chunks.
use Rattle.std.proofs.Common.{◌≡◌, ◌∙◌, ℕ, ◌+◌, ◌-◌, ◌<◌, ◌≤◌, List, ◌++◌, take, drop, slice_set, slice_range, inl, inr, sym, ap, subst, arith, length}
use Rattle.std.specs.List.{insert, remove, sum_by}
use Rattle.std.proofs.lemmas.Bool.{cases_lt}
use Rattle.std.proofs.lemmas.List.{append_assoc, length-append, set-append_left, set-append_right, take-take, take_all, take_rest}
use Rattle.std.proofs.lemmas.List.Edits.{insert-append_left, insert-append_right, length-remove, remove-append_left, remove-append_right, split_between}
use Rattle.std.proofs.lemmas.List.Sums.{sum_by-take-le}
use Rattle.std.proofs.Math.Seq.{take-add}
use Rattle.canvas_list.specs.Changed.{changed, IsPositionOf}
use Rattle.canvas_list.specs.Chunks.{joined, IsPartAbout, IsSpot, IsTable}
use Rattle.canvas_list.specs.declared.in_place.ItemChange.{ItemChange}
use Rattle.canvas_list.specs.declared.in_place.ItemChange.TheVariants.{Replace, Remove, Insert}
use Rattle.canvas_list.proofs.Joined.{fewer, found, joined-append, len-is, start-read, sum-joined, IsFound}

-- the items before some chunks, those in them, and those behind them
pub parts : {X : Type 0} (cs : List (List X)) (i j : ℕ) → i ≤ j → joined cs ≡ joined (take i cs) ++ (joined (slice_range cs i j) ++ joined (drop j cs))
parts cs i j h =
    ap joined (split_between cs i j h)
    ∙ joined-append (take i cs) (slice_range cs i j ++ drop j cs)
    ∙ ap (λ l. joined (take i cs) ++ l) (joined-append (slice_range cs i j) (drop j cs))

-- what is read of some chunks
pub record IsPart {X : Type 0} (cs : List (List X)) (xs : List X) (i j s : ℕ) (old : List X) : Type 0 where
  pub order : i ≤ j
  pub all : joined cs ≡ xs
  pub start : s ≡ length (joined (take i cs))
  pub items : old ≡ joined (slice_range cs i j)

pub is-part : {X : Type 0} (cs ds : List (List X)) (xs : List X) (i j s : ℕ) (old : List X) → i ≤ j → joined cs ≡ xs → s ≡ length (joined (take i cs)) → ds ≡ cs → old ≡ joined (slice_range ds i j) → IsPart cs xs i j s old
is-part cs ds xs i j s old o a b e is = record { order = o; all = a; start = b; items = is ∙ ap (λ l. joined (slice_range l i j)) e }

-- where some chunks end
pub part-end : {X : Type 0} (cs : List (List X)) (i j : ℕ) → i ≤ j → length (joined (take j cs)) ≡ length (joined (take i cs)) + length (joined (slice_range cs i j))
part-end cs i j h =
    let all : j ≡ i + (j - i) = omega arith in
    ap (λ n. length (joined (take n cs))) all
    ∙ ap (λ l. length (joined l)) (take-add i (j - i) cs)
    ∙ ap length (joined-append (take i cs) (slice_range cs i j))
    ∙ length-append (joined (take i cs)) (joined (slice_range cs i j))

pub sum-parts : {X : Type 0} (cs ds : List (List X)) (xs : List X) (i j s : ℕ) (old : List X) → IsPart cs xs i j s old → ds ≡ cs → length (joined (take i ds)) + length old + length (joined (drop j ds)) ≡ length xs
sum-parts cs ds xs i j s old p e =
    let first : length (joined (take i ds)) ≡ length (joined (take i cs)) = ap (λ l. length (joined (take i l))) e in
    let last : length (joined (drop j ds)) ≡ length (joined (drop j cs)) = ap (λ l. length (joined (drop j l))) e in
    let all : length xs ≡ length (joined (take i cs)) + length (joined (slice_range cs i j) ++ joined (drop j cs)) =
    ap length (sym p.all ∙ parts cs i j p.order) ∙ length-append (joined (take i cs)) (joined (slice_range cs i j) ++ joined (drop j cs)) in
    omega (arith, length-append (joined (slice_range cs i j)) (joined (drop j cs)), ap length p.items)

-- a position of some chunks
pub record IsIn {X : Type 0} (xs : List X) (s at : ℕ) (old : List X) : Type 0 where
  pub from : s ≤ at
  pub before : at < length xs → at - s < length old
  pub behind : at ≤ length xs → at - s ≤ length old

pub is-in : {X : Type 0} (cs : List (List X)) (xs : List X) (n k t i j s at : ℕ) (old : List X) → IsFound cs n k t at → n ≡ length xs → i ≤ k → k < j → IsPart cs xs i j s old → IsIn xs s at old
is-in cs xs n k t i j s at old f len l m p =
    let end : length (joined (take j cs)) ≡ s + length old = part-end cs i j p.order ∙ omega (arith, p.start, ap length p.items) in
    let low : length (joined (take i cs)) ≤ length (joined (take k cs)) = fewer cs i k l in
    let high : length (joined (take (k + 1) cs)) ≤ length (joined (take j cs)) = fewer cs (k + 1) j (omega arith) in
    record {
      from = omega (arith, f.start, f.from, p.start);
      before = λ h. omega (arith, f.start, f.from, p.start, f.before);
      behind = λ h. omega (arith, f.start, f.from, p.start, f.behind);
    }

pub replaced : {X : Type 0} (cs ds : List (List X)) (xs : List X) (i j s at : ℕ) (old new : List X) (x : X) → IsPart cs xs i j s old → IsIn xs s at old → ds ≡ cs → new ≡ slice_set old (at - s) x → at < length xs → joined (take i ds) ++ new ++ joined (drop j ds) ≡ slice_set xs at x
replaced {X} cs ds xs i j s at old new x p q e is h =
    let front : List X = joined (take i cs) in
    let back : List X = joined (drop j cs) in
    let whole : xs ≡ front ++ (old ++ back) = sym p.all ∙ parts cs i j p.order ∙ ap (λ l. front ++ (l ++ back)) (sym p.items) in
    ap (λ l. joined (take i l) ++ new ++ joined (drop j l)) e
    ∙ ap (λ l. front ++ l ++ back) is
    ∙ append_assoc front (slice_set old (at - s) x) back
    ∙ ap (λ l. front ++ l) (sym (set-append_left old back (at - s) x (q.before h)))
    ∙ sym (set-append_right front (old ++ back) s at x (sym p.start) q.from)
    ∙ ap (λ l. slice_set l at x) (sym whole)

pub inserted : {X : Type 0} (cs ds : List (List X)) (xs : List X) (i j s at : ℕ) (old new : List X) (x : X) → IsPart cs xs i j s old → IsIn xs s at old → ds ≡ cs → new ≡ insert old (at - s) x → at ≤ length xs → joined (take i ds) ++ new ++ joined (drop j ds) ≡ insert xs at x
inserted {X} cs ds xs i j s at old new x p q e is h =
    let front : List X = joined (take i cs) in
    let back : List X = joined (drop j cs) in
    let whole : xs ≡ front ++ (old ++ back) = sym p.all ∙ parts cs i j p.order ∙ ap (λ l. front ++ (l ++ back)) (sym p.items) in
    ap (λ l. joined (take i l) ++ new ++ joined (drop j l)) e
    ∙ ap (λ l. front ++ l ++ back) is
    ∙ append_assoc front (insert old (at - s) x) back
    ∙ ap (λ l. front ++ l) (sym (insert-append_left old back (at - s) x (q.behind h)))
    ∙ sym (insert-append_right front (old ++ back) s at x (sym p.start) q.from)
    ∙ ap (λ l. insert l at x) (sym whole)

pub removed : {X : Type 0} (cs ds : List (List X)) (xs : List X) (i j s at : ℕ) (old new : List X) → IsPart cs xs i j s old → IsIn xs s at old → ds ≡ cs → new ≡ remove old (at - s) → at < length xs → joined (take i ds) ++ new ++ joined (drop j ds) ≡ remove xs at
removed {X} cs ds xs i j s at old new p q e is h =
    let front : List X = joined (take i cs) in
    let back : List X = joined (drop j cs) in
    let whole : xs ≡ front ++ (old ++ back) = sym p.all ∙ parts cs i j p.order ∙ ap (λ l. front ++ (l ++ back)) (sym p.items) in
    ap (λ l. joined (take i l) ++ new ++ joined (drop j l)) e
    ∙ ap (λ l. front ++ l ++ back) is
    ∙ append_assoc front (remove old (at - s)) back
    ∙ ap (λ l. front ++ l) (sym (remove-append_left old back (at - s) (q.before h)))
    ∙ sym (remove-append_right front (old ++ back) s at (sym p.start) q.from)
    ∙ ap (λ l. remove l at) (sym whole)

pub moved : {X : Type 0} (cs ds : List (List X)) (xs : List X) (i j s from to : ℕ) (old new : List X) (x : X) → IsPart cs xs i j s old → IsIn xs s from old → ds ≡ cs → new ≡ insert (remove old (from - s)) (to - s) x → from < length xs → s ≤ to → to - s < length old
    → joined (take i ds) ++ new ++ joined (drop j ds) ≡ insert (remove xs from) to x
moved {X} cs ds xs i j s from to old new x p q e is h low high =
    let front : List X = joined (take i cs) in
    let back : List X = joined (drop j cs) in
    let left : List X = remove old (from - s) in
    let whole : xs ≡ front ++ (old ++ back) = sym p.all ∙ parts cs i j p.order ∙ ap (λ l. front ++ (l ++ back)) (sym p.items) in
    let others : remove xs from ≡ front ++ (left ++ back) =
    ap (λ l. remove l from) whole
    ∙ remove-append_right front (old ++ back) s from (sym p.start) q.from
    ∙ ap (λ l. front ++ l) (remove-append_left old back (from - s) (q.before h)) in
    let within : to - s ≤ length left = omega (arith, length-remove old (from - s) (q.before h)) in
    ap (λ l. joined (take i l) ++ new ++ joined (drop j l)) e
    ∙ ap (λ l. front ++ l ++ back) is
    ∙ append_assoc front (insert left (to - s) x) back
    ∙ ap (λ l. front ++ l) (sym (insert-append_left left back (to - s) x within))
    ∙ sym (insert-append_right front (left ++ back) s to x (sym p.start) low)
    ∙ ap (λ l. insert l to x) (sym others)

-- the items of the chunk of a position
pub record IsOfSpot {X : Type 0} (cs : List (List X)) (xs : List X) (k s at : ℕ) (old : List X) : Type 0 where
  pub within : k < length cs
  pub part : IsPart cs xs k (k + 1) s old
  pub place : IsIn xs s at old

pub of-spot : {X : Type 0} (cs ds rs : List (List X)) (xs : List X) (n k s at : ℕ) (old : List X) → IsTable cs n → rs ≡ cs → IsSpot length rs at k s → joined cs ≡ xs → ds ≡ cs → old ≡ joined (slice_range ds k (k + 1)) → IsOfSpot cs xs k s at old
of-spot cs ds rs xs n k s at old t e last all d is =
    let f : IsFound cs n k s at = found cs rs n k s at t e last in
    let p : IsPart cs xs k (k + 1) s old = is-part cs ds xs k (k + 1) s old (omega arith) all f.start d is in
    record { within = f.within; part = p; place = is-in cs xs n k s k (k + 1) s at old f (len-is cs n xs t all) (omega arith) (omega arith) p }

-- the items of some chunks with the chunk of a position
pub record IsOfPart {X : Type 0} (cs : List (List X)) (xs : List X) (i j s at : ℕ) (old : List X) : Type 0 where
  pub part : IsPart cs xs i j s old
  pub place : IsIn xs s at old

-- fewer parts have no more items
sum-fewer : {P : Type 0} (size : P → ℕ) (parts : List P) (i j : ℕ) → i ≤ j → sum_by size (take i parts) ≤ sum_by size (take j parts)
sum-fewer size parts i j h = subst (λ l. sum_by size l ≤ sum_by size (take j parts)) (take-take i j parts h) (sum_by-take-le size (take j parts) i)

-- the part of a position, and some beside it
pub part-about : {P : Type 0} (size : P → ℕ) (parts : List P) (at k t i j s : ℕ) → IsSpot size parts at k t → i ≤ k → k < j → j ≤ length parts → s ≡ sum_by size (take i parts) → IsPartAbout size parts at i j s
part-about size parts at k t i j s spot l m within is =
    let low : sum_by size (take i parts) ≤ sum_by size (take k parts) = sum-fewer size parts i k l in
    let high : sum_by size (take (k + 1) parts) ≤ sum_by size (take j parts) = sum-fewer size parts (k + 1) j (omega arith) in
    elim (cases_lt (k + 1) (length parts)) [
      | inl more ↦
          (let next : at < sum_by size (take (k + 1) parts) = spot.upto more in
          record { order = omega arith; within = within; is = is; from = omega (arith, spot.is, spot.from); before = λ h. omega arith; behind = λ h. omega arith })
      | inr none ↦
          (let all : sum_by size (take j parts) ≡ sum_by size parts = ap (λ l. sum_by size l) (take_all j parts (omega arith)) in
          record { order = omega arith; within = within; is = is; from = omega (arith, spot.is, spot.from); before = λ h. omega arith; behind = λ h. omega arith })
    ]

pub of-about : {X : Type 0} (cs ds rs : List (List X)) (xs : List X) (n i j s at : ℕ) (old : List X) → IsTable cs n → rs ≡ cs → IsPartAbout length rs at i j s → joined cs ≡ xs → ds ≡ cs → old ≡ joined (slice_range ds i j) → IsOfPart cs xs i j s at old
of-about cs ds rs xs n i j s at old table e a all d is =
    let start : s ≡ length (joined (take i cs)) = start-read cs rs i s e a.is in
    let p : IsPart cs xs i j s old = is-part cs ds xs i j s old a.order all start d is in
    let end : length (joined (take j cs)) ≡ s + length old = part-end cs i j p.order ∙ omega (arith, start, ap length p.items) in
    let read : sum_by length (take j rs) ≡ length (joined (take j cs)) = sum-joined (take j rs) ∙ ap (λ l. length (joined (take j l))) e in
    let whole : sum_by length rs ≡ length xs = sum-joined rs ∙ ap (λ l. length (joined l)) e ∙ ap length all in
    record {
      part = p;
      place = record {
        from = a.from;
        before = λ h. omega (arith, a.from, read, end, whole, a.before (omega (arith, whole)));
        behind = λ h. omega (arith, a.from, read, end, whole, a.behind (omega (arith, whole)));
      };
    }

-- a change of the items of some parts
module _ {X : Type 0} (cs ds : List (List X)) (xs : List X) (i j s at : ℕ) (old : List X) (p : IsOfPart cs xs i j s at old) (same : ds ≡ cs) where
  pub part-small : length old ≤ length xs
  part-small = omega (arith, sum-parts cs ds xs i j s old p.part same)

  pub place-of : (made : List X) (change : ItemChange X) → made ≡ old → IsPositionOf change at xs → IsPositionOf change (at - s) made
  place-of made (Replace item) e h = omega (arith, ap length e, p.place.before h)
  place-of made Remove e h = omega (arith, ap length e, p.place.before h)
  place-of made (Insert item) e h = (omega (arith, ap length e, p.place.behind h.0), omega (arith, ap length e, part-small, h.1))

  pub changed-in : (made new : List X) (change : ItemChange X) → made ≡ old → new ≡ changed change (at - s) made → IsPositionOf change at xs → joined (take i ds) ++ new ++ joined (drop j ds) ≡ changed change at xs
  changed-in made new (Replace item) e is h = replaced cs ds xs i j s at old new item p.part p.place same (is ∙ ap (λ l. slice_set l (at - s) item) e) h
  changed-in made new Remove e is h = removed cs ds xs i j s at old new p.part p.place same (is ∙ ap (λ l. remove l (at - s)) e) h
  changed-in made new (Insert item) e is h = inserted cs ds xs i j s at old new item p.part p.place same (is ∙ ap (λ l. insert l (at - s) item) e) h.0

-- the parts before some and those behind them, as slices have them
pub same-ends : {X : Type 0} (cs fs bs : List (List X)) (i j : ℕ) (new : List X) → fs ≡ cs → bs ≡ cs → joined (take i fs) ++ new ++ joined (take (length bs - j) (drop j bs)) ≡ joined (take i cs) ++ new ++ joined (drop j cs)
same-ends cs fs bs i j new front back =
    ap (λ l. joined (take i l) ++ new ++ joined (take (length bs - j) (drop j bs))) front
    ∙ ap (λ l. joined (take i cs) ++ new ++ l) (ap joined (take_rest bs j ∙ ap (drop j) back))

pub few-ends : {X : Type 0} (front new back all : List X) (most : ℕ) → front ++ new ++ back ≡ all → length all < most → length front + length new + length back < most
few-ends front new back all most is few = omega (arith, few, ap length is, length-append (front ++ new) back, length-append front new)
