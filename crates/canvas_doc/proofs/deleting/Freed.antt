-- The lists of a document without records that pass a test.
use Rattle.std.proofs.Common.{◌≡◌, ◌≢◌, ℕ, zero, suc, ◌+◌, ◌-◌, ◌<◌, ◌≤◌, ◌==◌, List, [], ◌∷◌, ◌++◌, Bool, true, false, not, ◌||◌, cond, refl, sym, ap, subst, ◌∙◌, arith, inl, inr, Some, None, All, length, get_or, filter, map, take, drop}
use Rattle.std.specs.List.{Contains, list_any, remove, slice_get}
use Rattle.std.specs.List.Sorted.{IsStrictlySortedBy}
use Rattle.std.proofs.lemmas.Bool.{cases_Bool, eq-eqb, eqb-true, true≢false}
use Rattle.std.proofs.lemmas.List.{append-nil, append_assoc, drop-drop, length-append, length-drop, length-take-le, map-append, nil_from_length, take-append-drop, take_more}
use Rattle.std.proofs.lemmas.List.Elements.{All-contains, All-head, All-tail, Contains-get_or, filter-append, filter_passes}
use Rattle.std.proofs.lemmas.List.Folds.{list_any-append, list_any_at, list_any_none}
use Rattle.std.proofs.lemmas.List.Kept.{IsStrictlySortedBy-filter}
use Rattle.std.proofs.lemmas.List.Edits.{length-remove}
use Rattle.canvas_doc.specs.declared.bounds.Bounds.{Bounds}
use Rattle.canvas_record.specs.declared.records.Parent.{Parent}
use Rattle.canvas_record.specs.declared.records.Parent.TheVariants.{Shape}
use Rattle.canvas_record.specs.declared.records.Record.{Record}
use Rattle.canvas_doc.specs.Bounds.{AreBounds}
use Rattle.canvas_record.specs.Children.{is_child}
use Rattle.canvas_record.specs.Contents.{record_of, is_container, AreRising, StandsAt, most_records}
use Rattle.canvas_doc.specs.Deletion.{container_ids, containers_under, has_id_of, holders_below, is_held, AreLists}
use Rattle.canvas_doc.specs.PlaceOrder.{comes_first, AreChildrenWithin, IsInPlaceOrder}
use Rattle.canvas_doc.proofs.tree.Childless.{filter-same, one-removed}
use Rattle.canvas_doc.proofs.places.ChildrenInOrder.{one-more}
use Rattle.canvas_doc.proofs.fitting.FitDelete.{rising-filter}
use Rattle.canvas_doc.proofs.lists.Members.{as-many}
use Rattle.canvas_doc.proofs.boxes.Rebounded as rebounded
use Rattle.canvas_doc.proofs.boxes.Rebounded.{all-come, comes-itself}
use Rattle.canvas_doc.proofs.places.Reordered as reordered
use Rattle.canvas_doc.proofs.places.Reordered.{IsListedAt, ids-once, passed-in, places-once, same-record}
use Rattle.canvas_doc.proofs.spacing.Respacing.{all-kept}
use Rattle.canvas_doc.proofs.lists.SameMembers.{Contains-filter}
use Rattle.canvas_doc.proofs.spacing.Spaced.{all-passing}
use Rattle.canvas_doc.proofs.lists.Tests.{or-false}
use Rattle.canvas_doc.proofs.tree.Found.{found-has}

-- ---- tests

twice-head : (a b : Bool) (r : Record) (t : Record → Bool) (xs ys : List Record) → t r ≡ not a → filter t xs ≡ ys → filter t (cond (not b) (r ∷ xs) xs) ≡ cond (not (b || a)) (r ∷ ys) ys
twice-head a true r t xs ys h e = e
twice-head true false r t xs ys h e = rw h e
twice-head false false r t xs ys h e = rw h (ap (λ l. r ∷ l) e)

-- without those that pass one test, then another
pub filter-twice : (a b : Record → Bool) (xs : List Record) → filter (λ r. not (a r)) (filter (λ r. not (b r)) xs) ≡ filter (λ r. not (b r || a r)) xs
filter-twice a b [] = refl
filter-twice a b (x ∷ xs) = twice-head (a x) (b x) x (λ r. not (a r)) (filter (λ r. not (b r)) xs) (filter (λ r. not (b r || a r)) xs) refl (filter-twice a b xs)

-- the same, where another test is both
pub filter-both : (a b c : Record → Bool) (xs : List Record) → ((r : Record) → (b r || a r) ≡ c r) → filter (λ r. not (a r)) (filter (λ r. not (b r)) xs) ≡ filter (λ r. not (c r)) xs
filter-both a b c xs k =
    filter-twice a b xs
    ∙ filter-same (λ r. not (b r || a r)) (λ r. not (c r)) xs (λ i d l. ap not (k (get_or xs i d)))

pub filter-none : (t : Record → Bool) (xs : List Record) → All (λ r. t r ≡ false) xs → filter (λ r. not (t r)) xs ≡ xs
filter-none t [] h = refl
filter-none t (x ∷ xs) h =
    let here : t x ≡ false = All-head (λ r. t r ≡ false) x xs h in
    rw here (ap (λ l. x ∷ l) (filter-none t xs (All-tail (λ r. t r ≡ false) x xs h)))

none-true : (t : Record → Bool) (xs : List Record) → filter t xs ≡ [] → filter (λ r. not (t r)) xs ≡ xs
none-true t [] e = refl
none-true t (x ∷ xs) e = elim (cases_Bool (t x)) [
  | inl h ↦ (let some : x ∷ filter t xs ≡ [] = rw h at e in cc)
  | inr h ↦ (let none : filter t xs ≡ [] = rw h at e in rw h (ap (λ l. x ∷ l) (none-true t xs none)))
]

all-true : (t : Record → Bool) (xs : List Record) → All (λ r. t r ≡ true) xs → filter (λ r. not (t r)) xs ≡ []
all-true t [] h = refl
all-true t (x ∷ xs) h =
    let here : t x ≡ true = All-head (λ r. t r ≡ true) x xs h in
    rw here (all-true t xs (All-tail (λ r. t r ≡ true) x xs h))

-- one more of the shapes, one more of the records
pub held-more : (holders : List ℕ) (k h : ℕ) (d : ℕ) (r : Record) → k < length holders → h ≡ get_or holders k d → (is_held (take k holders) r || is_child (Shape h) r) ≡ is_held (take (k + 1) holders) r
held-more holders k h d r l e =
    let t : ℕ → Bool = λ x. is_child (Shape x) r in
    ap (λ b. list_any t (take k holders) || b) (sym (or-false (t h)))
    ∙ sym (list_any-append t (take k holders) (h ∷ []))
    ∙ ap (list_any t) (ap (λ x. take k holders ++ x ∷ []) e ∙ sym (take_more holders k d l))

pub ids-more : (order : List Record) (start at : ℕ) (s d r : Record) → start ≤ at → at < length order → s ≡ get_or order at d → (has_id_of (take (at - start) (drop start order)) r || (r.id == s.id)) ≡ has_id_of (take (at + 1 - start) (drop start order)) r
ids-more order start at s d r a b e =
    let t : Record → Bool = λ x. r.id == x.id in
    ap (λ c. list_any t (take (at - start) (drop start order)) || c) (sym (or-false (t s)))
    ∙ sym (list_any-append t (take (at - start) (drop start order)) (s ∷ []))
    ∙ ap (list_any t) (sym (one-more order start at s d a b e))

-- ---- the order

-- the order without the children of a parent, which stand in it side by side
pub spliced-order : (p : Parent) (order : List Record) (low high : ℕ) → AreChildrenWithin p order low high → take low order ++ drop high order ≡ filter (λ r. not (is_child p r)) order
spliced-order p order low high w =
    let cs : List Record = filter (is_child p) order in
    let front : List Record = take low order in
    let behind : List Record = drop high order in
    let t : Record → Bool = λ r. not (is_child p r) in
    let from : low ≤ high = w.from in
    let ends : low + (high - low) ≡ high = omega arith in
    let parts : order ≡ front ++ (cs ++ behind) =
    sym (take-append-drop low order) ∙ ap (λ l. front ++ l) (sym (take-append-drop (high - low) (drop low order)))
    ∙ ap (λ l. front ++ (l ++ drop (high - low) (drop low order))) w.are
    ∙ ap (λ l. front ++ (cs ++ l)) (drop-drop (high - low) low order ∙ ap (λ n. drop n order) ends) in
    let kept : cs ≡ filter (is_child p) front ++ (cs ++ filter (is_child p) behind) =
    ap (filter (is_child p)) parts ∙ filter-append (is_child p) front (cs ++ behind)
    ∙ ap (λ l. filter (is_child p) front ++ l) (filter-append (is_child p) cs behind ∙ ap (λ l. l ++ filter (is_child p) behind) (all-kept p cs (all-passing p order))) in
    let count : length cs ≡ length (filter (is_child p) front) + (length cs + length (filter (is_child p) behind)) =
    ap length kept ∙ length-append (filter (is_child p) front) (cs ++ filter (is_child p) behind) ∙ ap (λ n. length (filter (is_child p) front) + n) (length-append cs (filter (is_child p) behind)) in
    let first : filter t front ≡ front = none-true (is_child p) front (nil_from_length (filter (is_child p) front) (omega arith)) in
    let last : filter t behind ≡ behind = none-true (is_child p) behind (nil_from_length (filter (is_child p) behind) (omega arith)) in
    let middle : filter t cs ≡ [] = all-true (is_child p) cs (all-passing p order) in
    sym (ap (filter t) parts ∙ filter-append t front (cs ++ behind) ∙ ap (λ l. filter t front ++ l) (filter-append t cs behind)
    ∙ ap (λ l. l ++ (filter t cs ++ filter t behind)) first ∙ ap (λ l. front ++ (l ++ filter t behind)) middle ∙ ap (λ l. front ++ l) last)

-- the same records pass in both
pub kept-order : (t : Record → Bool) (order rs : List Record) → AreRising rs → IsInPlaceOrder order rs → IsInPlaceOrder (filter t order) (filter t rs)
kept-order t order rs up o =
    let rest : List Record = filter t rs in
    let after : List Record = filter t order in
    let sorted : IsStrictlySortedBy comes_first after = IsStrictlySortedBy-filter comes_first t order o.rising in
    let listed : (x : Record) → Contains after x → Contains rest x = λ x c.
    Contains-filter t rs x (All-contains (Contains rs) order x o.listed (passed-in t order x c)) (All-contains (λ r. t r ≡ true) after x (filter_passes t order) c) in
    let complete : (x : Record) → Contains rest x → Contains after x = λ x c.
    Contains-filter t order x (All-contains (Contains order) rs x o.complete (passed-in t rs x c)) (All-contains (λ r. t r ≡ true) rest x (filter_passes t rs) c) in
    let more : length after ≤ length rest = as-many after rest (places-once after sorted) listed in
    let less : length rest ≤ length after = as-many rest after (ids-once rest (rising-filter t rs up)) complete in
    record {
      long = omega arith;
      listed = λ k d b. listed (get_or after k d) (Contains-get_or after k d b);
      complete = λ k d b. complete (get_or rest k d) (Contains-get_or rest k d b);
      rising = sorted;
    }

-- ---- the records

-- with the ids of the children go the children
child-known : (p : Parent) (order rs : List Record) (r : Record) → AreRising rs → IsInPlaceOrder order rs → Contains rs r → has_id_of (filter (is_child p) order) r ≡ is_child p r
child-known p order rs r up o c = elim (cases_Bool (is_child p r)) [
  | inl t ↦ (let m = Contains-filter (is_child p) order r (All-contains (Contains order) rs r o.complete c) t in
      list_any_at (λ s. r.id == s.id) (filter (is_child p) order) m.0 r m.1 (eq-eqb r.id (get_or (filter (is_child p) order) m.0 r).id (ap (λ (s : Record). s.id) (sym m.2))) ∙ sym t)
  | inr f ↦ list_any_none (λ s. r.id == s.id) (filter (is_child p) order) (λ i d l. (
      let s : Record = get_or (filter (is_child p) order) i d in
      let m : Contains (filter (is_child p) order) s = Contains-get_or (filter (is_child p) order) i d l in
      let there : Contains rs s = All-contains (Contains rs) order s o.listed (passed-in (is_child p) order s m) in
      elim (cases_Bool (r.id == s.id)) [
        | inl e ↦ absurd (true≢false (sym (filter_passes (is_child p) order i d l) ∙ ap (is_child p) (sym (same-record rs r s up c there (eqb-true r.id s.id e))) ∙ f))
        | inr g ↦ g
      ])) ∙ sym f
]

pub children-gone : (p : Parent) (order rs : List Record) → AreRising rs → IsInPlaceOrder order rs → filter (λ r. not (has_id_of (filter (is_child p) order) r)) rs ≡ filter (λ r. not (is_child p r)) rs
children-gone p order rs up o =
    filter-same (λ r. not (has_id_of (filter (is_child p) order) r)) (λ r. not (is_child p r)) rs
    (λ i d l. ap not (child-known p order rs (get_or rs i d) up o (Contains-get_or rs i d l)))

pub one-gone : (id at : ℕ) (rs : List Record) → AreRising rs → StandsAt rs id at → filter (λ r. not (r.id == id)) rs ≡ remove rs at
one-gone id at [] up s = absurd (omega (arith, s.0))
one-gone id at (x ∷ rs) up s =
    let all : List Record = x ∷ rs in
    one-removed id at all x up s.0 (eqb-true (get_or all at x).id id (found-has id all (get_or all at x) (s.1 x)))

-- no record has an id that is not found
pub none-gone : (id : ℕ) (rs : List Record) → record_of id rs ≡ None → filter (λ r. not (r.id == id)) rs ≡ rs
none-gone id [] e = refl
none-gone id (x ∷ rs) e = elim (cases_Bool (x.id == id)) [
  | inl t ↦ (let some : Some x ≡ None = ap (λ b. cond b (Some x) (record_of id rs)) (sym t) ∙ e in cc)
  | inr f ↦ (let none : record_of id rs ≡ None = ap (λ b. cond b (Some x) (record_of id rs)) (sym f) ∙ e in rw f (ap (λ l. x ∷ l) (none-gone id rs none)))
]

-- ---- the bounds

get-drop : {X : Type 0} (xs : List X) (n k : ℕ) → slice_get (drop n xs) k ≡ slice_get xs (n + k)
get-drop xs zero k = (let e : k ≡ 0 + k = omega arith in ap (slice_get xs) e)
get-drop [] (suc n) k = refl
get-drop (x ∷ xs) (suc n) k = (let e : suc (n + k) ≡ suc n + k = omega arith in get-drop xs n k ∙ ap (slice_get (x ∷ xs)) e)

-- what stands side by side in two lists did so before both were spliced
beside : {X Y : Type 0} (xs : List X) (ys : List Y) (low high k : ℕ) → low ≤ high → low ≤ length xs → low ≤ length ys → (j : ℕ) × (slice_get (take low xs ++ drop high xs) k ≡ slice_get xs j) × (slice_get (take low ys ++ drop high ys) k ≡ slice_get ys j)
beside xs ys zero high k a b c = (high + k, get-drop xs high k, get-drop ys high k)
beside [] ys (suc low) high k a b c = absurd (omega arith)
beside (x ∷ xs) [] (suc low) high k a b c = absurd (omega arith)
beside (x ∷ xs) (y ∷ ys) (suc low) zero k a b c = absurd (omega arith)
beside (x ∷ xs) (y ∷ ys) (suc low) (suc high) zero a b c = (zero, refl, refl)
beside (x ∷ xs) (y ∷ ys) (suc low) (suc high) (suc k) a b c = (let o = beside xs ys low high k (omega arith) (omega arith) (omega arith) in (suc o.0, o.1, o.2))

spliced-long : {X : Type 0} (xs : List X) (low high : ℕ) → low ≤ length xs → length (take low xs ++ drop high xs) ≡ low + (length xs - high)
spliced-long xs low high b = length-append (take low xs) (drop high xs) ∙ ap (λ n. n + length (drop high xs)) (length-take-le low xs b) ∙ ap (λ n. low + n) (length-drop high xs)

pub spliced-bounds : (order : List Record) (bounds : List Bounds) (low high : ℕ) → AreBounds order bounds → low ≤ high → high ≤ length order → AreBounds (take low order ++ drop high order) (take low bounds ++ drop high bounds)
spliced-bounds order bounds low high kept a b =
    let same : length bounds ≡ length order = kept.long in
    let long : length (take low bounds ++ drop high bounds) ≡ length (take low order ++ drop high order) =
    spliced-long bounds low high (omega arith) ∙ ap (λ n. low + (n - high)) same ∙ sym (spliced-long order low high (omega arith)) in
    all-come order (take low order ++ drop high order) bounds (take low bounds ++ drop high bounds) kept long
    (λ k s c e f. (let o = beside order bounds low high k a (omega arith) (omega arith) in comes-itself order bounds s c o.0 (sym o.1 ∙ e) (sym o.2 ∙ f)))

-- ---- all three

-- without the children of a shape
pub lists-spliced : (h : ℕ) (rs order : List Record) (bounds : List Bounds) (low high : ℕ) → AreLists rs order bounds → AreChildrenWithin (Shape h) order low high → AreLists (filter (λ r. not (is_child (Shape h) r)) rs) (take low order ++ drop high order) (take low bounds ++ drop high bounds)
lists-spliced h rs order bounds low high w within =
    let t : Record → Bool = λ r. not (is_child (Shape h) r) in
    let few : length order ≤ most_records = w.few in
    let from : low ≤ high = within.from in
    let bound : high ≤ length order = within.bound in
    record {
      few = (let long : length (take low order ++ drop high order) ≡ low + (length order - high) = spliced-long order low high (omega arith) in omega arith);
      rising = rising-filter t rs w.rising;
      in_order = subst (λ l. IsInPlaceOrder l (filter t rs)) (sym (spliced-order (Shape h) order low high within)) (kept-order t order rs w.rising w.in_order);
      bounded = spliced-bounds order bounds low high w.bounded from bound;
    }

-- without one record
pub lists-taken : (rs order : List Record) (bounds : List Bounds) (r : Record) (at k : ℕ) → AreLists rs order bounds → IsListedAt order rs r at k → AreRising (remove rs at) → AreLists (remove rs at) (remove order k) (remove bounds k)
lists-taken rs order bounds r at k w l up = record {
  few = (let few : length order ≤ most_records = w.few in let within : k < length order = l.within in let long : length (remove order k) + 1 ≡ length order = length-remove order k within in omega arith);
  rising = up;
  in_order = reordered.taken order rs r at k w.rising w.in_order l.there l.here l.within l.is;
  bounded = rebounded.taken order bounds k w.bounded l.within;
}

-- the same, of the lists that are made
pub lists-after : (h : ℕ) (rs order : List Record) (bounds : List Bounds) (low high : ℕ) (made put : List Record) (boxes : List Bounds) → AreLists rs order bounds → AreChildrenWithin (Shape h) order low high
    → made ≡ filter (λ r. not (is_child (Shape h) r)) rs → put ≡ take low order ++ drop high order → boxes ≡ take low bounds ++ drop high bounds → AreLists made put boxes
lists-after h rs order bounds low high made put boxes w within e f g =
    subst (λ (l : List Record). AreLists l put boxes) (sym e)
    (subst (λ (l : List Record). AreLists (filter (λ r. not (is_child (Shape h) r)) rs) l boxes) (sym f)
    (subst (λ (l : List Bounds). AreLists (filter (λ r. not (is_child (Shape h) r)) rs) (take low order ++ drop high order) l) (sym g)
    (lists-spliced h rs order bounds low high w within)))

pub records-after : (h : ℕ) (rs order made : List Record) (low high : ℕ) → AreRising rs → IsInPlaceOrder order rs → AreChildrenWithin (Shape h) order low high → made ≡ filter (λ r. not (has_id_of (take (high - low) (drop low order)) r)) rs → made ≡ filter (λ r. not (is_child (Shape h) r)) rs
records-after h rs order made low high up o within e =
    e ∙ ap (λ (l : List Record). filter (λ r. not (has_id_of l r)) rs) within.are ∙ children-gone (Shape h) order rs up o

pub taken-after : (id : ℕ) (rs order made put : List Record) (bounds boxes : List Bounds) (r : Record) (at k : ℕ) → AreLists rs order bounds → StandsAt rs id at → IsListedAt order rs r at k → made ≡ remove rs at → put ≡ remove order k → boxes ≡ remove bounds k → AreLists made put boxes
taken-after id rs order made put bounds boxes r at k w s l e f g =
    let up : AreRising (remove rs at) = subst AreRising (one-gone id at rs w.rising s) (rising-filter (λ x. not (x.id == id)) rs w.rising) in
    subst (λ (l : List Record). AreLists l put boxes) (sym e)
    (subst (λ (l : List Record). AreLists (remove rs at) l boxes) (sym f)
    (subst (λ (l : List Bounds). AreLists (remove rs at) (remove order k) l) (sym g)
    (lists-taken rs order bounds r at k w l up)))

-- ---- levels

-- one more of the shapes under which groups and frames are looked for
under-append : (rs : List Record) (xs ys : List ℕ) → containers_under rs (xs ++ ys) ≡ containers_under rs xs ++ containers_under rs ys
under-append rs [] ys = refl
under-append rs (x ∷ xs) ys =
    let first : List ℕ = container_ids (filter (is_child (Shape x)) rs) in
    ap (λ l. first ++ l) (under-append rs xs ys) ∙ sym (append_assoc first (containers_under rs xs) (containers_under rs ys))

pub under-more : (rs : List Record) (holders : List ℕ) (k h d : ℕ) (before : List ℕ) → k < length holders → h ≡ get_or holders k d → before ≡ containers_under rs (take k holders) → before ++ container_ids (filter (is_child (Shape h)) rs) ≡ containers_under rs (take (k + 1) holders)
under-more rs holders k h d before l e f =
    ap (λ b. b ++ container_ids (filter (is_child (Shape h)) rs)) f
    ∙ ap (λ b. containers_under rs (take k holders) ++ b) (sym (append-nil (container_ids (filter (is_child (Shape h)) rs))))
    ∙ sym (under-append rs (take k holders) (h ∷ []))
    ∙ ap (containers_under rs) (ap (λ x. take k holders ++ x ∷ []) e ∙ sym (take_more holders k d l))

ids-one : (s : Record) (xs : List Record) (b : Bool) → b ≡ is_container s.kind → container_ids (xs ++ s ∷ []) ≡ cond b (container_ids xs ++ s.id ∷ []) (container_ids xs)
ids-one s xs true e = ap (map (λ (r : Record). r.id)) (filter-append (λ r. is_container r.kind) xs (s ∷ []) ∙ ap (λ c. filter (λ r. is_container r.kind) xs ++ cond c (s ∷ []) []) (sym e)) ∙ map-append (λ (r : Record). r.id) (filter (λ r. is_container r.kind) xs) (s ∷ [])
ids-one s xs false e = ap (map (λ (r : Record). r.id)) (filter-append (λ r. is_container r.kind) xs (s ∷ []) ∙ ap (λ c. filter (λ r. is_container r.kind) xs ++ cond c (s ∷ []) []) (sym e) ∙ append-nil (filter (λ r. is_container r.kind) xs))

cond-after : (ids more : List ℕ) (x : ℕ) (b : Bool) → cond b ((ids ++ more) ++ x ∷ []) (ids ++ more) ≡ ids ++ cond b (more ++ x ∷ []) more
cond-after ids more x true = append_assoc ids more (x ∷ [])
cond-after ids more x false = refl

-- one more of the records, and its id where it is a group or a frame
pub containers-more : (ids : List ℕ) (order : List Record) (start at : ℕ) (s d : Record) (b : Bool) → start ≤ at → at < length order → s ≡ get_or order at d → b ≡ is_container s.kind
    → cond b ((ids ++ container_ids (take (at - start) (drop start order))) ++ s.id ∷ []) (ids ++ container_ids (take (at - start) (drop start order))) ≡ ids ++ container_ids (take (at + 1 - start) (drop start order))
containers-more ids order start at s d b l m e test =
    let before : List Record = take (at - start) (drop start order) in
    cond-after ids (container_ids before) s.id b
    ∙ ap (λ x. ids ++ x) (sym (ids-one s before b test))
    ∙ ap (λ x. ids ++ container_ids x) (sym (one-more order start at s d l m e))

pub none-below : (n : ℕ) (order rs : List Record) (level : List ℕ) → n ≡ 0 → rs ≡ filter (λ r. not (is_held (holders_below n order level) r)) rs
unfolding holders_below
none-below n order rs level h = rw h (sym (filter-none (λ r. false) rs (λ i d l. refl)))

level-below : (n : ℕ) (order : List Record) (level : List ℕ) → n ≢ 0 → holders_below n order level ≡ level ++ holders_below (n - 1) order (containers_under order level)
unfolding holders_below
level-below zero order level h = absurd (h refl)
level-below (suc n) order level h = (let m : suc n - 1 ≡ n = omega arith in rw m refl)

-- a level, and those below it
pub levels-more : (n : ℕ) (order rs left : List Record) (level next : List ℕ) → n ≢ 0 → next ≡ containers_under order level → left ≡ filter (λ r. not (is_held level r)) rs
    → filter (λ r. not (is_held (holders_below (n - 1) order next) r)) left ≡ filter (λ r. not (is_held (holders_below n order level) r)) rs
levels-more n order rs left level next h e f =
    let rest : List ℕ = holders_below (n - 1) order (containers_under order level) in
    ap (λ (l : List ℕ). filter (λ r. not (is_held (holders_below (n - 1) order l) r)) left) e
    ∙ ap (filter (λ r. not (is_held rest r))) f
    ∙ filter-both (λ r. is_held rest r) (λ r. is_held level r) (λ r. is_held (holders_below n order level) r) rs
    (λ r. sym (list_any-append (λ x. is_child (Shape x) r) level rest) ∙ ap (λ l. is_held l r) (sym (level-below n order level h)))
