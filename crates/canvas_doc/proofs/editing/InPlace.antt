-- A document's lists after a change in place.
use Rattle.std.proofs.Common.{◌≡◌, ◌∙◌, ℕ, Bool, true, false, cond, Some, ◌+◌, ◌<◌, List, [], ◌∷◌, ◌++◌, refl, sym, ap, subst, arith, length, get_or, set, ◌≤◌, filter, not, Fits}
use Rattle.std.specs.List.{Contains, insert, remove, slice_get}
use Rattle.std.proofs.Math.ListN.{length-set}
use Rattle.std.specs.Int.{w64}
use Rattle.std.proofs.Math.Facts.{Fits-of_lt}
use Rattle.std.proofs.lemmas.List.{get_or_default, get_or-set_same}
use Rattle.std.proofs.lemmas.List.Edits.{insert_end}
use Rattle.std.proofs.lemmas.List.Elements.{Contains-push}
use Rattle.canvas_list.specs.declared.in_place.ItemChange.TheVariants.{Replace, Remove, Insert}
use Rattle.canvas_list.specs.Changed.{changed_if}
use Rattle.canvas_doc.specs.declared.bounds.Bounds.{Bounds}
use Rattle.canvas_record.specs.declared.records.Record.{Record}
use Rattle.canvas_record.specs.declared.records.Place.{Place}
use Rattle.canvas_doc.specs.Bounds.{AreBounds, HaveOneShape, IsHeldAbove}
use Rattle.canvas_record.specs.Contents.{is_container, most_records, AreRising, Contents, IsStanding, IsWellFormed, StandsAt}
use Rattle.canvas_record.specs.declared.edits.Change.{Change}
use Rattle.canvas_record.specs.declared.edits.Change.TheVariants.{Delete}
use Rattle.canvas_record.specs.declared.records.Parent.TheVariants.{Shape}
use Rattle.canvas_record.specs.Effect.{changed_by, changes_one, effect_of, is_in_subtree, ReplacesAt}
use Rattle.canvas_doc.specs.Deletion.{AreLists}
use Rattle.canvas_doc.specs.Placements.{Placements}
use Rattle.canvas_doc.specs.PlaceOrder.{AreChildrenWithin, IsInPlaceOrder, IsKeptInOrder, IsPlaceOf}
use Rattle.canvas_record.specs.Tree.{HavePlaces, IsInLimits}
use Rattle.canvas_doc.proofs.extents.AfterChange.{leaf-childless}
use Rattle.canvas_doc.proofs.tree.Childless.{childless-deleted, childless-from_range, IsChildless}
use Rattle.canvas_doc.proofs.tree.Found.{found-here}
use Rattle.canvas_doc.proofs.deleting.Freed.{taken-after}
use Rattle.canvas_doc.proofs.tree.OneChanged.{made-whole, whole-is}
use Rattle.canvas_doc.proofs.boxes.Rebounded as rebounded
use Rattle.canvas_doc.proofs.boxes.Rebounded.{no-own_child, Suits}
use Rattle.canvas_doc.proofs.places.Reordered.{added, added-differs, listed-at, moved-well, read-at, replaced, taken, IsListedAt}

module _ (d : Contents) (order : List Record) (bounds : List Bounds) (kept : IsKeptInOrder d order bounds) (now : Contents) (well : IsWellFormed now) where
  -- another record at one position, whose group holds its bounds
  pub replaced-kept : (s : Record) (b : Bounds) (at k : ℕ) → at < length d.records → (get_or d.records at s).place ≡ s.place → IsPlaceOf s.place order k → now.records ≡ set d.records at s → Suits order bounds s b → IsHeldAbove order bounds s b → IsKeptInOrder now (set order k s) (set bounds k b)
  replaced-kept s b at k within place p one suits above =
      let r : Record = get_or d.records at s in
      let listed : IsListedAt order d.records r at k = listed-at order d.records r at k kept.in_order within (get_or_default d.records at s r within) (subst (λ (q : Place). IsPlaceOf q order k) (sym place) p) in
      let there : Contains now.records s = (at, omega (arith, ap length one ∙ length-set d.records at s), ap (λ l. get_or l at s) one ∙ get_or-set_same d.records at s s within) in
      record {
        well_formed = well;
        in_order = subst (IsInPlaceOrder (set order k s)) (sym one) (replaced order d.records r s at k kept.well_formed.rising kept.in_order within listed.here listed.within listed.is place);
        bounded = rebounded.changed-held order bounds k s b kept.bounded listed.within suits (no-own_child now.records s well.rising well.grounded there) above;
      }

  -- one more record, whose group holds its bounds
  pub added-kept : (s : Record) (b : Bounds) (k : ℕ) → IsPlaceOf s.place order k → now.records ≡ d.records ++ s ∷ [] → Suits order bounds s b → IsHeldAbove order bounds s b → IsKeptInOrder now (insert order k s) (insert bounds k b)
  added-kept s b k p one suits above =
      let there : Contains now.records s = subst (λ l. Contains l s) (sym one) (Contains-push d.records s) in
      record {
        well_formed = well;
        in_order = subst (IsInPlaceOrder (insert order k s)) (sym one) (added order d.records s k kept.in_order p (added-differs d.records s (subst HavePlaces one well.places)));
        bounded = rebounded.put-held order bounds k s b kept.bounded p.bound suits (no-own_child now.records s well.rising well.grounded there) above;
      }

  -- one record less
  pub taken-kept : (r : Record) (at k : ℕ) → at < length d.records → r ≡ get_or d.records at r → IsPlaceOf r.place order k → now.records ≡ remove d.records at → IsKeptInOrder now (remove order k) (remove bounds k)
  taken-kept r at k within here p one =
      let listed : IsListedAt order d.records r at k = listed-at order d.records r at k kept.in_order within here p in
      record {
        well_formed = well;
        in_order = subst (IsInPlaceOrder (remove order k)) (sym one) (taken order d.records r at k kept.well_formed.rising kept.in_order listed.there listed.here listed.within listed.is);
        bounded = rebounded.taken order bounds k kept.bounded listed.within;
      }

  -- a record at another place, whose group there holds its bounds
  pub moved-kept : (r s : Record) (b : Bounds) (at k to : ℕ) → at < length d.records → r ≡ get_or d.records at r → HaveOneShape r s → IsPlaceOf r.place order k → IsPlaceOf s.place (remove order k) to → now.records ≡ set d.records at s → b ≡ get_or bounds k b → IsHeldAbove order bounds s b → IsKeptInOrder now (insert (remove order k) to s) (insert (remove bounds k) to b)
  moved-kept r s b at k to within here same p q one box above =
      let listed : IsListedAt order d.records r at k = listed-at order d.records r at k kept.in_order within here p in
      let there : Contains now.records s = (at, omega (arith, ap length one ∙ length-set d.records at s), ap (λ l. get_or l at s) one ∙ get_or-set_same d.records at s s within) in
      let long : length bounds ≡ length order = kept.bounded.long in
      let shape : slice_get order k ≡ Some r = read-at order k r listed.within listed.is in
      let held : slice_get bounds k ≡ Some b = read-at bounds k b (omega (arith, listed.within)) (sym box) in
      record {
        well_formed = well;
        in_order = subst (IsInPlaceOrder (insert (remove order k) to s)) (sym one) (moved-well order d.records r s at k to kept.well_formed.rising (subst AreRising one well.rising) (subst HavePlaces one well.places) kept.in_order listed q);
        bounded = rebounded.moved-held order bounds k to r s b kept.bounded shape held same q.bound (no-own_child now.records s well.rising well.grounded there) above;
      }

-- where a record stands that is to be replaced by another at its place
pub replaced-at : (d : Contents) (order : List Record) (bounds : List Bounds) → IsKeptInOrder d order bounds → (s : Record) (at k : ℕ) → at < length d.records → (get_or d.records at s).place ≡ s.place → IsPlaceOf s.place order k → k < length order
replaced-at d order bounds kept s at k within place p =
    (listed-at order d.records (get_or d.records at s) at k kept.in_order within (get_or_default d.records at s (get_or d.records at s) within) (subst (λ (q : Place). IsPlaceOf q order k) (sym place) p)).within

-- ---- a change of one record

module _ (ch : Change) (inside now : Contents) (at : ℕ) (r v s : Record) (same : inside ≡ now) (one : changes_one ch ≡ true) (there : ReplacesAt ch inside.records at) (is : r ≡ get_or inside.records at r) (value : v ≡ r) (new : s ≡ changed_by ch v) where
  pub one-is : (made : List Record) → made ≡ set inside.records at s → record { records = made; next = inside.next } ≡ effect_of ch now
  one-is made m = whole-is ch inside now made same one (made-whole ch inside.records made at r v s there is value m new)

  pub one-if : (made : Bool) (rs : List Record) → rs ≡ changed_if made (Replace s) at inside.records → record { records = rs; next = inside.next } ≡ cond made (effect_of ch now) now
  one-if true rs m = one-is rs m
  one-if false rs m = ap (λ (l : List Record). record { records = l; next = inside.next }) m ∙ same

  pub one-well : IsWellFormed (effect_of ch now) → IsWellFormed (record { records = set inside.records at s; next = inside.next })
  one-well well = subst IsWellFormed (sym (one-is (set inside.records at s) refl)) well

  pub one-limits : IsWellFormed (effect_of ch now) → IsInLimits s
  one-limits well =
      let within : at < length inside.records = there.there in
      subst IsInLimits (get_or-set_same inside.records at s s within) ((one-well well).limits at s (omega (arith, within, length-set inside.records at s)))

  pub one-place : ((x : Record) → (changed_by ch x).place ≡ x.place) → (get_or inside.records at s).place ≡ s.place
  one-place keeps =
      ap (λ (x : Record). x.place) (get_or_default inside.records at s r there.there ∙ sym is ∙ sym value)
      ∙ sym (keeps v)
      ∙ ap (λ (x : Record). x.place) (sym new)

  pub one-shape : ((x : Record) → HaveOneShape x (changed_by ch x)) → HaveOneShape r s
  one-shape keeps = subst (HaveOneShape r) (sym new) (subst (λ x. HaveOneShape x (changed_by ch v)) value (keeps v))

-- ---- documents whose lists were changed, or not

-- the same, of other lists that are those
pub kept-is : (now : Contents) (order made : List Record) (bounds boxes : List Bounds) → made ≡ order → boxes ≡ bounds → IsKeptInOrder now order bounds → IsKeptInOrder now made boxes
kept-is now order made bounds boxes e f h = subst (λ l. IsKeptInOrder now l boxes) (sym e) (subst (λ l. IsKeptInOrder now order l) (sym f) h)

-- lists that are a document's
pub lists-kept : (d : Contents) (order : Placements) → IsKeptInOrder d order.shapes order.bounds → (rs : List Record) (made : Placements) → rs ≡ d.records → made ≡ order → AreLists rs made.shapes made.bounds
lists-kept d order kept rs made e f =
    subst (λ (l : List Record). AreLists l made.shapes made.bounds) (sym e) (subst (λ (p : Placements). AreLists d.records p.shapes p.bounds) (sym f) (record {
      few = subst (λ n. n ≤ most_records) (sym kept.in_order.long) kept.well_formed.few;
      rising = kept.well_formed.rising;
      in_order = kept.in_order;
      bounded = kept.bounded;
    }))

-- the same without the record at a position
pub lists-taken : (rs order made put : List Record) (bounds boxes : List Bounds) (r : Record) (at k : ℕ) → AreLists rs order bounds → IsListedAt order rs r at k → made ≡ remove rs at → put ≡ remove order k → boxes ≡ remove bounds k → AreLists made put boxes
lists-taken rs order made put bounds boxes r at k lists l =
    taken-after r.id rs order made put bounds boxes r at k lists (l.there, λ d. found-here rs at r.id d lists.rising l.there (ap (λ (x : Record). x.id) (get_or_default rs at d r l.there ∙ l.here))) l

-- a document whose lists were changed, or stayed as they were
module _ (d : Contents) (order : List Record) (bounds : List Bounds) (kept : IsKeptInOrder d order bounds) (rs made : List Record) (boxes : List Bounds) where
  stays : rs ≡ d.records → made ≡ order → boxes ≡ bounds → IsKeptInOrder (record { records = rs; next = d.next }) made boxes
  stays e f g = kept-is (record { records = rs; next = d.next }) order made bounds boxes f g (subst (λ (l : List Record). IsKeptInOrder (record { records = l; next = d.next }) order bounds) (sym e) kept)

  pub taken-if : (b : Bool) (r : Record) (at k : ℕ) → rs ≡ changed_if b Remove at d.records → made ≡ changed_if b Remove k order → boxes ≡ changed_if b Remove k bounds → IsWellFormed (record { records = remove d.records at; next = d.next })
      → at < length d.records → r ≡ get_or d.records at r → IsPlaceOf r.place order k → IsKeptInOrder (record { records = rs; next = d.next }) made boxes
  taken-if false r at k e f g well within here p = stays e f g
  taken-if true r at k e f g well within here p =
      let now : Contents = record { records = rs; next = d.next } in
      kept-is now (remove order k) made (remove bounds k) boxes f g
      (taken-kept d order bounds kept now (subst (λ (l : List Record). IsWellFormed (record { records = l; next = d.next })) (sym e) well) r at k within here p e)

  pub added-if : (b : Bool) → b ≡ true → (n : ℕ) (s : Record) (box : Bounds) (last k : ℕ) → last ≡ length d.records → rs ≡ changed_if b (Insert s) last d.records → made ≡ changed_if b (Insert s) k order → boxes ≡ changed_if b (Insert box) k bounds → IsWellFormed (record { records = d.records ++ s ∷ []; next = n })
      → IsPlaceOf s.place order k → Suits order bounds s box → IsHeldAbove order bounds s box → IsKeptInOrder (record { records = rs; next = n }) made boxes
  added-if false h n s box last k end e f g well p suits above = cc
  added-if true h n s box last k end e f g well p suits above =
      let now : Contents = record { records = rs; next = n } in
      let whole : rs ≡ d.records ++ s ∷ [] = e ∙ ap (λ m. insert d.records m s) end ∙ insert_end d.records s in
      kept-is now (insert order k s) made (insert bounds k box) boxes f g
      (added-kept d order bounds kept now (subst (λ (l : List Record). IsWellFormed (record { records = l; next = n })) (sym whole) well) s box k p whole suits above)

  pub replaced-if : (b : Bool) (s : Record) (box : Bounds) (at k : ℕ) → rs ≡ changed_if b (Replace s) at d.records → made ≡ changed_if b (Replace s) k order → boxes ≡ changed_if b (Replace box) k bounds → IsWellFormed (record { records = set d.records at s; next = d.next })
      → at < length d.records → (get_or d.records at s).place ≡ s.place → IsPlaceOf s.place order k → Suits order bounds s box → IsHeldAbove order bounds s box → IsKeptInOrder (record { records = rs; next = d.next }) made boxes
  replaced-if false s box at k e f g well within place p suits above = stays e f g
  replaced-if true s box at k e f g well within place p suits above =
      let now : Contents = record { records = rs; next = d.next } in
      kept-is now (set order k s) made (set bounds k box) boxes f g
      (replaced-kept d order bounds kept now (subst (λ (l : List Record). IsWellFormed (record { records = l; next = d.next })) (sym e) well) s box at k within place p e suits above)

  pub moved-if : (b : Bool) (r s : Record) (box : Bounds) (at k to : ℕ) → rs ≡ changed_if b (Replace s) at d.records → made ≡ cond b (insert (remove order k) to s) order → boxes ≡ cond b (insert (remove bounds k) to box) bounds → IsWellFormed (record { records = set d.records at s; next = d.next })
      → at < length d.records → r ≡ get_or d.records at r → HaveOneShape r s → IsPlaceOf r.place order k → IsPlaceOf s.place (remove order k) to → box ≡ get_or bounds k box → IsHeldAbove order bounds s box → IsKeptInOrder (record { records = rs; next = d.next }) made boxes
  moved-if false r s box at k to e f g well within here shape p q held above = stays e f g
  moved-if true r s box at k to e f g well within here shape p q held above =
      let now : Contents = record { records = rs; next = d.next } in
      kept-is now (insert (remove order k) to s) made (insert (remove bounds k) to box) boxes f g
      (moved-kept d order bounds kept now (subst (λ (l : List Record). IsWellFormed (record { records = l; next = d.next })) (sym e) well) r s box at k to within here shape p q e held above)

-- the same records by place, with bounds that were made wider
pub widened-kept : (d : Contents) (order : List Record) (bounds : List Bounds) → IsKeptInOrder d order bounds → (made : List Record) (boxes : List Bounds) → made ≡ order → AreBounds made boxes → IsKeptInOrder d made boxes
widened-kept d order bounds kept made boxes e bounded =
    record {
      well_formed = kept.well_formed;
      in_order = subst (λ (l : List Record). IsInPlaceOrder l d.records) (sym e) kept.in_order;
      bounded = bounded;
    }

-- ---- room for one more record

pub room-next : (order rs : List Record) (at end : ℕ) → length order ≡ length rs → length rs ≤ most_records → end ≤ length order → at < end → Fits w64 (at + 1)
room-next order rs at end long few bound within = Fits-of_lt (omega arith)

-- ---- a shape below which nothing lies

-- without it one record is gone
deleted-childless : (id at : ℕ) (d now : Contents) → d ≡ now → IsWellFormed d → StandsAt d.records id at → IsChildless id d.records → effect_of (Delete id) now ≡ record { records = remove now.records at; next = now.next }
deleted-childless id at d now same well there none =
    let left : filter (λ r. not (is_in_subtree id d.records r)) d.records ≡ remove d.records at = childless-deleted id at d.records well.rising there none in
    subst (λ (e : Contents). effect_of (Delete id) e ≡ record { records = remove e.records at; next = e.next }) same (ap (λ (l : List Record). record { records = l; next = d.next }) left)

pub deleted-leaf : (id at : ℕ) (d now : Contents) (r : Record) → d ≡ now → IsWellFormed d → IsStanding d.records id at r → is_container r.kind ≡ false → effect_of (Delete id) now ≡ record { records = remove now.records at; next = now.next }
deleted-leaf id at d now r same well standing leaf = deleted-childless id at d now same well standing.there (leaf-childless d well id r standing.found leaf)

pub deleted-one : (id at : ℕ) (d now : Contents) (order : List Record) (low high : ℕ) → d ≡ now → IsWellFormed d → IsInPlaceOrder order d.records → StandsAt d.records id at → AreChildrenWithin (Shape id) order low high → high ≤ low → effect_of (Delete id) now ≡ record { records = remove now.records at; next = now.next }
deleted-one id at d now order low high same well o there within none = deleted-childless id at d now same well there (childless-from_range id order d.records low high o within none)

-- no more than so many stand between two positions of an order
pub few-within : (order rs : List Record) (low high : ℕ) → length order ≡ length rs → length rs ≤ most_records → high ≤ length order → high ≤ low + most_records
few-within order rs low high long few bound = omega arith
