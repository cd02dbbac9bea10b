use Rattle.std.proofs.Common.{◌≡◌, ◌∙◌, ◌+◌, ◌<◌, ◌≤◌, ◌^◌, ◌++◌, ◌∷◌, [], ℕ, suc, All, Fits, List, ap, arith, length, true, refl, subst, sym}
use Rattle.std.specs.Int.{w32}
use Rattle.std.specs.List.{insert}
use Rattle.std.proofs.Math.Facts.{Fits-of_lt}
use Rattle.std.proofs.lemmas.List.Edits.{insert_end}
use Rattle.canvas_list.specs.declared.in_place.ItemChange.TheVariants.{Insert}
use Rattle.canvas_list.specs.Changed.{changed_if}
use Rattle.canvas_doc.specs.declared.bounds.Bounds.{Bounds}
use Rattle.canvas_record.specs.declared.records.Record.{Record}
use Rattle.canvas_record.specs.Contents.{most_records, Contents, IsWellFormed}
use Rattle.canvas_record.specs.Tree.{IsInLimits}
use Rattle.canvas_doc.specs.PlaceOrder.{IsKeptInOrder, IsPlaceOf}
use Rattle.canvas_doc.proofs.editing.InPlace.{added-if, widened-kept}
use Rattle.canvas_doc.proofs.Document.add.Goals as goal

-- a list with one more record at its end
appended : (rs xs : List Record) (last : ℕ) (s t : Record) → t ≡ s → last ≡ length xs → rs ≡ changed_if true (Insert t) last xs → rs ≡ xs ++ s ∷ []
appended rs xs last s t same end e = e ∙ ap (λ n. insert xs n t) end ∙ insert_end xs t ∙ ap (λ r. xs ++ r ∷ []) same

-- lists that are the same are kept as they were
kept-same : (d : Contents) (order made : List Record) (bounds boxes : List Bounds) (rs : List Record) → IsKeptInOrder d order bounds → rs ≡ d.records → made ≡ order → boxes ≡ bounds → IsKeptInOrder (record { records = rs; next = d.next }) made boxes
kept-same d order made bounds boxes rs kept e f g =
    subst (λ (l : List Record). IsKeptInOrder (record { records = l; next = d.next }) made boxes) (sym e)
    (subst (λ (l : List Record). IsKeptInOrder d l boxes) (sym f) (subst (λ (l : List Bounds). IsKeptInOrder d order l) (sym g) kept))

-- what holds of all records holds of the last one
last-holds : (P : Record → Type 0) (rs : List Record) (s : Record) → All P (rs ++ s ∷ []) → P s
last-holds P [] s all = all 0 s (omega arith)
last-holds P (r ∷ rs) s all = last-holds P rs s (λ k d less. all (suc k) d (omega arith))

-- there is room for one more
room-one : (order rs : List Record) → length order ≡ length rs → length rs ≤ most_records → length order + 1 < 2 ^ 32
room-one order rs long few = omega arith

pub invariant_of-self : goal.invariant_of-self
invariant_of-self c =
    widened-kept (record { records = c.self.inside.records; next = c.self.inside.next }) c.self.inside.order.shapes c.self.inside.order.bounds c.self.invariant c.held_bounds_for.new.order.shapes c.held_bounds_for.new.order.bounds c.in_err-bounds.ensures.shapes c.in_err-bounds.ensures.bounds

pub invariant_of-self-in_err-new : goal.invariant_of-self-in_err-new
invariant_of-self-in_err-new c =
    widened-kept (record { records = c.self.inside.records; next = c.self.inside.next }) c.self.inside.order.shapes c.self.inside.order.bounds c.self.invariant c.held_bounds_for.new.order.shapes c.held_bounds_for.new.order.bounds c.in_ok-bounds.ensures.shapes c.in_ok-bounds.ensures.bounds

pub invariant_of-self-in_err-shared : goal.invariant_of-self-in_err-shared
invariant_of-self-in_err-shared c =
    widened-kept (record { records = c.self.inside.records; next = c.self.inside.next }) c.self.inside.order.shapes c.self.inside.order.bounds c.self.invariant c.held_bounds_for.new.order.shapes c.held_bounds_for.new.order.bounds c.in_ok-bounds.ensures.shapes c.in_ok-bounds.ensures.bounds

pub invariant_of-self-in_err-change_both : goal.invariant_of-self-in_err-change_both
invariant_of-self-in_err-change_both c =
    let d : Contents = record { records = c.self.inside.records; next = c.self.inside.next } in
    let order : List Record = c.held_bounds_for.new.order.shapes in
    let bounds : List Bounds = c.held_bounds_for.new.order.bounds in
    kept-same d order c.change_both.new.self.shapes bounds c.change_both.new.self.bounds c.change_both.new.records
    (widened-kept d c.self.inside.order.shapes c.self.inside.order.bounds c.self.invariant order bounds c.in_ok-bounds.ensures.shapes c.in_ok-bounds.ensures.bounds)
    c.in_err-change_both.ensures.other c.in_err-change_both.ensures.shapes c.in_err-change_both.ensures.bounds

pub returns : goal.returns
returns c =
    let new : c.change_both.new.records ≡ c.self.inside.records ++ c.args.shape ∷ [] = appended c.change_both.new.records c.self.inside.records c.len-last.result c.args.shape c.in_ok-new.new c.in_ok-new.ensures c.len-last.ensures.len c.in_ok-change_both.ensures.other in
    ap (λ (l : List Record). record { records = l; next = c.self.inside.next + 1 }) new
    ∙ ap (λ (d : Contents). record { records = d.records ++ c.args.shape ∷ []; next = d.next + 1 }) c.self.view_is

pub held_bounds_for-requires-clause-shape : goal.held_bounds_for-requires-clause-shape
held_bounds_for-requires-clause-shape c = last-holds IsInLimits c.args.self.now.records c.args.shape c.requires.limits

pub overflow_add-self : goal.overflow_add-self
overflow_add-self c = subst (λ (d : Contents). Fits w32 (d.next + 1)) (sym c.self.view_is) (Fits-of_lt c.requires.next_below)

pub change_both-requires-clause-place : goal.change_both-requires-clause-place
change_both-requires-clause-place c =
    let few : length c.self.inside.order.shapes + 1 < 2 ^ 32 = room-one c.self.inside.order.shapes c.self.inside.records c.self.invariant.in_order.long c.self.invariant.well_formed.few in
    subst (λ (l : List Record). (c.position_in-at.result ≤ length l) × (length l + 1 < 2 ^ 32)) (sym c.in_ok-bounds.ensures.shapes) (c.position_in-at.ensures.bound, few)

pub invariant_of-self-2 : goal.invariant_of-self-2
invariant_of-self-2 c =
    let d : Contents = record { records = c.self.inside.records; next = c.self.inside.next } in
    let order : List Record = c.held_bounds_for.new.order.shapes in
    let bounds : List Bounds = c.held_bounds_for.new.order.bounds in
    let kept : IsKeptInOrder d order bounds = widened-kept d c.self.inside.order.shapes c.self.inside.order.bounds c.self.invariant order bounds c.in_ok-bounds.ensures.shapes c.in_ok-bounds.ensures.bounds in
    let at = c.position_in-at.result in
    let well : IsWellFormed (record { records = d.records ++ c.args.shape ∷ []; next = d.next + 1 }) = subst (λ (e : Contents). IsWellFormed (record { records = e.records ++ c.args.shape ∷ []; next = e.next + 1 })) (sym c.self.view_is) c.requires in
    added-if d order bounds kept c.change_both.new.records c.change_both.new.self.shapes c.change_both.new.self.bounds
    true refl (d.next + 1) c.args.shape c.in_ok-bounds.bounds c.len-last.result at c.len-last.ensures.len
    (subst (λ (x : Record). c.change_both.new.records ≡ changed_if true (Insert x) c.len-last.result d.records) c.in_ok-new.ensures c.in_ok-change_both.ensures.other)
    (subst (λ (x : Record). c.change_both.new.self.shapes ≡ changed_if true (Insert x) at order) (c.new-placed.ensures.shape ∙ c.in_ok-shared.ensures ∙ c.in_ok-new.ensures) c.in_ok-change_both.ensures.shapes)
    (subst (λ (b : Bounds). c.change_both.new.self.bounds ≡ changed_if true (Insert b) at bounds) c.new-placed.ensures.bounds c.in_ok-change_both.ensures.bounds)
    well
    (subst (λ (l : List Record). IsPlaceOf c.args.shape.place l at) (sym c.in_ok-bounds.ensures.shapes) c.position_in-at.ensures)
    (record { own = c.in_ok-bounds.ensures.own; below = c.in_ok-bounds.ensures.below }) c.in_ok-bounds.ensures.held
