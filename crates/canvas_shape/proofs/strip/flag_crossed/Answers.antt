use Rattle.std.proofs.Common.{ℕ, [], ◌+◌, ◌^◌, ◌&&◌, true, get_or, unsigned_abs, ◌≡◌, ◌<◌, ◌≤◌, ◌≤ℤ◌, ◌<ℤ◌, inl, inr, refl, length, subst, ℤ, ◌∙◌, ap, sym, le_refl, le_trans, lt_of_lt_of_le, le-add_right}
use Rattle.std.specs.Int.{w32, w64}
use Rattle.std.proofs.lemmas.Int.{to_z-of_z}
use Rattle.std.proofs.lemmas.Bool.{cases_lt}
use Rattle.canvas_shape.specs.declared.edge_flags.EdgeFlags.{EdgeFlags}
use Rattle.canvas_shape.specs.Flags.{is_held}
use Rattle.canvas_shape.specs.Lines.{Follows}
use Rattle.canvas_plane.specs.Sides.{scale_of}
use Rattle.canvas_plane.specs.Window.{column_shown, row_shown}
use Rattle.canvas_shape.proofs.Grids.{row-next}
use Rattle.canvas_shape.proofs.Sizes.{y-fits}
use Rattle.canvas_shape.proofs.Strips.{between-ends, crosses-words, here-next, row-above, row-below, rows-after, rows-read, rows-step}
use Rattle.canvas_shape.specs.Edges.{counts, crosses_row}
use Rattle.canvas_plane.specs.Motion.{not_same}
use Rattle.std.specs.Prelude.{nat_lt, int_lt}
use Rattle.std.proofs.lemmas.List.{get_or_default}
use Rattle.canvas_shape.proofs.strip.flag_crossed.Goals as goal

pub returns-then-end-start : goal.returns-then-end-start
returns-then-end-start c = λ k i d lt.
    let window = c.args.grid.window in
    let shown : ℕ → ℤ = λ j. row_shown window (c.args.grid.first + j) in
    elim (cases_lt k c.rows_before-start.result) [
      | inl above ↦ row-above c.args.from c.args.to shown c.min.result (column_shown window i) _ c.rows_before-start.result (length c.args.rows.now) window.w k i (subst (λ z. c.min.result ≤ℤ z) (to_z-of_z w64 c.args.from.y (y-fits c.args.from c.requires.near.0)) c.min.ensures.self_bound) (subst (λ z. c.min.result ≤ℤ z) (to_z-of_z w64 c.args.to.y (y-fits c.args.to c.requires.near.1)) c.min.ensures.other_bound) (rows-read shown c.min.result c.rows_before-start.result (length c.args.rows.now) (record { sfits = c.min.type_inv }) c.rows_before-start.ensures.before) above lt
      | inr below ↦ row-below c.args.from c.args.to shown c.max.result (column_shown window i) _ c.rows_before-end.result (length c.args.rows.now) window.w k i (subst (λ z. z ≤ℤ c.max.result) (to_z-of_z w64 c.args.from.y (y-fits c.args.from c.requires.near.0)) c.max.ensures.self_bound) (subst (λ z. z ≤ℤ c.max.result) (to_z-of_z w64 c.args.to.y (y-fits c.args.to c.requires.near.1)) c.max.ensures.other_bound) (rows-read shown c.max.result c.rows_before-end.result (length c.args.rows.now) (record { sfits = c.max.type_inv }) c.rows_before-end.ensures.before) (le_trans c.if-end-start.true below) lt
    ]

pub in_row-line-requires-clause-crossing : goal.in_row-line-requires-clause-crossing
in_row-line-requires-clause-crossing c =
    let window = c.args.grid.window in
    let shown : ℕ → ℤ = λ j. row_shown window (c.args.grid.first + j) in
    ap (crosses_row c.args.from c.args.to) (to_z-of_z w32 c.row.result (record { sfits = c.row.type_inv }) ∙ c.row.ensures)
    ∙ crosses-words c.args.from c.args.to shown c.min.result c.max.result c.rows_before-start.result c.rows_before-end.result (length c.args.rows.now) c.rows_before-start.result c.requires.near.0 c.requires.near.1 (record { sfits = c.min.type_inv }) (record { sfits = c.max.type_inv }) c.min.ensures.value c.max.ensures.value c.rows_before-start.ensures.before c.rows_before-end.ensures.before (le_refl c.rows_before-start.result) c.if-end-start.false c.rows_before-end.ensures.within

pub loop-k-init : goal.loop-k-init
loop-k-init c =
    let window = c.args.grid.window in
    let shown : ℕ → ℤ = λ j. row_shown window (c.args.grid.first + j) in
    record {
      line = subst (λ n. Follows c.args.from c.args.to n (shown c.rows_before-start.result) c.in_row-line.result) c.apart.ensures.value (subst (λ z. Follows c.args.from c.args.to c.apart.result z c.in_row-line.result) (to_z-of_z w32 c.row.result (record { sfits = c.row.type_inv }) ∙ c.row.ensures) c.in_row-line.ensures.follows);
      x = c.in_row-line.ensures.near;
      here = le_trans c.in_row-line.ensures.here (le-add_right _ _);
      step = c.in_row-line.ensures.step;
      before = λ j i d lt. row-above c.args.from c.args.to shown c.min.result (column_shown window i) _ c.rows_before-start.result (length c.args.rows.now) window.w j i (subst (λ z. c.min.result ≤ℤ z) (to_z-of_z w64 c.args.from.y (y-fits c.args.from c.requires.near.0)) c.min.ensures.self_bound) (subst (λ z. c.min.result ≤ℤ z) (to_z-of_z w64 c.args.to.y (y-fits c.args.to c.requires.near.1)) c.min.ensures.other_bound) (rows-read shown c.min.result c.rows_before-start.result (length c.args.rows.now) (record { sfits = c.min.type_inv }) c.rows_before-start.ensures.before) lt (lt_of_lt_of_le lt c.rows_before-start.ensures.within);
      after = λ j d le. refl;
    }

pub loop-k-preserved : goal.loop-k-preserved
loop-k-preserved c =
    let window = c.args.grid.window in
    let shown : ℕ → ℤ = λ j. row_shown window (c.args.grid.first + j) in
    let row = shown c.loop-k.k in
    let apart = scale_of window.level in
    let cross : crosses_row c.args.from c.args.to row ≡ true = crosses-words c.args.from c.args.to shown c.min.result c.max.result c.rows_before-start.result c.rows_before-end.result (length c.args.rows.now) c.loop-k.k c.requires.near.0 c.requires.near.1 (record { sfits = c.min.type_inv }) (record { sfits = c.max.type_inv }) c.min.ensures.value c.max.ensures.value c.rows_before-start.ensures.before c.rows_before-end.ensures.before c.loop-k.auto.k c.loop-k-test.true c.rows_before-end.ensures.within in
    let blank : EdgeFlags = record { words = [] } in
    let below : c.loop-k.k < length c.args.rows.now = lt_of_lt_of_le c.loop-k-test.true c.rows_before-end.ensures.within in
    let lt : c.loop-k.k < length c.loop-k.rows = subst (λ n. c.loop-k.k < n) (sym c.loop-k.auto.rows) below in
    record {
      line = subst (λ z. Follows c.args.from c.args.to apart z c.next-line.result) (row-next window c.args.grid.first c.loop-k.k apart refl) (c.next-line.ensures.follows c.args.from c.args.to apart row c.loop-k.invariant.line);
      x = subst (λ z. unsigned_abs z ≤ 2 ^ 27) (sym c.next-line.ensures.x) c.loop-k.invariant.x;
      here = here-next _ _ c.loop-k.k c.next-line.ensures.here c.loop-k.invariant.here;
      step = subst (λ z. unsigned_abs z ≤ 2 ^ 35) (sym c.next-line.ensures.step) c.loop-k.invariant.step;
      before = rows-step c.loop-k.rows c.args.rows.now c.flag_row.new.row (λ j i. nat_lt i window.w && counts c.args.from c.args.to (column_shown window i) (shown j)) c.loop-k.k lt
          (λ d i. c.flag_row.ensures i
          ∙ ap (λ z. not_same (is_held (get_or c.loop-k.rows c.loop-k.k blank).words i) (nat_lt i window.w && int_lt (column_shown window i) z)) (to_z-of_z w64 c.threshold.result (record { sfits = c.threshold.type_inv }))
          ∙ ap (λ r. not_same (is_held r.words i) (nat_lt i window.w && int_lt (column_shown window i) c.threshold.result)) (get_or_default c.loop-k.rows c.loop-k.k blank d lt ∙ c.loop-k.invariant.after c.loop-k.k d (le_refl c.loop-k.k))
          ∙ ap (λ b. not_same (is_held (get_or c.args.rows.now c.loop-k.k d).words i) (nat_lt i window.w && b)) (sym (c.threshold.ensures c.args.from c.args.to apart (column_shown window i) row c.loop-k.invariant.line cross)))
          c.loop-k.invariant.before;
      after = rows-after c.loop-k.rows c.args.rows.now c.flag_row.new.row c.loop-k.k c.loop-k.invariant.after;
    }

pub returns : goal.returns
returns c = λ k i d lt.
    let window = c.args.grid.window in
    let shown : ℕ → ℤ = λ j. row_shown window (c.args.grid.first + j) in
    elim (cases_lt k c.loop-k.k) [
      | inl above ↦ c.loop-k.invariant.before k i d above
      | inr below ↦ ap (λ r. is_held r.words i) (c.loop-k.invariant.after k d below) ∙ row-below c.args.from c.args.to shown c.max.result (column_shown window i) _ c.rows_before-end.result (length c.args.rows.now) window.w k i (subst (λ z. z ≤ℤ c.max.result) (to_z-of_z w64 c.args.from.y (y-fits c.args.from c.requires.near.0)) c.max.ensures.self_bound) (subst (λ z. z ≤ℤ c.max.result) (to_z-of_z w64 c.args.to.y (y-fits c.args.to c.requires.near.1)) c.max.ensures.other_bound) (rows-read shown c.max.result c.rows_before-end.result (length c.args.rows.now) (record { sfits = c.max.type_inv }) c.rows_before-end.ensures.before) (le_trans c.loop-k-test.false below) (subst (λ n. k < n) c.loop-k.auto.rows lt)
    ]

pub flag_row-requires : goal.flag_row-requires
flag_row-requires c = λ e.
    let window = c.args.grid.window in
    let shown : ℕ → ℤ = λ j. row_shown window (c.args.grid.first + j) in
    let row = shown c.loop-k.k in
    let apart = scale_of window.level in
    let cross : crosses_row c.args.from c.args.to row ≡ true = crosses-words c.args.from c.args.to shown c.min.result c.max.result c.rows_before-start.result c.rows_before-end.result (length c.args.rows.now) c.loop-k.k c.requires.near.0 c.requires.near.1 (record { sfits = c.min.type_inv }) (record { sfits = c.max.type_inv }) c.min.ensures.value c.max.ensures.value c.rows_before-start.ensures.before c.rows_before-end.ensures.before c.loop-k.auto.k c.loop-k-test.true c.rows_before-end.ensures.within in
    subst (λ z. (column_shown window 0 <ℤ z) × (z ≤ℤ column_shown window window.w)) (sym (to_z-of_z w64 c.threshold.result (record { sfits = c.threshold.type_inv })))
    (between-ends c.args.from c.args.to row (column_shown window 0) (column_shown window window.w) c.threshold.result cross (λ x. c.threshold.ensures c.args.from c.args.to apart x row c.loop-k.invariant.line cross) (c.requires.first e) (c.requires.second e))
