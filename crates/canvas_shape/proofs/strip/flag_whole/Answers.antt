use Rattle.std.proofs.Common.{◌≡◌, ℕ, [], ◌+◌, ◌<◌, ◌&&◌, true, get_or, ◌≤ℤ◌, inl, inr, refl, length, subst, ℤ, ◌∙◌, ap, sym, le_refl, le_trans, lt_of_lt_of_le}
use Rattle.std.specs.Prelude.{nat_lt}
use Rattle.std.specs.Int.{w64}
use Rattle.std.specs.Int.Signed.{<ℤ-≤ℤ_trans}
use Rattle.std.proofs.lemmas.Bool.{cases_lt}
use Rattle.std.proofs.lemmas.Int.{to_z-of_z}
use Rattle.std.proofs.lemmas.List.{get_or_default}
use Rattle.canvas_plane.specs.Motion.{not_same}
use Rattle.canvas_plane.specs.Window.{column_shown, row_shown}
use Rattle.canvas_shape.specs.declared.edge_flags.EdgeFlags.{EdgeFlags}
use Rattle.canvas_shape.specs.Edges.{counts, crosses_row}
use Rattle.canvas_shape.specs.Flags.{is_held}
use Rattle.canvas_shape.proofs.Grids.{columns-rise}
use Rattle.canvas_shape.proofs.Sizes.{y-fits}
use Rattle.canvas_shape.proofs.Strips.{columns-left, crosses-words, row-above, row-below, rows-after, rows-read, rows-step}
use Rattle.canvas_shape.proofs.strip.flag_whole.Goals as goal

pub loop-k-init : goal.loop-k-init
loop-k-init c =
    let window = c.args.grid.window in
    let shown : ℕ → ℤ = λ j. row_shown window (c.args.grid.first + j) in
    record {
      before = λ j i d lt. row-above c.args.from c.args.to shown c.min.result (column_shown window i) _ c.rows_before-start.result (length c.args.rows.now) window.w j i (subst (λ z. c.min.result ≤ℤ z) (to_z-of_z w64 c.args.from.y (y-fits c.args.from c.requires.near.0)) c.min.ensures.self_bound) (subst (λ z. c.min.result ≤ℤ z) (to_z-of_z w64 c.args.to.y (y-fits c.args.to c.requires.near.1)) c.min.ensures.other_bound) (rows-read shown c.min.result c.rows_before-start.result (length c.args.rows.now) (record { sfits = c.min.type_inv }) c.rows_before-start.ensures.before) lt (lt_of_lt_of_le lt c.rows_before-start.ensures.within);
      after = λ j d le. refl;
    }

pub loop-k-preserved : goal.loop-k-preserved
loop-k-preserved c =
    let window = c.args.grid.window in
    let shown : ℕ → ℤ = λ j. row_shown window (c.args.grid.first + j) in
    let cross : crosses_row c.args.from c.args.to (shown c.loop-k.k) ≡ true = crosses-words c.args.from c.args.to shown c.min.result c.max.result c.rows_before-start.result c.rows_before-end.result (length c.args.rows.now) c.loop-k.k c.requires.near.0 c.requires.near.1 (record { sfits = c.min.type_inv }) (record { sfits = c.max.type_inv }) c.min.ensures.value c.max.ensures.value c.rows_before-start.ensures.before c.rows_before-end.ensures.before c.loop-k.auto.k c.loop-k-test.true c.rows_before-end.ensures.within in
    let blank : EdgeFlags = record { words = [] } in
    let below : c.loop-k.k < length c.args.rows.now = lt_of_lt_of_le c.loop-k-test.true c.rows_before-end.ensures.within in
    let lt : c.loop-k.k < length c.loop-k.rows = subst (λ n. c.loop-k.k < n) (sym c.loop-k.auto.rows) below in
    record {
      before = rows-step c.loop-k.rows c.args.rows.now c.toggle_before.new.self (λ j i. nat_lt i window.w && counts c.args.from c.args.to (column_shown window i) (shown j)) c.loop-k.k lt
          (λ d i. c.toggle_before.ensures i
          ∙ ap (λ n. not_same (is_held (get_or c.loop-k.rows c.loop-k.k blank).words i) (nat_lt i n)) c.w.ensures.value
          ∙ ap (λ r. not_same (is_held r.words i) (nat_lt i window.w)) (get_or_default c.loop-k.rows c.loop-k.k blank d lt ∙ c.loop-k.invariant.after c.loop-k.k d (le_refl c.loop-k.k))
          ∙ ap (not_same (is_held (get_or c.args.rows.now c.loop-k.k d).words i)) (columns-left c.args.from c.args.to (column_shown window) (shown c.loop-k.k) window.w i cross (λ k inside. (<ℤ-≤ℤ_trans (columns-rise window k window.w inside) c.requires.beyond.0, <ℤ-≤ℤ_trans (columns-rise window k window.w inside) c.requires.beyond.1))))
          c.loop-k.invariant.before;
      after = rows-after c.loop-k.rows c.args.rows.now c.toggle_before.new.self c.loop-k.k c.loop-k.invariant.after;
    }

pub returns : goal.returns
returns c = λ k i d lt.
    let window = c.args.grid.window in
    let shown : ℕ → ℤ = λ j. row_shown window (c.args.grid.first + j) in
    elim (cases_lt k c.loop-k.k) [
      | inl above ↦ c.loop-k.invariant.before k i d above
      | inr below ↦ ap (λ r. is_held r.words i) (c.loop-k.invariant.after k d below) ∙ row-below c.args.from c.args.to shown c.max.result (column_shown window i) _ c.rows_before-end.result (length c.args.rows.now) window.w k i (subst (λ z. z ≤ℤ c.max.result) (to_z-of_z w64 c.args.from.y (y-fits c.args.from c.requires.near.0)) c.max.ensures.self_bound) (subst (λ z. z ≤ℤ c.max.result) (to_z-of_z w64 c.args.to.y (y-fits c.args.to c.requires.near.1)) c.max.ensures.other_bound) (rows-read shown c.max.result c.rows_before-end.result (length c.args.rows.now) (record { sfits = c.max.type_inv }) c.rows_before-end.ensures.before) (le_trans c.loop-k-test.false below) (subst (λ n. k < n) c.loop-k.auto.rows lt)
    ]
