use Rattle.std.proofs.Common.{◌≡◌, ◌+◌, ◌-◌, cond, ap, sym, subst, ◌∙◌, arith, length, get_or, false}
use Rattle.std.specs.Vec.{with_items}
use Rattle.canvas_record.specs.Picture.{or_white}
use Rattle.canvas_shape.specs.Words.{has}
use Rattle.canvas_paint.specs.declared.column.Column.{Column}
use Rattle.canvas_paint.specs.Columns.{IsChosen, active_fill, masked, masked_fill}
use Rattle.canvas_paint.specs.Words.{covers, is_within, IsWord}
use Rattle.canvas_paint.proofs.Columns.{items-put, none-unchanged, refreshed, unchanged}
use Rattle.canvas_paint.proofs.column.Column.repaint.Goals as goal
use Rattle.canvas_paint.proofs.column.Column.repaint.Goals.{then-not-is_chosen+in_ok-self, else-not-is_chosen, then-is_chosen, else-is_chosen}

pub returns-clause-kept : goal.returns-clause-kept
returns-clause-kept c =
    let base = c.args.base in
    let y = c.args.y in
    let row = c.args.row.now in
    let self = c.if-not-is_chosen.self in
    let active = c.follow-change.new.active in
    let column : Column = record { blocks = self.blocks; active = with_items self.active active; end = self.end; inside = self.inside; until = c.follow-change.result.until } in
    let before = c.as_mut_slice.ensures.value in
    let long : length active ≡ self.active.len = omega arith in
    let same : (with_items self.active active).items ≡ active = items-put self.active active long in
    let inside : IsWord self.inside (λ i. is_within 0 (base + i) (length row)) = elim c.if-not-is_chosen.branch [
      | then-not-is_chosen+in_ok-self w ↦ λ i lt. ap (λ s. has s.inside i) w.self-is ∙ w.part-self.ensures i lt
      | else-not-is_chosen w ↦ λ i lt. ap (λ s. has s.inside i) w.self-is ∙ c.requires.kept.inside w.if-not-is_chosen.false i lt
    ] in
    refreshed base y row c.paint_word.new.row self.active.items active column c.if-is_chosen.pixels same (omega arith) c.follow-change.ensures.end
    (elim c.if-not-is_chosen.branch [
      | then-not-is_chosen+in_ok-self w ↦
          subst (λ s. IsChosen (length row) s.blocks.items s.active.items base y s.end) (sym w.self-is)
          (subst (λ l. IsChosen (length row) l w.choose.new.active.items base y w.in_ok-self.field-0) w.deref.ensures.value w.in_ok-self.ensures.chosen)
      | else-not-is_chosen w ↦ subst (λ s. IsChosen (length row) s.blocks.items s.active.items base y s.end) (sym w.self-is) c.requires.kept.chosen
    ])
    inside
    (λ i z. c.follow-change.ensures.kept i z ∙ ap (λ l. active_fill base l i z) before)
    c.follow-change.ensures.exact
    (λ k d lt. c.paint_word.ensures k d lt ∙ ap (λ l. cond (covers base c.if-is_chosen.pixels k) (masked l (k - base)) (get_or row k d)) (c.deref-2.ensures.value ∙ same))
    (λ i d small lt off. elim c.if-is_chosen.branch [
      | then-is_chosen w ↦
          elim c.if-not-is_chosen.branch [
            | then-not-is_chosen+in_ok-self u ↦ absurd (omega arith)
            | else-not-is_chosen u ↦
                let still : has c.follow-change.result.pixels i ≡ false = unchanged base self.inside c.follow-change.result.pixels w.both-pixels.result i (length row) lt (inside i small) (w.both-pixels.ensures i small) (ap (λ n. has n i) (sym w.pixels-is) ∙ off) in
                c.requires.kept.masks (omega arith) i d small lt
                ∙ ap (λ o. (or_white o).0) (ap (λ s. masked_fill s.active.items i) (sym u.self-is) ∙ ap (λ l. masked_fill l i) (sym before) ∙ sym (c.follow-change.ensures.same i small still))
          ]
      | else-is_chosen w ↦ absurd (none-unchanged base self.inside i (length row) lt (inside i small) (ap (λ n. has n i) (sym w.pixels-is) ∙ off))
    ])
