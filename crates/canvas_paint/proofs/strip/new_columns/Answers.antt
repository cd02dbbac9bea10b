use Rattle.std.proofs.Common.{◌≡◌, ◌∙◌, ◌+◌, ℕ, All, List, None, ap, subst, sym}
use Rattle.std.proofs.lemmas.List.Elements.{All-push}
use Rattle.canvas_paint.specs.declared.column.Column.{Column}
use Rattle.canvas_paint.specs.Columns.{IsNew, blocks_in, fill_in}
use Rattle.canvas_paint.proofs.Filling.{column-more}
use Rattle.canvas_paint.proofs.strip.new_columns.Goals as goal

pub loop-preserved : goal.loop-preserved
loop-preserved c = record {
  count = c.in_ok-push.ensures.len ∙ ap (λ n. n + 1) c.loop.invariant.count;
  new = subst (λ (l : List Column). All IsNew l) (sym c.in_ok-push.ensures.items) (All-push IsNew c.loop.columns.items c.in_ok-new.field-0 c.loop.invariant.new c.in_ok-new.ensures.new);
  empty = subst (λ (l : List Column). (k j : ℕ) → fill_in (blocks_in l) k j ≡ None) (sym c.in_ok-push.ensures.items) (column-more c.loop.columns.items c.in_ok-new.field-0 c.in_ok-new.ensures.empty c.loop.invariant.empty);
}
