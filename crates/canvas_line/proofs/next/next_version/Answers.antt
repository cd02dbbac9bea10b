use Rattle.std.proofs.Common.{◌≡◌, ap, sym, ◌∙◌, subst}
use Rattle.std.specs.Arc.{arc_value}
use Rattle.canvas_record.specs.declared.edits.Change.{Change}
use Rattle.canvas_record.specs.Effect.{new_id}
use Rattle.canvas_line.specs.declared.version.Version.{Version}
use Rattle.canvas_line.specs.Lines.{Follows}
use Rattle.canvas_line.proofs.next.next_version.Goals as goal

pub returns-clause-follows : goal.returns-clause-follows
returns-clause-follows c =
    let change = c.in_ok-change.change in
    let w = arc_value c.in_ok-version.version in
    let decided = c.in_ok-change.ensures in
    let made = c.in_ok-version.ensures in
    let follows : Follows c.args.version.now c.args.limit c.args.edit.now change w = (decided.0, decided.1, c.if-version-limit.false, made.0, made.1, made.2, made.3) in
    let same : c.of-added.result.value ≡ change = c.of-added.ensures in (
      subst (λ (added : Change). Follows c.args.version.now c.args.limit c.args.edit.now added w) (sym same) follows,
      ap (λ (v : Version). v.number) c.deref.ensures,
      c.new_id-id.ensures ∙ ap new_id (sym same),
    )
