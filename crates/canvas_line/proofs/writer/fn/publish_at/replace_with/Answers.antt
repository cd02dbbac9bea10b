use Rattle.std.proofs.Common.{◌≡◌, MatchBool, sym, subst}
use Rattle.std.specs.Mem.{manually_drop_value}
use Rattle.left_right.specs.Sides.{view as seat_view}
use Rattle.canvas_line.specs.Rule.{Knows}
use Rattle.canvas_line.proofs.writer.fn.publish_at.replace_with.Goals as goal

pub returns : goal.returns
returns g c =
    let w = c.publish-writer.result.0 in
    let done = c.publish-writer.result.1 in
    let before = c.into_inner.ensures in
    let after = c.new_unchecked.ensures in
    record {
      value = subst (λ v. MatchBool done (v.desk.shown.value ≡ c.args.next) (v.desk.shown.value ≡ (manually_drop_value c.args.writer).desk.shown.value)) (sym after)
          (subst (λ v. MatchBool done (w.desk.shown.value ≡ c.args.next) (w.desk.shown.value ≡ v.desk.shown.value)) before c.publish-writer.ensures.value);
      view = λ f knows. subst (λ v. Knows (seat_view v.desk.place) f) (sym after) (c.publish-writer.ensures.view f (subst (λ v. Knows (seat_view v.desk.place) f) (sym before) knows));
    }
