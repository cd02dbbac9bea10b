use Rattle.std.proofs.Common.{All, List, subst, sym}
use Rattle.std.proofs.lemmas.List.Elements.{All-nil}
use Rattle.canvas_plane.specs.declared.PageBox.{PageBox}
use Rattle.canvas_scene.specs.Covers.{IsHidden}
use Rattle.canvas_scene.proofs.Covering.{none-marked}
use Rattle.canvas_scene.proofs.shown.Shown.new.Goals as goal

pub invariant_of-result : goal.invariant_of-result
invariant_of-result c =
    let items = c.in_ok-with_capacity.field-0.items in
    let P : List PageBox → Type 0 = λ l. All (IsHidden items) l in
    (subst P (sym c.in_ok-with_capacity-2.ensures.items) (All-nil (IsHidden items)), none-marked items c.new.result c.new.ensures)
