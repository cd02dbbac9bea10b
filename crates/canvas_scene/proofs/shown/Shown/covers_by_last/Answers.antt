use Rattle.std.proofs.Common.{All, List, subst, sym}
use Rattle.canvas_plane.specs.declared.PageBox.{PageBox}
use Rattle.canvas_scene.specs.Covers.{IsHidden}
use Rattle.canvas_paint.specs.declared.item.Item.{Item}
use Rattle.canvas_scene.proofs.shown.Shown.covers_by_last.Goals as goal

pub returns-else-covers : goal.returns-else-covers
returns-else-covers c = λ h.
    let items = c.self.inside.items.items in
    let P : List PageBox → Type 0 = λ l. All (IsHidden items) l in
    let Q : List Item → Type 0 = λ l. IsHidden l c.args.part.now in
    subst Q c.self.view_is (c.lies_within_last.ensures h items (subst P (sym c.deref.ensures.value) c.self.invariant.0))
