use Rattle.std.proofs.Common.{◌≡◌, ◌∙◌, ◌++◌, ◌∷◌, [], ap, refl, rules, sym, All, List, subst}
use Rattle.canvas_plane.specs.Page.{is_in}
use Rattle.canvas_shape.specs.Leaves.{carried_holds, page_box_of}
use Rattle.canvas_paint.specs.declared.item.Item.{Item}
use Rattle.canvas_scene.specs.Covers.{first_fill, AreCellsHidden, IsHidden}
use Rattle.canvas_scene.proofs.shown.Shown.add.Goals.{in-Rect+in_ok-keep_cover, in_default}
use Rattle.canvas_scene.proofs.Covering.{added-item, cells-still-hidden, more-cells-hidden, newly-hidden, rectangle-holds, still-hidden}
use Rattle.canvas_scene.proofs.shown.Shown.add.Goals as goal

pub invariant_of-self-in-Continue-branch-2 : goal.invariant_of-self-in-Continue-branch-2
invariant_of-self-in-Continue-branch-2 c =
    let item : Item = record { leaf = c.args.leaf; clip = c.args.clip.now; fill = c.args.fill } in
    let held = rectangle-holds c.args.leaf c.in-Rect.shape c.sides.result c.args.clip.now c.meet-part.result c.args.fill c.in-Rect.is (c.sides.ensures.value ∙ ap page_box_of (sym c.in-Rect.is)) c.meet-part.ensures.exact in
    let before = still-hidden c.self.inside.covers.items c.self.inside.items.items c.push.new.self.items item c.in_ok-push.ensures.items c.self.invariant.0 in (
      c.keep_cover.ensures c.push.new.self.items before (newly-hidden c.self.inside.items.items c.push.new.self.items item c.meet-part.result c.in_ok-push.ensures.items held),
      more-cells-hidden c.self.inside.cells c.mark.new.self c.self.inside.items.items c.push.new.self.items item c.meet-part.result c.in_ok-push.ensures.items c.mark.ensures held c.self.invariant.1,
    )

pub invariant_of-self-in_err-keep_cover : goal.invariant_of-self-in_err-keep_cover
invariant_of-self-in_err-keep_cover c =
    let item : Item = record { leaf = c.args.leaf; clip = c.args.clip.now; fill = c.args.fill } in
    let held = rectangle-holds c.args.leaf c.in-Rect.shape c.sides.result c.args.clip.now c.meet-part.result c.args.fill c.in-Rect.is (c.sides.ensures.value ∙ ap page_box_of (sym c.in-Rect.is)) c.meet-part.ensures.exact in
    let before = still-hidden c.self.inside.covers.items c.self.inside.items.items c.push.new.self.items item c.in_ok-push.ensures.items c.self.invariant.0 in (
      c.keep_cover.ensures c.push.new.self.items before (newly-hidden c.self.inside.items.items c.push.new.self.items item c.meet-part.result c.in_ok-push.ensures.items held),
      more-cells-hidden c.self.inside.cells c.mark.new.self c.self.inside.items.items c.push.new.self.items item c.meet-part.result c.in_ok-push.ensures.items c.mark.ensures held c.self.invariant.1,
    )

pub invariant_of-self-in_default : goal.invariant_of-self-in_default
invariant_of-self-in_default c =
    let item : Item = record { leaf = c.args.leaf; clip = c.args.clip.now; fill = c.args.fill } in (
      still-hidden c.self.inside.covers.items c.self.inside.items.items c.push.new.self.items item c.in_ok-push.ensures.items c.self.invariant.0,
      cells-still-hidden c.self.inside.cells c.self.inside.items.items c.push.new.self.items item c.in_ok-push.ensures.items c.self.invariant.1,
    )

pub returns-clause-fills : goal.returns-clause-fills
returns-clause-fills c = λ x y.
    let item : Item = record { leaf = c.args.leaf; clip = c.args.clip.now; fill = c.args.fill } in
    let more : c.match-leaf.self ≡ c.args.self.now ++ item ∷ [] = search rules in
    ap (λ l. first_fill l x y) more ∙ added-item c.args.self.now item (carried_holds c.args.leaf x y) (is_in c.args.clip.now x y) x y refl

pub invariant_of-self : goal.invariant_of-self
invariant_of-self c =
    let P : List Item → Type 0 = λ l. All (IsHidden l) c.self.inside.covers.items in
    let Q : List Item → Type 0 = λ l. AreCellsHidden l c.self.inside.cells in
    let same = sym c.in_err-push.ensures.items in
    (subst P same c.self.invariant.0, subst Q same c.self.invariant.1)

pub returns-clause-items : goal.returns-clause-items
returns-clause-items c =
    let item : Item = record { leaf = c.args.leaf; clip = c.args.clip.now; fill = c.args.fill } in
    let more : c.push.new.self.items ≡ c.args.self.now ++ item ∷ [] = c.in_ok-push.ensures.items ∙ ap (λ l. l ++ item ∷ []) c.self.view_is in
    elim c.match-leaf.branch [
      | in-Rect+in_ok-keep_cover w ↦ rw w.self-is more
      | in_default w ↦ rw w.self-is more
    ]
