use Rattle.std.proofs.Common.{◌∙◌, All, ap, subst, reverse}
use Rattle.canvas_plane.specs.declared.PageBox.{PageBox}
use Rattle.canvas_plane.specs.Page.{is_in}
use Rattle.canvas_record.specs.declared.records.Parent.TheVariants.{Page}
use Rattle.canvas_record.specs.Picture.{or_white}
use Rattle.canvas_scene.specs.Clips.{IsClipped}
use Rattle.canvas_paint.specs.Items.{last_colour}
use Rattle.canvas_scene.specs.Trees.{AreNodesOf}
use Rattle.std.proofs.lemmas.List.{reverse-reverse}
use Rattle.canvas_scene.specs.Nodes.{items_along}
use Rattle.canvas_scene.proofs.Covering.{last-is-first}
use Rattle.canvas_scene.proofs.scenes.Scene.build.Goals as goal

pub returns-clause-colours : goal.returns-clause-colours
returns-clause-colours c = λ x y h.
    ap (λ l. last_colour l x y) c.into_list.ensures ∙ ap or_white (last-is-first c.nodes_of_page.new.shown x y)
    ∙ c.in_ok-root.ensures.colours x y (ap (λ b. is_in b x y) c.covered.ensures ∙ h)

pub returns-clause-clips : goal.returns-clause-clips
returns-clause-clips c =
    let P : PageBox → Type 0 = λ b. All (IsClipped b) c.in_ok-root.root.now in
    subst P c.covered.ensures c.in_ok-root.ensures.clips

pub returns-clause-tree : goal.returns-clause-tree
returns-clause-tree c =
    let P : PageBox → Type 0 = λ b. AreNodesOf c.args.document.now.records Page (λ q. q) b c.in_ok-root.root.now in
    subst P c.covered.ensures c.in_ok-root.ensures.tree

pub returns-clause-order : goal.returns-clause-order
returns-clause-order c = c.into_list.ensures ∙ ap reverse c.in_ok-root.ensures.items ∙ reverse-reverse (items_along c.in_ok-root.root.now)
