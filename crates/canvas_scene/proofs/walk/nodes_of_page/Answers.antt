use Rattle.std.proofs.Common.{◌≡◌, ◌∙◌, ap, subst, true, false, Option, Bool, pos, ◌++◌, reverse}
use mathlib.Core.Path.{fun_ext}
use lib.IntN.{+ℤ_idr}
use Rattle.canvas_plane.specs.Motion.{carry}
use Rattle.canvas_plane.specs.declared.Point.{Point}
use Rattle.canvas_plane.specs.declared.Pose.{Pose}
use Rattle.canvas_plane.specs.Page.{is_in}
use Rattle.canvas_shape.specs.declared.Colour.{Colour}
use Rattle.canvas_record.specs.declared.records.Parent.TheVariants.{Page}
use Rattle.canvas_record.specs.Picture.{answer_among, or_else, or_white}
use Rattle.canvas_scene.specs.Covers.{first_fill}
use Rattle.canvas_scene.specs.Nodes.{items_along, seen}
use Rattle.canvas_scene.specs.Trees.{AreNodesOf}
use Rattle.canvas_scene.proofs.Results.{if-ok}
use Rattle.canvas_scene.proofs.walk.nodes_of_page.Goals as goal

abbrev still : Pose
still = record { dx = pos 0; dy = pos 0; quarter = 0; flip = false }

carry-still : (q : Point) → carry still q ≡ q
carry-still q = simp +ℤ_idr

seen-in : (b : Bool) (o p : Option Colour) → b ≡ true → o ≡ p → seen b o ≡ p
seen-in b o p h e = rw h e

pub returns-clause-colours : goal.returns-clause-colours
returns-clause-colours c =
    if-ok c.nodes_among.result
    (λ nodes fills x y h.
    ap or_white (fills x y
    ∙ ap (λ l. or_else (first_fill l x y) (seen (is_in c.args.clip.now x y) (answer_among 32 c.args.document.now.records Page (carry still) x y))) c.requires
    ∙ seen-in (is_in c.args.clip.now x y) _ (answer_among 32 c.args.document.now.records Page (λ q. q) x y) h
    (ap (λ f. answer_among 32 c.args.document.now.records Page f x y) (fun_ext carry-still))))
    c.nodes_among.ensures.fills

pub returns-clause-items : goal.returns-clause-items
returns-clause-items c =
    if-ok c.nodes_among.result (λ nodes items. items ∙ ap (λ l. l ++ reverse (items_along nodes.now)) c.requires) c.nodes_among.ensures.items

pub returns-clause-tree : goal.returns-clause-tree
returns-clause-tree c =
    if-ok c.nodes_among.result
    (λ nodes tree.
    let P : (Point → Point) → Type 0 = λ f. AreNodesOf c.args.document.now.records Page f c.args.clip.now nodes.now in
    subst P (fun_ext carry-still) tree)
    c.nodes_among.ensures.tree
