use Rattle.std.proofs.Common.{◌≡◌, ◌*◌, ◌+◌, ◌-◌, All, ℤ}
use Rattle.canvas_plane.specs.Motion.{carry}
use Rattle.canvas_plane.specs.Page.{is_in}
use Rattle.canvas_record.specs.Children.{children}
use Rattle.canvas_record.specs.Picture.{answer_among, answer_of, first_answer, or_else}
use Rattle.canvas_scene.specs.Clips.{IsClipped}
use Rattle.canvas_scene.specs.Covers.{first_fill}
use Rattle.canvas_scene.specs.Nodes.{AreShown, seen}
use Rattle.canvas_scene.proofs.Children.{left_from}
use Rattle.canvas_scene.proofs.Ordered.{AreSoFar}
use Rattle.canvas_scene.proofs.walk.+walk.Given as goal

abbrev pub decreases-nodes_among : goal.decreases-nodes_among
decreases-nodes_among l = 2 * l.levels

abbrev pub decreases-add_node : goal.decreases-add_node
decreases-add_node l = 2 * l.levels + 1

abbrev pub invariant-nodes_among-loop-child : goal.invariant-nodes_among-loop-child
invariant-nodes_among-loop-child l = record {
  left : (x y : ℤ) → or_else (first_fill l.shown x y) (seen (is_in l.clip x y) (first_answer (answer_of (l.levels - 1) l.document.records (carry l.out) x y) (left_from l.child-index l.child-items))) ≡ or_else (first_fill l.initial.shown x y) (seen (is_in l.clip x y) (answer_among l.levels l.document.records l.fn.parent (carry l.out) x y));
  list : AreShown l.initial.shown l.shown l.nodes.items;
  clips : All (IsClipped l.clip) l.nodes.items;
  tree : AreSoFar l.document.records (carry l.out) l.clip (children l.fn.parent l.document.records) (left_from l.child-index l.child-items) l.nodes.items;
}
