use Rattle.std.proofs.Common.{length, ◌∙◌, refl, sym, ap, arith, rules, ◌+◌, ◌-◌, ◌≡◌, ◌&&◌, ℤ, reverse, None, All, List, map, subst, ◌++◌, Option, Some}
use Rattle.canvas_plane.specs.Motion.{carry, reach_of}
use Rattle.canvas_plane.specs.Page.{is_in}
use Rattle.canvas_plane.proofs.Boxes.{meet-exact}
use Rattle.canvas_shape.specs.Box.{box_of}
use Rattle.canvas_record.specs.declared.records.Parent.TheVariants.{Shape}
use Rattle.canvas_record.specs.Children.{children}
use Rattle.canvas_record.specs.Contents.{is_container}
use Rattle.canvas_record.specs.Picture.{answer_among, answer_of, first_answer, or_else}
use Rattle.canvas_record.proofs.Walk.{answer-children, answer-none}
use Rattle.canvas_scene.specs.declared.nodes.Node.{Node}
use Rattle.canvas_scene.specs.Clips.{IsClipped}
use Rattle.canvas_scene.specs.Covers.{first_fill}
use Rattle.canvas_scene.specs.Nodes.{items_along, seen, shown_of, AreShown}
use Rattle.canvas_scene.specs.Trees.{AreNodesOf, clip_of, fill_of, is_back_of}
use Rattle.canvas_shape.specs.declared.Colour.{Colour}
use Rattle.canvas_shape.specs.Leaves.{carried_holds}
use Rattle.canvas_shape.specs.Edges.{is_in_polygon}
use Rattle.canvas_shape.specs.Inside.{AreVertices, IsSound}
use Rattle.canvas_scene.proofs.Carrying.{some-carried}
use Rattle.canvas_scene.proofs.Children.{child-answered, child-limits, falls-below, fewer-left, reach-below, reach-most, reach-near, child-unseen, left-more, left-none, left_from, record_of}
use Rattle.canvas_scene.proofs.Clipping.{all-more, all-reversed, branch-clipped, meet-within}
use Rattle.canvas_scene.proofs.Covering.{added-child, added-frame, hidden-box, in-both, leaf-filled}
use Rattle.canvas_scene.proofs.Ordered.{frame-back, is-branch, leaf-added, nodes-none, so-far-all, so-far-left_out, so-far-more, so-far-none}
use Rattle.canvas_scene.proofs.Results.{on-ok}
use Rattle.canvas_scene.proofs.Seen.{list-none, or_else-none, seen-none, seen-same, frame-shown, shown-more}
use Rattle.canvas_scene.proofs.walk.+walk.Goals.{nodes_among-then-loop-child-test+else-is_out_of_sight+in_ok-add_node+then-hides_by_last, nodes_among-else-loop-child-test}
use Rattle.canvas_scene.proofs.walk.+walk.Goals as goal

pub nodes_among-returns-then-levels-eq0-clause-fills : goal.nodes_among-returns-then-levels-eq0-clause-fills
nodes_among-returns-then-levels-eq0-clause-fills t c = λ x y.
    or_else-none (first_fill c.args.shown.now x y)
    ∙ ap (or_else (first_fill c.args.shown.now x y)) (seen-none (is_in c.args.clip.now x y)
    ∙ ap (seen (is_in c.args.clip.now x y)) (answer-none c.args.levels c.args.document.now.records c.args.parent (carry c.args.out.now) x y (omega arith)))

pub nodes_among-loop-child-init : goal.nodes_among-loop-child-init
nodes_among-loop-child-init t c =
    let rs = c.args.document.now.records in
    let out = carry c.args.out.now in
    let kept = map record_of c.in_ok-children.children.items in
    let all = children c.args.parent rs in
    record {
      left = λ x y.
          let inside = is_in c.args.clip.now x y in
          let answer = answer_of (c.args.levels - 1) rs out x y in
          ap (or_else (first_fill c.args.shown.now x y)) (ap (λ l. seen inside (first_answer answer l)) (ap (left_from 0) c.deref-child-items.ensures.value)
          ∙ seen-same inside (first_answer answer kept) (first_answer answer all) (c.in_ok-children.ensures.answers (c.args.levels - 1) x y)
          ∙ ap (seen inside) (sym (answer-children c.args.levels rs c.args.parent out x y (omega arith))));
      list = list-none c.args.shown.now (items_along (reverse c.in_ok-nodes.nodes.items)) (ap (λ l. items_along (reverse l)) c.in_ok-nodes.ensures.items);
      clips = search rules;
      tree = so-far-none rs out c.args.clip.now all kept _ _ c.in_ok-nodes.ensures.items (ap (left_from 0) c.deref-child-items.ensures.value) c.in_ok-children.ensures.part;
    }

pub nodes_among-loop-child-preserved-then-is_out_of_sight : goal.nodes_among-loop-child-preserved-then-is_out_of_sight
nodes_among-loop-child-preserved-then-is_out_of_sight t c = record {
  left = λ x y.
      let old = first_fill c.loop-child.shown x y in
      let child = c.child-item.result.now in
      let inner = answer_among (c.args.levels - 1) c.args.document.now.records (Shape child.id) (carry c.then-page.result) x y in
      added-child (is_in c.args.clip.now x y) (first_fill c.args.shown.now x y) old old (answer_among c.args.levels c.args.document.now.records c.args.parent (carry c.args.out.now) x y) (answer_of (c.args.levels - 1) c.args.document.now.records (carry c.args.out.now) x y) child _ _
      (child-unseen (c.args.levels - 1) c.args.document.now.records (carry c.args.out.now) x y child c.then-page.result (is_in c.args.clip.now x y) old c.then-page.ensures.carries (c.if-is_out_of_sight.ensures.nothing refl inner x y))
      (left-more c.deref-child-items.result.now c.loop-child.child-index c.child-item.result c.loop-child-test.true c.child-item.is) (c.loop-child.invariant.left x y);
  list = c.loop-child.invariant.list;
  clips = c.loop-child.invariant.clips;
  tree = so-far-left_out c.args.document.now.records (carry c.args.out.now) c.args.clip.now (children c.args.parent c.args.document.now.records) _ _ c.child-item.result.now c.loop-child.nodes.items
      (left-more c.deref-child-items.result.now c.loop-child.child-index c.child-item.result c.loop-child-test.true c.child-item.is) c.loop-child.invariant.tree;
}

pub nodes_among-loop-child-preserved : goal.nodes_among-loop-child-preserved
nodes_among-loop-child-preserved t c = record {
  left = λ x y. added-child (is_in c.args.clip.now x y) (first_fill c.args.shown.now x y) (first_fill c.loop-child.shown x y) (first_fill c.add_node.new.shown x y) (answer_among c.args.levels c.args.document.now.records c.args.parent (carry c.args.out.now) x y) (answer_of (c.args.levels - 1) c.args.document.now.records (carry c.args.out.now) x y) c.child-item.result.now _ _
      (child-answered (c.args.levels - 1) c.args.document.now.records (carry c.args.out.now) x y c.child-item.result.now c.then-page.result (is_in c.args.clip.now x y) (first_fill c.loop-child.shown x y) (first_fill c.add_node.new.shown x y) c.then-page.ensures.carries (c.is_out_of_sight.ensures.shown c.if-is_out_of_sight.false) (c.in_ok-add_node.ensures.fills x y))
      (left-more c.deref-child-items.result.now c.loop-child.child-index c.child-item.result c.loop-child-test.true c.child-item.is) (c.loop-child.invariant.left x y);
  list = c.in_ok-add_node.ensures.items c.args.shown.now c.loop-child.invariant.list;
  clips = c.in_ok-add_node.ensures.clips c.loop-child.invariant.clips;
  tree = so-far-more c.args.document.now.records (carry c.args.out.now) c.args.clip.now (children c.args.parent c.args.document.now.records) _ _ c.child-item.result.now c.then-page.result c.loop-child.nodes.items c.add_node.new.nodes.items c.then-page.ensures.carries (c.is_out_of_sight.ensures.shown c.if-is_out_of_sight.false)
      (left-more c.deref-child-items.result.now c.loop-child.child-index c.child-item.result c.loop-child-test.true c.child-item.is) c.in_ok-add_node.ensures.tree c.loop-child.invariant.tree;
}

pub nodes_among-returns-clause-fills : goal.nodes_among-returns-clause-fills
nodes_among-returns-clause-fills t c = λ x y.
    let items = c.deref-child-items.result.now in
    let inside = is_in c.args.clip.now x y in
    let answer = answer_of (c.args.levels - 1) c.args.document.now.records (carry c.args.out.now) x y in
    let whole = answer_among c.args.levels c.args.document.now.records c.args.parent (carry c.args.out.now) x y in
    elim c.loop-child-test.branch [
      | nodes_among-else-loop-child-test w ↦ rw w.shown-is (or_else-none (first_fill c.loop-child.shown x y)
          ∙ ap (or_else (first_fill c.loop-child.shown x y)) (seen-none inside ∙ ap (λ l. seen inside (first_answer answer l)) (sym (left-none items c.loop-child.child-index w.loop-child-test.false)))
          ∙ c.loop-child.invariant.left x y)
      | nodes_among-then-loop-child-test+else-is_out_of_sight+in_ok-add_node+then-hides_by_last w ↦ rw w.shown-is (hidden-box w.add_node.new.shown c.args.clip.now (first_answer answer (left_from (c.loop-child.child-index + 1) items)) x y (w.if-hides_by_last.ensures refl)
          ∙ added-child inside (first_fill c.args.shown.now x y) (first_fill c.loop-child.shown x y) (first_fill w.add_node.new.shown x y) whole answer w.child-item.result.now _ _
          (child-answered (c.args.levels - 1) c.args.document.now.records (carry c.args.out.now) x y w.child-item.result.now w.then-page.result inside (first_fill c.loop-child.shown x y) (first_fill w.add_node.new.shown x y) w.then-page.ensures.carries (w.is_out_of_sight.ensures.shown w.if-is_out_of_sight.false) (w.in_ok-add_node.ensures.fills x y))
          (left-more items c.loop-child.child-index w.child-item.result w.loop-child-test.true w.child-item.is) (c.loop-child.invariant.left x y))
    ]

pub nodes_among-returns-clause-clips : goal.nodes_among-returns-clause-clips
nodes_among-returns-clause-clips t c =
    let P : List Node → Type 0 = λ l. All (IsClipped c.args.clip.now) l in
    let kept : All (IsClipped c.args.clip.now) c.loop-child-test.nodes.items = elim c.loop-child-test.branch [
      | nodes_among-else-loop-child-test w ↦ rw w.nodes-is c.loop-child.invariant.clips
      | nodes_among-then-loop-child-test+else-is_out_of_sight+in_ok-add_node+then-hides_by_last w ↦ rw w.nodes-is (w.in_ok-add_node.ensures.clips c.loop-child.invariant.clips)
    ] in
    subst P (sym (c.into_bump_slice.ensures ∙ c.reverse.ensures.items)) (all-reversed (IsClipped c.args.clip.now) c.loop-child-test.nodes.items kept)

pub nodes_among-returns-clause-tree : goal.nodes_among-returns-clause-tree
nodes_among-returns-clause-tree t c =
    let rs = c.args.document.now.records in
    let out = carry c.args.out.now in
    let items = c.deref-child-items.result.now in
    let P : List Node → Type 0 = λ l. AreNodesOf rs c.args.parent out c.args.clip.now l in
    let whole : AreNodesOf rs c.args.parent out c.args.clip.now (reverse c.loop-child-test.nodes.items) = elim c.loop-child-test.branch [
      | nodes_among-else-loop-child-test w ↦ rw w.nodes-is (so-far-all rs c.args.parent out c.args.clip.now _ c.loop-child.nodes.items _ refl c.loop-child.invariant.tree)
      | nodes_among-then-loop-child-test+else-is_out_of_sight+in_ok-add_node+then-hides_by_last w ↦ rw w.nodes-is (so-far-all rs c.args.parent out c.args.clip.now _ w.add_node.new.nodes.items _ refl
          (so-far-more rs out c.args.clip.now (children c.args.parent rs) _ _ w.child-item.result.now w.then-page.result c.loop-child.nodes.items w.add_node.new.nodes.items w.then-page.ensures.carries (w.is_out_of_sight.ensures.shown w.if-is_out_of_sight.false)
          (left-more items c.loop-child.child-index w.child-item.result w.loop-child-test.true w.child-item.is) w.in_ok-add_node.ensures.tree c.loop-child.invariant.tree))
    ] in
    subst P (sym (c.into_bump_slice.ensures ∙ c.reverse.ensures.items)) whole

pub nodes_among-returns-then-levels-eq0-clause-tree : goal.nodes_among-returns-then-levels-eq0-clause-tree
nodes_among-returns-then-levels-eq0-clause-tree t c =
    nodes-none c.args.document.now.records c.args.parent (carry c.args.out.now) c.args.clip.now _ refl

pub add_node-returns-in_ok-children-in-Group-clause-tree : goal.add_node-returns-in_ok-children-in-Group-clause-tree
add_node-returns-in_ok-children-in-Group-clause-tree t c =
    let page = carry c.args.page.now in
    let outer = c.args.clip.now in
    on-ok c.keep.result
    (λ e. record {
      node = c.branch-clip.result;
      is = e;
      has = is-branch c.args.document.now.records c.args.shape.now page outer outer None c.in_ok-children-in-Group.children.now c.branch-clip.result (c.branch-clip.ensures.tree c.args.document.now.records)
          (ap is_container c.in-Group.is) (sym (ap (λ k. clip_of k page outer) c.in-Group.is)) refl c.in_ok-children-in-Group.ensures.tree;
    })
    c.keep.ensures.nodes

pub add_node-returns-in_ok-back-in-Frame-clause-tree : goal.add_node-returns-in_ok-back-in-Frame-clause-tree
add_node-returns-in_ok-back-in-Frame-clause-tree t c =
    let page = carry c.args.page.now in
    let outer = c.args.clip.now in
    let container = ap is_container c.in-Frame.is in
    on-ok c.keep-in-Frame.result
    (λ e. record {
      node = c.branch-part.result;
      is = e;
      has = is-branch c.args.document.now.records c.args.shape.now page outer c.args.part.now c.in_ok-back-in-Frame.back c.in_ok-children-in-Frame.children.now c.branch-part.result (c.branch-part.ensures.tree c.args.document.now.records)
          container
          (c.requires.part container)
          (ap (λ k. is_back_of c.in_ok-back-in-Frame.back k outer) c.in-Frame.is ∙ frame-back c.in_ok-back-in-Frame.back _ _ c.in-Frame.fill outer c.in_ok-back-in-Frame.ensures.clip c.in_ok-back-in-Frame.ensures.fill)
          c.in_ok-children-in-Frame.ensures.tree;
    })
    c.keep-in-Frame.ensures.nodes

pub add_node-returns-in-Rect-clause-tree : goal.add_node-returns-in-Rect-clause-tree
add_node-returns-in-Rect-clause-tree t c =
    leaf-added c.add_leaf.result c.args.document.now.records c.args.shape.now (carry c.args.page.now) c.args.clip.now c.in-Rect.fill _ _ (ap is_container c.in-Rect.is) (ap fill_of c.in-Rect.is) c.add_leaf.ensures.tree

pub add_node-returns-in-Ellipse-clause-tree : goal.add_node-returns-in-Ellipse-clause-tree
add_node-returns-in-Ellipse-clause-tree t c =
    leaf-added c.add_leaf-in-Ellipse.result c.args.document.now.records c.args.shape.now (carry c.args.page.now) c.args.clip.now c.in-Ellipse.fill _ _ (ap is_container c.in-Ellipse.is) (ap fill_of c.in-Ellipse.is) c.add_leaf-in-Ellipse.ensures.tree

pub add_node-returns-in_ok-vertices-in-Polygon-clause-tree : goal.add_node-returns-in_ok-vertices-in-Polygon-clause-tree
add_node-returns-in_ok-vertices-in-Polygon-clause-tree t c =
    leaf-added c.add_leaf-in-Polygon.result c.args.document.now.records c.args.shape.now (carry c.args.page.now) c.args.clip.now c.in-Polygon.fill _ _ (ap is_container c.in-Polygon.is) (ap fill_of c.in-Polygon.is) c.add_leaf-in-Polygon.ensures.tree

pub add_node-returns-in_ok-children-in-Group-clause-clips : goal.add_node-returns-in_ok-children-in-Group-clause-clips
add_node-returns-in_ok-children-in-Group-clause-clips t c =
    on-ok c.keep.result
    (λ e h.
    all-more (IsClipped c.args.clip.now) c.args.nodes.now.items c.keep.new.nodes.items c.branch-clip.result e h
    (branch-clipped c.args.clip.now c.args.clip.now None c.in_ok-children-in-Group.children.now c.branch-clip.result c.branch-clip.ensures.pixels (λ x y h. h) tt c.in_ok-children-in-Group.ensures.clips))
    c.keep.ensures.nodes

-- what of a frame's box lies in the clip
pub add_node-back_of-requires : goal.add_node-back_of-requires
add_node-back_of-requires t c =
    let box = box_of (carry c.args.page.now) c.in-Frame.w c.in-Frame.h in
    record {
      part = λ x y inside held.
          in-both (is_in c.args.part.now x y) (is_in c.args.clip.now x y) (is_in box x y)
          (ap (λ b. is_in b x y) (c.requires.part (ap is_container c.in-Frame.is) ∙ ap (λ k. clip_of k (carry c.args.page.now) c.args.clip.now) c.in-Frame.is) ∙ meet-exact c.args.clip.now box x y)
          inside (sym (c.rect.ensures.pixels x y) ∙ held);
    }

pub add_node-returns-in_ok-back-in-Frame-clause-fills : goal.add_node-returns-in_ok-back-in-Frame-clause-fills
add_node-returns-in_ok-back-in-Frame-clause-fills t c =
    on-ok c.keep-in-Frame.result
    (λ e x y.
    let inner = answer_among c.args.levels c.args.document.now.records (Shape c.args.shape.now.id) (carry c.args.page.now) x y in
    let box = box_of (carry c.args.page.now) c.in-Frame.w c.in-Frame.h in
    let exact : is_in c.args.part.now x y ≡ (is_in c.args.clip.now x y && is_in box x y) =
    ap (λ b. is_in b x y) (c.requires.part (ap is_container c.in-Frame.is) ∙ ap (λ k. clip_of k (carry c.args.page.now) c.args.clip.now) c.in-Frame.is) ∙ meet-exact c.args.clip.now box x y in
    added-frame (first_fill c.args.shown.now x y) (first_fill c.nodes_among-in-Frame.new.shown x y) (first_fill c.back_of.new.shown x y) c.in-Frame.fill inner (is_in c.args.clip.now x y) (is_in box x y) (is_in c.args.part.now x y) exact
    (c.in_ok-children-in-Frame.ensures.fills x y)
    (c.in_ok-back-in-Frame.ensures.fills x y ∙ ap (λ b. or_else (first_fill c.nodes_among-in-Frame.new.shown x y) (seen (is_in c.args.clip.now x y) (seen b c.in-Frame.fill))) (c.rect.ensures.pixels x y))
    ∙ ap (λ k. or_else (first_fill c.args.shown.now x y) (seen (is_in c.args.clip.now x y) (shown_of k c.args.page.now inner x y))) (sym c.in-Frame.is))
    c.keep-in-Frame.ensures.nodes

pub add_node-returns-in_ok-children-in-Group-clause-fills : goal.add_node-returns-in_ok-children-in-Group-clause-fills
add_node-returns-in_ok-children-in-Group-clause-fills t c =
    on-ok c.keep.result
    (λ e x y.
    let inner = answer_among c.args.levels c.args.document.now.records (Shape c.args.shape.now.id) (carry c.args.page.now) x y in
    c.in_ok-children-in-Group.ensures.fills x y
    ∙ ap (λ k. or_else (first_fill c.args.shown.now x y) (seen (is_in c.args.clip.now x y) (shown_of k c.args.page.now inner x y))) (sym c.in-Group.is))
    c.keep.ensures.nodes

pub add_node-returns-in_ok-back-in-Frame-clause-clips : goal.add_node-returns-in_ok-back-in-Frame-clause-clips
add_node-returns-in_ok-back-in-Frame-clause-clips t c =
    on-ok c.keep-in-Frame.result
    (λ e h.
    let box = box_of (carry c.args.page.now) c.in-Frame.w c.in-Frame.h in
    let exact : (x y : ℤ) → is_in c.args.part.now x y ≡ (is_in c.args.clip.now x y && is_in box x y) =
    λ x y. ap (λ b. is_in b x y) (c.requires.part (ap is_container c.in-Frame.is) ∙ ap (λ k. clip_of k (carry c.args.page.now) c.args.clip.now) c.in-Frame.is) ∙ meet-exact c.args.clip.now box x y in
    all-more (IsClipped c.args.clip.now) c.args.nodes.now.items c.keep-in-Frame.new.nodes.items c.branch-part.result e h
    (branch-clipped c.args.clip.now c.args.part.now c.in_ok-back-in-Frame.back c.in_ok-children-in-Frame.children.now c.branch-part.result c.branch-part.ensures.pixels (meet-within c.args.clip.now box c.args.part.now exact) c.in_ok-back-in-Frame.ensures.clip c.in_ok-children-in-Frame.ensures.clips))
    c.keep-in-Frame.ensures.nodes

pub nodes_among-add_node-requires : goal.nodes_among-add_node-requires
nodes_among-add_node-requires t c =
    let limits = child-limits c.in_ok-children.children.items c.deref-child-items.result.now c.loop-child.child-index c.child-item.result c.in_ok-children.ensures.limits c.deref-child-items.ensures.value c.loop-child-test.true c.child-item.is in (
      falls-below c.args.levels t c.if-levels-eq0.false c.decreases,
      (
        limits.kind,
        (
          c.then-page.ensures.quarter,
          (
            reach-below (reach_of c.then-page.result) (reach_of c.child-item.result.now.pose) (reach_of c.args.out.now) c.args.levels c.then-page.ensures.reach limits.reach c.if-levels-eq0.false c.requires.reach,
            c.part_of-part.ensures.clip,
          ),
        ),
      ),
    )

pub nodes_among-returns-clause-items : goal.nodes_among-returns-clause-items
nodes_among-returns-clause-items t c =
    let kept : AreShown c.args.shown.now c.loop-child-test.shown c.loop-child-test.nodes.items = elim c.loop-child-test.branch [
      | nodes_among-else-loop-child-test w ↦ rw w.shown-is (rw w.nodes-is c.loop-child.invariant.list)
      | nodes_among-then-loop-child-test+else-is_out_of_sight+in_ok-add_node+then-hides_by_last w ↦ rw w.shown-is (rw w.nodes-is (w.in_ok-add_node.ensures.items c.args.shown.now c.loop-child.invariant.list))
    ] in
    kept ∙ ap (λ l. c.args.shown.now ++ reverse (items_along l)) (sym (c.into_bump_slice.ensures ∙ c.reverse.ensures.items))

pub add_node-returns-in_ok-back-in-Frame-clause-items : goal.add_node-returns-in_ok-back-in-Frame-clause-items
add_node-returns-in_ok-back-in-Frame-clause-items t c =
    let along = items_along (reverse c.args.nodes.now.items) in
    on-ok c.keep-in-Frame.result
    (λ e start h.
    frame-shown start c.args.shown.now c.nodes_among-in-Frame.new.shown c.back_of.new.shown (items_along c.in_ok-children-in-Frame.children.now) along (items_along (reverse c.keep-in-Frame.new.nodes.items)) c.in_ok-back-in-Frame.back h
    c.in_ok-children-in-Frame.ensures.items c.in_ok-back-in-Frame.ensures.items
    (e ∙ ap (λ l. l ++ along) c.branch-part.ensures.items))
    c.keep-in-Frame.ensures.items

pub add_node-returns-in_ok-children-in-Group-clause-items : goal.add_node-returns-in_ok-children-in-Group-clause-items
add_node-returns-in_ok-children-in-Group-clause-items t c =
    let along = items_along (reverse c.args.nodes.now.items) in
    on-ok c.keep.result
    (λ e start h.
    shown-more start c.args.shown.now c.nodes_among.new.shown (items_along c.in_ok-children-in-Group.children.now) along (items_along (reverse c.keep.new.nodes.items)) h
    (e ∙ ap (λ l. l ++ along) c.branch-clip.ensures.items) c.in_ok-children-in-Group.ensures.items)
    c.keep.ensures.items

pub add_node-returns-in-Ellipse-clause-fills : goal.add_node-returns-in-Ellipse-clause-fills
add_node-returns-in-Ellipse-clause-fills t c =
    let inner : ℤ → ℤ → Option Colour = λ x y. answer_among c.args.levels c.args.document.now.records (Shape c.args.shape.now.id) (carry c.args.page.now) x y in
    leaf-filled c.add_leaf-in-Ellipse.result c.args.shown.now c.add_leaf-in-Ellipse.new.shown c.args.clip.now (λ x y. seen (carried_holds c.ellipse.result x y) (Some c.in-Ellipse.fill)) (λ x y. shown_of c.args.shape.now.kind c.args.page.now (inner x y) x y)
    (λ x y. ap (λ b. seen b (Some c.in-Ellipse.fill)) (c.ellipse.ensures.pixels x y) ∙ sym (ap (λ k. shown_of k c.args.page.now (inner x y) x y) c.in-Ellipse.is)) c.add_leaf-in-Ellipse.ensures.fills

pub add_node-returns-in_ok-vertices-in-Polygon-clause-fills : goal.add_node-returns-in_ok-vertices-in-Polygon-clause-fills
add_node-returns-in_ok-vertices-in-Polygon-clause-fills t c =
    let inner : ℤ → ℤ → Option Colour = λ x y. answer_among c.args.levels c.args.document.now.records (Shape c.args.shape.now.id) (carry c.args.page.now) x y in
    leaf-filled c.add_leaf-in-Polygon.result c.args.shown.now c.add_leaf-in-Polygon.new.shown c.args.clip.now (λ x y. seen (carried_holds c.polygon.result x y) (Some c.in-Polygon.fill)) (λ x y. shown_of c.args.shape.now.kind c.args.page.now (inner x y) x y)
    (λ x y. ap (λ b. seen b (Some c.in-Polygon.fill)) (c.polygon.ensures.pixels x y)
    ∙ ap (λ l. seen (is_in_polygon l x y) (Some c.in-Polygon.fill)) (c.in_ok-vertices-in-Polygon.ensures.value ∙ ap (map (carry c.args.page.now)) c.as_slice.ensures)
    ∙ sym (ap (λ k. shown_of k c.args.page.now (inner x y) x y) c.in-Polygon.is)) c.add_leaf-in-Polygon.ensures.fills

pub add_node-returns-in-Rect-clause-fills : goal.add_node-returns-in-Rect-clause-fills
add_node-returns-in-Rect-clause-fills t c =
    let inner : ℤ → ℤ → Option Colour = λ x y. answer_among c.args.levels c.args.document.now.records (Shape c.args.shape.now.id) (carry c.args.page.now) x y in
    leaf-filled c.add_leaf.result c.args.shown.now c.add_leaf.new.shown c.args.clip.now (λ x y. seen (carried_holds c.rect-in-Rect.result x y) (Some c.in-Rect.fill)) (λ x y. shown_of c.args.shape.now.kind c.args.page.now (inner x y) x y)
    (λ x y. ap (λ b. seen b (Some c.in-Rect.fill)) (c.rect-in-Rect.ensures.pixels x y) ∙ sym (ap (λ k. shown_of k c.args.page.now (inner x y) x y) c.in-Rect.is)) c.add_leaf.ensures.fills

pub nodes_among-then-page-requires-clause-reaches : goal.nodes_among-then-page-requires-clause-reaches
nodes_among-then-page-requires-clause-reaches t c =
    let limits = child-limits c.in_ok-children.children.items c.deref-child-items.result.now c.loop-child.child-index c.child-item.result c.in_ok-children.ensures.limits c.deref-child-items.ensures.value c.loop-child-test.true c.child-item.is in
    reach-near (reach_of c.child-item.result.now.pose) (reach_of c.args.out.now) c.args.levels limits.reach c.if-levels-eq0.false c.requires.reach

pub add_node-polygon-requires-clause-some : goal.add_node-polygon-requires-clause-some
add_node-polygon-requires-clause-some t c =
    let points : AreVertices c.in-Polygon.points = subst IsSound c.in-Polygon.is c.requires.kind in
    some-carried (carry c.args.page.now) c.as_slice.result.now c.in_ok-vertices-in-Polygon.vertices.now _ c.as_slice.ensures points.least c.in_ok-vertices-in-Polygon.ensures.value

pub add_node-rect-requires-clause-sides : goal.add_node-rect-requires-clause-sides
add_node-rect-requires-clause-sides t c = subst IsSound c.in-Frame.is c.requires.kind

pub nodes_among-part_of-part-requires-clause-reach : goal.nodes_among-part_of-part-requires-clause-reach
nodes_among-part_of-part-requires-clause-reach t c =
    let limits = child-limits c.in_ok-children.children.items c.deref-child-items.result.now c.loop-child.child-index c.child-item.result c.in_ok-children.ensures.limits c.deref-child-items.ensures.value c.loop-child-test.true c.child-item.is in
    reach-most (reach_of c.then-page.result) _ c.then-page.ensures.reach (reach-near (reach_of c.child-item.result.now.pose) (reach_of c.args.out.now) c.args.levels limits.reach c.if-levels-eq0.false c.requires.reach)

pub nodes_among-part_of-part-requires-clause-kind : goal.nodes_among-part_of-part-requires-clause-kind
nodes_among-part_of-part-requires-clause-kind t c = (child-limits c.in_ok-children.children.items c.deref-child-items.result.now c.loop-child.child-index c.child-item.result c.in_ok-children.ensures.limits c.deref-child-items.ensures.value c.loop-child-test.true c.child-item.is).kind

pub nodes_among-loop-child-smaller : goal.nodes_among-loop-child-smaller
nodes_among-loop-child-smaller t c = fewer-left (length c.deref-child-items.result.now) c.loop-child.child-index c.loop-child-test.true
