use Rattle.std.proofs.Common.{◌∙◌, ap, ◌∷◌, [], ◌++◌, reverse}
use Rattle.canvas_scene.specs.Clips.{IsClipped}
use Rattle.canvas_scene.specs.Trees.{is_leaf_of}
use Rattle.canvas_scene.specs.Nodes.{items_along}
use Rattle.canvas_scene.proofs.Results.{on-ok}
use Rattle.canvas_scene.proofs.Seen.{shown-more}
use Rattle.canvas_scene.proofs.Clipping.{all-more, leaf-clipped}
use Rattle.canvas_scene.proofs.walk.add_leaf.Goals as goal

pub returns-clause-items : goal.returns-clause-items
returns-clause-items c =
    let along = items_along (reverse c.args.nodes.now.items) in
    on-ok c.keep.result
    (λ e start h.
    shown-more start c.args.shown.now c.add.new.self (c.in_ok-item.item ∷ []) along (items_along (reverse c.keep.new.nodes.items)) h
    (e ∙ ap (λ l. l ++ along) c.leaf.ensures.items) c.in_ok-item.ensures.items)
    c.keep.ensures.items

pub returns-clause-clips : goal.returns-clause-clips
returns-clause-clips c =
    on-ok c.keep.result
    (λ e h.
    all-more (IsClipped c.args.clip.now) c.args.nodes.now.items c.keep.new.nodes.items c.leaf.result e h (leaf-clipped c.args.clip.now c.leaf.result c.in_ok-item.item c.leaf.ensures.pixels c.in_ok-item.ensures.clip))
    c.keep.ensures.nodes

pub returns-clause-tree : goal.returns-clause-tree
returns-clause-tree c =
    on-ok c.keep.result
    (λ e. record {
      node = c.leaf.result;
      is = e;
      has = λ rs.
          c.leaf.ensures.tree rs
          ∙ ap (λ b. is_leaf_of b c.in_ok-item.item.fill) c.in_ok-item.ensures.clip
          ∙ ap (is_leaf_of c.args.clip.now) c.in_ok-item.ensures.fill;
    })
    c.keep.ensures.nodes

pub returns-clause-fills : goal.returns-clause-fills
returns-clause-fills c = on-ok c.keep.result (λ e. c.in_ok-item.ensures.fills) c.keep.ensures.nodes
