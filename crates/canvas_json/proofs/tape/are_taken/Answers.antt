use Rattle.std.proofs.Common.{◌≡◌, ℕ, ◌+◌, ◌<◌, List, map, length, drop, get_or, false, Option, Some, None, sym, ap, ◌∙◌}
use Rattle.std.proofs.lemmas.List.{drop_more, drop_all}
use Rattle.std.specs.Option.{option_map_or}
use Rattle.json.specs.Tape.{node_token}
use Rattle.json.specs.declared.tape.Node.{Node}
use Rattle.canvas_json.specs.Taken.{depth_after, are_taken}
use Rattle.canvas_json.proofs.tape.are_taken.Goals as goal

turn : (nodes : List Node) (i depth : ℕ) (n : Node) (after : Option ℕ) → i < length nodes → after ≡ depth_after depth (node_token (get_or nodes i n))
    → are_taken depth (map node_token (drop i nodes)) ≡ option_map_or (λ d. are_taken d (map node_token (drop (i + 1) nodes))) after false
unfolding are_taken
turn nodes i depth n after lt is =
    ap (λ ns. are_taken depth (map node_token ns)) (drop_more nodes i n lt) ∙ ap (λ o. option_map_or (λ d. are_taken d (map node_token (drop (i + 1) nodes))) o false) (sym is)

pub returns-in-None : goal.returns-in-None
returns-in-None c = sym (turn c.args.nodes.now c.loop-node.node-index c.loop-node.depth _ None c.loop-node-test.true c.in-None.ensures) ∙ c.loop-node.invariant

pub loop-node-preserved : goal.loop-node-preserved
loop-node-preserved c = sym (turn c.args.nodes.now c.loop-node.node-index c.loop-node.depth _ (Some c.in-Some.after) c.loop-node-test.true c.in-Some.ensures) ∙ c.loop-node.invariant

pub returns : goal.returns
unfolding are_taken
returns c = sym (ap (λ ns. are_taken c.loop-node.depth (map node_token ns)) (drop_all c.loop-node.node-index c.args.nodes.now c.loop-node-test.false)) ∙ c.loop-node.invariant
