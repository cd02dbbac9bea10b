use Rattle.std.proofs.Common.{◌≡◌, map, drop}
use Rattle.json.specs.Tape.{node_token}
use Rattle.canvas_json.specs.Taken.{are_taken}
use Rattle.canvas_json.proofs.tape.are_taken.Given as goal

abbrev pub invariant-loop-node : goal.invariant-loop-node
invariant-loop-node l = are_taken l.depth (map node_token (drop l.node-index l.nodes)) ≡ are_taken 0 (map node_token l.nodes)
