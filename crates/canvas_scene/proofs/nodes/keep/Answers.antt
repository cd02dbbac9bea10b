use Rattle.canvas_scene.proofs.Seen.{one-more}
use Rattle.canvas_scene.proofs.nodes.keep.Goals as goal

pub returns-clause-items : goal.returns-clause-items
returns-clause-items c = one-more c.args.nodes.now.items c.push.new.self.items c.args.node c.in_ok-push.ensures.items

pub returns-clause-nodes : goal.returns-clause-nodes
returns-clause-nodes c = c.in_ok-push.ensures.items
