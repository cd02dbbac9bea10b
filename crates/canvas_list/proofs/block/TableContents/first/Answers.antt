use Rattle.canvas_list.proofs.Blocks.{first-joined}
use Rattle.canvas_list.proofs.Joined.{has-chunk}
use Rattle.canvas_list.proofs.block.TableContents.first.Goals as goal

pub returns : goal.returns
returns g c =
    first-joined c.self.inside.parts.items c.args.self.now c.index.result.now c.first.result.now c.self.view_is (has-chunk c.self.inside.parts.items c.args.self.now 0 c.self.view_is c.requires) c.index.ensures c.first.ensures
