use Rattle.canvas_board.specs.contracts.window_key.WindowKeyPartialEq.TheImpl as key_impl
use Rattle.canvas_board.proofs.Keeping.{exact-key, put-counts}
use Rattle.canvas_board.proofs.shelf.answered.Goals as goal

pub returns-in-Ok-clause-counts : goal.returns-in-Ok-clause-counts
returns-in-Ok-clause-counts g c =
    put-counts key_impl.ghosts.eq exact-key c.put.result c.in-Ok.field-0 c.args.cache.now c.put.new.self c.args.window.now c.key_of-key.result c.in_ok-kept.kept c.args.at c.key_of-key.ensures c.in-Ok.is c.put.ensures.entries c.in_ok-kept.ensures
