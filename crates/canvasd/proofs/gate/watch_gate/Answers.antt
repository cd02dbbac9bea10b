use denote.Exit.{no}
use denote.Param.Send.{arg_sync, param_sync}
use Rattle.canvasd.proofs.Sharing.{gate-sync}
use Rattle.canvasd.proofs.gate.watch_gate.Goals as goal

pub start_watch-requires-sync-G : goal.start_watch-requires-sync-G
start_watch-requires-sync-G g c κs within = param_sync _ _ (arg_sync _ no _ (gate-sync _ _ g.D.Device g.L.Lines c.type_bounds.send-D))
