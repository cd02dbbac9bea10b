use denote.Exit.{no}
use denote.Param.Send.{arg_sync, param_sync}
use Rattle.canvasd.proofs.Sharing.{follow_gate-sync, yard-sync}
use Rattle.canvasd.proofs.follower.serve_turns.Goals as goal

pub serve_yard-ended-requires-sync-Y : goal.serve_yard-ended-requires-sync-Y
serve_yard-ended-requires-sync-Y g c κs within = param_sync _ _ (arg_sync _ no _ (yard-sync _ _ g.D.Device g.L.Lines c.type_bounds.send-D _ _ c.type_bounds.sync-K))

pub serve_yard-ended-requires-sync-G : goal.serve_yard-ended-requires-sync-G
serve_yard-ended-requires-sync-G g c κs within = param_sync _ _ (arg_sync _ no _ (follow_gate-sync _ _ g.D.Device g.L.Lines c.type_bounds.send-D _))
