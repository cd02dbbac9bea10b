use denote.Exit.{no}
use denote.Param.Send.{arg_sync, param_sync}
use Rattle.canvasd.proofs.Sharing.{gate-sync}
use Rattle.canvasd.proofs.gate.serve_behind_fed.Goals as goal

pub serve_fed-ended-requires-sync-G : goal.serve_fed-ended-requires-sync-G
serve_fed-ended-requires-sync-G g c κs within = param_sync _ _ (arg_sync _ no _ (gate-sync _ _ g.D.Device g.L.Lines c.type_bounds.send-D))
