use denote.Param.Send.{sendable}
use Rattle.canvasd.proofs.Sharing.{asked-send}
use Rattle.canvasd.proofs.journal.JournalFile.TheSendSync as file
use Rattle.canvasd.proofs.serving.fn.serve_guarded.scope.Goals as goal

pub guard_gate-requires-send-D : goal.guard_gate-requires-send-D
guard_gate-requires-send-D g c κs within = search (sendable, asked-send, file.the_send) depth 40
