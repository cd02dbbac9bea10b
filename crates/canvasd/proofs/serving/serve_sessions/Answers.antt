use denote.Param.Send.{sendable}
use Rattle.canvasd.proofs.Sharing.{asked-send}
use Rattle.canvasd.proofs.journal.JournalFile.TheSendSync as file
use Rattle.canvasd.proofs.serving.serve_sessions.Goals as goal

pub serve_behind-requires-send-D : goal.serve_behind-requires-send-D
serve_behind-requires-send-D g c κs within = search (sendable, asked-send, file.the_send) depth 40

pub serve_behind_fed-requires-send-D : goal.serve_behind_fed-requires-send-D
serve_behind_fed-requires-send-D g c κs within = search (sendable, asked-send, file.the_send) depth 40

pub serve_followed-requires-send-D : goal.serve_followed-requires-send-D
serve_followed-requires-send-D g c κs within = search (sendable, asked-send, file.the_send) depth 40
