use denote.Exit.{no}
use denote.Param.Send.{arg_sync, param_sync}
use Rattle.canvas_keep_tests.proofs.Sharing.{asked-send, keep-sync}
use Rattle.canvas_keep_tests.proofs.disk.Disk.TheSendSync as disk
use Rattle.canvas_journal_file.specs.contracts.asked.Asked as asked
use Rattle.canvas_journal_file.specs.contracts.asked.AskedDevice.TheImpl as asked_device
use Rattle.canvas_keep_tests.specs.contracts.disk.Disk as disk_type
use Rattle.canvas_keep_tests.specs.contracts.disk.DiskBacking.TheImpl as disk_backing
use Rattle.canvas_keep_tests.proofs.threads.crowd_at.Goals as goal

pub race-requires-sync-K : goal.race-requires-sync-K
race-requires-sync-K g c κs within = param_sync _ _ (arg_sync _ no _ (keep-sync (asked.the_row disk_type.the_row) g.row.B (asked_device.ghosts disk_type.the_row disk_backing.ghosts disk_backing.dict) g.B.Lines (asked-send disk_type.the_row disk.the_send)))
