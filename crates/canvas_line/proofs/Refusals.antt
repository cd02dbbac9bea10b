-- What is decided at a document stands at its version.
use Rattle.std.proofs.Common.{ℕ, ◌<◌, Err}
use Rattle.canvas_record.specs.declared.edits.Edit.{Edit}
use Rattle.canvas_line.specs.declared.version.Version.{Version}
use Rattle.canvas_line.specs.declared.fault.LineFault.{LineFault}
use Rattle.canvas_line.specs.declared.fault.LineFault.TheVariants as fault
use Rattle.canvas_line.specs.Lines.{Decides, RefusedAt}

pub refused_at : (v : Version) (limit : ℕ) (e : Edit) (f : LineFault) → v.number < limit → Decides v.document e (Err f) → RefusedAt v limit e f
refused_at v limit e fault.OutOfMemory room d = (d.0, d.1, room)
refused_at v limit e fault.VersionsSpent room d = absurd d
refused_at v limit e (fault.Refused why) room d = (room, d)
refused_at v limit e (fault.Behind desk front) room d = absurd d
refused_at v limit e (fault.Strangers own found) room d = absurd d
refused_at v limit e fault.NoSeats room d = absurd d
refused_at v limit e fault.BadSetting room d = absurd d
refused_at v limit e fault.NoView room d = absurd d
