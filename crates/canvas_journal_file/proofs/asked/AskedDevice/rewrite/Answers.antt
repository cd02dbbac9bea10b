use Rattle.canvas_journal_file.proofs.Moments.{third_changes}
use Rattle.canvas_journal_file.proofs.asked.AskedDevice.rewrite.Goals as goal

pub returns-clause-time : goal.returns-clause-time
returns-clause-time g c =
    third_changes c.args.self.now c.self.inside.record.events c.note.new.self.events c.note-2.new.self.events c.note-3.new.self.events _ _ _
    c.self.view_is c.note.ensures c.note-2.ensures c.note-3.ensures (λ left now. now) (λ left now. now)
