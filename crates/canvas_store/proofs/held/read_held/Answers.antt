use Rattle.canvas_store.proofs.Parts.{lease_read}
use Rattle.canvas_store.proofs.held.read_held.Goals as goal

pub returns : goal.returns
returns g c = lease_read _ _ _ _ c.in_ok-line.line.bytes c.in_ok-opening.opening.items c.in_ok-journal.journal.items c.in_ok-known.field-0 c.in-Some.known
    c.in_ok-line.ensures c.in_ok-known.ensures c.in-Some.is c.in_ok-opening.ensures.bytes c.in_ok-journal.ensures.bytes c.in_ok-opening.ensures.len c.in_ok-journal.ensures.len
