-- Elements of a saved document, one by one.
use Rattle.std.proofs.Common.{◌++◌, List, Result, Ok, Err}
use Rattle.canvas_record.specs.declared.records.Record.{Record}
use Rattle.canvas_saved.specs.declared.fault.StoreFault.{StoreFault}

-- the records before, then those that were read
abbrev pub after : List Record → Result (List Record) StoreFault → Result (List Record) StoreFault
after before (Ok rs) = Ok (before ++ rs)
after before (Err fault) = Err fault
