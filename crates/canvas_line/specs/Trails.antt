-- A beginning of a book's history, and what stays of a line.
use Rattle.std.specs.Prelude.{ℕ, List, [], ◌∷◌, ◌++◌}
use Rattle.logbook.specs.Pages.{Book}
use Rattle.canvas_record.specs.declared.edits.Change.{Change}
use Rattle.canvas_record.specs.Contents.{Contents}

-- a beginning of the history of a book
pub record Trail : Type 0 where
  pub book : Book
  pub changes : List Change

abbrev pub longer_by : Trail → Change → Trail
longer_by t c = record { book = t.book; changes = t.changes ++ c ∷ [] }

-- what stays of a line: its book, its opening document, and how many changes it may accept
pub record Facts : Type 0 where
  pub book : Book
  pub opening : Contents
  pub limit : ℕ

abbrev pub no_facts : Facts
no_facts = record { book = record { number = 0; log_name = 0; cells_name = 0 }; opening = record { records = []; next = 1 }; limit = 0 }
