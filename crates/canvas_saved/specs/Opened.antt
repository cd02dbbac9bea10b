-- The records that a text has, the document that it opens as, or its first fault.
use Rattle.std.specs.Prelude.{ℕ, ◌+◌, nat_le, List, [], ◌∷◌, codes, Option, Some, None, option_and_then, Result, Ok, Err, if◌then◌else◌}
use Rattle.serde_json.specs.Data.{Data, Items, no_items, item}
use Rattle.serde_json.specs.Events.{items_len}
use Rattle.serde_json.specs.Find.{as_array}
use Rattle.canvas_record.specs.declared.records.Record.{Record}
use Rattle.canvas_record.specs.declared.tree_faults.TreeFault.{TreeFault}
use Rattle.canvas_record.specs.declared.tree_faults.TreeFault.TheVariants as tree
use Rattle.canvas_record.specs.Contents.{Contents}
use Rattle.canvas_record.specs.Restored.{restoration_of}
use Rattle.canvas_saved.specs.declared.fault.StoreFault.{StoreFault}
use Rattle.canvas_saved.specs.declared.fault.StoreFault.TheVariants.{BadJson, BadFormat, BadRecord, BadTree, OutOfMemory}
use Rattle.canvas_saved.specs.declared.formats.Format.{Format}
use Rattle.canvas_saved.specs.declared.formats.Head.{Head}
use Rattle.canvas_saved.specs.declared.opening.SavedRecords.{SavedRecords}
use Rattle.canvas_saved.specs.Faults.{or_fault, ◌>>=◌}
use Rattle.canvas_saved.specs.Formats.{format_numbered, most_of}
use Rattle.canvas_json.specs.Json as json
use Rattle.canvas_saved.specs.Records.{element_of}

abbrev pub document_members : List (List ℕ)
document_members = codes "format" ∷ codes "next" ∷ codes "shapes" ∷ []

-- the format that a number names
unfoldable pub format_of : Data → Option Format
format_of d = option_and_then format_numbered (json.u32_of d)

-- the format and the next id of an object, if the id is at least 1 and there are no other members
abbrev pub head_in : Format → ℕ → Data → Option Head
head_in format next d =
    if nat_le 1 next then (if json.has_others document_members d then None else Some (record { format = format; next = next })) else None

unfoldable pub head_of : Data → Option Head
head_of d =
    option_and_then (λ format. option_and_then (λ next. head_in format next d)
    (json.required json.u32_of (codes "next") d))
    (json.required format_of (codes "format") d)

-- a list of at most so many elements
abbrev pub if_few : ℕ → Items → Option Items
if_few most items = if nat_le (items_len items) most then Some items else None

-- the elements of the list of shapes, at most as many as the format has
unfoldable pub shapes_of : Format → Data → Option Items
shapes_of format d = option_and_then (if_few (most_of format)) (json.required as_array (codes "shapes") d)

-- the records of the elements from a position on, or the least position of one that is none
abbrev pub records_from : Head → ℕ → Items → Result (List Record) StoreFault
records_from head position no_items = Ok []
records_from head position (item d rest) = do
  r ← or_fault (BadRecord position) (element_of head d)
  rs ← records_from head (position + 1) rest
  Ok (r ∷ rs)

-- what was read, as the contents of a document
abbrev pub contents_of : SavedRecords → Contents
contents_of saved = record { records = saved.records.items; next = saved.next }

-- the same fault of the saved document
abbrev pub fault_of : TreeFault → StoreFault
fault_of tree.OutOfMemory = OutOfMemory
fault_of (tree.BadRecord position) = BadRecord position
fault_of (tree.BadTree position) = BadTree position

abbrev pub with_fault : Result Contents TreeFault → Result Contents StoreFault
with_fault (Ok document) = Ok document
with_fault (Err fault) = Err (fault_of fault)

-- the records of a JSON value, in its order, and its next id: they need not make a tree
unfoldable pub records_in : Data → Result Contents StoreFault
records_in d = do
  head ← or_fault BadFormat (head_of d)
  shapes ← or_fault BadFormat (shapes_of head.format d)
  records ← records_from head 0 shapes
  Ok (record { records = records; next = head.next })

-- the records of a text, in its order, and its next id
unfoldable pub records_read : List ℕ → Result Contents StoreFault
records_read text = do
  d ← or_fault BadJson (json.json_of text)
  records_in d

-- the document of a text
unfoldable pub opened : List ℕ → Result Contents StoreFault
opened text = do
  saved ← records_read text
  with_fault (restoration_of saved.records saved.next)
