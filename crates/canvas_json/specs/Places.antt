-- Parents and keys: where a shape goes.
use Rattle.std.specs.Prelude.{ℕ, List, Option, Some, None, option_map, is_some, if◌then◌else◌}
use Rattle.std.specs.Option.{is_none}
use Rattle.serde_json.specs.Data.{Data}
use Rattle.serde_json.specs.Find.{as_null}
use Rattle.canvas_key.specs.Text.{key_fault}
use Rattle.canvas_record.specs.declared.records.Parent.{Parent}
use Rattle.canvas_record.specs.declared.records.Parent.TheVariants.{Page, Shape}
use Rattle.canvas_json.specs.Json.{u32_of}

-- a parent: null is the page, and a number the shape with this id
unfoldable pub parent_of : Data → Option Parent
parent_of d = if is_some (as_null d) then Some Page else option_map Shape (u32_of d)

-- the text, if it is an index key
unfoldable pub key_named : List ℕ → Option (List ℕ)
key_named text = if is_none (key_fault text) then Some text else None
