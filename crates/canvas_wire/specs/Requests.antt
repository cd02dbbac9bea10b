-- The request of a line, or the first fault that applies.
use Rattle.std.specs.Prelude.{ℕ, List, codes, Result, Ok, Err, is_some, option_and_then, if◌then◌else◌}
use Rattle.serde_json.specs.Data.{Data}
use Rattle.serde_json.specs.Find.{as_object, as_str}
use Rattle.canvas_wire.specs.declared.fault.WireFault.{WireFault}
use Rattle.canvas_wire.specs.declared.fault.WireFault.TheVariants.{BadJson, NotObject, BadVerb, BadField, ExtraField}
use Rattle.canvas_wire.specs.declared.request.Request.{Request}
use Rattle.canvas_wire.specs.Asked.{asked}
use Rattle.canvas_wire.specs.Extra.{has_extra}
use Rattle.canvas_wire.specs.Faults.{or_fault, ◌>>=◌}
use Rattle.canvas_json.specs.Json.{json_of, required}
use Rattle.canvas_wire.specs.Verbs.{verb_named}

-- the request of an object
unfoldable pub request_in : Data → Result Request WireFault
request_in d = do
  verb ← or_fault BadVerb (option_and_then verb_named (required as_str (codes "verb") d))
  request ← or_fault BadField (asked verb d)
  if has_extra verb d then Err ExtraField else Ok request

-- the request of a line
unfoldable pub request_of : List ℕ → Result Request WireFault
request_of line = do
  value ← or_fault BadJson (json_of line)
  if is_some (as_object value) then request_in value else Err NotObject
