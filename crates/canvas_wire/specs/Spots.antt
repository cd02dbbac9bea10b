-- Spots: where among its siblings a shape goes.
use Rattle.std.specs.Prelude.{ℕ, List, codes, Option, Some, None, option_map, option_and_then, if◌then◌else◌}
use Rattle.std.specs.Option.{option_map_or}
use Rattle.std.specs.Str.{bytes_eq}
use Rattle.serde_json.specs.Data.{Data}
use Rattle.serde_json.specs.Find.{get, as_str}
use Rattle.canvas_record.specs.declared.edits.Spot.{Spot}
use Rattle.canvas_record.specs.declared.edits.Spot.TheVariants.{Back, Front, Over, At}
use Rattle.canvas_json.specs.Json.{u32_of, required}
use Rattle.canvas_json.specs.Places.{key_named}

-- a text is the spot behind or in front of all siblings
unfoldable pub spot_named : List ℕ → Option Spot
spot_named name = if bytes_eq name (codes "back") then Some Back else (if bytes_eq name (codes "front") then Some Front else None)

-- the spot just in front of the sibling with this id
unfoldable pub spot_over : Data → Option Spot
spot_over d = option_map Over (u32_of d)

-- the spot at a key
unfoldable pub spot_at_key : List ℕ → Option Spot
spot_at_key text = option_map At (key_named text)

-- an object is the spot of its member `over`, or of `at` where it has no `over`
unfoldable pub spot_in : Data → Option Spot
spot_in d = option_map_or spot_over (get (codes "over") d) (option_and_then spot_at_key (required as_str (codes "at") d))

-- a spot: a text or an object
unfoldable pub spot_of : Data → Option Spot
spot_of d = option_map_or spot_named (as_str d) (spot_in d)
