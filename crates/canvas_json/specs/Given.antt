-- The data that the tokens of a line stand for, as serde_json has it.
use Rattle.std.specs.Prelude.{◌≡◌, List, ◌∷◌, Option, Some, None, option_and_then}
use Rattle.json.specs.Json as json
use Rattle.json.specs.Token.{Token}
use Rattle.serde_json.specs.Data.{Data, null, array, Items, no_items}
use Rattle.serde_json.specs.Find.{as_array}
use Rattle.serde_json.specs.Read.{of_json, max_depth}

-- the data of the value that the tokens begin with, if serde_json takes it
unfoldable pub data_at : List Token → Option Data
data_at ts = option_and_then (λ p. of_json p.0) (json.value max_depth ts)

abbrev pub or_null : Option Data → Data
or_null None = null
or_null (Some d) = d

-- the data of the value that the tokens begin with
unfoldable pub view : List Token → Data
view ts = or_null (data_at ts)

-- the tokens begin with a value that serde_json takes
abbrev pub HasData : List Token → Type 0
HasData ts = (d : Data) × (data_at ts ≡ Some d)

abbrev pub or_no_items : Option Items → Items
or_no_items None = no_items
or_no_items (Some ds) = ds

-- the items that the tokens begin with, and a closing bracket
unfoldable pub items_view : List Token → Items
items_view ts = or_no_items (as_array (view (Token.begin_array ∷ ts)))

-- the tokens begin with items that serde_json takes, and a closing bracket
abbrev pub HasItems : List Token → Type 0
HasItems ts = (ds : Items) × (data_at (Token.begin_array ∷ ts) ≡ Some (array ds))
