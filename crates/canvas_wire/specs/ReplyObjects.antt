-- The objects that replies are: the line of each is its compact text.
use Rattle.std.specs.Prelude.{◌≡◌, ℕ, ◌++◌, codes, true, false}
use Rattle.hex.specs.Hex.{IsBytes}
use Rattle.serde_json.specs.Data.{Data, boolean, number, string, object, unsigned, no_members, member}
use Rattle.serde_json.specs.Written.{compact_text}
use Rattle.canvas_code.specs.Names.{name_of}
use Rattle.canvas_shape.specs.Names.{colour_text}
use Rattle.canvas_wire.specs.Replies.{Said, created, edited, body, point, refused, behind, line_of}

-- a whole number as a value
abbrev pub count : ℕ → Data
count n = number (unsigned n)

-- the object of a reply
abbrev pub object_of : Said → Data
object_of (created id version) =
    object (member (codes "body") (count 0) (member (codes "id") (count id)
    (member (codes "ok") (boolean true) (member (codes "version") (count version) no_members))))
object_of (edited version) =
    object (member (codes "body") (count 0)
    (member (codes "ok") (boolean true) (member (codes "version") (count version) no_members)))
object_of (body bytes version) =
    object (member (codes "body") (count bytes)
    (member (codes "ok") (boolean true) (member (codes "version") (count version) no_members)))
object_of (point colour version) =
    object (member (codes "body") (count 0) (member (codes "colour") (string (colour_text colour))
    (member (codes "ok") (boolean true) (member (codes "version") (count version) no_members))))
object_of (refused code) =
    object (member (codes "body") (count 0) (member (codes "code") (count code)
    (member (codes "name") (string (name_of code)) (member (codes "ok") (boolean false) no_members))))
object_of (behind desk front) =
    object (member (codes "body") (count 0) (member (codes "code") (count 17)
    (member (codes "desk") (count desk) (member (codes "front") (count front)
    (member (codes "name") (string (codes "Behind")) (member (codes "ok") (boolean false) no_members))))))

-- the parts of a reply's colour are bytes
abbrev pub HasBytes : Said → Type 0
HasBytes (created id version) = Unit {0}
HasBytes (edited version) = Unit {0}
HasBytes (body bytes version) = Unit {0}
HasBytes (point colour version) = IsBytes colour.0
HasBytes (refused code) = Unit {0}
HasBytes (behind desk front) = Unit {0}

-- the line of each reply is the compact JSON of its object, and an LF
abbrev pub AreJson : Type 0
AreJson = (reply : Said) → HasBytes reply → line_of reply ≡ compact_text (object_of reply) ++ codes "\n"
