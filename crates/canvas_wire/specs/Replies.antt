-- The lines of replies: one object of compact JSON each, its members in the order of their names, and an LF.
use Rattle.std.specs.Prelude.{◌≡◌, ℕ, List, ◌++◌, codes}
use Rattle.std.specs.Fmt.{decimal}
use Rattle.canvas_code.specs.Names.{name_of}
use Rattle.canvas_shape.specs.declared.Colour.{Colour}
use Rattle.canvas_shape.specs.Names.{colour_text}
use Rattle.canvas_wire.specs.declared.reply.Reply.{Reply}
use Rattle.canvas_wire.specs.declared.reply.Reply.TheVariants.{Created, Edited, Body, Point, Refused, Behind}

-- a refusal has the name of its number
abbrev pub IsNamed : Reply → Type 0
IsNamed (Created id version) = Unit {0}
IsNamed (Edited version) = Unit {0}
IsNamed (Body bytes version) = Unit {0}
IsNamed (Point colour version) = Unit {0}
IsNamed (Refused code name) = name.now ≡ name_of code
IsNamed (Behind desk front) = Unit {0}

-- what a reply says, as a value: a refusal by its number alone, which has one name
pub data Said : Type 0 where
  created : ℕ → ℕ → Said
  edited : ℕ → Said
  body : ℕ → ℕ → Said
  point : Colour → ℕ → Said
  refused : ℕ → Said
  behind : ℕ → ℕ → Said

-- what a reply says
abbrev pub said : Reply → Said
said (Created id version) = created id version
said (Edited version) = edited version
said (Body bytes version) = body bytes version
said (Point colour version) = point colour version
said (Refused code name) = refused code
said (Behind desk front) = behind desk front

-- the line that says it
abbrev pub line_of : Said → List ℕ
line_of (created id version) = codes "{\"body\":0,\"id\":" ++ decimal id ++ codes ",\"ok\":true,\"version\":" ++ decimal version ++ codes "}\n"
line_of (edited version) = codes "{\"body\":0,\"ok\":true,\"version\":" ++ decimal version ++ codes "}\n"
line_of (body bytes version) = codes "{\"body\":" ++ decimal bytes ++ codes ",\"ok\":true,\"version\":" ++ decimal version ++ codes "}\n"
line_of (point colour version) = codes "{\"body\":0,\"colour\":\"" ++ colour_text colour ++ codes "\",\"ok\":true,\"version\":" ++ decimal version ++ codes "}\n"
line_of (refused code) = codes "{\"body\":0,\"code\":" ++ decimal code ++ codes ",\"name\":\"" ++ name_of code ++ codes "\",\"ok\":false}\n"
line_of (behind desk front) = codes "{\"body\":0,\"code\":17,\"desk\":" ++ decimal desk ++ codes ",\"front\":" ++ decimal front ++ codes ",\"name\":\"Behind\",\"ok\":false}\n"
