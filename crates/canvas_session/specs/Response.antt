-- What is answered to a request: a reply, and the bytes that follow its line.
use Rattle.std.specs.Prelude.{ℕ, List, [], ◌++◌, length, Option, Some, None, Result, Ok, Err}
use Rattle.std.specs.List.{flat_map}
use Rattle.std.specs.Arc.{arc_value}
use Rattle.canvas_wire.specs.Replies.{Said, created, edited, body, point, refused, behind, line_of}
use Rattle.canvas_look.specs.declared.answers.Edited.{Edited}
use Rattle.canvas_look.specs.declared.answers.Picture.{Picture}
use Rattle.canvas_look.specs.declared.answers.Dot.{Dot}
use Rattle.canvas_look.specs.declared.answers.Saved.{Saved}
use Rattle.canvas_look.specs.declared.fault.BoardFault.{BoardFault}
use Rattle.canvas_look.specs.declared.fault.BoardFault.TheVariants.{Behind}
use Rattle.canvas_look.specs.Fault.{board_fault_code}

pub record Response : Type 0 where
  pub reply : Said
  pub follows : List ℕ

-- the bytes of a response: the reply's line, and its body
abbrev pub text_of : Response → List ℕ
text_of r = line_of r.reply ++ r.follows

abbrev pub texts_of : List Response → List ℕ
texts_of rs = flat_map text_of rs

-- a reply without a body
abbrev pub bare : Said → Response
bare reply = record { reply = reply; follows = [] }

-- the number of the refusal that a reply is, if it is one
abbrev pub refusal_of : Said → Option ℕ
refusal_of (created id version) = None
refusal_of (edited version) = None
refusal_of (body bytes version) = None
refusal_of (point colour version) = None
refusal_of (refused code) = Some code
refusal_of (behind desk front) = Some 17

-- an edit that made a shape is answered with its id
abbrev pub made : Option ℕ → ℕ → Said
made None version = edited version
made (Some id) version = created id version

abbrev pub fault_response : BoardFault → Response
fault_response (Behind desk front) = bare (behind desk front)
fault_response fault = bare (refused (board_fault_code fault))

abbrev pub edit_response : Result Edited BoardFault → Response
edit_response (Ok answer) = bare (made answer.id answer.number)
edit_response (Err fault) = fault_response fault

abbrev pub picture_response : Result Picture BoardFault → Response
picture_response (Ok picture) = record { reply = body (length (arc_value picture.bytes).items) picture.version; follows = (arc_value picture.bytes).items }
picture_response (Err fault) = fault_response fault

abbrev pub point_response : Result Dot BoardFault → Response
point_response (Ok dot) = bare (point dot.colour dot.version)
point_response (Err fault) = fault_response fault

abbrev pub saved_response : Result Saved BoardFault → Response
saved_response (Ok saved) = record { reply = body (length (arc_value saved.text).items) saved.version; follows = (arc_value saved.text).items }
saved_response (Err fault) = fault_response fault
