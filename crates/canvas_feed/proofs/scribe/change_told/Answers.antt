use Rattle.std.proofs.Common.{◌≡◌, ℕ, List, Some, Ok, ap, ◌∙◌}
use Rattle.canvas_record.specs.declared.edits.Change.{Change}
use Rattle.canvas_record.specs.declared.edits.Edit.{Edit}
use Rattle.canvas_record.specs.Contents.{Contents}
use Rattle.canvas_record.specs.Decision.{decision_of}
use Rattle.canvas_wire.specs.Requests.{request_of}
use Rattle.canvas_wire.specs.declared.request.Request.TheVariants as requests
use Rattle.canvas_feed.specs.Feed.{change_told, change_asked, change_in}
use Rattle.canvas_feed.proofs.scribe.change_told.Goals as goal

told : (d : Contents) (line : List ℕ) (e : Edit) (c : Change) → request_of line ≡ Ok (requests.Edit e) → decision_of e d ≡ Ok c → change_told d line ≡ Some c
unfolding change_told
told d line e c asked decided = ap (change_asked d) asked ∙ ap change_in decided

pub returns-in-Ok-clause-told : goal.returns-in-Ok-clause-told
returns-in-Ok-clause-told c = told c.args.document.now c.args.line.now c.in_ok-edit.edit c.in-Ok.change c.in_ok-edit.ensures c.in-Ok.ensures.decision
