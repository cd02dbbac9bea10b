use Rattle.std.proofs.Common.{◌≡◌, cond, subst, sym}
use Rattle.std.specs.Result.{is_ok}
use Rattle.canvas_record.specs.Contents.{Contents, IsWellFormed}
use Rattle.canvas_doc.proofs.Document.remove.Goals as goal

pub remove_at-requires-clause-well_formed : goal.remove_at-requires-clause-well_formed
remove_at-requires-clause-well_formed c = subst IsWellFormed c.in-Some.ensures.alone c.requires.left

pub returns-in-Some : goal.returns-in-Some
returns-in-Some c = subst (λ (d : Contents). c.remove_at.new.self ≡ cond (is_ok c.remove_at.result) d c.args.self.now) (sym c.in-Some.ensures.alone) c.remove_at.ensures
