use Rattle.canvas_record.specs.Effect.{changed_by}
use Rattle.canvas_doc.proofs.tree.OneChanged.{all-kept, record-changed}
use Rattle.canvas_doc.proofs.changed.changed_record.Goals as goal

pub returns-in-Some : goal.returns-in-Some
returns-in-Some c = record-changed c.args.change.now c.in-Some.id c.args.records.now c.locate.result c.requires c.in-Some.ensures c.locate.ensures

pub returns-in-None : goal.returns-in-None
returns-in-None c = all-kept (changed_by c.args.change.now) c.args.records.now (λ r m. c.in-None.ensures r)
