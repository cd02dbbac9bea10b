use Rattle.std.proofs.Common.{◌≡◌, ℕ, ◌≤◌, true, [], ap, sym, ◌∙◌, subst, arith}
use Rattle.std.proofs.lemmas.Bool.Decides.{nat_tests}
use Rattle.left_right.specs.Sides.{view as seat_view}
use Rattle.logbook.specs.Pages.{Book}
use Rattle.crossbeam_utils.specs.Padded.{padded_value}
use Rattle.canvas_line.specs.Lines.{sight_of}
use Rattle.canvas_line.specs.Rule.{Knows}
use Rattle.canvas_line.specs.Seats.{is_setting}
use Rattle.canvas_line.specs.declared.front.Head.{Head}
use Rattle.canvas_line.specs.Trails.{Facts, Trail}
use Rattle.canvas_line.proofs.line.Line.open.Goals as goal

limited : (seats limit : ℕ) → is_setting seats limit ≡ true → limit ≤ 1000000
limited seats limit e = grind (arith, nat_tests)

-- the writer's view knows the facts of the line's name
pub new-desk-requires-clause-view : goal.new-desk-requires-clause-view
new-desk-requires-clause-view g c =
    let facts : Book → Facts = λ book. record { book = book; opening = c.args.document; limit = c.args.limit } in
    let same : facts c.args.opened.trace.book ≡ g.B.Lines.line c.args.name = ap (λ (t : Trail). facts t.book) c.args.opened.empty ∙ sym c.requires in
    subst (λ (f : Facts). Knows (seat_view c.in-Ok-first_writer.writer.desk.place) f) same c.in-Ok-first_writer.ensures.view

pub returns-in-Ok-seated-clause-each : goal.returns-in-Ok-seated-clause-each
returns-in-Ok-seated-clause-each g c =
    let same : sight_of c.args.name (g.B.Lines.line c.args.name) c.args.opened.trace.changes ≡ record { name = c.args.name; opening = c.args.document; limit = c.args.limit; front = [] } =
    ap (λ (f : Facts). sight_of c.args.name f c.args.opened.trace.changes) c.requires ∙ ap (λ (t : Trail). record { name = c.args.name; opening = c.args.document; limit = c.args.limit; front = t.changes }) c.args.opened.empty in
    λ k d lt. c.in-Ok-seated.ensures.each k d lt ∙ same

pub new-desk-requires-clause-facts : goal.new-desk-requires-clause-facts
new-desk-requires-clause-facts g c =
    let facts : Book → Facts = λ book. record { book = book; opening = c.args.document; limit = c.args.limit } in
    let same : facts c.args.opened.trace.book ≡ g.B.Lines.line c.args.name = ap (λ (t : Trail). facts t.book) c.args.opened.empty ∙ sym c.requires in (
      c.in-Ok-first_writer.ensures.facts ∙ same,
      ap (λ (h : Head). h.word.book) (ap padded_value c.in-Ok.ensures.ok ∙ c.new.ensures) ∙ ap (λ (f : Facts). f.book) (sym c.requires),
      subst (λ (f : Facts). f.limit ≤ 1000000) (sym c.requires) (limited c.args.seats c.args.limit (sym c.is_setting.ensures ∙ c.if-not-is_setting.false)),
    )
