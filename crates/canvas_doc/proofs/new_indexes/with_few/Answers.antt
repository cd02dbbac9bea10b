use Rattle.std.proofs.Common.{◌≡◌, ◌<◌, ◌≤◌, ◌∙◌, ℕ, List, None, ap, arith, get_or, length, map, set, subst, take}
use Rattle.std.specs.Option.{unwrap_or}
use Rattle.std.proofs.lemmas.List.{length-map, take_all}
use Rattle.canvas_doc.specs.declared.placed_shapes.PlacedShape.{PlacedShape}
use Rattle.canvas_record.specs.declared.records.Record.{Record}
use Rattle.canvas_record.specs.Contents.{record_of, StandsAt}
use Rattle.canvas_doc.proofs.editing.Placements.{map-read, shape_of}
use Rattle.canvas_doc.proofs.spacing.Respacing.{none-put, nothing-put, one-put}
use Rattle.canvas_doc.proofs.new_indexes.with_few.Goals as goal
use Rattle.canvas_doc.proofs.new_indexes.with_few.Goals.{in-Some+in_ok-try_clone+in_ok-change, in_default}

-- a position of the records is one of a list that came of them
within-map : (rs all : List Record) (f : Record → Record) (at : ℕ) → all ≡ map f rs → at < length rs → at < length all
within-map rs all f at e within = omega (arith, ap length e, length-map rs f)

-- all are put where as many were gone over as there are
all-put : (rs : List Record) (others : List PlacedShape) (all : List Record) (i : ℕ) → length others ≤ i → all ≡ map (λ r. unwrap_or (record_of r.id (take i (map shape_of others))) r) rs → all ≡ map (λ r. unwrap_or (record_of r.id (map shape_of others)) r) rs
all-put rs others all i gone is =
    is ∙ ap (λ (l : List Record). map (λ (r : Record). unwrap_or (record_of r.id l) r) rs) (take_all i (map shape_of others) (omega (arith, gone, length-map others shape_of)))

pub loop-other-init : goal.loop-other-init
loop-other-init c = c.in_ok-all.ensures ∙ nothing-put c.args.records.now (map shape_of c.args.others.now)

pub loop-other-preserved : goal.loop-other-preserved
loop-other-preserved c =
    let rs : List Record = c.args.records.now in
    let others : List Record = map shape_of c.args.others.now in
    let j : ℕ = c.loop-other.other-index in
    let o : Record = c.other-item.result.shape in
    let within : j < length others = omega (arith, c.loop-other-test.true, length-map c.args.others.now shape_of) in
    let is : o ≡ get_or others j o = map-read shape_of c.args.others.now j c.other-item.result c.other-item.is in
    elim c.match-position_of.branch [
      | in-Some+in_ok-try_clone+in_ok-change w ↦
          w.all-is
          ∙ w.in_ok-change.ensures.made
          ∙ ap (λ (l : List Record). set l w.in-Some.at w.of-new.result) c.loop-other.invariant
          ∙ ap (λ (x : Record). set (map (λ (r : Record). unwrap_or (record_of r.id (take j others)) r) rs) w.in-Some.at x) (w.of-new.ensures ∙ w.in_ok-try_clone.ensures)
          ∙ one-put rs others j w.in-Some.at o c.requires.rising c.requires.once within is (subst (λ (x : Record). StandsAt rs x.id w.in-Some.at) c.value.ensures w.in-Some.ensures)
      | in_default w ↦ w.all-is ∙ c.loop-other.invariant ∙ none-put rs others j o c.requires.once within is (subst (λ (x : Record). record_of x.id rs ≡ None) c.value.ensures w.in_default.ensures)
    ]

pub position_of-requires : goal.position_of-requires
position_of-requires c = c.requires.rising

pub change-requires : goal.change-requires
change-requires c = within-map c.args.records.now c.loop-other.all _ c.in-Some.at c.loop-other.invariant c.in-Some.ensures.0

pub returns : goal.returns
returns c = all-put c.args.records.now c.args.others.now c.loop-other.all c.loop-other.other-index c.loop-other-test.false c.loop-other.invariant
