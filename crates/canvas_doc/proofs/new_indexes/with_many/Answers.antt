use Rattle.std.proofs.Common.{◌≡◌, ◌<◌, ◌≤◌, ◌∙◌, ℕ, List, IfOk, None, ap, arith, get_or, length, map, set, subst, sym, take}
use Rattle.std.specs.List.{take-map}
use Rattle.std.specs.Option.{unwrap_or}
use Rattle.std.proofs.lemmas.List.{length-map, take_all}
use Rattle.canvas_record.specs.declared.records.Record.{Record}
use Rattle.canvas_record.specs.Contents.{record_of, StandsAt, most_records}
use Rattle.canvas_doc.proofs.editing.Placements.{map-read, shape_of}
use Rattle.canvas_doc.proofs.spacing.Respacing.{none-put, nothing-put, one-put}
use Rattle.canvas_doc.proofs.new_indexes.with_many.Goals as goal
use Rattle.canvas_doc.proofs.new_indexes.with_many.Goals.{in-Some+in_ok-try_clone, in_default}

pub loop-other-init : goal.loop-other-init
loop-other-init c = c.in_ok-all.ensures ∙ nothing-put c.args.records.now (map shape_of c.args.others.now)

pub loop-other-preserved : goal.loop-other-preserved
loop-other-preserved c =
    let rs : List Record = c.args.records.now in
    let others : List Record = map shape_of c.args.others.now in
    let k : ℕ = c.loop-other.other-index in
    let o : Record = c.other-item.result.shape in
    let within : k < length others = subst (λ n. k < n) (sym (length-map c.args.others.now shape_of)) c.loop-other-test.true in
    let is : o ≡ get_or others k o = map-read shape_of c.args.others.now k c.other-item.result c.other-item.is in
    elim c.match-position_of.branch [
      | in-Some+in_ok-try_clone w ↦
          ap (λ l. l.items) w.all-is
          ∙ ap (set c.loop-other.all.items w.in-Some.at) (w.of.ensures ∙ w.in_ok-try_clone.ensures)
          ∙ ap (λ (l : List Record). set l w.in-Some.at o) c.loop-other.invariant
          ∙ one-put rs others k w.in-Some.at o c.requires.rising c.requires.once within is (subst (λ (x : Record). StandsAt rs x.id w.in-Some.at) c.value.ensures w.in-Some.ensures)
      | in_default w ↦ ap (λ l. l.items) w.all-is ∙ c.loop-other.invariant ∙ none-put rs others k o c.requires.once within is (subst (λ (x : Record). record_of x.id rs ≡ None) c.value.ensures w.in_default.ensures)
    ]

pub from_vec-requires : goal.from_vec-requires
from_vec-requires c =
    let few : length c.args.records.now ≤ most_records = c.requires.few in
    omega (arith, ap length c.loop-other.invariant, length-map c.args.records.now (λ r. unwrap_or (record_of r.id (take c.loop-other.other-index (map shape_of c.args.others.now))) r))

pub returns : goal.returns
returns c =
    let whole : take c.loop-other.other-index (map shape_of c.args.others.now) ≡ map shape_of c.args.others.now =
    take-map shape_of c.loop-other.other-index c.args.others.now ∙ ap (map shape_of) (take_all c.loop-other.other-index c.args.others.now c.loop-other-test.false) in
    subst (λ (l : List Record). IfOk c.from_vec.result (λ list. list ≡ l)) (c.loop-other.invariant ∙ ap (λ (l : List Record). map (λ (r : Record). unwrap_or (record_of r.id l) r) c.args.records.now) whole) c.from_vec.ensures
