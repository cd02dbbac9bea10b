use Rattle.std.proofs.Common.{◌≡◌, ◌+◌, ◌∙◌, ℕ, [], List, ap, filter, get_or, not, refl, sym, take}
use Rattle.std.proofs.lemmas.List.{take_all}
use Rattle.canvas_record.specs.declared.records.Parent.TheVariants.{Shape}
use Rattle.canvas_record.specs.Children.{is_child}
use Rattle.canvas_doc.specs.Deletion.{is_held}
use Rattle.canvas_doc.proofs.deleting.Freed.{filter-both, filter-none, held-more}
use Rattle.canvas_doc.proofs.deletion.without_held.Goals as goal

pub loop-holder-init : goal.loop-holder-init
loop-holder-init c = record { lists = c.requires; records = sym (filter-none (λ r. is_held [] r) c.args.lists.records (λ i d l. refl)) }

pub without_children-requires : goal.without_children-requires
without_children-requires c = c.loop-holder.invariant.lists

pub loop-holder-preserved : goal.loop-holder-preserved
loop-holder-preserved c =
    let hs : List ℕ = c.args.holders.now in
    let k : ℕ = c.loop-holder.holder-index in
    let h : ℕ = get_or hs k 0 in
    record {
      lists = c.in_ok-left.ensures.lists;
      records =
          c.in_ok-left.ensures.records
          ∙ ap (filter (λ r. not (is_child (Shape h) r))) c.loop-holder.invariant.records
          ∙ filter-both (λ r. is_child (Shape h) r) (λ r. is_held (take k hs) r) (λ r. is_held (take (k + 1) hs) r) c.args.lists.records
          (λ r. held-more hs k h 0 r c.loop-holder-test.true refl);
    }

pub returns-clause-lists : goal.returns-clause-lists
returns-clause-lists c = c.loop-holder.invariant.lists

pub returns-clause-records : goal.returns-clause-records
returns-clause-records c =
    let whole : take c.loop-holder.holder-index c.args.holders.now ≡ c.args.holders.now = take_all c.loop-holder.holder-index c.args.holders.now c.loop-holder-test.false in
    c.loop-holder.invariant.records ∙ ap (λ (l : List ℕ). filter (λ r. not (is_held l r)) c.args.lists.records) whole
