use Rattle.std.proofs.Common.{ltb, ltb-false, ltb-true, rules}
use Rattle.std.proofs.lemmas.List.Sorted.{IsPartitionPoint-from_clause, IsPartitionedBy-ltb}
use Rattle.canvas_list_tests.specs.declared.numbers.Number.{Number}
use Rattle.canvas_list_tests.proofs.made.places_of.Goals as goal

pub returns-clause-place : goal.returns-clause-place
returns-clause-place c =
    let parted = IsPartitionedBy-ltb (λ (n : Number). n.value) c.args.list.now c.args.least c.requires in
    let point = IsPartitionPoint-from_clause (λ (n : Number). ltb n.value c.args.least) c.args.list.now c.partition_point-place.result c.partition_point-place.ensures.partitioned parted (λ a r f called. search rules) in
    ((λ k d l m. ltb-true _ _ (point.0 k d l m)), (λ k d l m. ltb-false _ _ (point.1 k d l m)))

pub returns-clause-near : goal.returns-clause-near
returns-clause-near c =
    let parted = IsPartitionedBy-ltb (λ (n : Number). n.value) c.args.list.now c.args.least c.requires in
    let point = IsPartitionPoint-from_clause (λ (n : Number). ltb n.value c.args.least) c.args.list.now c.partition_point_near-near.result c.partition_point_near-near.ensures.partitioned parted (λ a r f called. search rules) in
    ((λ k d l m. ltb-true _ _ (point.0 k d l m)), (λ k d l m. ltb-false _ _ (point.1 k d l m)))
