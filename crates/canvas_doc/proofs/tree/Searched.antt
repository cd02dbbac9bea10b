-- A search by id.
use Rattle.std.proofs.Common.{◌≡◌, ◌≢◌, ℕ, ◌<◌, List, Bool, true, false, nat_lt, Some, None, sym, ◌∙◌, ap, arith, inl, inr, length, get_or}
use Rattle.std.specs.List.{slice_get}
use Rattle.std.specs.List.Sorted.{IsPartitionPoint, IsPartitionedBy}
use Rattle.std.proofs.lemmas.Bool.{cases_lt}
use Rattle.std.proofs.lemmas.Bool.Decides.{nat_tests}
use Rattle.std.proofs.lemmas.Option.{get_or_from_slice_get, slice_get-get_or, slice_get_within}
use Rattle.canvas_record.specs.declared.records.Record.{Record}
use Rattle.canvas_record.specs.Contents.{record_of, AreRising, IsStanding, StandsAt}
use Rattle.canvas_doc.proofs.tree.Found.{found-here, found-none, rising-at}

-- a record with the id
stands-here : (rs : List Record) (id at : ℕ) (s : Record) → AreRising rs → slice_get rs at ≡ Some s → s.id ≡ id → StandsAt rs id at
stands-here rs id at s w e f =
    let h : at < length rs = slice_get_within rs at s e in
    (h, λ d. found-here rs at id d w h (ap (λ (x : Record). x.id) (get_or_from_slice_get rs at s d e) ∙ f))

pub is-standing : (rs : List Record) (id at : ℕ) (s : Record) → AreRising rs → slice_get rs at ≡ Some s → s.id ≡ id → IsStanding rs id at s
is-standing rs id at s w e f =
    let there : StandsAt rs id at = stands-here rs id at s w e f in
    record { there = there; found = there.1 s ∙ ap Some (get_or_from_slice_get rs at s s e) }

-- the lesser ids come first
abbrev pub is_less : ℕ → Record → Bool
is_less id r = nat_lt r.id id

pub less-parted : (rs : List Record) (id : ℕ) → AreRising rs → IsPartitionedBy (is_less id) rs
less-parted rs id w i j d low b passed = elim (cases_lt i j) [
  | inl before ↦ (let lesser : (get_or rs i d).id < (get_or rs j d).id = rising-at rs i j d w before b in grind (arith, nat_tests))
  | inr from ↦ (let same : i ≡ j = omega arith in ap (λ n. is_less id (get_or rs n d)) same ∙ passed)
]

-- no record has the id
pub stands-nowhere : (rs : List Record) (id at : ℕ) → AreRising rs → IsPartitionPoint (λ r. is_less id r ≡ true) (λ r. is_less id r ≡ false) rs at
    → ((r : Record) → slice_get rs at ≡ Some r → r.id ≢ id) → record_of id rs ≡ None
stands-nowhere rs id at w point absent = sym (found-none rs id (λ k d m e. elim (cases_lt k at) [
  | inl before ↦ (let less : is_less id (get_or rs k d) ≡ true = point.0 k d (omega arith) before in grind (arith, nat_tests))
  | inr from ↦ elim (cases_lt at k) [
    | inl behind ↦
        (let least : is_less id (get_or rs at d) ≡ false = point.1 at d (omega arith) (omega arith) in
        let more : (get_or rs at d).id < (get_or rs k d).id = rising-at rs at k d w behind m in
        grind (arith, nat_tests))
    | inr here ↦
        (let same : k ≡ at = omega arith in
        absurd (absent (get_or rs at d) (slice_get-get_or rs at d (omega arith)) (ap (λ n. (get_or rs n d).id) (sym same) ∙ e)))
  ]
]))
