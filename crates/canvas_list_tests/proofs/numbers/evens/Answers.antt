use Rattle.std.proofs.Common.{◌≡◌, ◌∙◌, ◌+◌, ◌-◌, ◌++◌, ◌∷◌, [], ℕ, List, sym, ap, subst, arith, length, get_or}
use Rattle.std.proofs.lemmas.List.{get_or-append-add, length-append}
use Rattle.std.proofs.lemmas.List.Sorted.{IsNonDecreasingBy-push}
use Rattle.std.specs.List.Sorted.{IsNonDecreasingBy}
use Rattle.canvas_list_tests.specs.declared.numbers.Number.{Number}
use Rattle.canvas_list_tests.proofs.numbers.evens.Goals as goal

pub loop-at-preserved : goal.loop-at-preserved
loop-at-preserved c =
    let old : List Number = c.loop-at.items.items in
    let new : List Number = c.push.new.self.items in
    let item : Number = c.in_ok-shared_number.field-0 in
    let pushed : new ≡ old ++ item ∷ [] = c.in_ok-push.ensures.items in
    let long : length new ≡ length old + 1 = ap length pushed ∙ length-append old (item ∷ []) in
    let place : length new - 1 ≡ length old + 0 = omega (arith, long) in
    record {
      len = omega (arith, long, c.loop-at.invariant.len);
      sorted =
          subst (λ (l : List Number). IsNonDecreasingBy (λ (n : Number). n.value) l) (sym pushed)
          (IsNonDecreasingBy-push (λ (n : Number). n.value) old item c.loop-at.invariant.sorted (λ d h. omega (arith, c.loop-at.invariant.last d h, c.in_ok-shared_number.ensures)));
      last = λ d h.
          let read : (get_or new (length new - 1) d).value ≡ item.value =
          ap (λ (l : List Number). (get_or l (length new - 1) d).value) pushed
          ∙ ap (λ (i : ℕ). (get_or (old ++ item ∷ []) i d).value) place
          ∙ ap (λ (n : Number). n.value) (get_or-append-add old (item ∷ []) 0 d) in
          omega (arith, read, c.in_ok-shared_number.ensures);
    }
