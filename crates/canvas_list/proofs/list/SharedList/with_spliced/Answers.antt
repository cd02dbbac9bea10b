use Rattle.std.proofs.Common.{◌≡◌, ◌∙◌, ◌+◌, ◌<◌, ◌≤◌, ◌↔◌, ◌++◌, ℕ, Bool, IsTrue, List, [], ◌∷◌, IfOk, ap, arith, drop, false, length, refl, subst, take, true}
use Rattle.std.proofs.lemmas.List.{length-append, length-drop, length-take, length-take-le}
use Rattle.canvas_list.proofs.Ranges.{in-two-steps}
use Rattle.canvas_list.proofs.list.SharedList.with_spliced.Goals as goal

-- a list that is not empty has an item
has-items : {X : Type 0} (xs : List X) (empty : Bool) → (IsTrue empty ↔ (xs ≡ [])) → empty ≡ false → 0 < length xs
has-items [] empty is false_is = let clash : false ≡ true = subst IsTrue false_is (is.1 refl) in cc
has-items (x ∷ xs) empty is false_is = omega arith

-- how many items the front has with the others behind it
front-has : {X : Type 0} (xs items middle none front : List X) (first : ℕ) → first ≤ length xs → middle ≡ items → none ≡ [] → front ≡ take first xs ++ none ++ middle → length front ≡ first + length items
front-has xs items middle none front first within is e so =
    omega (arith, ap length so, length-append (take first xs ++ none) middle, length-append (take first xs) none, length-take-le first xs within, ap length e, ap length is)

pub between-requires-clause-before : goal.between-requires-clause-before
between-requires-clause-before g c = has-items c.args.self.now c.is_empty.result c.is_empty.ensures c.if-is_empty.false

pub between-requires-clause-behind : goal.between-requires-clause-behind
between-requires-clause-behind g c = has-items c.args.self.now c.is_empty.result c.is_empty.ensures c.if-is_empty.false

pub between-requires-clause-small : goal.between-requires-clause-small
between-requires-clause-small g c =
    omega (arith, c.requires.order, c.requires.within, c.requires.few, length-take c.args.first c.args.self.now, length-drop c.args.end c.args.self.now)

pub between-requires-2-clause-before : goal.between-requires-2-clause-before
between-requires-2-clause-before g c = has-items c.args.self.now c.is_empty.result c.is_empty.ensures c.if-is_empty.false

pub between-requires-3-clause-upto : goal.between-requires-3-clause-upto
between-requires-3-clause-upto g c =
    let within : c.args.first ≤ length c.args.self.now = omega (arith, c.requires.order, c.requires.within) in
    omega (arith, c.len-more.ensures, c.args.items.ok.0, front-has c.args.self.now c.args.items.items c.in_ok-middle.middle c.new.result.items c.in_ok-front.front c.args.first within c.in_ok-middle.ensures c.new.ensures.items c.in_ok-front.ensures)

pub between-requires-3-clause-before : goal.between-requires-3-clause-before
between-requires-3-clause-before g c =
    let within : c.args.first ≤ length c.args.self.now = omega (arith, c.requires.order, c.requires.within) in
    omega (arith, c.if-len-sizes.false, c.len-3.ensures, c.args.items.ok.0, front-has c.args.self.now c.args.items.items c.in_ok-middle.middle c.new.result.items c.in_ok-front.front c.args.first within c.in_ok-middle.ensures c.new.ensures.items c.in_ok-front.ensures)

pub between-requires-3-clause-behind : goal.between-requires-3-clause-behind
between-requires-3-clause-behind g c = has-items c.args.self.now c.is_empty.result c.is_empty.ensures c.if-is_empty.false

pub between-requires-3-clause-small : goal.between-requires-3-clause-small
between-requires-3-clause-small g c =
    let within : c.args.first ≤ length c.args.self.now = omega (arith, c.requires.order, c.requires.within) in
    omega (
      arith,
      c.requires.order,
      c.requires.within,
      c.requires.few,
      ap length c.new-2.ensures.items,
      length-take (c.args.first + c.len-more.result) c.in_ok-front.front,
      length-drop c.args.end c.args.self.now,
      front-has c.args.self.now c.args.items.items c.in_ok-middle.middle c.new.result.items c.in_ok-front.front c.args.first within c.in_ok-middle.ensures c.new.ensures.items c.in_ok-front.ensures,
    )

pub returns : goal.returns
returns g c =
    let within : c.args.first ≤ length c.args.self.now = omega (arith, c.requires.order, c.requires.within) in
    let same : take (c.args.first + c.len-more.result) c.in_ok-front.front ++ c.new-2.result.items ++ drop c.args.end c.args.self.now ≡ take c.args.first c.args.self.now ++ c.args.items.items ++ drop c.args.end c.args.self.now =
    in-two-steps c.args.self.now c.args.items.items c.in_ok-middle.middle c.new.result.items c.in_ok-front.front c.new-2.result.items c.args.first c.len-more.result c.args.end within (c.len-more.ensures ∙ c.args.items.ok.0) c.in_ok-middle.ensures c.new.ensures.items c.in_ok-front.ensures c.new-2.ensures.items in
    subst (λ (l : List g.row.T.Denot). IfOk c.between-3.result (λ (list : List g.row.T.Denot). list ≡ l)) same c.between-3.ensures
