-- How many items there are after a change, and what a call made.
use Rattle.std.proofs.Common.{◌≡◌, ◌<◌, ◌^◌, ◌∷◌, ℕ, suc, take, drop, All, List, Result, Ok, Err, OnOk, OnErr, cond, arith, length}
use Rattle.std.specs.Result.{is_ok}
use Rattle.std.proofs.lemmas.List.{length-set}
use Rattle.std.proofs.lemmas.List.Edits.{length-insert, length-remove}
use Rattle.std.proofs.lemmas.List.Elements.{All-append, All-cons, All-drop, All-take}
use Rattle.std.specs.List.{insert, remove}
use Rattle.canvas_list.specs.Changed.{changed, IsPositionOf}
use Rattle.canvas_list.specs.declared.in_place.ItemChange.{ItemChange}
use Rattle.canvas_list.specs.declared.in_place.ItemChange.TheVariants.{Replace, Remove, Insert}

-- no more items than a list may have
pub few-changed : {X : Type 0} (change : ItemChange X) (at : ℕ) (xs : List X) → IsPositionOf change at xs → length xs < 2 ^ 32 → length (changed change at xs) < 2 ^ 32
few-changed (Replace item) at xs place few = omega (arith, length-set xs at item, few)
few-changed Remove at xs place few = omega (arith, length-remove xs at place, few)
few-changed (Insert item) at xs place few = omega (arith, length-insert xs at item place.0, place.1)

-- what a call made, or left
pub if-made : {X T E : Type 0} (r : Result T E) (new after before : X) → OnOk r (new ≡ after) → OnErr r (new ≡ before) → new ≡ cond (is_ok r) after before
if-made (Ok t) new after before made same = made
if-made (Err e) new after before made same = same

-- what holds of all items holds of them after a move
pub all-moved : {X : Type 0} (P : X → Type 0) (xs : List X) (from to : ℕ) (x : X) → All P xs → P x → All P (insert (remove xs from) to x)
all-moved P xs from to x all here =
    let rest : All P (remove xs from) = All-append P (take from xs) (drop (suc from) xs) (All-take P from xs all) (All-drop P (suc from) xs all) in
    All-append P (take to (remove xs from)) (x ∷ drop to (remove xs from)) (All-take P to (remove xs from) rest) (All-cons P x (drop to (remove xs from)) here (All-drop P to (remove xs from) rest))
