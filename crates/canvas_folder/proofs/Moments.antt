-- What a folder serves after a crash, by what the crash left of the generation that was being made.
use Rattle.std.specs.Prelude.{◌≡◌, ◌⊎◌, ◌<◌, ◌&&◌, ◌++◌, ◌∷◌, [], ℕ, Bool, true, false, List, Option, Some, None, IfSome, nat_lt}
use Rattle.std.proofs.Common.{refl, ap, subst, ◌∙◌, inl, inr, arith}
use Rattle.std.proofs.lemmas.Bool.{le-ltb}
use Rattle.canvas_folder.specs.declared.generation.Generation.{Generation}
use Rattle.canvas_folder.specs.declared.step.Step.{Step}
use Rattle.canvas_folder.specs.Generations.{is_whole, IsServed, later}
use Rattle.canvas_folder.specs.Making.{whole, Left, IsSound, IsNext, IsFound, LeavesSound, LeavesServed, is_there}
use Rattle.canvas_folder.proofs.Highest.{longer}

-- one that is not whole changes nothing
later_part : (served : Option ℕ) (g : Generation) → is_whole g ≡ false → later served g ≡ served
later_part None g e = rw e
later_part (Some n) g e = rw e

-- a higher whole one is served
later_whole : (served : Option ℕ) (g : Generation) → is_whole g ≡ true → IfSome served (λ m. m < g.number) → later served g ≡ Some g.number
later_whole None g e above = rw e
later_whole (Some n) g e above = let test : nat_lt g.number n ≡ false = le-ltb g.number n (omega arith) in rw (e, test)

part_left : (before : List Generation) (served : Option ℕ) (g : Generation) → is_whole g ≡ false → IsServed before served → IsServed (before ++ g ∷ []) served
part_left before served g e s =
    let P : Option ℕ → Type 0 = λ r. IsServed (before ++ g ∷ []) r in subst P (later_part served g e) (longer before g served s)

-- a whole one beside lower ones is served
pub whole_left : (before : List Generation) (served : Option ℕ) (n : ℕ) (g : Generation) → is_whole g ≡ true → g.number ≡ n → IsNext before served n → IsServed (before ++ g ∷ []) (Some n)
whole_left before served n g e number next =
    let P : Option ℕ → Type 0 = λ r. IsServed (before ++ g ∷ []) r in
    let above : IfSome served (λ m. m < g.number) = rw number next.above in
    let is : later served g ≡ Some n = later_whole served g e above ∙ ap (λ k. Some k) number in
    subst P is (longer before g served next.serves)

-- with an opening and a journal it is whole
pub found_whole : (n : ℕ) (c : Left) (g : Generation) → IsFound n c g → c.opening ≡ whole → c.has_journal ≡ true → is_whole g ≡ true
found_whole n c g f o j = rw (f.opening, f.journal, o, j)

found_part : (n : ℕ) (c : Left) (g : Generation) → IsFound n c g → c.has_journal ≡ false → is_whole g ≡ false
found_part n c g f j = rw (f.opening, f.journal, j) (and_false (is_there c.opening))
  where
    and_false : (b : Bool) → (b && false) ≡ false
    and_false true = refl
    and_false false = refl

by_journal : (before : List Generation) (served : Option ℕ) (n : ℕ) (c : Left) (g : Generation) (b : Bool) → c.has_journal ≡ b → IsSound c → IsNext before served n → IsFound n c g
    → IsServed (before ++ g ∷ []) served ⊎ (IsServed (before ++ g ∷ []) (Some n) × (c.opening ≡ whole))
by_journal before served n c g true j s next f =
    inr (whole_left before served n g (found_whole n c g f (s.journal_last j) j) f.number next, s.journal_last j)
by_journal before served n c g false j s next f = inl (part_left before served g (found_part n c g f j) next.serves)

-- where each moment is sound, the folder serves one or the other
pub serves_by_sound : (asked : List Step) → LeavesSound asked → LeavesServed asked
serves_by_sound asked sound before served n next c left g f = by_journal before served n c g c.has_journal refl (sound c left) next f
