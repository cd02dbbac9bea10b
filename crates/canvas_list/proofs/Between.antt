-- What is put between two lists that are gone over.
use Rattle.std.proofs.Common.{◌≡◌, ◌∙◌, ◌+◌, ◌<◌, ◌++◌, ℕ, List, [], ap, arith, length, refl, sym}
use Rattle.std.proofs.lemmas.List.{append_assoc, length-append}

in-two : {X : Type 0} (a b all : List X) → all ≡ a ++ b → length all ≡ length a + length b
in-two a b all is = ap length is ∙ length-append a b

in-three : {X : Type 0} (a b c all : List X) → a ++ b ++ c ≡ all → length all ≡ length a + length b + length c
in-three a b c all is = sym (ap length is) ∙ length-append (a ++ b) c ∙ ap (λ n. n + length c) (length-append a b)

-- the parts of a list, other items, and the parts of another list
pub between : {X : Type 0} (front chunks back items front2 chunks2 back2 before behind start a b c d : List X) → start ≡ [] → a ≡ start ++ front → b ≡ a ++ chunks → c ≡ b ++ (back ++ items ++ front2) → d ≡ c ++ chunks2 → front ++ chunks ++ back ≡ before → front2 ++ chunks2 ++ back2 ≡ behind → d ++ back2 ≡ before ++ items ++ behind
between front chunks back items front2 chunks2 back2 before behind start a b c d is_start is_a is_b is_c is_d is_before is_behind =
    rw (is_d, is_c, is_b, is_a, is_start, ← is_before, ← is_behind) (simp (append_assoc))

-- and behind the other items
pub few-behind : {X : Type 0} (front chunks back before items front2 chunks2 back2 behind start a b c : List X) (most : ℕ) → start ≡ [] → a ≡ start ++ front → b ≡ a ++ chunks → c ≡ b ++ (back ++ items ++ front2) → front ++ chunks ++ back ≡ before → front2 ++ chunks2 ++ back2 ≡ behind → length before + length items + length behind < most → length c + length chunks2 + length back2 < most
few-behind front chunks back before items front2 chunks2 back2 behind start a b c most is_start is_a is_b is_c is_before is_behind few =
    omega (arith, few, ap length is_start, in-two start front a is_a, in-two a chunks b is_b, in-two b (back ++ items ++ front2) c is_c, in-three back items front2 (back ++ items ++ front2) refl, in-three front chunks back before is_before, in-three front2 chunks2 back2 behind is_behind)

-- the parts that are put together are small, one after another
pub small-first : {X : Type 0} (none front new back : List X) (most : ℕ) → none ≡ [] → length front + length new + length back < most → length none + length front < most
small-first none front new back most e small = omega (arith, ap length e)

pub small-next : {X : Type 0} (none front new back list : List X) (most : ℕ) → none ≡ [] → list ≡ none ++ front → length front + length new + length back < most → length list + length new < most
small-next none front new back list most e is small = omega (arith, ap length e, ap length is, length-append none front)

pub small-last : {X : Type 0} (none front new back rest list more : List X) (most : ℕ) → none ≡ [] → list ≡ none ++ front → more ≡ list ++ new → rest ≡ back → length front + length new + length back < most → length more + length rest < most
small-last none front new back rest list more most e is next same small =
    omega (arith, ap length e, ap length is, ap length next, ap length same, length-append none front, length-append list new)

pub put-together : {X : Type 0} (none front new back rest list more : List X) → none ≡ [] → list ≡ none ++ front → more ≡ list ++ new → rest ≡ back → more ++ rest ≡ front ++ new ++ back
put-together none front new back rest list more e is next same =
    ap (λ l. more ++ l) same ∙ ap (λ l. l ++ back) (next ∙ ap (λ l. l ++ new) (is ∙ ap (λ l. l ++ front) e))

-- and so is the first piece of the rest behind what is there
pub small-piece : {X : Type 0} (self all list held rest part got behind : List X) (most : ℕ) → list ++ rest ≡ self ++ all → held ≡ list → got ≡ part → part ++ behind ≡ rest → length self + length all < most → length held + length got < most
small-piece self all list held rest part got behind most is same new pieces small =
    omega (arith, small, ap length is, ap length same, ap length new, ap length pieces, length-append list rest, length-append self all, length-append part behind)
