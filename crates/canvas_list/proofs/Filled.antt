-- A list made of the items that an iterator has given.
use Rattle.std.proofs.Common.{◌≡◌, ◌∙◌, ◌+◌, ◌<◌, ℕ, List, [], ◌∷◌, ◌++◌, sym, ap, arith, length}
use Rattle.std.proofs.lemmas.List.{append_assoc, append-nil, length-append}

-- no items are fewer than some
pub none-fewer : {X : Type 0} (part : List X) (per : ℕ) → part ≡ [] → 0 < per → length part < per
none-fewer part per e h = omega (arith, ap length e)

-- as many items as a number
pub read-len : {X : Type 0} (items : List X) (n len per : ℕ) → n ≡ per → n ≡ len → len ≡ length items → length items ≡ per
read-len items n len per a b e = omega arith

-- one more item, of those that are not in the list yet
pub one-more : {X : Type 0} (list part more given : List X) (item : X) → more ≡ part ++ item ∷ [] → list ++ part ≡ given → list ++ more ≡ given ++ item ∷ []
one-more list part more given item e same =
    ap (λ l. list ++ l) e ∙ sym (append_assoc list part (item ∷ [])) ∙ ap (λ l. l ++ item ∷ []) same

-- these are still fewer than so many
pub room-left : {X : Type 0} (part more : List X) (item : X) (n len per : ℕ) → more ≡ part ++ item ∷ [] → length part < per → ¬ (n ≡ per) → n ≡ len → len ≡ length more → length more < per
room-left part more item n len per e room full a b = omega (arith, ap length e, length-append part (item ∷ []))

-- these go into the list, and none is left
pub put-in : {X : Type 0} (list part more given all none : List X) (item : X) → more ≡ part ++ item ∷ [] → list ++ part ≡ given → all ≡ list ++ more → none ≡ [] → all ++ none ≡ given ++ item ∷ []
put-in list part more given all none item e same put empty =
    ap (λ l. all ++ l) empty ∙ append-nil all ∙ put ∙ one-more list part more given item e same

-- there are then fewer items than so many
pub put-few : {X : Type 0} (list part more given put view : List X) (item : X) (total most : ℕ) → more ≡ part ++ item ∷ [] → list ++ part ≡ given → view ≡ list → put ≡ more → length given < total → total < most → length view + length put < most
put-few list part more given put view item total most e same viewed is less few =
    omega (arith, ap length (one-more list part more given item e same), length-append list more, length-append given (item ∷ []), ap length viewed, ap length is)

-- so there are in the list at the end
pub all-few : {X : Type 0} (list part given : List X) (total most : ℕ) → list ++ part ≡ given → length given ≡ total → total < most → length list + length part < most
all-few list part given total most same all few = omega (arith, ap length same, length-append list part)
