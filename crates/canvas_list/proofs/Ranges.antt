-- What holds of the items from one position up to another, and other items in place of them.
use Rattle.std.proofs.Common.{◌≡◌, ◌∙◌, ℕ, ◌+◌, ◌-◌, ◌<◌, ◌≤◌, ◌++◌, List, [], All, take, drop, ap, subst, arith, length}
use Rattle.std.proofs.lemmas.List.{append-nil, append_assoc, length-append, length-take-le, take_all, take_rest}
use Rattle.std.proofs.lemmas.List.Elements.{All-append, All-weaker}

-- what holds of all of a list from a position on
pub all-rest : {X : Type 0} (P : X → Type 0) (items : List X) (n from : ℕ) → n ≡ length items → All P (take (n - from) (drop from items)) → All P (drop from items)
all-rest P items n from e all = subst (All P) (ap (λ m. take (m - from) (drop from items)) e ∙ take_rest items from) all

-- the first of some items, as those between two positions
pub all-first : {X : Type 0} (P : X → Type 0) (items : List X) (end : ℕ) → All P (take (end - 0) (drop 0 items)) → All P (take end items)
all-first P items end all =
    let upto : end - 0 ≡ end = omega arith in
    subst (λ n. All P (take n items)) upto all

-- what is told of three parts holds of all, if the last word covers what the ones before it do
pub all-three : {X S : Type 0} (covers : S → X → Type 0) (first second third : S) (a b c : List X) → All (covers first) a → All (covers second) b → All (covers third) c → ((x : X) → covers first x → covers second x) → ((x : X) → covers second x → covers third x) → All (covers third) (a ++ b ++ c)
all-three covers first second third a b c all_a all_b all_c one two =
    All-append (covers third) (a ++ b) c
    (All-append (covers third) a b (All-weaker (covers first) (covers third) (λ x h. two x (one x h)) a all_a) (All-weaker (covers second) (covers third) two b all_b))
    all_c

-- items of one part, others, and items of another, between whole parts
pub between : {X : Type 0} (a b items c d xs ys : List X) → a ++ b ≡ xs → c ++ d ≡ ys → a ++ (b ++ items ++ c) ++ d ≡ xs ++ items ++ ys
between a b items c d xs ys front back = rw (← front, ← back) (simp (append_assoc))

pub few-between : {X : Type 0} (a b items c d xs ys : List X) (most : ℕ) → a ++ b ≡ xs → c ++ d ≡ ys → length xs + length items + length ys < most → length b + length items + length c < most
few-between a b items c d xs ys most front back few = omega (arith, few, ap length front, ap length back, length-append a b, length-append c d)

pub few-three : {X : Type 0} (a b c : List X) (most : ℕ) → length a + length b + length c < most → length (a ++ b ++ c) < most
few-three a b c most few = omega (arith, few, length-append (a ++ b) c, length-append a b)

-- many items are put in by two steps
pub in-two-steps : {X : Type 0} (xs items middle none front empty : List X) (first more end : ℕ) → first ≤ length xs → more ≡ length items → middle ≡ items → none ≡ [] → front ≡ take first xs ++ none ++ drop 0 middle → empty ≡ [] → take (first + more) front ++ empty ++ drop end xs ≡ take first xs ++ items ++ drop end xs
in-two-steps {X} xs items middle none front empty first more end within many is e so d =
    let begun : front ≡ take first xs ++ items = so ∙ ap (λ l. take first xs ++ l ++ middle) e ∙ ap (λ l. l ++ middle) (append-nil (take first xs)) ∙ ap (λ l. take first xs ++ l) is in
    let few : length front ≤ first + more = omega (arith, ap length begun, length-append (take first xs) items, length-take-le first xs within, many) in
    ap (λ l. l ++ empty ++ drop end xs) (take_all (first + more) front few ∙ begun)
    ∙ ap (λ l. take first xs ++ items ++ l ++ drop end xs) d
    ∙ ap (λ l. l ++ drop end xs) (append-nil (take first xs ++ items))
