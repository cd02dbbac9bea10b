-- The damage of the last changes, as a history grows and for each of its last changes.
use Rattle.std.proofs.Common.{◌≡◌, ℕ, zero, suc, ◌+◌, ◌-◌, ◌<◌, ◌≤◌, List, [], ◌∷◌, ◌++◌, length, drop, take, Some, ⊎_elim, refl, ap, sym, ◌∙◌, subst, arith, length-append, length-drop, length-take-le, take-append-drop, drop_at, drop-drop}
use Rattle.std.specs.List.{All, Contains, slice_get}
use Rattle.std.proofs.lemmas.List.{drop-append-le}
use Rattle.std.proofs.lemmas.List.Elements.{All-drop, All-head, All-tail}
use Rattle.std.proofs.lemmas.Option.{get_or_from_slice_get, slice_get_cases, slice_get_within}
use Rattle.canvas_plane.specs.declared.PageBox.{PageBox}
use Rattle.canvas_record.specs.declared.edits.Change.{Change}
use Rattle.canvas_record.specs.Contents.{Contents}
use Rattle.canvas_record.specs.Damage.{damage_of}
use Rattle.canvas_record.specs.Effect.{effect_of}
use Rattle.canvas_record.specs.History.{replay_of}
use Rattle.canvas_line.specs.declared.recent.Damage.{Damage}
use Rattle.canvas_line.specs.Recent.{damages_from, last_64, recent_of}

-- the damage of a change after others of an opening document
abbrev pub damage_after : Contents → List Change → Change → Damage
damage_after opening before c = record { number = length before + 1; area = damage_of c (replay_of opening before) }

abbrev entry : ℕ → Change → Contents → Damage
entry n c d = record { number = n; area = damage_of c d }

pub damages-append : (n : ℕ) (d : Contents) (a b : List Change) → damages_from n d (a ++ b) ≡ damages_from n d a ++ damages_from (n + length a) (replay_of d a) b
damages-append n d [] b = (let e : n ≡ n + 0 = omega arith in ap (λ (k : ℕ). damages_from k d b) e)
damages-append n d (c ∷ a) b =
    let rest = damages-append (n + 1) (effect_of c d) a b in
    let e : n + 1 + length a ≡ n + length (c ∷ a) = omega arith in
    ap (λ xs. record { number = n + 1; area = damage_of c d } ∷ xs) (rest ∙ ap (λ k. damages_from (n + 1) (effect_of c d) a ++ damages_from k (replay_of d (c ∷ a)) b) e)

pub damages-snoc : (n : ℕ) (d : Contents) (cs : List Change) (c : Change)
    → damages_from n d (cs ++ c ∷ []) ≡ damages_from n d cs ++ record { number = n + length cs + 1; area = damage_of c (replay_of d cs) } ∷ []
damages-snoc n d cs c = damages-append n d cs (c ∷ [])

pub length-damages : (n : ℕ) (d : Contents) (cs : List Change) → length (damages_from n d cs) ≡ length cs
length-damages n d [] = refl
length-damages n d (c ∷ cs) = ap suc (length-damages (n + 1) (effect_of c d) cs)

-- of a list that grows by one the last 64 are the last 64 of those before, with the new one
pub last_64-snoc : {A : Type 0} (xs : List A) (x : A) → last_64 (xs ++ x ∷ []) ≡ last_64 (last_64 xs ++ x ∷ [])
last_64-snoc xs x =
    let past = length xs - 64 in
    let joined : last_64 xs ++ x ∷ [] ≡ drop past (xs ++ x ∷ []) = sym (drop-append-le past xs (x ∷ []) (omega arith)) in
    let all : length (xs ++ x ∷ []) ≡ length xs + 1 = length-append xs (x ∷ []) in
    let count : length (drop past (xs ++ x ∷ [])) ≡ length (xs ++ x ∷ []) - past = length-drop past (xs ++ x ∷ []) in
    let e : length (xs ++ x ∷ []) - 64 ≡ past + (length (drop past (xs ++ x ∷ [])) - 64) = omega arith in
    ap (λ k. drop k (xs ++ x ∷ [])) e ∙ sym (drop-drop (length (drop past (xs ++ x ∷ [])) - 64) past (xs ++ x ∷ [])) ∙ ap last_64 (sym joined)

pub recent-snoc : (opening : Contents) (cs : List Change) (c : Change) → recent_of opening (cs ++ c ∷ []) ≡ last_64 (recent_of opening cs ++ damage_after opening cs c ∷ [])
recent-snoc opening cs c = ap last_64 (damages-snoc 0 opening cs c ∙ ap (λ d. damages_from 0 opening cs ++ d ∷ []) (ap (λ (k : ℕ). entry k c (replay_of opening cs)) {x = 0 + length cs + 1} {y = length cs + 1} (omega arith))) ∙ last_64-snoc (damages_from 0 opening cs) (damage_after opening cs c)

slice_get-drop : {A : Type 0} (n : ℕ) (xs : List A) (j : ℕ) → slice_get (drop n xs) j ≡ slice_get xs (n + j)
slice_get-drop zero xs j = (let e : j ≡ 0 + j = omega arith in ap (slice_get xs) e)
slice_get-drop (suc n) [] j = refl
slice_get-drop (suc n) (x ∷ xs) j =
    let e : suc (n + j) ≡ suc n + j = omega arith in slice_get-drop n xs j ∙ ap (slice_get (x ∷ xs)) e

-- the damage of the i-th change
pub damage-at : (n : ℕ) (d : Contents) (cs : List Change) (i : ℕ) (c : Change) → slice_get cs i ≡ Some c
    → slice_get (damages_from n d cs) i ≡ Some (record { number = n + i + 1; area = damage_of c (replay_of d (take i cs)) })
damage-at n d [] i c e = absurd (cc e)
damage-at n d (b ∷ cs) zero c e =
    let same : b ≡ c = cc e in
    let number : n + 1 ≡ n + 0 + 1 = omega arith in
    ap (λ (z : Change). Some (entry (n + 1) z d)) same ∙ ap (λ (k : ℕ). Some (entry k c d)) number
damage-at n d (b ∷ cs) (suc i) c e =
    let number : n + 1 + i + 1 ≡ n + suc i + 1 = omega arith in
    damage-at (n + 1) (effect_of b d) cs i c e ∙ ap (λ (k : ℕ). Some (entry k c (replay_of d (take (suc i) (b ∷ cs))))) number

damage-of-one : (d : Contents) (cs : List Change) (i : ℕ) (c : Change) (e : Damage) → slice_get (damages_from 0 d cs) i ≡ Some e → slice_get cs i ≡ Some c
    → e ≡ record { number = i + 1; area = damage_of c (replay_of d (take i cs)) }
damage-of-one d cs i c e there is =
    let found : slice_get (damages_from 0 d cs) i ≡ Some (entry (0 + i + 1) c (replay_of d (take i cs))) = damage-at 0 d cs i c is in
    let number : 0 + i + 1 ≡ i + 1 = omega arith in
    let same : e ≡ entry (0 + i + 1) c (replay_of d (take i cs)) = cc (there, found) in
    let right : entry (0 + i + 1) c (replay_of d (take i cs)) ≡ entry (i + 1) c (replay_of d (take i cs)) = ap (λ (k : ℕ). entry k c (replay_of d (take i cs))) number in
    same ∙ right

-- the place of the j-th entry among those of all changes
entry-there : (opening : Contents) (changes : List Change) (j : ℕ) (e : Damage) → slice_get (recent_of opening changes) j ≡ Some e
    → slice_get (damages_from 0 opening changes) (length changes - 64 + j) ≡ Some e
entry-there opening changes j e is =
    let all = damages_from 0 opening changes in
    let len : length changes ≡ length all = sym (length-damages 0 opening changes) in
    let place : slice_get all (length changes - 64 + j) ≡ slice_get all (length all - 64 + j) = ap (λ (k : ℕ). slice_get all (k - 64 + j)) len in
    let there : slice_get all (length all - 64 + j) ≡ Some e = sym (slice_get-drop (length all - 64) all j) ∙ is in
    place ∙ there

-- what the j-th entry is: the damage of a change whose place follows from j
pub recent-entry : (opening : Contents) (changes : List Change) (j : ℕ) (e : Damage) → slice_get (recent_of opening changes) j ≡ Some e
    → (c : Change) × (slice_get changes (length changes - 64 + j) ≡ Some c)
    × (e ≡ record { number = length changes - 64 + j + 1; area = damage_of c (replay_of opening (take (length changes - 64 + j) changes)) })
recent-entry opening changes j e is =
    let i = length changes - 64 + j in
    let there = entry-there opening changes j e is in
    let within : i < length (damages_from 0 opening changes) = slice_get_within (damages_from 0 opening changes) i e there in
    let len = length-damages 0 opening changes in
    ⊎_elim
    (λ x. (x.0, x.2, damage-of-one opening changes i x.0 e there x.2))
    (λ past. absurd (omega (arith, within, len, past.0)))
    (slice_get_cases changes i).1

-- each of the last 64 changes has an entry
pub recent-tells : (opening : Contents) (changes : List Change) (k : ℕ) (c : Change) → slice_get changes k ≡ Some c → length changes ≤ k + 64
    → Contains (recent_of opening changes) (record { number = k + 1; area = damage_of c (replay_of opening (take k changes)) })
recent-tells opening changes k c is late =
    let all = damages_from 0 opening changes in
    let x = entry (k + 1) c (replay_of opening (take k changes)) in
    let past = length all - 64 in
    let j = k - past in
    let len : length all ≡ length changes = length-damages 0 opening changes in
    let number : 0 + k + 1 ≡ k + 1 = omega arith in
    let found : slice_get all k ≡ Some x = damage-at 0 opening changes k c is ∙ ap (λ (m : ℕ). Some (entry m c (replay_of opening (take k changes)))) number in
    let place : past + j ≡ k = omega (arith, len, late) in
    let there : slice_get (drop past all) j ≡ Some x = slice_get-drop past all j ∙ (ap (slice_get all) place ∙ found) in
    (j, slice_get_within (drop past all) j x there, get_or_from_slice_get (drop past all) j x x there)

-- Q holds of the box of each of some changes made one after another of a document
abbrev pub EachArea : (PageBox → Type 0) → Contents → List Change → Type 0
EachArea Q d [] = Unit {0}
EachArea Q d (c ∷ cs) = Q (damage_of c d) × EachArea Q (effect_of c d) cs

each-area : (Q : PageBox → Type 0) (m n : ℕ) (d : Contents) (cs : List Change) → m ≤ n → All (λ e. m < e.number → Q e.area) (damages_from n d cs) → EachArea Q d cs
each-area Q m n d [] le h = tt
each-area Q m n d (c ∷ cs) le h =
    let P : Damage → Type 0 = λ e. m < e.number → Q e.area in
    let rest = damages_from (n + 1) (effect_of c d) cs in
    let first : Q (damage_of c d) = All-head P (entry (n + 1) c d) rest h (omega arith) in
    (first, each-area Q m (n + 1) (effect_of c d) cs (omega arith) (All-tail P (entry (n + 1) c d) rest h))

drop-all : {X : Type 0} (P : X → Type 0) (xs ys : List X) → length ys ≤ 64 → All P (last_64 (xs ++ ys)) → All P ys
drop-all P xs ys few h =
    let past = length (xs ++ ys) - 64 in
    let len : length (xs ++ ys) ≡ length xs + length ys = length-append xs ys in
    let more = length xs - past in
    let e : past + more ≡ length xs = omega (arith, len, few) in
    let same : drop more (drop past (xs ++ ys)) ≡ ys = drop-drop more past (xs ++ ys) ∙ (ap (λ (k : ℕ). drop k (xs ++ ys)) e ∙ drop_at xs ys (length xs) refl) in
    subst (All P) same (All-drop P more (drop past (xs ++ ys)) h)

-- what holds of the box of each entry whose number is above the length of a beginning holds of the box of each change after it
pub recent-after : (Q : PageBox → Type 0) (opening : Contents) (before after : List Change) → length after ≤ 64
    → All (λ e. length before < e.number → Q e.area) (recent_of opening (before ++ after)) → EachArea Q (replay_of opening before) after
recent-after Q opening before after few h =
    let P : Damage → Type 0 = λ e. length before < e.number → Q e.area in
    let older = damages_from 0 opening before in
    let newer = damages_from (0 + length before) (replay_of opening before) after in
    let len : length newer ≡ length after = length-damages (0 + length before) (replay_of opening before) after in
    let all : All P (last_64 (older ++ newer)) = subst (λ ds. All P (last_64 ds)) (damages-append 0 opening before after) h in
    each-area Q (length before) (0 + length before) (replay_of opening before) after (omega arith) (drop-all P older newer (omega (arith, len, few)) all)

-- the same of the first k changes and those after them, at most 64
pub recent-after-take : (Q : PageBox → Type 0) (opening : Contents) (changes : List Change) (k : ℕ) → k ≤ length changes → length changes ≤ k + 64
    → All (λ e. k < e.number → Q e.area) (recent_of opening changes) → EachArea Q (replay_of opening (take k changes)) (drop k changes)
recent-after-take Q opening changes k within late h =
    let whole : take k changes ++ drop k changes ≡ changes = take-append-drop k changes in
    let first : length (take k changes) ≡ k = length-take-le k changes within in
    let len : length (drop k changes) ≡ length changes - k = length-drop k changes in
    let all : All (λ e. k < e.number → Q e.area) (recent_of opening (take k changes ++ drop k changes)) = subst (λ cs. All (λ e. k < e.number → Q e.area) (recent_of opening cs)) (sym whole) h in
    recent-after Q opening (take k changes) (drop k changes) (omega (arith, len, late))
    (subst (λ (m : ℕ). All (λ e. m < e.number → Q e.area) (recent_of opening (take k changes ++ drop k changes))) (sym first) all)
