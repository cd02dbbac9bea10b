-- Steps of painting a word of a row from front to back.
use Rattle.std.proofs.Common.{◌≡◌, ℕ, ◌+◌, ◌-◌, ◌<◌, ◌≤◌, List, [], ◌∷◌, ◌++◌, Bool, true, false, not, ◌&&◌, cond, Option, Some, None, refl, sym, ap, ◌∙◌, arith, length, drop, get_or, map, ◌⊎◌, inl, inr, ⊎_elim}
use Rattle.std.proofs.lemmas.Bool.{cases_Bool}
use Rattle.std.proofs.lemmas.Bool.Decides.{nat_tests}
use Rattle.std.proofs.lemmas.List.{drop_more, drop_all}
use Rattle.canvas_shape.specs.declared.Colour.{Colour}
use Rattle.canvas_shape.specs.Words.{has}
use Rattle.canvas_record.specs.Picture.{or_else, or_white, white}
use Rattle.canvas_paint.specs.declared.active.Active.{Active}
use Rattle.canvas_paint.specs.declared.block.Block.{Block}
use Rattle.canvas_paint.specs.Blocks.{block_fill, last_block_fill}
use Rattle.canvas_paint.specs.Columns.{first_some, masked, masked_fill}
use Rattle.canvas_paint.specs.Words.{covers, is_within}
use Rattle.canvas_paint.proofs.Bits.{has-zero}

pub or_else-none : (o : Option Colour) → or_else None o ≡ or_else o None
or_else-none None = refl
or_else-none (Some c) = refl

pub or_else-assoc : (a b c : Option Colour) → or_else (or_else a b) c ≡ or_else a (or_else b c)
or_else-assoc None b c = refl
or_else-assoc (Some x) b c = refl

-- the blocks with one more
pub last-push : (bs : List Block) (b : Block) (x y : ℕ) → last_block_fill (bs ++ b ∷ []) x y ≡ or_else (block_fill b x y) (last_block_fill bs x y)
last-push [] b x y = or_else-none (block_fill b x y)
last-push (c ∷ bs) b x y =
    ap (λ o. or_else o (block_fill c x y)) (last-push bs b x y)
    ∙ or_else-assoc (block_fill b x y) (last_block_fill bs x y) (block_fill c x y)

-- the first colour of the blocks from one on
first-drop : (f : Active → Option Colour) (active : List Active) (at : ℕ) (d : Active) → at < length active → first_some (map f (drop at active)) ≡ or_else (f (get_or active at d)) (first_some (map f (drop (at + 1) active)))
first-drop f active at d lt = ap (λ l. first_some (map f l)) (drop_more active at d lt)

-- what is painted of some pixels of a word, with the blocks from one on to look at
pub record IsPainting (active : List Active) (at base pixels free : ℕ) (old row : List (List ℕ)) : Type 0 where
  pub count : at ≤ length active
  pub some : (i : ℕ) → i < 64 → has free i ≡ true → has pixels i ≡ true
  pub waits : (i : ℕ) → i < 64 → has free i ≡ true → masked_fill active i ≡ masked_fill (drop at active) i
  pub done : (i : ℕ) (d : List ℕ) → i < 64 → base + i < length row → has pixels i ≡ true → has free i ≡ false → get_or row (base + i) d ≡ masked active i
  pub rest : (x : ℕ) (d : List ℕ) → x < length row → covers base pixels x ≡ false → get_or row x d ≡ get_or old x d

pub covers-in : (base word i : ℕ) → i < 64 → covers base word (base + i) ≡ has word i
covers-in base word i h =
    let inside : is_within base (base + i) (base + 64) ≡ true = grind (arith, nat_tests) in
    let e : base + i - base ≡ i = omega arith in
    ap (λ t. t && has word (base + i - base)) inside ∙ ap (has word) e

and-none : (p : Bool) → (p && false) ≡ false
and-none true = refl
and-none false = refl

-- an empty word covers nothing
pub none-covered : (base word x : ℕ) → word ≡ 0 → covers base word x ≡ false
none-covered base word x e = ap (λ n. is_within base x (base + 64) && has n (x - base)) e ∙ ap (λ t. is_within base x (base + 64) && t) (has-zero (x - base)) ∙ and-none (is_within base x (base + 64))

pub true-not : (x n : ℕ) → x < n → is_within 0 x n ≡ false → ⊥
true-not x n lt h =
    let e : is_within 0 x n ≡ true = grind (arith, nat_tests) in
    let f : true ≡ false = sym e ∙ h in cc

and-left : (p q : Bool) → (p && q) ≡ true → p ≡ true
and-left true q e = refl
and-left false q e = e

and-right : (p q : Bool) → (p && q) ≡ true → q ≡ true
and-right true q e = e
and-right false q e = cc

not-left : (p q : Bool) → (p && not q) ≡ true → q ≡ false
not-left true false e = refl
not-left true true e = sym e
not-left false q e = cc

not-right : (p q : Bool) → (p && not q) ≡ false → p ≡ true → q ≡ true
not-right true true e f = refl
not-right true false e f = cc
not-right false q e f = cc

held-false : (p q : Bool) → p ≡ true → (p && q) ≡ false → q ≡ false
held-false true q e f = f
held-false false q e f = cc

not-free : (free mask : Bool) → free ≡ false → (free && mask) ≡ false
not-free true mask e = cc
not-free false mask e = refl

-- a word in a part of some pixels covers none that these do not
less-covered : (inside word pixels : Bool) → (word ≡ true → pixels ≡ true) → (inside && pixels) ≡ false → (inside && word) ≡ false
less-covered true true pixels h e = sym (h refl) ∙ e
less-covered true false pixels h e = refl
less-covered false word pixels h e = refl

-- the place of a column of the word
pub place-of : (base x : ℕ) → is_within base x (base + 64) ≡ true → x - base < 64
place-of base x h = grind (arith, nat_tests)

pub at-place : (base x : ℕ) → is_within base x (base + 64) ≡ true → base + (x - base) ≡ x
at-place base x h = grind (arith, nat_tests)

covered-less : (base word pixels x : ℕ) → ((i : ℕ) → i < 64 → has word i ≡ true → has pixels i ≡ true) → covers base pixels x ≡ false → covers base word x ≡ false
covered-less base word pixels x h e =
    ⊎_elim
    (λ (inside : is_within base x (base + 64) ≡ true).
    less-covered (is_within base x (base + 64)) (has word (x - base)) (has pixels (x - base)) (h (x - base) (place-of base x inside)) e)
    (λ (out : is_within base x (base + 64) ≡ false). ap (λ t. t && has word (x - base)) out)
    (cases_Bool (is_within base x (base + 64)))

-- one block less to look at, of which a word was painted
pub more-painted : (active : List Active) (at base pixels free : ℕ) (old row new : List (List ℕ)) (a d : Active) (word next : ℕ) → at < length active → a ≡ get_or active at d → length new ≡ length row → IsPainting active at base pixels free old row → ((i : ℕ) → i < 64 → has word i ≡ (has free i && has a.mask i)) → ((i : ℕ) → i < 64 → has next i ≡ (has free i && not (has word i))) → ((x : ℕ) (e : List ℕ) → x < length row → get_or new x e ≡ cond (covers base word x) a.fill.0 (get_or row x e)) → IsPainting active (at + 1) base pixels next old new
more-painted active at base pixels free old row new a blank word next lt is long h held f g =
    let give : ℕ → Active → Option Colour = λ i a. cond (has a.mask i) (Some a.fill) None in
    let step : (i : ℕ) → masked_fill (drop at active) i ≡ or_else (give i a) (masked_fill (drop (at + 1) active) i) = λ i. first-drop (give i) active at blank lt ∙ ap (λ b. or_else (give i b) (masked_fill (drop (at + 1) active) i)) (sym is) in
    record {
      count = omega arith;
      some = λ i below on. h.some i below (and-left (has free i) (not (has word i)) (sym (f i below) ∙ on));
      waits = λ i below on.
          let was : (has free i && not (has word i)) ≡ true = sym (f i below) ∙ on in
          let free-pixel : has free i ≡ true = and-left (has free i) (not (has word i)) was in
          let misses : has a.mask i ≡ false = held-false (has free i) (has a.mask i) free-pixel (sym (held i below) ∙ not-left (has free i) (has word i) was) in
          h.waits i below free-pixel ∙ step i ∙ ap (λ t. or_else (cond t (Some a.fill) None) (masked_fill (drop (at + 1) active) i)) misses;
      done = λ i d below in-row some off.
          let was : (has free i && not (has word i)) ≡ false = sym (f i below) ∙ off in
          let put : get_or new (base + i) d ≡ cond (has word i) a.fill.0 (get_or row (base + i) d) = g (base + i) d (omega arith) ∙ ap (λ t. cond t a.fill.0 (get_or row (base + i) d)) (covers-in base word i below) in
          ⊎_elim
          (λ (on : has free i ≡ true).
          let hit : has word i ≡ true = not-right (has free i) (has word i) was on in
          let holds : has a.mask i ≡ true = and-right (has free i) (has a.mask i) (sym (held i below) ∙ hit) in
          put ∙ ap (λ t. cond t a.fill.0 (get_or row (base + i) d)) hit
          ∙ ap (λ o. (or_white o).0) (sym (h.waits i below on ∙ step i ∙ ap (λ t. or_else (cond t (Some a.fill) None) (masked_fill (drop (at + 1) active) i)) holds)))
          (λ (no : has free i ≡ false).
          put ∙ ap (λ t. cond t a.fill.0 (get_or row (base + i) d)) (held i below ∙ not-free (has free i) (has a.mask i) no)
          ∙ h.done i d below (omega arith) some no)
          (cases_Bool (has free i));
      rest = λ x d inside out.
          let apart : covers base word x ≡ false = covered-less base word pixels x (λ i below on. h.some i below (and-left (has free i) (has a.mask i) (sym (held i below) ∙ on))) out in
          g x d (omega arith) ∙ ap (λ t. cond t a.fill.0 (get_or row x d)) apart ∙ h.rest x d (omega arith) out;
    }

none-left : (at n free i : ℕ) → (n ≤ at) ⊎ (free ≡ 0) → has free i ≡ true → n ≤ at
none-left at n free i (inl e) on = e
none-left at n free i (inr e) on = absurd (let z : true ≡ false = sym on ∙ ap (λ n. has n i) e ∙ has-zero i in cc)

painted-pixel : (active : List Active) (at base pixels free : ℕ) (old row new : List (List ℕ)) → IsPainting active at base pixels free old row → (length active ≤ at) ⊎ (free ≡ 0) → ((x : ℕ) (e : List ℕ) → x < length row → get_or new x e ≡ cond (covers base free x) white.0 (get_or row x e)) → (x : ℕ) (d : List ℕ) → x < length row → covers base pixels x ≡ true → get_or new x d ≡ masked active (x - base)
painted-pixel active at base pixels free old row new h stop g x d lt on =
    let i = x - base in
    let inside : is_within base x (base + 64) ≡ true = and-left (is_within base x (base + 64)) (has pixels i) on in
    let some : has pixels i ≡ true = and-right (is_within base x (base + 64)) (has pixels i) on in
    let here : i < 64 = place-of base x inside in
    let same : base + i ≡ x = at-place base x inside in
    let covered : covers base free x ≡ has free i = ap (λ t. t && has free i) inside in
    ⊎_elim
    (λ (wait : has free i ≡ true).
    g x d lt ∙ ap (λ t. cond t white.0 (get_or row x d)) (covered ∙ wait)
    ∙ ap (λ o. (or_white o).0) (sym (h.waits i here wait ∙ ap (λ l. masked_fill l i) (drop_all at active (none-left at (length active) free i stop wait)))))
    (λ (no : has free i ≡ false).
    g x d lt ∙ ap (λ t. cond t white.0 (get_or row x d)) (covered ∙ no)
    ∙ ap (λ n. get_or row n d) (sym same) ∙ h.done i d here (omega arith) some no)
    (cases_Bool (has free i))

-- what is left is white
pub all-painted : (active : List Active) (at base pixels free : ℕ) (old row new : List (List ℕ)) → length new ≡ length row → IsPainting active at base pixels free old row → (length active ≤ at) ⊎ (free ≡ 0) → ((x : ℕ) (e : List ℕ) → x < length row → get_or new x e ≡ cond (covers base free x) white.0 (get_or row x e)) → (x : ℕ) (d : List ℕ) → x < length new → get_or new x d ≡ cond (covers base pixels x) (masked active (x - base)) (get_or old x d)
all-painted active at base pixels free old row new long h stop g x d lt =
    ⊎_elim
    (λ (on : covers base pixels x ≡ true).
    painted-pixel active at base pixels free old row new h stop g x d (omega arith) on
    ∙ sym (ap (λ t. cond t (masked active (x - base)) (get_or old x d)) on))
    (λ (out : covers base pixels x ≡ false).
    g x d (omega arith) ∙ ap (λ t. cond t white.0 (get_or row x d)) (covered-less base free pixels x h.some out) ∙ h.rest x d (omega arith) out
    ∙ sym (ap (λ t. cond t (masked active (x - base)) (get_or old x d)) out))
    (cases_Bool (covers base pixels x))
