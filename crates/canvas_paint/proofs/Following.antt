-- Steps of moving the masks of active blocks to a row.
use Rattle.std.proofs.Common.{◌≡◌, ℕ, suc, ◌+◌, ◌<◌, ◌≤◌, ◌≢◌, List, [], ◌∷◌, Bool, true, false, ◌&&◌, ◌||◌, cond, Option, Some, None, refl, sym, ap, ◌∙◌, arith, length, get_or, map, min, set, get_or-set_same, get_or-set_other, ⊎_elim}
use Rattle.std.proofs.Math.Seq.{map-set_same}
use Rattle.std.proofs.lemmas.Bool.{cases_eq}
use Rattle.canvas_plane.specs.Motion.{not_same}
use Rattle.canvas_shape.specs.declared.Colour.{Colour}
use Rattle.canvas_shape.specs.Words.{has}
use Rattle.canvas_paint.specs.declared.active.Active.{Active}
use Rattle.canvas_paint.specs.Blocks.{form_holds}
use Rattle.canvas_paint.specs.Columns.{active_fill, active_holds, first_some, masked_fill}

-- what the masks of so many blocks are that were moved to a row, and what of the word has changed
pub record IsFollowing (base y end count until pixels : ℕ) (old active : List Active) : Type 0 where
  pub live : y < until
  pub most : until ≤ end
  pub kept : (i z : ℕ) → active_fill base active i z ≡ active_fill base old i z
  pub exact : (k i z : ℕ) (d : Active) → k < count → i < 64 → y ≤ z → z < until → has (get_or active k d).mask i ≡ active_holds base (get_or active k d) i z
  pub same : (i : ℕ) → i < 64 → has pixels i ≡ false → masked_fill active i ≡ masked_fill old i

pub start-following : (base y end : ℕ) (active : List Active) → y < end → IsFollowing base y end 0 end 0 active active
start-following base y end active live = record {
  live = live;
  most = omega arith;
  kept = λ i z. refl;
  exact = λ k i z d lt below p q. absurd (omega arith);
  same = λ i below off. refl;
}

or-left : (p q : Bool) → (p || q) ≡ false → p ≡ false
or-left true q e = e
or-left false q e = refl

or-right : (p q : Bool) → (p || q) ≡ false → q ≡ false
or-right true q e = cc
or-right false q e = e

same-tests : (p q : Bool) → not_same p q ≡ false → p ≡ q
same-tests true true e = refl
same-tests true false e = cc
same-tests false true e = cc
same-tests false false e = refl

-- one mask more
pub more-followed : (base y end count until pixels : ℕ) (old active new : List Active) (a b d : Active) (word last now delta all : ℕ) → count < length active → a ≡ get_or active count d → b ≡ record { reach = a.reach; mask = word; fill = a.fill; form = a.form } → new ≡ set active count b → y < last → ((i z : ℕ) → i < 64 → y ≤ z → z < last → has word i ≡ (has a.reach i && form_holds a.form (base + i) z)) → now ≡ min until last → ((i : ℕ) → i < 64 → has delta i ≡ not_same (has a.mask i) (has word i)) → ((i : ℕ) → i < 64 → has all i ≡ (has pixels i || has delta i)) → IsFollowing base y end count until pixels old active → IsFollowing base y end (count + 1) now all old new
more-followed base y end count until pixels old active new a b blank word last now delta all lt is made put live exact least differs joined h =
    let held : ℕ → ℕ → Active → Option Colour = λ i z a. cond (active_holds base a i z) (Some a.fill) None in
    let given : ℕ → Active → Option Colour = λ i a. cond (has a.mask i) (Some a.fill) None in
    record {
      live = omega (arith, h.live);
      most = omega (arith, h.most);
      kept = λ i z.
          ap (λ l. active_fill base l i z) put
          ∙ ap first_some (map-set_same (held i z) active count b blank (ap (held i z) made ∙ ap (held i z) is))
          ∙ h.kept i z;
      exact = λ k i z d below small p q.
          ap (λ l. has (get_or l k d).mask i) put
          ∙ ⊎_elim
          (λ (e : k ≡ count).
          let at : get_or (set active count b) k d ≡ b = ap (λ m. get_or (set active count b) m d) e ∙ get_or-set_same active count b d lt in
          ap (λ a. has a.mask i) (at ∙ made) ∙ exact i z small p (omega arith) ∙ sym (ap (λ a. active_holds base a i z) (at ∙ made)))
          (λ (ne : k ≢ count).
          let at : get_or (set active count b) k d ≡ get_or active k d = get_or-set_other active count k b d ne in
          ap (λ a. has a.mask i) at ∙ h.exact k i z d (omega arith) small p (omega arith) ∙ sym (ap (λ a. active_holds base a i z) at))
          (cases_eq k count)
          ∙ sym (ap (λ l. active_holds base (get_or l k d) i z) put);
      same = λ i small off.
          let none : (has pixels i || has delta i) ≡ false = sym (joined i small) ∙ off in
          let even : has a.mask i ≡ has word i = same-tests (has a.mask i) (has word i) (sym (differs i small) ∙ or-right (has pixels i) (has delta i) none) in
          ap (λ l. masked_fill l i) put
          ∙ ap first_some (map-set_same (given i) active count b blank (ap (given i) made ∙ ap (λ t. cond t (Some a.fill) None) (sym even) ∙ ap (given i) is))
          ∙ h.same i small (or-left (has pixels i) (has delta i) none);
    }

map-agree : (f g : Active → Option Colour) (active : List Active) → ((k : ℕ) (d : Active) → k < length active → f (get_or active k d) ≡ g (get_or active k d)) → map f active ≡ map g active
map-agree f g [] h = refl
map-agree f g (a ∷ rest) h =
    ap (λ c. c ∷ map f rest) (h 0 a (omega arith))
    ∙ ap (λ l. g a ∷ l) (map-agree f g rest (λ k d lt. h (suc k) d (omega arith)))

-- with all masks moved, they show what the blocks hold
pub all-followed : (base y end count until pixels : ℕ) (old active : List Active) → length active ≤ count → IsFollowing base y end count until pixels old active → (i z : ℕ) → i < 64 → y ≤ z → z < until → masked_fill active i ≡ active_fill base active i z
all-followed base y end count until pixels old active all h i z small p q =
    ap first_some (map-agree (λ a. cond (has a.mask i) (Some a.fill) None) (λ a. cond (active_holds base a i z) (Some a.fill) None) active
    (λ k d lt. ap (λ t. cond t (Some (get_or active k d).fill) None) (h.exact k i z d (omega arith) small p q)))
