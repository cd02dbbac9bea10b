-- What is put in is found among what is kept.
use Rattle.std.proofs.Common.{◌≡◌, ◌-◌, Bool, true, false, ◌∷◌, take, Contains, Option, Some, None, Result, Ok, Err, OnOk, refl, sym, ap, ◌∙◌, subst, arith}
use Rattle.std.specs.Prelude.{◌&&◌, nat_eq}
use Rattle.std.specs.Ordering.{int_eq}
use Rattle.canvas_board.specs.contracts.window_key.WindowKeyPartialEq.TheImpl as key_impl
use Rattle.std.specs.Option.{option_map_or}
use Rattle.std.specs.Map.{lookup_entry, remove_entry}
use Rattle.std.specs.Cmp.{signed_Decides}
use Rattle.std.proofs.lemmas.Bool.{eqb-true}
use Rattle.lru.specs.LruCache.{LruCache, lru_cache, put_entries}
use Rattle.lru.proofs.CallerLemmas.{Contains-lookup_entry}
use Rattle.canvas_plane.specs.declared.windows.Window.{Window}
use Rattle.canvas_line.specs.Lines.{Sight}
use Rattle.canvas_board.specs.declared.window_key.WindowKey.{WindowKey}
use Rattle.canvas_board.specs.Kept.{key_of, CountsAt}

-- keys that pass as equal are one
abbrev pub IsExact : (WindowKey → WindowKey → Bool) → Type 0
IsExact eq = (a b : WindowKey) → eq a b ≡ true → a ≡ b

module _ (eq : WindowKey → WindowKey → Bool) (exact : IsExact eq) where
  there-after : (cache : LruCache WindowKey Sight) (window : Window) (key : WindowKey) (seat : Sight) (o : Option (WindowKey × Sight)) → key ≡ key_of window → lookup_entry (eq key) cache.entries ≡ o
      → Contains (option_map_or (λ e. (e.0, seat) ∷ remove_entry (eq key) cache.entries) o ((key, seat) ∷ take (cache.cap - 1) cache.entries)) (key_of window, seat)
  there-after cache window key seat None named found = (0, omega arith, ap (λ (k : WindowKey). (k, seat)) named)
  there-after cache window key seat (Some e) named found =
      let same : key ≡ e.0 = exact key e.0 (Contains-lookup_entry (eq key) cache.entries e found).1 in
      (0, omega arith, ap (λ (k : WindowKey). (k, seat)) (sym same ∙ named))

  -- what was put in is there, under the window's numbers
  pub put-counts : {A E : Type 0} (r : Result A E) (a : A) (cache new : LruCache WindowKey Sight) (window : Window) (key : WindowKey) (put seat : Sight) → key ≡ key_of window → r ≡ Ok a
      → OnOk r (new ≡ lru_cache (put_entries eq cache key put) cache.cap) → put ≡ seat → CountsAt new.entries window seat
  put-counts (Ok b) a cache new window key put seat named done is same =
      subst (λ (s : Sight). CountsAt new.entries window s) same
      (subst (λ (c : LruCache WindowKey Sight). Contains c.entries (key_of window, put)) (sym is) (there-after cache window key put (lookup_entry (eq key) cache.entries) named refl))
  put-counts (Err e) a cache new window key put seat named done is same = absurd (cc done)

and-both : (p q : Bool) → (p && q) ≡ true → (p ≡ true) × (q ≡ true)
and-both true q h = (refl, h)
and-both false q h = absurd (cc h)

key-parts : (a b : WindowKey) → a.level ≡ b.level → a.x ≡ b.x → a.y ≡ b.y → a.w ≡ b.w → a.h ≡ b.h → a ≡ b
key-parts a b l p q r s = λ k. record { level = l k; x = p k; y = q k; w = r k; h = s k }

key-of-parts : (a b : WindowKey) → (nat_eq a.level b.level && (int_eq a.x b.x && (int_eq a.y b.y && (nat_eq a.w b.w && nat_eq a.h b.h)))) ≡ true → a ≡ b
key-of-parts a b e =
    let zero = and-both (nat_eq a.level b.level) (int_eq a.x b.x && (int_eq a.y b.y && (nat_eq a.w b.w && nat_eq a.h b.h))) e in
    let one = and-both (int_eq a.x b.x) (int_eq a.y b.y && (nat_eq a.w b.w && nat_eq a.h b.h)) zero.1 in
    let two = and-both (int_eq a.y b.y) (nat_eq a.w b.w && nat_eq a.h b.h) one.1 in
    let three = and-both (nat_eq a.w b.w) (nat_eq a.h b.h) two.1 in
    key-parts a b (eqb-true a.level b.level zero.0) ((signed_Decides a.x b.x).0 one.0) ((signed_Decides a.y b.y).0 two.0) (eqb-true a.w b.w three.0) (eqb-true a.h b.h three.1)

-- the test of keys is exact
pub exact-key : IsExact key_impl.ghosts.eq
exact-key a b h = key-of-parts a b h
