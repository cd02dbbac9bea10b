-- Points that are carried one after another.
use Rattle.std.proofs.Common.{◌≡◌, ℕ, ◌+◌, ◌<◌, ◌≤◌, ◌≢◌, List, ◌++◌, take, pos, sym, ap, ◌∙◌, arith, length, map, get_or, set, get_or-set_same, get_or-set_other, ⊎_elim}
use Rattle.std.proofs.lemmas.Bool.{cases_eq}
use Rattle.std.proofs.lemmas.List.{length-map, ext_get_or, get_or-map, get_or_default}
use Rattle.std.proofs.Math.Seq.{take-append_seam}
use Rattle.canvas_plane.specs.declared.Point.{Point}

-- the first so many points are carried, and the others stand as they stood
pub record AreCarried (out : Point → Point) (count : ℕ) (old points : List Point) : Type 0 where
  pub done : (k : ℕ) (d : Point) → k < count → k < length old → get_or points k d ≡ out (get_or old k d)
  pub left : (k : ℕ) (d : Point) → count ≤ k → get_or points k d ≡ get_or old k d

pub none-carried : (out : Point → Point) (points : List Point) → AreCarried out 0 points points
none-carried out points = record { done = λ k d lt _. absurd (omega (arith, lt)); left = λ k d _ i. get_or points k d }

-- one point more
pub more-carried : (out : Point → Point) (count : ℕ) (old points : List Point) (point e : Point) → length points ≡ length old → count < length old → point ≡ out (get_or points count e) → AreCarried out count old points → AreCarried out (count + 1) old (set points count point)
more-carried out count old points point e same lt is h = record {
  done = λ k d below within.
      ⊎_elim
      (λ (at : k ≡ count).
      ap (λ n. get_or (set points count point) n d) at ∙ get_or-set_same points count point d (omega arith)
      ∙ is ∙ ap out (h.left count e (omega arith) ∙ get_or_default old count e d lt ∙ ap (λ n. get_or old n d) (sym at)))
      (λ (ne : k ≢ count). get_or-set_other points count k point d ne ∙ h.done k d (omega arith) within)
      (cases_eq k count);
  left = λ k d above. get_or-set_other points count k point d (λ (at : k ≡ count). omega arith) ∙ h.left k d (omega arith);
}

-- all of them
pub all-carried : (out : Point → Point) (count : ℕ) (old points : List Point) → length points ≡ length old → length old ≤ count → AreCarried out count old points → points ≡ map out old
all-carried out count old points same all h =
    let d : Point = record { x = pos 0; y = pos 0 } in
    ext_get_or d points (map out old) (same ∙ sym (length-map old out)) (λ i lt.
    h.done i d (omega arith) (omega arith) ∙ sym (get_or-map out old i d d (omega arith)))

-- where all of a list is written anew, the rest of it is none
pub all-written : (count : ℕ) (lent old new rest : List Point) → count ≡ length old → length new ≡ length lent → lent ≡ old → take count (new ++ rest) ≡ new
all-written count lent old new rest all same is = ap (λ n. take n (new ++ rest)) (all ∙ sym (same ∙ ap length is)) ∙ take-append_seam new rest

pub some-carried : (out : Point → Point) (points carried own : List Point) → points ≡ own → 3 ≤ length own → carried ≡ map out points → 0 < length carried
some-carried out points carried own same least is =
    let long : length carried ≡ length own = ap length is ∙ length-map points out ∙ ap length same in
    omega (arith, long, least)
