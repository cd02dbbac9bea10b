-- Strips among pieces, and pictures joined from them.
use Rattle.std.proofs.Common.{◌≡◌, ℕ, zero, suc, ◌+◌, ◌*◌, ◌-◌, ◌/◌, ◌<◌, ◌≤◌, ◌==◌, ◌&&◌, not, List, [], ◌∷◌, ◌++◌, Bool, true, false, Some, None, sym, ap, ◌∙◌, arith, inl, inr, length, get_or, subst}
use Rattle.std.specs.Prelude.{ℤ, All, if◌then◌else◌}
use Rattle.std.specs.List.{list_all, list_any}
use Rattle.std.proofs.Math.ListN.{get_or-map}
use Rattle.std.proofs.Math.Nat.{div-mul-le_self, le-div_iff_mul-le, mul-div_cancel_left}
use Rattle.std.proofs.lemmas.Bool.{and_left, and_right, cases_eq, eq-eqb, ne_eqb}
use Rattle.std.proofs.lemmas.List.{length-map}
use Rattle.std.proofs.lemmas.List.Elements.{All-append, All-cons, All-nil}
use Rattle.std.proofs.lemmas.List.Folds.{list_all_at, list_any_at}
use Rattle.canvas_plane.specs.declared.windows.Window.{Window}
use Rattle.canvas_shape.specs.declared.Colour.{Colour}
use Rattle.canvas_record.specs.Contents.{Contents}
use Rattle.canvas_paint.specs.Pictures.{bytes_at, picture_of, raster_of, rows_of}
use Rattle.canvas_paint.proofs.Raster.{strip-more}
use Rattle.canvas_paint.specs.Strips.{strip_start}
use Rattle.canvas_world.specs.declared.cut.Cut.{Cut}
use Rattle.canvas_world.specs.declared.piece.Piece.{Piece}
use Rattle.canvas_world.specs.Pieces.{ArePainted, cuts_of, strip_of}
use Rattle.canvas_world.specs.Transcript.{has_below, is_beside, is_cut}

-- the strip of the piece at a place
cut-at : (pieces : List Piece) (i : ℕ) (x : Piece) → x ≡ get_or pieces i x → get_or (cuts_of pieces) i x.cut ≡ x.cut
cut-at pieces i x is = get_or-map (λ (p : Piece). p.cut) pieces i x ∙ ap (λ (p : Piece). p.cut) (sym is)

-- one piece is enough
pub any-at : (test : Cut → Bool) (pieces : List Piece) (i : ℕ) (x : Piece) → i < length pieces → x ≡ get_or pieces i x → test x.cut ≡ true → list_any test (cuts_of pieces) ≡ true
any-at test pieces i x lt is h =
    list_any_at test (cuts_of pieces) i x.cut (omega (arith, length-map pieces (λ (p : Piece). p.cut))) (ap test (cut-at pieces i x is) ∙ h)

-- one piece is enough to fail
pub all-at : (test : Cut → Bool) (pieces : List Piece) (i : ℕ) (x : Piece) → i < length pieces → x ≡ get_or pieces i x → test x.cut ≡ false → list_all test (cuts_of pieces) ≡ false
all-at test pieces i x lt is h =
    list_all_at test (cuts_of pieces) i x.cut (omega (arith, length-map pieces (λ (p : Piece). p.cut))) (ap test (cut-at pieces i x is) ∙ h)

pub is-cut : (k n : ℕ) (cut : Cut) → cut.k ≡ k → cut.n ≡ n → is_cut k n cut ≡ true
is-cut k n cut e f = ap (λ b. b && (cut.n == n)) (eq-eqb cut.k k e) ∙ eq-eqb cut.n n f

-- a strip of another number of strips
pub other-number : (new cut : Cut) → (cut.n ≡ new.n → ⊥) → is_beside new cut ≡ false
other-number new cut ne = and_left (cut.n == new.n) (not (cut.k == new.k)) (ne_eqb cut.n new.n ne)

-- the same strip
pub same-strip : (new cut : Cut) → cut.k ≡ new.k → is_beside new cut ≡ false
same-strip new cut e = and_right (cut.n == new.n) (not (cut.k == new.k)) (ap not (eq-eqb cut.k new.k e))

-- a strip is missing
not-below : (k m n : ℕ) (cuts : List Cut) → k < m → list_any (is_cut k n) cuts ≡ false → has_below m n cuts ≡ false
not-below k zero n cuts lt h = absurd (omega arith)
not-below k (suc m) n cuts lt h = elim (cases_eq k m) [
  | inl e ↦ and_left (list_any (is_cut m n) cuts) (has_below m n cuts) (ap (λ j. list_any (is_cut j n) cuts) (sym e) ∙ h)
  | inr ne ↦ and_right (list_any (is_cut m n) cuts) (has_below m n cuts) (not-below k m n cuts (omega arith) h)
]

pub no-picture : (k n : ℕ) (cuts : List Cut) (picture : List ℕ) → k < n → false ≡ list_any (is_cut k n) cuts → None ≡ (if has_below n n cuts then Some picture else None)
no-picture k n cuts picture lt h = sym (ap (λ b. if b then Some picture else None) (not-below k n n cuts lt (sym h)))

-- one strip more is there
pub below-more : (k n : ℕ) (cuts : List Cut) → true ≡ list_any (is_cut k n) cuts → has_below k n cuts ≡ true → has_below (k + 1) n cuts ≡ true
below-more k n cuts found below =
    let e : k + 1 ≡ suc k = omega arith in
    ap (λ m. has_below m n cuts) e ∙ ap (λ b. b && has_below k n cuts) (sym found) ∙ below

-- strips rise
start-rises : (h k n : ℕ) → 0 < n → strip_start h k n ≤ strip_start h (k + 1) n
start-rises h k n above = (le-div_iff_mul-le {k = n} {x = k * h / n} {y = (k + 1) * h} above).1 (omega (arith, div-mul-le_self (k * h) n))

from-top : (g : ℤ → ℤ → Colour) (w : Window) (y : ℕ) → rows_of g w 0 y ≡ raster_of (bytes_at g w) w.w 0 y
from-top g w y = let e : y - 0 ≡ y = omega arith in ap (raster_of (bytes_at g w) w.w 0) e

-- the rows after one strip more
pub rows-more : (g : ℤ → ℤ → Colour) (w : Window) (k n : ℕ) (old new band : List ℕ) → 0 < n → old ≡ rows_of g w 0 (strip_start w.h k n)
    → band ≡ rows_of g w (strip_start w.h k n) (strip_start w.h (k + 1) n) → new ≡ old ++ band → new ≡ rows_of g w 0 (strip_start w.h (k + 1) n)
rows-more g w k n old new band above o b e =
    strip-more (bytes_at g w) w.w (strip_start w.h k n) (strip_start w.h (k + 1) n) old new band (start-rises w.h k n above) (o ∙ from-top g w (strip_start w.h k n)) b e
    ∙ sym (from-top g w (strip_start w.h (k + 1) n))

-- all strips
pub whole : (g : ℤ → ℤ → Colour) (w : Window) (k n : ℕ) (cuts : List Cut) (bytes raster : List ℕ) → 0 < n → k ≡ n → has_below k n cuts ≡ true → bytes ≡ rows_of g w 0 (strip_start w.h k n)
    → raster ≡ bytes → Some raster ≡ (if has_below n n cuts then Some (picture_of g w) else None)
whole g w k n cuts bytes raster above e there rows same =
    ap Some (same ∙ rows ∙ ap (λ j. rows_of g w 0 (strip_start w.h j n)) e ∙ ap (rows_of g w 0) (mul-div_cancel_left w.h above))
    ∙ sym (ap (λ b. if b then Some (picture_of g w) else None) (ap (λ j. has_below j n cuts) (sym e) ∙ there))

-- the pieces with one more
pub painted-more : (document : Contents) (window : Window) (pieces new : List Piece) (cut : Cut) (rows : List ℕ) → ArePainted document window pieces → cut.k < cut.n → rows ≡ strip_of document window cut
    → new ≡ pieces ++ record { cut = cut; rows = rows } ∷ [] → ArePainted document window new
painted-more document window pieces new cut rows all below is longer =
    let P : Piece → Type 0 = λ p. (p.cut.k < p.cut.n) × (p.rows ≡ strip_of document window p.cut) in
    subst (All P) (sym longer) (All-append P pieces (record { cut = cut; rows = rows } ∷ []) all (All-cons P (record { cut = cut; rows = rows }) [] (below, is) (All-nil P)))
