-- Boxes within boxes.
use Rattle.std.proofs.Common.{◌≡◌, ℤ, Bool, true, false, ◌&&◌, refl, sym, ◌∙◌, arith}
use Rattle.std.specs.Prelude.{int_le, int_lt}
use Rattle.std.proofs.lemmas.Int.{ints}
use Rattle.canvas_plane.specs.declared.PageBox.{PageBox}
use Rattle.canvas_plane.specs.Page.{IsWithin}

side-part : (a b c d x : ℤ) → (int_le c a && int_le b d) ≡ true → (int_le a x && int_lt x b) ≡ true → (int_le c x && int_lt x d) ≡ true
side-part a b c d x h k = grind (arith, ints)

both-sides : (p q r s : Bool) → (p ≡ true → r ≡ true) → (q ≡ true → s ≡ true) → (p && q) ≡ true → (r && s) ≡ true
both-sides true true true true f g h = refl
both-sides true true false s f g h = let z : false ≡ true = f refl in cc
both-sides true true true false f g h = let z : false ≡ true = g refl in cc
both-sides true false r s f g h = cc
both-sides false q r s f g h = cc

-- a box whose sides are parts of another's lies within it
pub parts-within : (inner outer : PageBox) (across down : Bool) → across ≡ (int_le outer.left inner.left && int_le inner.right outer.right) → down ≡ (int_le outer.top inner.top && int_le inner.bottom outer.bottom) → across ≡ true → down ≡ true → IsWithin inner outer
parts-within inner outer across down ea ed ha hd = λ x y h.
    both-sides (int_le inner.left x && int_lt x inner.right) (int_le inner.top y && int_lt y inner.bottom) (int_le outer.left x && int_lt x outer.right) (int_le outer.top y && int_lt y outer.bottom)
    (side-part inner.left inner.right outer.left outer.right x (sym ea ∙ ha))
    (side-part inner.top inner.bottom outer.top outer.bottom y (sym ed ∙ hd)) h
