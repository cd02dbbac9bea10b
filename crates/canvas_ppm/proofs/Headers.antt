-- A header, field by field.
use Rattle.std.proofs.Common.{◌≡◌, ℕ, ◌≤◌, ◌==◌, true, false, ◌&&◌, cond, List, Option, Some, None, sym, ap, ◌∙◌}
use Rattle.std.proofs.lemmas.Bool.{and_parts, cond-true, cond-false, leb-true}
use Rattle.std.specs.Prelude.{nat_le}
use Rattle.canvas_ppm.specs.Header.{◌>>=◌, is_side, field_at, after_one_white, header_at}

-- what the fields and what stands behind them make of a header
abbrev ended : ℕ → ℕ → ℕ → Option (List ℕ) → Option (ℕ × ℕ × List ℕ)
ended w h maxval behind = behind >>= (λ rest. cond ((is_side w && is_side h) && (maxval == 255)) (Some (w, h, rest)) None)

abbrev behind_height : ℕ → ℕ → Option (ℕ × List ℕ) → Option (ℕ × ℕ × List ℕ)
behind_height w h most = most >>= (λ m. ended w h m.0 (after_one_white m.1))

abbrev behind_width : ℕ → Option (ℕ × List ℕ) → Option (ℕ × ℕ × List ℕ)
behind_width w height = height >>= (λ h. behind_height w h.0 (field_at h.1))

pub no-width : (bytes : List ℕ) → None ≡ field_at bytes → header_at bytes ≡ None
unfolding header_at
no-width bytes e = ap (λ width. width >>= (λ w. behind_width w.0 (field_at w.1))) (sym e)

-- the width is there
pub with-width : (bytes after_w : List ℕ) (w : ℕ) (height : Option (ℕ × List ℕ)) → Some (w, after_w) ≡ field_at bytes → height ≡ field_at after_w → header_at bytes ≡ behind_width w height
unfolding header_at
with-width bytes after_w w height e f = ap (λ width. width >>= (λ x. behind_width x.0 (field_at x.1))) (sym e) ∙ ap (behind_width w) (sym f)

-- so is the height
pub with-height : (bytes after_w after_h : List ℕ) (w h : ℕ) (most : Option (ℕ × List ℕ)) → Some (w, after_w) ≡ field_at bytes → Some (h, after_h) ≡ field_at after_w
    → most ≡ field_at after_h → header_at bytes ≡ behind_height w h most
with-height bytes after_w after_h w h most e f g = with-width bytes after_w w (Some (h, after_h)) e f ∙ ap (behind_height w h) (sym g)

-- the three fields of a header
pub record HasFields (bytes : List ℕ) (w h maxval : ℕ) (rest : List ℕ) : Type 0 where
  pub after_w : List ℕ
  pub after_h : List ℕ
  pub width : Some (w, after_w) ≡ field_at bytes
  pub height : Some (h, after_h) ≡ field_at after_w
  pub most : Some (maxval, rest) ≡ field_at after_h

with-fields : (bytes rest : List ℕ) (w h maxval : ℕ) (behind : Option (List ℕ)) → HasFields bytes w h maxval rest → behind ≡ after_one_white rest → header_at bytes ≡ ended w h maxval behind
with-fields bytes rest w h maxval behind f e =
    with-height bytes f.after_w f.after_h w h (Some (maxval, rest)) f.width f.height f.most ∙ ap (ended w h maxval) (sym e)

pub no-end : (bytes rest : List ℕ) (w h maxval : ℕ) → HasFields bytes w h maxval rest → None ≡ after_one_white rest → header_at bytes ≡ None
no-end bytes rest w h maxval f e = with-fields bytes rest w h maxval None f e

pub header-found : (bytes rest samples : List ℕ) (w h maxval : ℕ) → HasFields bytes w h maxval rest → Some samples ≡ after_one_white rest
    → ((is_side w && is_side h) && (maxval == 255)) ≡ true → header_at bytes ≡ Some (w, h, samples)
header-found bytes rest samples w h maxval f e t =
    with-fields bytes rest w h maxval (Some samples) f e ∙ cond-true ((is_side w && is_side h) && (maxval == 255)) _ _ t

pub header-refused : (bytes rest samples : List ℕ) (w h maxval : ℕ) → HasFields bytes w h maxval rest → Some samples ≡ after_one_white rest
    → ((is_side w && is_side h) && (maxval == 255)) ≡ false → header_at bytes ≡ None
header-refused bytes rest samples w h maxval f e t =
    with-fields bytes rest w h maxval (Some samples) f e ∙ cond-false ((is_side w && is_side h) && (maxval == 255)) _ _ t

pub side-small : (side : ℕ) → is_side side ≡ true → side ≤ 65535
side-small side h = leb-true side 65535 (and_parts (nat_le 1 side) (nat_le side 65535) h).1
