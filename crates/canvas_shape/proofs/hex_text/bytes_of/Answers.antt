use Rattle.std.proofs.Common.{sym, ◌∙◌}
use Rattle.hex.proofs.HexLemmas.{IsOk-decode_sized}
use Rattle.canvas_shape.proofs.hex_text.bytes_of.Goals as goal

pub returns-clause-digits : goal.returns-clause-digits
returns-clause-digits c =
    let digits = IsOk-decode_sized c.args.text.now 3 in
    let sized = c.from_hex.ensures in (
      λ h. digits.0 (rw sized at (sym c.ok.ensures.variant ∙ h)),
      λ h. c.ok.ensures.variant ∙ rw sized (digits.1 h),
    )
