use Rattle.std.proofs.Common.{◌≡◌, ◌++◌, ℕ, length, subst, ◌∙◌, rules}
use Rattle.std.specs.Arc.{arc_value}
use Rattle.canvas_line.specs.Seats.{Begins}
use Rattle.canvas_board.specs.declared.window_key.WindowKey.{WindowKey}
use Rattle.canvas_board.specs.Kept.{document_at, key_of, IsPictureOf, IsStillRight}
use Rattle.canvas_board.proofs.Keeping.{exact-key}
use Rattle.canvas_board.proofs.Lasting.{picture-later, shared-once-more}
use Rattle.canvas_board.proofs.kept.Kept.bytes_at.Goals as goal

pub returns-clause-right : goal.returns-clause-right
returns-clause-right g c =
    let i = c.self.inside in
    let t = c.args.at.now in
    let window = c.args.window.now in
    let told = c.args.older.now ++ c.args.newer.now in
    let key : WindowKey = c.key_of.result in
    let named : i.key ≡ key_of window = exact-key i.key key (search rules) ∙ c.key_of.ensures in
    let on : Begins i.at t = c.begins.ensures.begins (search rules) in
    let first : IsStillRight told i.number c.args.number window = c.still_right.ensures (search rules) in
    let still : IsStillRight told (length i.at.front) (length t.front) window =
    subst (λ (n : ℕ). IsStillRight told n (length t.front) window) c.self.invariant.0 (subst (λ (n : ℕ). IsStillRight told i.number n window) c.requires.number first) in
    let right : IsPictureOf (document_at t) (key_of window) (arc_value i.bytes).items = picture-later i.at t told window i.key (arc_value i.bytes).items on c.requires.fits c.requires.told still named c.self.invariant.1 in
    shared-once-more arc_value c.try_clone.result c.ok.result (arc_value i.bytes) (λ bytes. IsPictureOf (document_at t) (key_of window) bytes.items) c.try_clone.ensures c.ok.ensures.value right
