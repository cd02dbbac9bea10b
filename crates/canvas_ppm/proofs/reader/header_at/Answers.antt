use Rattle.std.proofs.Common.{None, Option, Some, false, ap, sym, ◌==◌, ◌∙◌, ◌≡◌, ◌&&◌}
use Rattle.std.proofs.lemmas.Bool.{and_from, and_left, and_right, eq-eqb, ne_eqb}
use Rattle.std.specs.Option.{option_map}
use Rattle.std.specs.Prelude.{IfSome}
use Rattle.canvas_ppm.specs.Header.{is_side}
use Rattle.canvas_ppm.proofs.Headers.{HasFields, header-found, header-refused, no-end, no-width, side-small, with-height, with-width}
use Rattle.canvas_ppm.proofs.reader.header_at.Goals as goal
use Rattle.canvas_ppm.proofs.reader.header_at.Goals.{else-is_side-via-then-is_side+then-is_side-2+else-maxval-eq255, else-is_side-via-then-is_side+else-is_side-2, else-is_side-via-else-is_side}

where-none : {A : Type 0} (P : A → Type 0) (r : Option A) → r ≡ None → IfSome r P
where-none P None e = tt
where-none P (Some x) e = absurd (cc e)

pub returns-then-maxval-eq255-clause-header : goal.returns-then-maxval-eq255-clause-header
returns-then-maxval-eq255-clause-header c =
    let fields : HasFields c.args.bytes.now c.in_ok-w.w c.in_ok-h.h c.in_ok-maxval.maxval c.in_ok-maxval.rest.now = record {
      after_w = c.in_ok-w.rest.now;
      after_h = c.in_ok-h.rest.now;
      width = c.in_ok-w.ensures;
      height = c.in_ok-h.ensures;
      most = c.in_ok-maxval.ensures;
    } in
    let sides = and_from _ _ (sym c.if-is_side.ensures) (sym c.if-is_side-2.ensures) in
    sym (header-found c.args.bytes.now c.in_ok-maxval.rest.now c.in_ok-rest.rest.now c.in_ok-w.w c.in_ok-h.h c.in_ok-maxval.maxval fields c.in_ok-rest.ensures (and_from _ _ sides (eq-eqb _ _ c.if-maxval-eq255.true)))

pub returns-then-maxval-eq255-clause-sides : goal.returns-then-maxval-eq255-clause-sides
returns-then-maxval-eq255-clause-sides c = (side-small c.in_ok-w.w (sym c.if-is_side.ensures), side-small c.in_ok-h.h (sym c.if-is_side-2.ensures))

pub returns-else-is_side-clause-header : goal.returns-else-is_side-clause-header
returns-else-is_side-clause-header c =
    let fields : HasFields c.args.bytes.now c.in_ok-w.w c.in_ok-h.h c.in_ok-maxval.maxval c.in_ok-maxval.rest.now = record {
      after_w = c.in_ok-w.rest.now;
      after_h = c.in_ok-h.rest.now;
      width = c.in_ok-w.ensures;
      height = c.in_ok-h.ensures;
      most = c.in_ok-maxval.ensures;
    } in
    let test : ((is_side c.in_ok-w.w && is_side c.in_ok-h.h) && (c.in_ok-maxval.maxval == 255)) ≡ false = elim c.else-is_side.branch [
      | else-is_side-via-then-is_side+then-is_side-2+else-maxval-eq255 w ↦ and_right _ _ (ne_eqb _ _ w.if-maxval-eq255.false)
      | else-is_side-via-then-is_side+else-is_side-2 w ↦ and_left _ _ (and_right _ _ (sym w.if-is_side-2.ensures))
      | else-is_side-via-else-is_side w ↦ and_left _ _ (and_left _ _ (sym w.if-is_side.ensures))
    ] in
    sym (header-refused c.args.bytes.now c.in_ok-maxval.rest.now c.in_ok-rest.rest.now c.in_ok-w.w c.in_ok-h.h c.in_ok-maxval.maxval fields c.in_ok-rest.ensures test)

pub returns-in_err-rest-clause-header : goal.returns-in_err-rest-clause-header
returns-in_err-rest-clause-header c =
    let fields : HasFields c.args.bytes.now c.in_ok-w.w c.in_ok-h.h c.in_ok-maxval.maxval c.in_ok-maxval.rest.now = record {
      after_w = c.in_ok-w.rest.now;
      after_h = c.in_ok-h.rest.now;
      width = c.in_ok-w.ensures;
      height = c.in_ok-h.ensures;
      most = c.in_ok-maxval.ensures;
    } in
    ap (option_map (λ x. (x.0, x.1, x.2.now))) c.from_residual-in_err-rest.ensures
    ∙ sym (no-end c.args.bytes.now c.in_ok-maxval.rest.now c.in_ok-w.w c.in_ok-h.h c.in_ok-maxval.maxval fields c.in_err-rest.ensures)

pub returns-in_err-rest-clause-sides : goal.returns-in_err-rest-clause-sides
returns-in_err-rest-clause-sides c = where-none _ c.from_residual-in_err-rest.result c.from_residual-in_err-rest.ensures

pub returns-in_err-maxval-clause-header : goal.returns-in_err-maxval-clause-header
returns-in_err-maxval-clause-header c =
    ap (option_map (λ x. (x.0, x.1, x.2.now))) c.from_residual-in_err-maxval.ensures
    ∙ sym (with-height c.args.bytes.now c.in_ok-w.rest.now c.in_ok-h.rest.now c.in_ok-w.w c.in_ok-h.h None c.in_ok-w.ensures c.in_ok-h.ensures c.in_err-maxval.ensures)

pub returns-in_err-maxval-clause-sides : goal.returns-in_err-maxval-clause-sides
returns-in_err-maxval-clause-sides c = where-none _ c.from_residual-in_err-maxval.result c.from_residual-in_err-maxval.ensures

pub returns-in_err-h-clause-header : goal.returns-in_err-h-clause-header
returns-in_err-h-clause-header c =
    ap (option_map (λ x. (x.0, x.1, x.2.now))) c.from_residual-in_err-h.ensures
    ∙ sym (with-width c.args.bytes.now c.in_ok-w.rest.now c.in_ok-w.w None c.in_ok-w.ensures c.in_err-h.ensures)

pub returns-in_err-h-clause-sides : goal.returns-in_err-h-clause-sides
returns-in_err-h-clause-sides c = where-none _ c.from_residual-in_err-h.result c.from_residual-in_err-h.ensures

pub returns-in_err-w-clause-header : goal.returns-in_err-w-clause-header
returns-in_err-w-clause-header c =
    ap (option_map (λ x. (x.0, x.1, x.2.now))) c.from_residual.ensures ∙ sym (no-width c.args.bytes.now c.in_err-w.ensures)

pub returns-in_err-w-clause-sides : goal.returns-in_err-w-clause-sides
returns-in_err-w-clause-sides c = where-none _ c.from_residual.result c.from_residual.ensures
