use Rattle.std.proofs.Common.{Ok, ap, inl, slice_index, sym, ◌≡◌, ◌∙◌, List, ℕ}
use Rattle.std.specs.Option.{option_map}
use Rattle.canvas_ppm.specs.Image.{Pixels}
use Rattle.canvas_ppm.proofs.Faults.{HasHeader, all-samples, few-samples, many-samples, no-header, no-memory}
use Rattle.canvas_ppm.proofs.reader.read.Goals as goal

pub returns-in_default-header_at-clause-fault : goal.returns-in_default-header_at-clause-fault
returns-in_default-header_at-clause-fault c =
    let bytes = c.args.bytes.now in
    let first : slice_index bytes 0 ≡ 80 = search in
    let second : slice_index bytes 1 ≡ 54 = search in
    inl (no-header bytes first second (ap (option_map (λ x. (x.0, x.1, x.2.now))) (sym c.in_default-header_at.is) ∙ c.header_at.ensures.header))

pub returns-then-samples-wanted-clause-fault : goal.returns-then-samples-wanted-clause-fault
returns-then-samples-wanted-clause-fault c =
    let bytes = c.args.bytes.now in
    let samples = c.in-Some.samples.now in
    let header : HasHeader bytes c.in-Some.w c.in-Some.h samples = record {
      first = search;
      second = search;
      found = ap (option_map (λ x. (x.0, x.1, x.2.now))) (sym c.in-Some.is) ∙ c.header_at.ensures.header;
    } in
    inl (few-samples bytes samples c.in-Some.w c.in-Some.h header c.if-samples-wanted.true)

pub returns-then-samples-wanted-2-clause-fault : goal.returns-then-samples-wanted-2-clause-fault
returns-then-samples-wanted-2-clause-fault c =
    let bytes = c.args.bytes.now in
    let samples = c.in-Some.samples.now in
    let header : HasHeader bytes c.in-Some.w c.in-Some.h samples = record {
      first = search;
      second = search;
      found = ap (option_map (λ x. (x.0, x.1, x.2.now))) (sym c.in-Some.is) ∙ c.header_at.ensures.header;
    } in
    inl (many-samples bytes samples c.in-Some.w c.in-Some.h header c.if-samples-wanted.false c.if-samples-wanted-2.true)

pub returns-in_err-raster-clause-fault : goal.returns-in_err-raster-clause-fault
returns-in_err-raster-clause-fault c =
    let bytes = c.args.bytes.now in
    let samples = c.in-Some.samples.now in
    let header : HasHeader bytes c.in-Some.w c.in-Some.h samples = record {
      first = search;
      second = search;
      found = ap (option_map (λ x. (x.0, x.1, x.2.now))) (sym c.in-Some.is) ∙ c.header_at.ensures.header;
    } in
    no-memory c.from_residual.result _ _ c.from_residual.ensures.1 (all-samples bytes samples c.in-Some.w c.in-Some.h header c.if-samples-wanted.false c.if-samples-wanted-2.false)

pub returns-clause-image : goal.returns-clause-image
returns-clause-image c =
    let bytes = c.args.bytes.now in
    let samples = c.in-Some.samples.now in
    let header : HasHeader bytes c.in-Some.w c.in-Some.h samples = record {
      first = search;
      second = search;
      found = ap (option_map (λ x. (x.0, x.1, x.2.now))) (sym c.in-Some.is) ∙ c.header_at.ensures.header;
    } in
    let image : List ℕ → Pixels = λ raster. record { w = c.in-Some.w; h = c.in-Some.h; raster = raster } in
    all-samples bytes samples c.in-Some.w c.in-Some.h header c.if-samples-wanted.false c.if-samples-wanted-2.false ∙ ap (λ l. Ok (image l)) (sym c.in_ok-raster.ensures.items)
