use Rattle.std.proofs.Common.{ap, ◌++◌, ◌∙◌}
use Rattle.canvas_ppm.specs.Image.{image_of}
use Rattle.canvas_ppm.proofs.Files.{read_back}
use Rattle.canvas_ppm.proofs.writer.write.Goals as goal

pub returns-clause-read_back : goal.returns-clause-read_back
returns-clause-read_back c =
    ap image_of (c.in_ok-extend_from_slice.ensures.items ∙ ap (λ l. l ++ c.args.raster.now) c.in_ok-file.ensures.bytes)
    ∙ read_back c.args.w c.args.h c.args.raster.now c.requires.width c.requires.height c.requires.raster
