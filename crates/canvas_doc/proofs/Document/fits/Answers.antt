use Rattle.std.proofs.Common.{refl}
use Rattle.canvas_doc.proofs.fitting.FitsOnly.{fits-decides}
use Rattle.canvas_doc.proofs.Document.fits.Goals as goal

pub returns : goal.returns
returns c =
    fits-decides c.args.self.now c.args.self.now c.fits_test.ensures.well_formed refl c.args.change.now c.fits_test.result c.fits_test.ensures.key c.fits_test.ensures.value
