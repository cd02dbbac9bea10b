use Rattle.std.proofs.Common.{subst}
use Rattle.canvas_record.specs.Contents.{IsWellFormed}
use Rattle.canvas_doc.proofs.fits.fits_test.Goals as goal

pub returns-then-id-document-clause-well_formed : goal.returns-then-id-document-clause-well_formed
returns-then-id-document-clause-well_formed c = subst IsWellFormed c.document.view_is c.document.invariant.well_formed

pub returns-else-id-document-clause-well_formed : goal.returns-else-id-document-clause-well_formed
returns-else-id-document-clause-well_formed c = subst IsWellFormed c.document.view_is c.document.invariant.well_formed

pub returns-then-has_shape-clause-well_formed : goal.returns-then-has_shape-clause-well_formed
returns-then-has_shape-clause-well_formed c = subst IsWellFormed c.document.view_is c.document.invariant.well_formed

pub returns-else-has_shape-clause-well_formed : goal.returns-else-has_shape-clause-well_formed
returns-else-has_shape-clause-well_formed c = subst IsWellFormed c.document.view_is c.document.invariant.well_formed

pub returns-in-Move-clause-well_formed : goal.returns-in-Move-clause-well_formed
returns-in-Move-clause-well_formed c = subst IsWellFormed c.document.view_is c.document.invariant.well_formed

pub returns-in-Reshape-clause-well_formed : goal.returns-in-Reshape-clause-well_formed
returns-in-Reshape-clause-well_formed c = subst IsWellFormed c.document.view_is c.document.invariant.well_formed

pub returns-in-Show-clause-well_formed : goal.returns-in-Show-clause-well_formed
returns-in-Show-clause-well_formed c = subst IsWellFormed c.document.view_is c.document.invariant.well_formed

pub returns-in-Delete-clause-well_formed : goal.returns-in-Delete-clause-well_formed
returns-in-Delete-clause-well_formed c = subst IsWellFormed c.document.view_is c.document.invariant.well_formed

pub returns-in-Respace-clause-well_formed : goal.returns-in-Respace-clause-well_formed
returns-in-Respace-clause-well_formed c = subst IsWellFormed c.document.view_is c.document.invariant.well_formed
