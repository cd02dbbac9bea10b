use Rattle.std.proofs.Common.{subst}
use Rattle.canvas_record.specs.Contents.{IsWellFormed}
use Rattle.canvas_doc.proofs.decisions.decision.Goals as goal

pub returns-in-Create-clause-well_formed : goal.returns-in-Create-clause-well_formed
returns-in-Create-clause-well_formed c = subst IsWellFormed c.document.view_is c.document.invariant.well_formed

pub returns-in-Move-clause-well_formed : goal.returns-in-Move-clause-well_formed
returns-in-Move-clause-well_formed c = subst IsWellFormed c.document.view_is c.document.invariant.well_formed

pub returns-in-Pose-clause-well_formed : goal.returns-in-Pose-clause-well_formed
returns-in-Pose-clause-well_formed c = subst IsWellFormed c.document.view_is c.document.invariant.well_formed

pub returns-in-Reshape-clause-well_formed : goal.returns-in-Reshape-clause-well_formed
returns-in-Reshape-clause-well_formed c = subst IsWellFormed c.document.view_is c.document.invariant.well_formed

pub returns-in-Show-clause-well_formed : goal.returns-in-Show-clause-well_formed
returns-in-Show-clause-well_formed c = subst IsWellFormed c.document.view_is c.document.invariant.well_formed

pub returns-in-Delete-clause-well_formed : goal.returns-in-Delete-clause-well_formed
returns-in-Delete-clause-well_formed c = subst IsWellFormed c.document.view_is c.document.invariant.well_formed

pub returns-in-Respace-clause-well_formed : goal.returns-in-Respace-clause-well_formed
returns-in-Respace-clause-well_formed c = subst IsWellFormed c.document.view_is c.document.invariant.well_formed
