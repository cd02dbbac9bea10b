-- What is decided fits, and the tests of what fits.
pub mod Fit
pub mod FitMore
pub mod FitCreate
pub mod FitDelete
pub mod Decided
pub mod Fitting
pub mod FitsOnly
