-- Documents without a shape and all below it.
pub mod Freed
pub mod HeldBelow
