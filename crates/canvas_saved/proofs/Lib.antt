pub mod Elements
pub mod JsonText
pub mod Opens
pub mod ReadBack
