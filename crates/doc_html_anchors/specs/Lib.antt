pub mod Uses
pub mod Numbers
