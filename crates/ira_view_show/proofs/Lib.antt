mod EventsTold
pub mod Counting
pub mod Leading
pub mod Lines
pub mod Naming
mod OwnReceipts
pub mod Parts
pub mod Printing
