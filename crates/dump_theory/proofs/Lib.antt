pub mod Counted
pub mod Counting
pub mod Examples
pub mod PairCounts
pub mod RowSums
pub mod Sums
