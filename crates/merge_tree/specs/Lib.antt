pub mod OnSheet
