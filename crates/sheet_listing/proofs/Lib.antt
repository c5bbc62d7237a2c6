pub mod ByMethod
