pub mod OfCore
