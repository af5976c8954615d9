pub mod Count
pub mod FailingCalls
