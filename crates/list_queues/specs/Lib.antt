pub mod QueuesView
pub mod EngineView
