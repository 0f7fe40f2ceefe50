pub mod Faults
pub mod MemorySink
pub mod MemorySource
pub mod ReadSource
pub mod Sink
pub mod Source
pub mod WriteSink
