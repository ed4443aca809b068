pub mod SecondChunk
pub mod EmptyPrograms
