pub mod TwoChunks
