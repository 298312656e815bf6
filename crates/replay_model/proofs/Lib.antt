pub mod LineEnds
