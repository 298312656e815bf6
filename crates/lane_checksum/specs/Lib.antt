pub mod Digests
pub mod PlainSum
