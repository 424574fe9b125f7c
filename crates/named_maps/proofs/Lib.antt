pub mod Chosen
pub mod FreeBits
pub mod Worked
