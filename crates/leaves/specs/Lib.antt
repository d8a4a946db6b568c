pub mod Leaves
pub mod Adding
pub mod LeafLines
pub mod Lengths
pub mod Single
pub mod Writers
