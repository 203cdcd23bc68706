pub mod Family
pub mod HeadAtoms
pub mod TenHeads
