pub mod Blamed
pub mod Sifted
