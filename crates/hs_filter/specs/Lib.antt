pub mod Sieving
