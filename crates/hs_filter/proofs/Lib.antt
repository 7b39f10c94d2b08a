pub mod Sieved
