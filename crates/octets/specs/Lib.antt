pub mod Octets
