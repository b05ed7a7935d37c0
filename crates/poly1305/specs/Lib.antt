pub mod Poly1305
