pub mod Labelled
