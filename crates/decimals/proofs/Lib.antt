pub mod Gathering
pub mod Digits
pub mod Worded
pub mod Printed
