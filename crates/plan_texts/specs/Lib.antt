pub mod Listing
pub mod Printable
pub mod Printed
pub mod TextAnswer
pub mod Drawing
pub mod DrawingAnswer
