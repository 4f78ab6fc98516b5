-- THE WORKED HOURS of document 01, P1 to P12
pub mod Examples
