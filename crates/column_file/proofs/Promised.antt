-- THE THEOREMS ON THE MEANING, for its reader
pub mod Causes
pub mod RoundTrip
pub mod PlainColumns
