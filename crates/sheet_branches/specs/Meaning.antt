-- THE MEANING of an answer; `sheet_lines` has that of a sheet
pub mod Answer
