-- THE MEANING: the desk's text in a lent output. `rules` says what the text is
pub mod Printed
