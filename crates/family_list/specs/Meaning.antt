-- THE MEANING. Read it next to request S-11: what reading a list answers; `Families` of `rules` has all else
pub mod Parents
pub mod Answer
