-- WHAT HOLDS OF IT: the orders of a readable case, lent as a book, get the judgement's surplus; and a book's answer
-- in plain numbers
pub mod PlainLent
