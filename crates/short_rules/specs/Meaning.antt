-- THE MEANING: the three shortfalls and what is left of the gap; what the entry answers; the Annex's complementary
-- slackness
pub mod Shortfalls
pub mod Answer
pub mod Slackness
