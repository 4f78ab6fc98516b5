-- What the proofs of the clearing cite: arrays by zone, the parts after some links, and what earlier verdicts leave
pub mod Steps
