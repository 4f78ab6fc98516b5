-- THE MEANING of the queue's bytes. Read it next to request S-8 and `queue_turns`
pub mod Bytes
pub mod Answer
