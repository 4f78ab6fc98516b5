-- A LENT OUTPUT, into which an entry writes its answer: what is written, and every byte afterwards. Document 01,
-- "Refusals of every entry": a refusal changes no lent buffer, and an answer nothing past what it is said to write.
-- Assumes nothing.
use Rattle.std.specs.Prelude.{List, [], ◌++◌, ℕ, length, drop, Result, Ok, Err}
use Rattle.std.proofs.Math.Option.{Option, none, some}
use Rattle.base_causes.specs.declared.Outcome.{Outcome}
use Rattle.base_output.specs.declared.Written.{Written}

-- the bytes of the answer; nothing for a refusal
abbrev pub written_by : Option Outcome → List ℕ → List ℕ
written_by (some o) bytes = []
written_by none bytes = bytes

-- the output afterwards: what is written, then the old bytes past it
abbrev pub output_after : List ℕ → List ℕ → List ℕ
output_after bytes out = bytes ++ drop (length bytes) out

-- the answer as C reads it
abbrev pub written_of : Result ℕ Outcome → Written
written_of (Ok n) = record { number = 0; index = 0; length = n }
written_of (Err o) = record { number = o.number; index = o.index; length = 0 }
