-- The desk's text in a lent output: its lines where the output has room for the lines of every input
-- (`Room.desk-room`), else the refusal by 31. Assumes nothing.
use Rattle.std.specs.Prelude.{◌≡◌, List, [], ◌∷◌, ℕ, ◌≤◌, length, take}
use Rattle.std.proofs.Math.Option.{Option}
use Rattle.base_causes.specs.declared.Outcome.{Outcome}
use Rattle.base_causes.specs.Meaning.Causes.{Cause, verdict, refusal, answer, once}
use Rattle.rules.specs.Meaning.Verdict.{◌under◌}
use Rattle.base_output.specs.declared.Written.{Written}
use Rattle.base_output.specs.Meaning.Output.{written_by, output_after}
use Rattle.rules.specs.Meaning.Lines.{desk_text}

abbrev pub desk_room : ℕ
desk_room = 1024

-- the cause, for an output of `room` bytes
unfoldable pub desk_causes : ℕ → List Cause
desk_causes room = once 31 (room under desk_room) ∷ []

unfoldable pub desk_refusal : ℕ → Option Outcome
desk_refusal room = refusal (desk_causes room)

unfoldable pub desk_outcome : ℕ → Outcome
desk_outcome room = answer (desk_refusal room)

-- what is written into an output: the lines; nothing for a refusal
unfoldable pub desk_written : ℕ → List ℕ → List ℕ
desk_written room input = written_by (desk_refusal room) (desk_text input)

-- the output afterwards: what is written, then the old bytes past it
unfoldable pub desk_output : List ℕ → List ℕ → List ℕ
desk_output input out = output_after (desk_written (length out) input) out

-- WHAT AN ANSWER r MUST MEET: number and index, the length of what it wrote, every byte of the output afterwards,
-- and that the length is within the output
pub record DeskPrinted (input before : List ℕ) (r : Written) (after : List ℕ) : Type 0 where
  pub outcome : verdict r.number r.index ≡ desk_outcome (length before)
  pub written : r.length ≡ length (desk_written (length before) input)
  pub output : after ≡ desk_output input before
  pub within : (r.length ≤ length after) × (r.length ≡ length (take r.length after))
