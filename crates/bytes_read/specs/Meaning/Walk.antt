-- What a walk over rows of fields answers: the cursor past the last, or the refusal by a row of the verdict table.
-- Assumes nothing.
use Rattle.std.specs.Prelude.{List, ℕ, Result, Ok, Err}
use Rattle.std.proofs.Math.Option.{Option, none, some}
use Rattle.base_causes.specs.Meaning.Causes.{Cause, first_below, refusal}
use Rattle.base_causes.specs.declared.Outcome.{Outcome}
use Rattle.bytes_read.specs.declared.Cursor.{Cursor}

-- a walk that ends at a field, with the field's offset (S-2)
abbrev pub refused_at : ℕ → ℕ → Result Cursor Outcome
refused_at number at = Err (record { number = number; index = at })

-- a walk that is done
abbrev pub past_at : ℕ → Result Cursor Outcome
past_at at = Ok (record { at = at })

-- by the first place at which a row fails
abbrev pub walked_by : Cause → Cursor → Option ℕ → Result Cursor Outcome
walked_by r past (some k) = refused_at r.number (r.index k)
walked_by r past none = Ok past

-- the walk for a row of the table, which ends at a cursor
abbrev pub walked : Cause → Cursor → Result Cursor Outcome
walked r past = walked_by r past (first_below r.places r.fails)

-- A WALK OVER SEVERAL PARTS, by their rows
abbrev pub rows_walked_by : Cursor → Option Outcome → Result Cursor Outcome
rows_walked_by past (some o) = Err o
rows_walked_by past none = Ok past

abbrev pub rows_walked : List Cause → Cursor → Result Cursor Outcome
rows_walked rs past = rows_walked_by past (refusal rs)
