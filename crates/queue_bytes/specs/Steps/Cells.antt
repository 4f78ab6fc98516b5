-- One area's hours in the code: 25 cells and how many are taken. What adding an hour and removing the first do to
-- the cells. Assumes nothing.
use Rattle.std.specs.Prelude.{◌≡◌, Bool, ◌&&◌, ℕ, ltb, length}
use Rattle.std.proofs.Math.Bool.{not}
use mathlib.Core.List.{List}
use Rattle.queue_bytes.specs.declared.Waiting.{Waiting}
use Rattle.queue_turns.specs.Meaning.Queue.{among}
use Rattle.queue_turns.specs.Steps.Invariant.{Hours}
use Rattle.queue_bytes.specs.Meaning.Bytes.{cells_of}
use Rattle.queue_bytes.specs.Steps.ReadBack.{New}

abbrev pub waiting_of : List ℕ → Waiting
waiting_of hours = record { cells = cells_of hours; count = length hours }

-- cells that hold good hours
pub record Tidy (w : Waiting) : Type 0 where
  pub hours : List ℕ
  pub good : Hours hours
  pub is : w ≡ waiting_of hours

-- and a cell that may be added to them
pub record Addable (w : Waiting) (c : ℕ) : Type 0 where
  pub tidy : Tidy w
  pub new : New tidy.hours c

-- whether a cell counts after others: it holds an hour, and none of them holds the same
unfoldable pub counts_behind : List ℕ → ℕ → Bool
counts_behind cells c = ltb 0 c && (ltb c 26 && not (among c cells))
