-- What a walk over an area's cells has read, and what a walk over the areas in turn has found. Assumes nothing.
use Rattle.std.proofs.Math.Option.{Option, none, some}
use Rattle.std.specs.declared.option.Option as code
use Rattle.std.specs.declared.option.Option.TheVariants.{None, Some}
use Prim.Native.Nat.{ℕ}
use Rattle.queue_turns.specs.Meaning.Queue.{Pair}

-- the area that a serve takes, in the code's words
abbrev pub area_of : Option Pair → code.Option ℕ
area_of none = None
area_of (some p) = Some p.area
