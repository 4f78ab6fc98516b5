-- WHAT IS WRITTEN IS READ BACK: the bytes afterwards mean the queue after the post or the serve. And any bytes mean
-- a good queue. Assumes nothing.
use Rattle.std.specs.Prelude.{◌≡◌, ℕ, ◌-◌, ◌<◌}
use Rattle.std.proofs.Math.Bool.{false}
use mathlib.Core.List.{List}
use Rattle.queue_turns.specs.Meaning.Queue.{among}

-- ---- hours in cells

pub record New (hours : List ℕ) (c : ℕ) : Type 0 where
  pub above : 0 < c
  pub below : c < 26
  pub new : among (c - 1) hours ≡ false
