-- What restoring a columned file answers. Assumes nothing.
use Rattle.std.specs.Prelude.{Bool, true, false, Result, Ok, Err}
use Rattle.base_causes.specs.declared.Outcome.{Outcome}

-- THE WAY BACK, by whether 71 holds
abbrev pub restore_by : Bool → Result Unit Outcome
restore_by true = Err (record { number = 71; index = 0 })
restore_by false = Ok tt
