-- A lent output is refused by 31 where it has too little room, and for nothing else. Assumes nothing.
use Rattle.std.specs.Prelude.{◌≡◌, [], ℕ, ◌≤◌, ◌<◌}
use Rattle.std.proofs.Math.Option.{none, some}
use Rattle.std.proofs.Common.{lt-ltb, le-ltb}
use Rattle.base_causes.specs.Meaning.Causes.{verdict, refusal}
use Rattle.base_causes.proofs.Promised.CauseLaws.{field-fails, field-passes}
use Rattle.text_lines.specs.Meaning.Printed.{desk_room, desk_causes, desk_refusal}

pub refused-31 : (room : ℕ) → room < desk_room → desk_refusal room ≡ some (verdict 31 0)
unfolding desk_refusal desk_causes
refused-31 room h = field-fails 31 0 _ (lt-ltb room desk_room h)

pub past-31 : (room : ℕ) → desk_room ≤ room → desk_refusal room ≡ none
unfolding desk_refusal desk_causes refusal
past-31 room h = field-passes 31 0 [] (le-ltb room desk_room h)
