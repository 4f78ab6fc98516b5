-- `sheet_numbers::padded`: with the zeros that are left the result is the same as with all.
use Rattle.std.proofs.Common.{◌≡◌, [], ◌-◌, ◌≤◌}
use Rattle.text_rules.specs.Meaning.Text.{value_from}
use Rattle.sheet_numbers.specs.Meaning.Numeral.{first_of}
use Rattle.sheet_numbers.specs.Steps.Capped.{cap, capped}
use Rattle.sheet_numbers.proofs.padded.Given as goal

abbrev pub invariant-loop : goal.invariant-loop
invariant-loop l = record {
  within : l.value ≤ cap;
  same : capped (value_from l.value (first_of (l.n - l.counter) [])) ≡ capped (value_from l.fn.x (first_of l.n []));
}
