-- `power`: each entry of the table is its power. The test of all entries is computed over the table that is compiled,
-- and not over a copy. Assumes nothing.
use Rattle.std.specs.Prelude.{ℕ, ◌^◌}
use Rattle.std.proofs.Common.{rules}
use Rattle.text_rules.proofs.Steps.Table.{entry}
use Rattle.text_decimal.proofs.power.Goals as goal

pub returns : goal.returns
returns c = search (rules, entry (λ (k : ℕ). 10 ^ k))
