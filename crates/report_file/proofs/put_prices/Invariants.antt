-- `put_prices`: after z turns the first z prices are written. Assumes nothing.
use Rattle.std.specs.Prelude.{◌≡◌}
use Rattle.std.proofs.lemmas.List.Edits.{sets}
use Rattle.rules.specs.Meaning.Report.{price_bytes}
use Rattle.report_file.specs.Meaning.Prices.{grains_at}
use Rattle.report_file.proofs.put_prices.Given as goal

abbrev pub invariant-loop-z : goal.invariant-loop-z
invariant-loop-z l = l.report ≡ sets l.fn.report 48 (price_bytes l.z (grains_at l.fn.prices))
