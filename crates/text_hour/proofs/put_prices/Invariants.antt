-- The lines of the zones below z stand at `at`.
use Rattle.text_rules.specs.Meaning.Put.{Put}
use Rattle.rules.specs.Meaning.Lines.{price_lines}
use Rattle.report_file.specs.Meaning.Prices.{grains_at}
use Rattle.text_hour.proofs.put_prices.Given as goal

abbrev pub invariant-loop-z : goal.invariant-loop-z
invariant-loop-z l = Put l.fn.out l.fn.at (price_lines l.z (grains_at l.fn.prices)) l.out l.next
