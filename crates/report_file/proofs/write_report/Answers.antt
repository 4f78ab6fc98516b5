-- `write_report`: three runs of stores, one after the other. Assumes nothing.
use Rattle.std.proofs.Common.{◌∙◌}
use Rattle.std.proofs.lemmas.List.Edits.{sets}
use Rattle.rules.specs.Meaning.Report.{total_bytes, price_bytes}
use Rattle.report_file.specs.Meaning.Written.{totals_in}
use Rattle.report_file.specs.Meaning.Prices.{grains_at}
use Rattle.report_file.specs.Steps.Written.{report-run}
use Rattle.report_file.proofs.write_report.Goals as goal

pub returns : goal.returns
returns c =
    let a = c.args in
    let e = c.put_totals.ensures ∙ (λ j. sets (c.put_header.ensures j) 8 (total_bytes (totals_in a.totals))) in
    c.put_prices.ensures
    ∙ (λ j. sets (e j) 48 (price_bytes (c.from.ensures j) (grains_at a.prices)))
    ∙ report-run a.report.now a.number a.zones (totals_in a.totals) (grains_at a.prices) c.requires.zones_in_bounds
