-- The totals of the code as those of the report.
use Rattle.rules.specs.Meaning.Report as rules
use Rattle.report_file.specs.declared.Totals.{Totals}

abbrev pub totals_in : Totals → rules.Totals
totals_in x = record { welfare = x.welfare.0; bound = x.bound.0; gap = x.gap.0; rent = x.rent.0; owed = x.owed.0 }
