-- `put_totals`: five numbers in a row. Assumes nothing.
use Rattle.std.proofs.Common.{rules}
use Rattle.base_integers.specs.Meaning.Bytes.{bytes_of, signed64}
use Rattle.rules.specs.Meaning.Report.{total_bytes}
use Rattle.report_file.proofs.put_totals.Goals as goal

pub returns : goal.returns
unfolding total_bytes signed64 bytes_of
returns c = search rules
