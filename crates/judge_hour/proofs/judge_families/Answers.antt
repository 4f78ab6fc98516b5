-- It judges by the table with the list.
use Rattle.judge_hour.specs.Steps.Judged.{family-hour-judged}
use Rattle.judge_hour.proofs.judge_families.Goals as goal

pub returns : goal.returns
returns c = family-hour-judged c.judge_with_families.ensures
