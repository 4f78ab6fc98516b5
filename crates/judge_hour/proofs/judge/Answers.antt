-- It judges by the table without a list.
use Rattle.judge_hour.specs.Steps.Judged.{hour-judged}
use Rattle.judge_hour.proofs.judge.Goals as goal

pub returns : goal.returns
returns c = hour-judged c.judge_with_families.ensures
