-- The number of an hour that is valued is 0 or 26.
use Rattle.std.proofs.Common.{subst}
use Rattle.judge_hour.specs.Steps.Judged.{Reportable, number_small}
use Rattle.judge_hour.proofs.conclude.Goals as goal

pub number_of-requires : goal.number_of-requires
number_of-requires c = number_small c.in-Ok.valued (subst Reportable c.in-Ok.is c.requires.reportable)
