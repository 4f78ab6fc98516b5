-- `host::intuitive_hours::lta_hour_intuitive_small` meets its contract: the clauses are those of
-- `hour_intuitive_in`'s answer, and the eighth follows from them. Assumes nothing.
use Rattle.flow_hour.proofs.Promised.Rent.{yes-rent}
use Rattle.host.proofs.intuitive_hours.lta_hour_intuitive_small.Goals as goal

pub returns-clause-yes_rent : goal.returns-clause-yes_rent
returns-clause-yes_rent c = yes-rent _ _ _ _ _ _ _ c.hour_intuitive_in.ensures
