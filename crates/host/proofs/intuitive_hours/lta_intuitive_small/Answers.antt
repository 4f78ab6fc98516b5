-- `host::intuitive_hours::lta_intuitive_small` meets its contract: the clauses are those of `intuitive_in`'s
-- answer, and the eighth follows from them. Assumes nothing.
use Rattle.flow_intuitive.proofs.Promised.Worth.{yes-worth-nonneg}
use Rattle.host.proofs.intuitive_hours.lta_intuitive_small.Goals as goal

pub returns-clause-yes_rent : goal.returns-clause-yes_rent
returns-clause-yes_rent c = yes-worth-nonneg _ _ _ _ _ _ _ c.intuitive_in.ensures
