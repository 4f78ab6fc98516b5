-- `host::dump::lta_dump_proposal` meets its contract: the clauses are the answer of `dump_proposal` and the
-- theorems about it. Assumes nothing.
use Rattle.dump_proposal.proofs.Promised.Answered.{answer-read-back, answer-volumes, answer-bytes}
use Rattle.host.proofs.dump.lta_dump_proposal.Goals as goal

pub returns-clause-read_back : goal.returns-clause-read_back
returns-clause-read_back c = λ z. answer-read-back c.dump_proposal.ensures z

pub returns-clause-volumes : goal.returns-clause-volumes
returns-clause-volumes c = λ z. answer-volumes c.dump_proposal.ensures z

pub returns-clause-bytes : goal.returns-clause-bytes
returns-clause-bytes c = λ z. answer-bytes c.dump_proposal.ensures z
