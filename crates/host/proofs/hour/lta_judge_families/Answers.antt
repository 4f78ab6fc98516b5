-- `host::hour::lta_judge_families` meets its contract: the clauses are those of `judge_families`' verdict, packed.
-- Assumes nothing.
use Rattle.judge_hour.specs.Steps.Promises.{family-clauses}
use Rattle.host.proofs.hour.lta_judge_families.Goals as goal

pub returns : goal.returns
returns c =
    let h = family-clauses c.args.«case».now c.args.proposal.now c.args.families.now c.args.report.now _ _ c.judge_families-v.ensures _ c.packed.ensures in record {
      outcome = h.0;
      number = h.1.0;
      index = h.1.1.0;
      report = h.1.1.1.0;
      bytes = h.1.1.1.1.0;
      totals = h.1.1.1.1.1.0;
      families = h.1.1.1.1.1.1.0;
      allowed = h.1.1.1.1.1.1.1.0;
      accuracy = h.1.1.1.1.1.1.1.1.0;
      gap = h.1.1.1.1.1.1.1.1.1.0;
      coverage = h.1.1.1.1.1.1.1.1.1.1.0;
      best = h.1.1.1.1.1.1.1.1.1.1.1.0;
      covered_in_full = h.1.1.1.1.1.1.1.1.1.1.1.1.0;
      annex = h.1.1.1.1.1.1.1.1.1.1.1.1.1;
    }
