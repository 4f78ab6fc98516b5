-- What the verdicts before a stage leave; from it the sums of the stage fit. Assumes nothing.
use Rattle.std.specs.Prelude.{◌≡◌, ◌≤◌}
use Rattle.std.proofs.Math.Option.{none}
use Rattle.std.proofs.Common.{nltb→le}
use Rattle.rules.specs.Meaning.Hour.{Case, Plan, link_use, link_room}
use Rattle.base_causes.specs.Meaning.Causes.{failing}
use Rattle.base_causes.proofs.Promised.CauseLaws.{not-below}
use Rattle.rules.specs.Meaning.Verdict.{excess_volume, overused_link}
use Rattle.rules.proofs.Steps.Passed.{CaseSound}
use Rattle.rules.proofs.Promised.Fits.{flow-in}
use Rattle.proposal_file.specs.Meaning.InRange.{VolumesInRange, FlowsInRange}

pub volumes-in : {c : Case} {p : Plan} → failing (excess_volume c p) ≡ none → VolumesInRange c p
volumes-in {c} {p} e = record { within = λ i h. nltb→le (c.quantity i) (p.volume i) (not-below _ _ e i h) }

pub flows-in : {c : Case} {p : Plan} → CaseSound c → p.share ≤ 100000 → failing (overused_link c p) ≡ none → FlowsInRange c p
flows-in {c} {p} cs share e = record { within = λ l h. flow-in c cs p share l h (nltb→le (link_room c p l) (link_use c p l) (not-below _ _ e l h)) }
