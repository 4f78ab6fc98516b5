-- The cursor stands at the shadow price of this turn, and none before it is at fault.
use Rattle.std.proofs.Common.{◌≡◌}
use Rattle.std.proofs.Math.Option.{none}
use Rattle.rules.specs.Meaning.Layout.{shadow_at}
use Rattle.base_causes.specs.Meaning.Causes.{first_below}
use Rattle.proposal_file.specs.Steps.ProposalValid.{bad_shadow}
use Rattle.proposal_file.proofs.walk_shadows.Given as goal

abbrev pub invariant-loop : goal.invariant-loop
invariant-loop l = (l.cursor.at ≡ shadow_at l.case.bytes.now l.counter) × (first_below l.counter (bad_shadow l.case.bytes.now l.proposal) ≡ none)
