-- WHAT AN ANSWER HOLDS: where the entry's number is 0, the bytes that it wrote are a proposal with each value's
-- number, each volume is within one tenth, and every byte of the output is given. Assumes nothing.
use Rattle.std.specs.Prelude.{◌≡◌, List, ℕ, length, take}
use Rattle.std.proofs.Common.{sym, ap, ◌∙◌, subst}
use Rattle.base_causes.specs.declared.Outcome.{Outcome}
use Rattle.base_output.specs.declared.Written.{Written}
use Rattle.dump_proposal.specs.Meaning.Dump.{dump_outcome, DumpAnswered, ProposalHolds, VolumesWithin}
use Rattle.dump_proposal.specs.Promised.PlainBytes.{WrittenProposal}
use Rattle.dump_proposal.proofs.Promised.PlainBytes.{proposal-written}
use Rattle.dump_proposal.proofs.Promised.ReadBack.{written_back}

module _ {s d before after : List ℕ} {r : Written} (a : DumpAnswered s d before r after) (z : r.number ≡ 0) where
  is-answer : (dump_outcome s d (length before)).number ≡ 0
  is-answer = sym (ap (λ (o : Outcome). o.number) a.outcome) ∙ z

  both : ProposalHolds s d (take r.length after) × VolumesWithin s d (take r.length after)
  both = subst (λ (t : List ℕ). ProposalHolds s d t × VolumesWithin s d t) (λ i. take (sym a.written i) (sym a.output i)) (written_back s d before is-answer)

  pub answer-read-back : ProposalHolds s d (take r.length after)
  answer-read-back = both.0

  pub answer-volumes : VolumesWithin s d (take r.length after)
  answer-volumes = both.1

  pub answer-bytes : WrittenProposal s d before after
  answer-bytes = subst (λ (t : List ℕ). WrittenProposal s d before t) (sym a.output) (proposal-written s d before is-answer)
