-- What was read of an hour: the counts of its case and the opening of its proposal.
use Rattle.std.specs.Prelude.{◌≡◌, List, ℕ}
use Rattle.case_header.specs.declared.Counts.{Counts}
use Rattle.proposal_file.specs.Meaning.ProposalValid.{ProposalValid}
use Rattle.proposal_file.specs.Meaning.Answer.{opening_of}
use Rattle.proposal_file.specs.declared.ProposalOpening.{ProposalOpening}

-- the counts and the opening are read from the case s and the proposal t
pub record HourReadFrom (s t : List ℕ) (k : Counts) (opening : ProposalOpening) : Type 0 where
  pub proposed : ProposalValid s k t
  pub opening-is : opening ≡ opening_of t
