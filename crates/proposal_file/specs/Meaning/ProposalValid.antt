-- A readable case with its counts, and a proposal that passes rows 9 to 14.
use Rattle.std.specs.Prelude.{◌≡◌, List, ℕ}
use Rattle.std.proofs.Math.Option.{none}
use Rattle.rules.specs.Meaning.Verdict.{proposal_refusal}
use Rattle.case_header.specs.declared.Counts.{Counts}
use Rattle.case_header.specs.Meaning.CaseReadable.{CaseReadable}

-- the counts k of the readable case s, and a proposal t for it that passes rows 9 to 14
pub record ProposalValid (s : List ℕ) (k : Counts) (t : List ℕ) : Type 0 where
  pub opened : CaseReadable s k
  pub passed : proposal_refusal s t ≡ none
