-- What reading a proposal for a readable case answers: the refusal by rows 9 to 14 of the verdict table, or the
-- proposal's opening. Assumes nothing.
use Rattle.std.specs.Prelude.{Bool, true, false, List, ℕ, length, pos, Result, Ok, Err}
use Rattle.std.proofs.Math.Option.{Option, none, some}
use Rattle.rules.specs.Meaning.Layout.{proposal_header, proposal_version, share_in, system_in}
use Rattle.base_causes.specs.declared.Outcome.{Outcome}
use Rattle.base_causes.specs.Meaning.Causes.{verdict}
use Rattle.rules.specs.Meaning.Verdict.{◌under◌, proposal_refusal}
use Rattle.bytes_read.specs.Meaning.Field.{cursor, mark_at}
use Rattle.proposal_file.specs.declared.ProposalOpening.{ProposalOpening}
use Rattle.proposal_file.specs.declared.Header.{Header}

abbrev pub opening_of : List ℕ → ProposalOpening
opening_of t = record { share = record { 0 = pos (share_in t) }; system = record { 0 = system_in t } }

-- ROWS 9 TO 14
abbrev pub proposal_by : ProposalOpening → Option Outcome → Result ProposalOpening Outcome
proposal_by p (some o) = Err o
proposal_by p none = Ok p

abbrev pub proposal_answer : List ℕ → List ℕ → Result ProposalOpening Outcome
proposal_answer s t = proposal_by (opening_of t) (proposal_refusal s t)

-- the header's fields in the file, and the cursor past them
abbrev pub header_in : List ℕ → Header
header_in t = record { mark = mark_at t 0; version = proposal_version t; share = share_in t; system = record { 0 = system_in t }; past = cursor proposal_header }

-- ROW 9, by its test
abbrev pub taken_by : Header → Bool → Result Header Outcome
taken_by h true = Err (verdict 9 0)
taken_by h false = Ok h

abbrev pub header_taken : List ℕ → Result Header Outcome
header_taken t = taken_by (header_in t) (length t under proposal_header)
