-- What was read of an hour whose rows 1 to 18 passed: its counts and its opening are those of the files, within the
-- readers' limits. Every stage starts from these facts. Assumes nothing.
use Rattle.std.specs.Prelude.{◌≡◌, List, ℕ, ◌≤◌, ◌<◌, pos}
use Rattle.std.proofs.Math.Path.{ap}
use Rattle.std.proofs.Common.{arith}
use Rattle.rules.specs.Meaning.Hour.{case_of, plan_of, prices_of}
use Rattle.rules.proofs.Steps.Passed.{CaseSound, case-sound, proposal-sound}
use Rattle.case_header.specs.declared.Counts.{Counts}
use Rattle.case_header.specs.Meaning.CaseReadable.{CaseReadable}
use Rattle.proposal_file.specs.declared.ProposalOpening.{ProposalOpening}
use Rattle.proposal_file.specs.Meaning.Read.{HourReadFrom}

module _ {s t : List ℕ} {k : Counts} {opening : ProposalOpening} (h : HourReadFrom s t k opening) where
  pub case-opened : CaseReadable s k
  case-opened = h.proposed.opened

  pub sound : CaseSound (case_of s)
  sound = case-sound s case-opened.readable

  pub zones-is : k.zones ≡ (case_of s).zones
  unfolding case_of
  zones-is = ap (λ (k : Counts). k.zones) case-opened.counts

  pub branches-is : k.branches ≡ (case_of s).branches
  unfolding case_of
  branches-is = ap (λ (k : Counts). k.branches) case-opened.counts

  pub links-is : k.links ≡ (case_of s).links
  unfolding case_of
  links-is = ap (λ (k : Counts). k.links) case-opened.counts

  pub orders-is : k.orders ≡ (case_of s).orders
  unfolding case_of
  orders-is = ap (λ (k : Counts). k.orders) case-opened.counts

  pub few-zones : k.zones ≤ 16
  few-zones = omega (arith, zones-is, sound.zones-in.1)

  pub few-branches : k.branches ≤ 64
  few-branches = omega (arith, branches-is, sound.branches-in)

  pub share-is : opening.share.0 ≡ pos (plan_of s t).share
  unfolding plan_of
  share-is = ap (λ (o : ProposalOpening). o.share.0) h.opening-is

  pub share-in : (plan_of s t).share ≤ 100000
  share-in = (proposal-sound s t h.proposed.passed).share-in

  pub system-is : opening.system.0 ≡ (prices_of s t).system
  unfolding prices_of
  system-is = ap (λ (o : ProposalOpening). o.system.0) h.opening-is

  pub shadow-in : (m : ℕ) → m < (case_of s).branches → (prices_of s t).shadow m ≤ 1000000
  shadow-in = (proposal-sound s t h.proposed.passed).shadow-in
