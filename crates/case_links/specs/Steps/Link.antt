-- Link l of a case as the later stages have it; its capacity and its contracted volume are within the limits.
-- Assumes nothing.
use Rattle.std.proofs.Common.{ap, arith}
use Rattle.std.specs.Prelude.{List, ℕ, ◌<◌, pos}
use Rattle.base_integers.specs.Meaning.Ranges.{Within}
use Rattle.base_integers.specs.Steps.Ranges.{within, nat-inside}
use Rattle.base_limits.specs.Meaning.Limits as limits
use Rattle.rules.specs.Meaning.Layout.{links_in, capacity_in, contracted_in}
use Rattle.rules.specs.Meaning.Hour.{case_of}
use Rattle.rules.proofs.Steps.Passed.{case-sound}
use Rattle.case_header.specs.declared.Counts.{Counts}
use Rattle.case_header.specs.Meaning.CaseReadable.{CaseReadable}

module _ {s : List ℕ} {k : Counts} (o : CaseReadable s k) (l : ℕ) (h : l < k.links) where
  one_of : l < links_in s
  one_of = omega (arith, h, ap (λ (k : Counts). k.links) o.counts)

  pub capacity-within : Within limits.capacity (pos (capacity_in s l))
  unfolding case_of
  capacity-within = within limits.capacity (pos (capacity_in s l)) (nat-inside 0 100000 (capacity_in s l) (omega arith) ((case-sound s o.readable).capacity-in l one_of))

  pub contracted-within : Within limits.capacity (pos (contracted_in s l))
  unfolding case_of
  contracted-within =
      let c = case-sound s o.readable in
      within limits.capacity (pos (contracted_in s l)) (nat-inside 0 100000 (contracted_in s l) (omega arith) (omega (arith, c.contracted-in l one_of, c.capacity-in l one_of)))
