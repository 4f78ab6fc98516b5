-- What rows 15 to 18 rest on: the counts that were read are the case's, and it has few orders. Assumes nothing.
use Rattle.std.specs.Prelude.{◌≡◌, List, ℕ, ◌≤◌, pos}
use Rattle.std.proofs.Common.{sym, ap, arith}
use Rattle.base_limits.specs.Meaning.Limits as limits
use Rattle.rules.specs.Meaning.Hour.{case_of}
use Rattle.rules.proofs.Steps.Passed.{case-sound}
use Rattle.case_header.specs.declared.Counts.{Counts}
use Rattle.case_header.specs.Meaning.CaseReadable.{CaseReadable}

module _ {s : List ℕ} {k : Counts} (r : CaseReadable s k) where
  pub tolerance-is : k.tolerance.0 ≡ limits.microcents_of (pos (case_of s).tolerance)
  unfolding case_of
  tolerance-is = ap (λ (k : Counts). k.tolerance.0) r.counts

  pub orders-is : (case_of s).orders ≡ k.orders
  unfolding case_of
  orders-is = sym (ap (λ (k : Counts). k.orders) r.counts)

  pub few-orders : k.orders ≤ 512
  few-orders = omega (arith, orders-is, (case-sound s r.readable).orders-in)
