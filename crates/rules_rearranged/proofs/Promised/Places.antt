-- EVERY BYTE AT ITS PLACE: the rearranged case has the ten bytes of each order at its new place and every other
-- byte where it was; the rearranged proposal has the same for the four bytes of each volume. No other file has
-- this. Assumes nothing.
use Rattle.std.specs.Prelude.{◌≡◌, List, ℕ, length}
use Rattle.std.proofs.Common.{arith}
use Rattle.rules.specs.Meaning.Layout.{order_at, order_size, orders_in, proposal_header, proposal_length}
use Rattle.rules.specs.Meaning.Verdict.{Readable}
use Rattle.rules.proofs.Steps.Passed.{case-length}
use Rattle.rules_rearranged.specs.Meaning.Permutation.{Permutation}
use Rattle.rules_rearranged.specs.Meaning.Rearranged.{Reordered, rearranged_case, rearranged_proposal}
use Rattle.rules_rearranged.proofs.Steps.ReorderedBytes.{only-reordered}
use Rattle.rules_rearranged.proofs.Steps.RearrangedFile.{moved, volumes-moved}

module _ (s : List ℕ) (r : Readable s) (π : Permutation (orders_in s)) where
  pub orders-moved : Reordered (order_at s 0) order_size (orders_in s) π.source s (rearranged_case s π)
  orders-moved = moved s π (case-length s r)

  pub no-other-case : (other : List ℕ) → Reordered (order_at s 0) order_size (orders_in s) π.source s other → other ≡ rearranged_case s π
  no-other-case other x = only-reordered (order_at s 0) order_size (orders_in s) π.source s other (rearranged_case s π) (omega arith) x orders-moved

  module _ (t : List ℕ) (right : length t ≡ proposal_length s) where
    pub proposal-volumes-moved : Reordered proposal_header 4 (orders_in s) π.source t (rearranged_proposal s π t)
    proposal-volumes-moved = volumes-moved s π (case-length s r) t right

    pub no-other-proposal : (other : List ℕ) → Reordered proposal_header 4 (orders_in s) π.source t other → other ≡ rearranged_proposal s π t
    no-other-proposal other x = only-reordered proposal_header 4 (orders_in s) π.source t other (rearranged_proposal s π t) (omega arith) x proposal-volumes-moved
