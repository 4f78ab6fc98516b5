-- A CASE WITH SORTED ORDERS IS JUDGED AS THE CASE (request S-9): for any key of its fields, a rearrangement sorts
-- the orders of a readable case. With the volumes of a proposal of the right length moved alike, the hour is the
-- same. Assumes nothing.
use Rattle.std.specs.Prelude.{◌≡◌, List, ℕ, ◌≤◌, ◌<◌, length}
use Rattle.std.proofs.Common.{sym, subst, arith}
use Rattle.rules.specs.Meaning.Layout.{orders_in, proposal_length}
use Rattle.rules.specs.Meaning.Hour.{case_of}
use Rattle.rules.specs.Meaning.Verdict.{Readable}
use Rattle.rules.proofs.Steps.SameTables.{SameTables}
use Rattle.rules.proofs.Steps.Passed.{case-length}
use Rattle.rules_rearranged.specs.Meaning.Rearranged.{rearranged_case, rearranged_proposal, SameHour}
use Rattle.rules_rearranged.specs.Meaning.Sorted.{Key, key_of, Sorting}
use Rattle.rules_rearranged.proofs.Steps.MovedOrders.{moved_case}
use Rattle.rules_rearranged.proofs.Steps.RearrangedFile.{case-moved}
use Rattle.rules_rearranged.proofs.Steps.Selection.{InOrder, selection}
use Rattle.rules_rearranged.proofs.Promised.OrderOfOrders.{order-of-orders}

module _ (key : Key) (s : List ℕ) (r : Readable s) where
  pub sorting : Sorting key s
  unfolding case_of moved_case
  sorting = record { by = w.by; sorted = record { in_order = in_order } }
    where
      w : InOrder (orders_in s) (key_of key (case_of s))
      w = selection (orders_in s) (key_of key (case_of s))

      m : SameTables (moved_case (case_of s) w.by.source) (case_of (rearranged_case s w.by))
      m = case-moved s w.by (case-length s r)

      key-is : (i : ℕ) → i < orders_in s → key_of key (case_of (rearranged_case s w.by)) i ≡ key_of key (case_of s) (w.by.source i)
      key-is i h = sym (λ j. key (m.zone-same i h j) (m.side_same i h j) (m.quantity-same i h j) (m.price-same i h j))

      in_order : (i j : ℕ) → i ≤ j → j < (case_of (rearranged_case s w.by)).orders → key_of key (case_of (rearranged_case s w.by)) i ≤ key_of key (case_of (rearranged_case s w.by)) j
      in_order i j h l = let k : j < orders_in s = subst (λ (n : ℕ). j < n) (sym m.orders-same) l in rw (key-is i (omega (arith, h, k)), key-is j k) (w.in_order i j h k)

  pub sorted-same : (t : List ℕ) → length t ≡ proposal_length s → SameHour s t (rearranged_case s sorting.by) (rearranged_proposal s sorting.by t)
  sorted-same t right = order-of-orders s t r right sorting.by
