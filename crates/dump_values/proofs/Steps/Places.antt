-- The kind of a value by its place and by the case's counts. Assumes nothing.
use Rattle.std.specs.Prelude.{◌≡◌, List, ℕ, ◌+◌, ◌≤◌, ◌<◌}
use Rattle.std.proofs.Common.{sym, ap, subst, arith}
use Rattle.rules.specs.Meaning.Layout.{orders_in, links_in, quantity_in}
use Rattle.rules.specs.Meaning.Hour.{case_of}
use Rattle.rules.proofs.Steps.Passed.{case-sound}
use Rattle.case_header.specs.declared.Counts.{Counts}
use Rattle.case_header.specs.Meaning.CaseReadable.{CaseReadable}
use Rattle.dump_values.specs.Meaning.Field.{share-of, flow, shadow-price, after_opening}
use Rattle.dump_values.proofs.Promised.PlainPlaces.{order-kind, flow-kind, shadow-kind}

-- BY THE COUNTS of a readable case
module _ {s : List ℕ} {k : Counts} (o : CaseReadable s k) where
  orders-are : k.orders ≡ orders_in s
  orders-are = ap (λ (k : Counts). k.orders) o.counts

  links-are : k.links ≡ links_in s
  links-are = ap (λ (k : Counts). k.links) o.counts

  module _ (i : ℕ) where
    pub quantity-most : i < k.orders → quantity_in s i ≤ 100000
    unfolding case_of
    quantity-most h = (case-sound s o.readable).quantity-in i (subst (λ (n : ℕ). i < n) orders-are h)

    pub order-place : i < k.orders → share-of (quantity_in s i) ≡ after_opening s i
    order-place h = sym (order-kind s i (omega (arith, orders-are)))

    pub flow-place : k.orders ≤ i → i < k.orders + k.links → flow ≡ after_opening s i
    flow-place h l = sym (flow-kind s i (omega (arith, orders-are)) (omega (arith, orders-are, links-are)))

    pub shadow-place : k.orders ≤ i → k.orders + k.links ≤ i → shadow-price ≡ after_opening s i
    shadow-place h l = sym (shadow-kind s i (omega (arith, orders-are)) (omega (arith, orders-are, links-are)))
