-- WHAT EACH VALUE BECAME, by its kind and in plain numbers, over the exact fraction of its 64 bits.
-- A share of q is its product with q, rounded once and cut: within one of the exact product and never above q.
-- A flow is ten times the MW, rounded once and cut.
-- A price is a hundred times the euros, rounded once and taken to the nearest cent, halves away from zero.
-- Another factor, a cut instead of the nearest, or a lost sign would make it false. Assumes nothing.
use Rattle.std.specs.Prelude.{◌≡◌, refl, Bool, true, false, not, cond, ℕ, ◌^◌, ◌≤◌, ◌<◌, ℤ, pos, neg_ℤ}
use Rattle.std.proofs.Common.{ap, arith}
use borrow.Author.Tests.{not-false, lt-leb, le-leb}
use Rattle.std.specs.Float.Ieee.Scale as float
use Rattle.base_integers.specs.Steps.Difference.{at, ⊝◌, le-fact}
use Rattle.base_limits.specs.Meaning.Limits as limits
use Rattle.base_integers.specs.Meaning.Ranges.{outside}
use Rattle.base_integers.specs.Steps.Ranges.{within, is_false, not_is, nor-left, nor-right, nat-within}
use Rattle.dump_binary64.specs.Meaning.Value.{finite, minus, negative, above_one, product, cut, nearest, ShareWithin}
use Rattle.dump_binary64.proofs.Promised.Within.{share-within}
use Rattle.dump_binary64.proofs.Promised.Taken.{CutOf, NearestOf, WithinOne, cut_of, nearest-of, within-one, nearest-within-one}
use Rattle.dump_values.specs.Meaning.Field.{Kind, share-of, flow, system-price, shadow-price, product_of, converted, forbidden, field_range, fault}

-- a share of q, as a number of its parts
pub record ShareTaken (b q : ℕ) (z : ℤ) : Type 0 where
  pub parts : ℕ
  pub is : z ≡ pos parts
  pub cut-of-product : CutOf b q parts
  pub within : ShareWithin b q parts

-- a flow in MW, as tenths
pub record FlowTaken (b : ℕ) (z : ℤ) : Type 0 where
  pub from_zero : negative b ≡ false
  pub tenths : ℕ
  pub is : z ≡ pos tenths
  pub cut-of-product : CutOf b 10 tenths
  pub within : WithinOne b 10 tenths

-- a shadow price in euros, as cents
pub record ShadowTaken (b : ℕ) (z : ℤ) : Type 0 where
  pub from_zero : negative b ≡ false
  pub cents : ℕ
  pub is : z ≡ pos cents
  pub nearest-to-product : NearestOf b 100 cents
  pub within : WithinOne b 100 cents

-- a system price in euros, as cents: its size is the nearest, and its sign the value's
pub record SystemTaken (b : ℕ) (z : ℤ) : Type 0 where
  pub cents : ℕ
  pub nearest-to-product : NearestOf b 100 cents
  pub within : WithinOne b 100 cents
  pub above : b < 2 ^ 63 → z ≡ pos cents
  pub below : 2 ^ 63 ≤ b → z ≡ neg_ℤ (pos cents)

-- what row 59 leaves: nothing forbidden, a finite product, a number in its field's range
module _ (k : Kind) (b : ℕ) (e : fault k b ≡ false) where
  allowed : forbidden k b ≡ false
  unfolding fault
  allowed = not_is _ (nor-left (forbidden k b) _ (is_false e))

  finite-product : float.finite (product_of k b) ≡ true
  unfolding fault
  finite-product = not-false _ (not_is _ (nor-left (not (float.finite (product_of k b))) _ (nor-right (forbidden k b) _ (is_false e))))

  in-range : outside (field_range k) (converted k b) ≡ false
  unfolding fault
  in-range = not_is _ (nor-right (not (float.finite (product_of k b))) _ (nor-right (forbidden k b) _ (is_false e)))

pub share-taken : (q b : ℕ) → finite b ≡ true → q < 2 ^ 53 → fault (share-of q) b ≡ false → ShareTaken b q (converted (share-of q) b)
unfolding converted product_of
share-taken q b f l e = record {
  parts = cut (product b q);
  is = refl;
  cut-of-product = cut_of b q (finite-product (share-of q) b e);
  within = share-within b q f (not_is _ (nor-left (negative b) (above_one b) (is_false (allowed (share-of q) b e)))) (not_is _ (nor-right (negative b) (above_one b) (is_false (allowed (share-of q) b e)))) l;
}

pub flow-taken : (b : ℕ) → fault flow b ≡ false → FlowTaken b (converted flow b)
unfolding converted product_of
flow-taken b e = record {
  from_zero = allowed flow b e;
  tenths = cut (product b 10);
  is = refl;
  cut-of-product = cut_of b 10 (finite-product flow b e);
  within = within-one b 10 (finite-product flow b e) (small (cut (product b 10)) (nat-within 0 4294967295 (cut (product b 10)) (is_false (in-range flow b e))).1);
}
  where
    small : (v : ℕ) → v ≤ 4294967295 → v < 0x20_0000_0000_0000
    small v h = omega arith

pub shadow-taken : (b : ℕ) → fault shadow-price b ≡ false → ShadowTaken b (converted shadow-price b)
unfolding converted product_of
shadow-taken b e = record {
  from_zero = allowed shadow-price b e;
  cents = nearest (product b 100);
  is = refl;
  nearest-to-product = nearest-of b 100 (finite-product shadow-price b e);
  within = nearest-within-one b 100 (finite-product shadow-price b e) (small (nearest (product b 100)) (nat-within 0 1000000 (nearest (product b 100)) (is_false (in-range shadow-price b e))).1);
}
  where
    small : (v : ℕ) → v ≤ 1000000 → v < 0x20_0000_0000_0000
    small v h = omega arith

pub system-taken : (b : ℕ) → fault system-price b ≡ false → SystemTaken b (converted system-price b)
unfolding converted product_of
system-taken b e = record {
  cents = nearest (product b 100);
  nearest-to-product = nearest-of b 100 (finite-product system-price b e);
  within = nearest-within-one b 100 (finite-product system-price b e) (small (nearest (product b 100)) (minus b) (in-range system-price b e));
  above = λ h. ap (λ (c : Bool). cond c (neg_ℤ (pos (nearest (product b 100)))) (pos (nearest (product b 100)))) (lt-leb (2 ^ 63) b h);
  below = λ h. ap (λ (c : Bool). cond c (neg_ℤ (pos (nearest (product b 100)))) (pos (nearest (product b 100)))) (le-leb (2 ^ 63) b h);
}
  where
    small : (v : ℕ) (c : Bool) → outside limits.system_price (cond c (neg_ℤ (pos v)) (pos v)) ≡ false → v < 0x20_0000_0000_0000
    small v true e =
        let w = within limits.system_price (neg_ℤ (pos v)) (is_false e) in
        omega (arith, le-fact (at (limits.system_price).least) (⊝◌ (at (pos v))) w.least-le)
    small v false e =
        let w = within limits.system_price (pos v) (is_false e) in
        omega (arith, le-fact (at (pos v)) (at (limits.system_price).greatest) w.le-greatest)
