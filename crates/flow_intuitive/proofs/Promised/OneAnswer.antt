-- THE ANSWER IS A FUNCTION OF THE INPUT: it is the same with two scratches of any size. Assumes nothing.
use Rattle.std.specs.Prelude.{◌≡◌, refl, List, ℕ, zero, suc, ◌<◌, ℤ, pos}
use Rattle.std.proofs.Common.{sym, ap, ◌∙◌, arith}
use Rattle.std.proofs.Math.Decide.{ℕ_discrete}
use Rattle.flow_network.specs.Meaning.Network.{Network, Placed, all_exports, FeasibleAll, DeficientSet}
use Rattle.flow_network.proofs.Promised.Duality.{not-both, one-largest, yes-total, no-total}
use Rattle.flow_pairs.specs.Meaning.Pairs.{network_of}
use Rattle.flow_intuitive.specs.Meaning.Intuitive.{LargestTotal, intuitive_outcome}
use Rattle.flow_intuitive.proofs.Promised.Causes.{intuitive-none}
use Rattle.flow_intuitive.proofs.Steps.Sizes.{placed}

-- what the contract says of an answer: 1 for a yes and 0 for a no, and the total
pub record Answers (c : Network) (flag : ℕ) (total : ℤ) : Type 0 where
  pub yes_or_no : flag < 2
  pub a-yes : flag ≡ 1 → FeasibleAll c
  pub a-no : flag ≡ 0 → DeficientSet c
  pub most : LargestTotal c total

-- a yes and a no exclude each other, and the total is unique
pub one_answer : (c : Network) → Placed c → (i j : ℕ) (x y : ℤ) → Answers c i x → Answers c j y → (i ≡ j) × (x ≡ y)
one_answer c ok i j x y a b = (flags (ℕ_discrete i j), a.most.is ∙ ap pos (one-largest c a.most.volume b.most.volume a.most.largest b.most.largest) ∙ sym b.most.is)
  where
    by : (p q : ℕ) → (p ≡ q → ⊥) → Answers c p x → Answers c q y → ⊥
    by zero zero h a b = h refl
    by zero (suc q) h a b = not-both c ok (b.a-yes (omega (arith, b.yes_or_no))) (a.a-no refl)
    by (suc p) zero h a b = not-both c ok (a.a-yes (omega (arith, a.yes_or_no))) (b.a-no refl)
    by (suc p) (suc q) h a b = h (omega (arith, a.yes_or_no, b.yes_or_no))

    flags : Dec (i ≡ j) → i ≡ j
    flags (yes e) = e
    flags (no e) = absurd (by i j e a b)

-- for one input that two sizes of scratch take, as S-13 asks
pub same_answer : (net_exports prices : List ℤ) (pairs : List ℕ) (n room : ℕ) → (intuitive_outcome net_exports prices pairs n room).number ≡ 0
    → (i j : ℕ) (x y : ℤ) → Answers (network_of net_exports prices pairs) i x → Answers (network_of net_exports prices pairs) j y → (i ≡ j) × (x ≡ y)
same_answer net_exports prices pairs n room e = one_answer (network_of net_exports prices pairs) (placed net_exports prices pairs n room (intuitive-none net_exports prices pairs n room e))

-- a yes carries all exports, a no less
pub yes-carries-all : (c : Network) (x : ℤ) → Answers c 1 x → x ≡ pos (all_exports c)
yes-carries-all c x a = a.most.is ∙ ap pos (yes-total c a.most.volume (a.a-yes refl) a.most.largest)

pub no-carries-less : (c : Network) → Placed c → (x : ℤ) (a : Answers c 0 x) → a.most.volume < all_exports c
no-carries-less c ok x a = no-total c ok a.most.volume (a.a-no refl) a.most.largest
