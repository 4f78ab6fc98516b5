-- The products that row 28 compares fit 64 bits, and the comparison is the row's. Assumes nothing.
use Rattle.std.specs.Prelude.{◌≡◌, ℕ, ◌<◌, ℤ, pos, ◌*ℤ◌}
use Rattle.std.proofs.Common.{arith, SFits}
use Rattle.std.proofs.Math.Option.{some}
use Rattle.std.specs.Int.Signed.{lt_z}
use Rattle.std.specs.Int.{w64}
use Rattle.base_integers.specs.Steps.Size.{near_fits, near_mul, near-unsigned}
use Rattle.base_integers.specs.Steps.Machine.{sfits-by}
use Rattle.rules.specs.Meaning.Hour.{Case, Plan}
use Rattle.rules.proofs.Steps.Passed.{CaseSound}
use Rattle.proposal_file.specs.Meaning.InRange.{VolumesInRange}
use Rattle.rules.specs.Meaning.Verdict.{exceeds_parent}

module _ (c : Case) (p : Plan) (s : CaseSound c) (in-quantity : VolumesInRange c p) where
  -- a volume of one order times a quantity of another
  pub product-fits : (i j : ℕ) → i < c.orders → j < c.orders → {x y : ℤ} → x ≡ pos (p.volume i) → y ≡ pos (c.quantity j) → SFits w64 (x *ℤ y)
  product-fits i j h l e q = sfits-by w64 (λ n. e n *ℤ q n)
      (near_fits w64 (omega arith) (near_mul (near-unsigned (p.volume i) 100000 (omega (arith, in-quantity.within i h, s.quantity-in i h))) (near-unsigned (c.quantity j) 100000 (s.quantity-in j l))))

-- the row's test
pub fraction-test : (c : Case) (p : Plan) (i j : ℕ) {x y u v : ℤ} → x ≡ pos (p.volume j) → y ≡ pos (c.quantity i) → u ≡ pos (p.volume i) → v ≡ pos (c.quantity j)
    → lt_z (x *ℤ y) (u *ℤ v) ≡ exceeds_parent c p i (some j)
fraction-test c p i j a b e d = λ n. lt_z (a n *ℤ b n) (e n *ℤ d n)
