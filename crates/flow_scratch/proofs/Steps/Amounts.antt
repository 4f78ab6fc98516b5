-- The positive and the negative part of a signed number, by the machine's test. Assumes nothing.
use Rattle.std.specs.Prelude.{◌≡◌, refl, true, false, ℕ, T, ℤ, pos, negsuc, neg_ℤ, nat_abs}
use Rattle.std.proofs.Common.{arith, ltb-true}
use Rattle.std.specs.Int.Signed.{lt_z, non_neg}
use Rattle.base_integers.specs.Meaning.Difference.{up, dn}

clash : true ≡ false → ⊥
clash e = let z : ◌≡◌ {A = ℕ} 0 1 = cc in omega arith

pub up-below : (x : ℤ) → lt_z x (pos 0) ≡ true → up x ≡ 0
up-below (pos a) e = absurd (omega (arith, ltb-true a 0 e))
up-below (negsuc n) e = refl

pub up-else : (x : ℤ) → lt_z x (pos 0) ≡ false → nat_abs x ≡ up x
up-else (pos a) e = refl
up-else (negsuc n) e = absurd (clash e)

pub not-below : (x : ℤ) → lt_z x (pos 0) ≡ false → T (non_neg x)
not-below (pos a) e = tt
not-below (negsuc n) e = absurd (clash e)

pub dn-below : (x : ℤ) → lt_z x (pos 0) ≡ true → neg_ℤ x ≡ pos (dn x)
dn-below (pos a) e = absurd (omega (arith, ltb-true a 0 e))
dn-below (negsuc n) e = refl

pub dn-else : (x : ℤ) → lt_z x (pos 0) ≡ false → dn x ≡ 0
dn-else (pos a) e = refl
dn-else (negsuc n) e = absurd (clash e)
