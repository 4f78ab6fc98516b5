-- Numbers by zone as a lent list: sixteen numbers, the first of which are a definition's. Assumes nothing.
use Rattle.std.specs.Prelude.{◌≡◌, refl, ◌≢◌, List, [], ◌∷◌, ◌++◌, ℕ, zero, suc, ◌+◌, ◌≤◌, ◌<◌, get_or, set, take, replicate, ℤ, pos}
use Rattle.std.proofs.Common.{sym, ap, ◌∙◌, arith, length-set, get_or-set_same, get_or-set_other, take-suc, SFits, to_z, of_z, to_z-of_z}
use Rattle.std.proofs.Math.Decide.{ℕ_discrete}
use Rattle.std.specs.Int.{w64}
use Rattle.flow_hour.specs.Meaning.Hour.{list_to}
use Rattle.flow_hour.specs.Steps.Lent.{Lists}

-- a number that fits, there and back: from its measure, and in a list
pub back-twice : {x : ℤ} → SFits w64 x → {r : ℤ} {b : ℕ} → r ≡ to_z w64 b → b ≡ of_z w64 x → to_z w64 (of_z w64 r) ≡ x
back-twice f p q = let e = p ∙ ap (to_z w64) q ∙ to_z-of_z f in ap (λ (y : ℤ). to_z w64 (of_z w64 y)) e ∙ to_z-of_z f

pub lists-none : (f : ℕ → ℤ) → Lists f 0 (replicate 16 (pos 0))
lists-none f = record { long = refl; each = λ z h. absurd (none z h) }
  where
    none : (z : ℕ) → z < 0 → ⊥
    none z h = omega arith

pub lists-more : (f : ℕ → ℤ) (n : ℕ) (xs : List ℤ) (x : ℤ) → n < 16 → Lists f n xs → x ≡ f n → Lists f (n + 1) (set xs n x)
lists-more f n xs x h a e = record {
  long = length-set xs n x ∙ a.long;
  each = λ z l. elim (ℕ_discrete z n) [
    | yes q ↦ ap (λ (k : ℕ). get_or (set xs n x) k (pos 0)) q ∙ get_or-set_same xs n x (pos 0) (omega (arith, a.long)) ∙ e ∙ ap f (sym q)
    | no q ↦ get_or-set_other xs n z x (pos 0) q ∙ a.each z (before z n l q)
  ];
}
  where
    before : (z n : ℕ) → z < n + 1 → z ≢ n → z < n
    before z n l q = omega arith

-- the lent part
pub part-is : (f : ℕ → ℤ) (n : ℕ) (xs : List ℤ) → n ≤ 16 → Lists f n xs → take n xs ≡ list_to n f
unfolding list_to
part-is f zero xs h a = refl
part-is f (suc n) xs h a =
    take-suc xs n (pos 0) (omega (arith, a.long))
    ∙ (λ j. part-is f n xs (omega arith) (record { long = a.long; each = λ z l. a.each z (omega arith) }) j ++ (a.each n (omega arith) j ∷ []))

pub same-list : (n : ℕ) (f g : ℕ → ℤ) → ((z : ℕ) → z < n → f z ≡ g z) → list_to n f ≡ list_to n g
unfolding list_to
same-list zero f g q = refl
same-list (suc n) f g q = λ j. same-list n f g (λ z l. q z (omega arith)) j ++ (q n (omega arith) j ∷ [])
