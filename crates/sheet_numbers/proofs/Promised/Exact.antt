-- THE VALUE IS EXACT. A number is all its digits over ten to the number of its decimals. Where all decimals after
-- decimal k are zero, that is its size in units of decimal k over ten to k. Assumes nothing.
use Rattle.std.specs.Prelude.{◌≡◌, refl, Bool, true, false, not, ◌||◌, List, [], ◌∷◌, ◌++◌, ℕ, zero, suc, ◌+◌, ◌*◌, ◌-◌, ◌^◌, T, eqb, length, drop}
use Rattle.std.proofs.Common.{sym, ap, ◌∙◌, subst, pow-suc, arith, eqb-true}
use Rattle.std.proofs.Math.Seq.{drop-nil}
use Rattle.text_rules.specs.Meaning.Text.{value_from, value_of}
use Rattle.sheet_numbers.specs.Meaning.Numeral.{whole, decimals, first_of, units, non_zero, finer}

-- some digits and then others
pub value-then : (v : ℕ) (a b : List ℕ) → value_from v (a ++ b) ≡ value_from (value_from v a) b
unfolding value_from
value-then v [] b = refl
value-then v (d ∷ a) b = value-then (10 * v + (d - 48)) a b

clash : true ≡ false → ⊥
clash q = subst (λ (t : Bool). T t) q tt

-- one digit that does not count, and those after it
zero-first : (d : ℕ) (ds : List ℕ) → non_zero (d ∷ ds) ≡ false → (d ≡ 48) × (non_zero ds ≡ false)
unfolding non_zero
zero-first d ds = by (eqb d 48) refl
  where
    by : (t : Bool) → eqb d 48 ≡ t → not t || non_zero ds ≡ false → (d ≡ 48) × (non_zero ds ≡ false)
    by true q e = (eqb-true d 48 q, e)
    by false q e = absurd (clash e)

regroup : (a b : ℕ) → (10 * a + 0) * b ≡ a * (b * 10)
regroup a b = omega arith

-- zeros multiply the value before them by powers of ten
zeros : (v : ℕ) (ds : List ℕ) → non_zero ds ≡ false → value_from v ds ≡ v * 10 ^ length ds
unfolding value_from
zeros v [] e = omega arith
zeros v (d ∷ ds) e =
    let z = zero-first d ds e in
    ap (λ (x : ℕ). value_from (10 * v + (x - 48)) ds) z.0 ∙ zeros (10 * v + 0) ds z.1 ∙ regroup v (10 ^ length ds) ∙ ap (λ (p : ℕ). v * p) (sym (pow-suc 10 (length ds)))

counted : (k v : ℕ) (ds : List ℕ) → non_zero (drop k ds) ≡ false → value_from v (first_of k ds) * 10 ^ length ds ≡ value_from v ds * 10 ^ k
unfolding value_from first_of non_zero
counted zero v ds e = sym (zeros v ds e) ∙ omega arith
counted (suc k) v [] e = counted k (10 * v + 0) [] (ap non_zero (drop-nil k)) ∙ regroup v (10 ^ k) ∙ ap (λ (p : ℕ). v * p) (sym (pow-suc 10 k))
counted (suc k) v (d ∷ ds) e =
    ap (λ (p : ℕ). value_from (10 * v + (d - 48)) (first_of k ds) * p) (pow-suc 10 (length ds))
    ∙ right (value_from (10 * v + (d - 48)) (first_of k ds)) (10 ^ length ds)
    ∙ ap (λ (x : ℕ). x * 10) (counted k (10 * v + (d - 48)) ds e)
    ∙ sym (right (value_from (10 * v + (d - 48)) ds) (10 ^ k))
    ∙ ap (λ (p : ℕ). value_from (10 * v + (d - 48)) ds * p) (sym (pow-suc 10 k))
  where
    right : (a b : ℕ) → a * (b * 10) ≡ a * b * 10
    right a b = omega arith

pub exact : (k : ℕ) (text : List ℕ) → finer k text ≡ false → units k text * 10 ^ length (decimals text) ≡ value_of (whole text ++ decimals text) * 10 ^ k
unfolding units finer
exact k text fine =
    ap (λ (x : ℕ). x * 10 ^ length (decimals text)) (value-then 0 (whole text) (first_of k (decimals text)))
    ∙ counted k (value_of (whole text)) (decimals text) fine
    ∙ ap (λ (x : ℕ). x * 10 ^ k) (sym (value-then 0 (whole text) (decimals text)))
