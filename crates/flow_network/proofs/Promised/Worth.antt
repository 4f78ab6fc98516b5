-- WHAT A FLOW IS WORTH at the zones' prices. Sum over all zones what each gets less what it sends, at its price:
-- the result is the sum over all pairs of the flow times the price of the second zone less that of the first. Where
-- every counted pair goes from a lower or equal price to a higher one, it is not negative. Assumes nothing.
use Rattle.std.specs.Prelude.{◌≡◌, refl, Bool, true, false, ℕ, zero, suc, ◌+◌, ◌<◌, eqb, ℤ, pos, ◌+ℤ◌, ◌-ℤ◌, ◌*ℤ◌, ◌≤ℤ◌}
use Rattle.std.proofs.Common.{sym, ap, ◌∙◌, arith}
use Rattle.base_integers.specs.Steps.Difference.{at, ◌⊕◌, ◌⊖◌, ◌⊗◌, eq-by, le-by}
use Rattle.base_integers.specs.Steps.Order.{diff-nonneg, times-nonneg}
use Rattle.base_integers.specs.Steps.Sums as whole
use Rattle.base_integers.specs.Meaning.Sums as meant
use Rattle.base_integers.specs.Meaning.Sums.{sum_to}
use Rattle.base_integers.specs.Meaning.NaturalSums.{sum_nat, only}
use Rattle.base_integers.specs.Steps.NaturalSums.{each-equal, sum-ext}
use Rattle.flow_network.proofs.Promised.Duality.{set-conserved}
use Rattle.flow_network.specs.Meaning.Network.{Network, Placed, Flow, inflow, outflow, Feasible, all_exports, FeasibleAll}

-- each counted pair goes from a lower or equal price to a higher one
abbrev pub Rising : Network → (ℕ → ℤ) → Type 0
Rising c price = (k : ℕ) → k < c.pairs → c.counted k ≡ true → price (c.from k) ≤ℤ price (c.to k)

-- a pair's flow times its gain in price
abbrev pub gain : Network → Flow → (ℕ → ℤ) → ℕ → ℤ
gain c b price k = pos (b.flow k) *ℤ (price (c.to k) -ℤ price (c.from k))

-- what a zone gets less what it sends, at its price
abbrev pub worth : Flow → (ℕ → ℤ) → ℕ → ℤ
worth b price z = (pos (b.import-used z) -ℤ pos (b.export-used z)) *ℤ price z

-- a sum of naturals as integers
only-pos : (b : Bool) (x : ℕ) → pos (only b x) ≡ meant.only b (pos x)
only-pos true x = refl
only-pos false x = refl

sum-pos : (n : ℕ) (f : ℕ → ℕ) → pos (sum_nat n f) ≡ sum_to n (λ i. pos (f i))
unfolding sum_nat sum_to
sum-pos zero f = refl
sum-pos (suc n) f = eq-by (at (pos (sum_nat n f + f n))) (at (pos (sum_nat n f)) ⊕ at (pos (f n))) (omega arith) ∙ ap (λ (x : ℤ). x +ℤ pos (f n)) (sum-pos n f)

keyed-pos : (n : ℕ) (key : ℕ → ℕ) (x : ℕ → ℕ) (z : ℕ) → pos (sum_nat n (λ k. only (eqb (key k) z) (x k))) ≡ sum_to n (λ k. meant.only (eqb (key k) z) (pos (x k)))
keyed-pos n key x z = sum-pos n (λ k. only (eqb (key k) z) (x k)) ∙ whole.sum-ext n _ _ (λ k l. only-pos (eqb (key k) z) (x k))

-- the flow along the pairs whose key is z, as integers
abbrev keyed : Network → Flow → (ℕ → ℕ) → ℕ → ℤ
keyed c b key z = sum_to c.pairs (λ k. meant.only (eqb (key k) z) (pos (b.flow k)))

-- THE SUM OVER ZONES IS THE SUM OVER PAIRS
pub worth-is : (c : Network) → Placed c → (b : Flow) → Feasible c b → (price : ℕ → ℤ) → sum_to c.zones (worth b price) ≡ sum_to c.pairs (gain c b price)
worth-is c ok b ca price =
    whole.sum-ext c.zones _ _ each
    ∙ whole.sum-sub c.zones (λ z. keyed c b c.to z *ℤ price z) (λ z. keyed c b c.from z *ℤ price z)
    ∙ (λ j. whole.gather c.pairs c.zones c.to (λ k. pos (b.flow k)) price ok.to-in j -ℤ whole.gather c.pairs c.zones c.from (λ k. pos (b.flow k)) price ok.from-in j)
    ∙ sym (whole.sum-sub c.pairs (λ k. pos (b.flow k) *ℤ price (c.to k)) (λ k. pos (b.flow k) *ℤ price (c.from k)))
    ∙ whole.sum-ext c.pairs _ _ (λ k l. ring (pos (b.flow k)) (price (c.to k)) (price (c.from k)))
  where
    ring : (x p q : ℤ) → x *ℤ p -ℤ x *ℤ q ≡ x *ℤ (p -ℤ q)
    ring x p q = eq-by (at x ⊗ at p ⊖ at x ⊗ at q) (at x ⊗ (at p ⊖ at q)) (omega arith)

    moved : (s i g o : ℕ) → s + i ≡ g + o → (p : ℤ) → (pos g -ℤ pos s) *ℤ p ≡ pos i *ℤ p -ℤ pos o *ℤ p
    moved s i g o e p = ap (λ (x : ℤ). x *ℤ p) (eq-by (at (pos g) ⊖ at (pos s)) (at (pos i) ⊖ at (pos o)) (omega arith))
        ∙ eq-by ((at (pos i) ⊖ at (pos o)) ⊗ at p) (at (pos i) ⊗ at p ⊖ at (pos o) ⊗ at p) (omega arith)

    each : (z : ℕ) → z < c.zones → worth b price z ≡ keyed c b c.to z *ℤ price z -ℤ keyed c b c.from z *ℤ price z
    each z l = moved (b.export-used z) (inflow c b z) (b.import-used z) (outflow c b z) (ca.conserved z l) (price z)
        ∙ (λ j. keyed-pos c.pairs c.to b.flow z j *ℤ price z -ℤ keyed-pos c.pairs c.from b.flow z j *ℤ price z)

-- NO FLOW LOSES where each counted pair rises
pub gains : (c : Network) (b : Flow) → Feasible c b → (price : ℕ → ℤ) → Rising c price → (k : ℕ) → k < c.pairs → pos 0 ≤ℤ gain c b price k
gains c b ca price up k l = by (c.counted k) refl
  where
    none : (x : ℤ) → pos 0 ≤ℤ (pos 0 *ℤ x)
    none x = le-by (at (pos 0)) (at (pos 0) ⊗ at x) (omega arith)

    by : (t : Bool) → c.counted k ≡ t → pos 0 ≤ℤ gain c b price k
    by true e = times-nonneg (b.flow k) (diff-nonneg (up k l e))
    by false e = rw (ca.along k l e) (none (price (c.to k) -ℤ price (c.from k)))

pub worth-nonneg : (c : Network) → Placed c → (b : Flow) → Feasible c b → (price : ℕ → ℤ) → Rising c price → pos 0 ≤ℤ sum_to c.zones (worth b price)
worth-nonneg c ok b ca price up = rw (worth-is c ok b ca price) (whole.sum_nonneg c.pairs (gain c b price) (gains c b ca price up))

-- WHERE EXPORTS AND IMPORTS ARE EQUAL, a flow that carries every export fills every import
pub total-conserved : (c : Network) → Placed c → (b : Flow) → Feasible c b → sum_nat c.zones b.export-used ≡ sum_nat c.zones b.import-used
total-conserved c ok b ca = omega (arith, set-conserved c ok b ca.conserved (λ z. true))

pub every-import : (c : Network) → Placed c → (i : FeasibleAll c) → all_exports c ≡ sum_nat c.zones c.imports → (z : ℕ) → z < c.zones → i.flows.import-used z ≡ c.imports z
every-import c ok i e = each-equal c.zones i.flows.import-used c.imports i.feasible.import-used-le
    (omega (arith, total-conserved c ok i.flows i.feasible, sum-ext c.zones i.flows.export-used c.exports i.every, e))

-- FOR A YES: imports less exports, at the prices, are what its flows gain, and not negative
pub yes-worth : (c : Network) → Placed c → (i : FeasibleAll c) → all_exports c ≡ sum_nat c.zones c.imports → (price : ℕ → ℤ)
    → sum_to c.zones (λ z. (pos (c.imports z) -ℤ pos (c.exports z)) *ℤ price z) ≡ sum_to c.pairs (gain c i.flows price)
yes-worth c ok i e price =
    whole.sum-ext c.zones _ _ (λ z l. λ j. (pos (sym (every-import c ok i e z l) j) -ℤ pos (sym (i.every z l) j)) *ℤ price z)
    ∙ worth-is c ok i.flows i.feasible price

pub yes-nonneg : (c : Network) → Placed c → FeasibleAll c → all_exports c ≡ sum_nat c.zones c.imports → (price : ℕ → ℤ) → Rising c price
    → pos 0 ≤ℤ sum_to c.zones (λ z. (pos (c.imports z) -ℤ pos (c.exports z)) *ℤ price z)
yes-nonneg c ok i e price up = rw (yes-worth c ok i e price) (whole.sum_nonneg c.pairs (gain c i.flows price) (gains c i.flows i.feasible price up))
