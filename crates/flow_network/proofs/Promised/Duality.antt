-- No flow carries more than a set that no counted pair leaves lets through. So a yes excludes a no, and the largest
-- total is unique: all exports for a yes, less for a no. Assumes nothing.
use Rattle.std.specs.Prelude.{◌≡◌, refl, Bool, true, false, not, ℕ, ◌+◌, ◌*◌, ◌≤◌, ◌<◌}
use Rattle.std.proofs.Common.{sym, ap, ◌∙◌, arith}
use Rattle.base_integers.specs.Meaning.NaturalSums.{sum_nat, only}
use Rattle.base_integers.specs.Steps.NaturalSums.{sum-ext, sum-le, sum-add, only-add, only-mono, gather}
use Rattle.flow_network.specs.Meaning.Network.{Network, Placed, Flow, inflow, outflow, Feasible, carried, all_exports, Closed, within, times, Largest, DeficientSet, FeasibleAll}

-- the rest of a set
abbrev pub besides : Network → (ℕ → Bool) → (ℕ → ℕ) → ℕ
besides c s x = sum_nat c.zones (λ z. only (not (s z)) (x z))

-- what a closed set lets through
abbrev pub cut : Network → (ℕ → Bool) → ℕ
cut c s = within c s c.imports + besides c s c.exports

split-only : (b : Bool) (x : ℕ) → only b x + only (not b) x ≡ x
split-only true x = omega arith
split-only false x = omega arith

pub split : (c : Network) (s : ℕ → Bool) (x : ℕ → ℕ) → within c s x + besides c s x ≡ sum_nat c.zones x
split c s x =
    sym (sum-add c.zones (λ z. only (s z) (x z)) (λ z. only (not (s z)) (x z)))
    ∙ sum-ext c.zones (λ z. only (s z) (x z) + only (not (s z)) (x z)) x (λ z l. split-only (s z) (x z))

-- conservation, over the zones of a set
pub set-conserved : (c : Network) → Placed c → (b : Flow) → ((z : ℕ) → z < c.zones → b.export-used z + inflow c b z ≡ b.import-used z + outflow c b z) → (s : ℕ → Bool)
    → within c s b.export-used + sum_nat c.pairs (λ k. only (s (c.to k)) (b.flow k)) ≡ within c s b.import-used + sum_nat c.pairs (λ k. only (s (c.from k)) (b.flow k))
set-conserved c ok b h s =
    let l : within c s (λ z. b.export-used z + inflow c b z) ≡ within c s (λ z. b.import-used z + outflow c b z)
    = sum-ext c.zones (λ z. only (s z) (b.export-used z + inflow c b z)) (λ z. only (s z) (b.import-used z + outflow c b z)) (λ z p. ap (only (s z)) (h z p)) in
    omega (
      arith,
      l,
      part b.export-used (inflow c b),
      part b.import-used (outflow c b),
      gather c.pairs c.zones c.to b.flow s ok.to-in,
      gather c.pairs c.zones c.from b.flow s ok.from-in,
    )
  where
    part : (x y : ℕ → ℕ) → within c s (λ z. x z + y z) ≡ within c s x + within c s y
    part x y =
        sum-ext c.zones (λ z. only (s z) (x z + y z)) (λ z. only (s z) (x z) + only (s z) (y z)) (λ z p. only-add (s z) (x z) (y z))
        ∙ sum-add c.zones (λ z. only (s z) (x z)) (λ z. only (s z) (y z))

-- a flow that starts in a closed set ends in it
pub flow-stays : (c : Network) (b : Flow) → Feasible c b → (s : ℕ → Bool) → Closed c s → (k : ℕ) → k < c.pairs
    → only (s (c.from k)) (b.flow k) ≤ only (s (c.to k)) (b.flow k)
flow-stays c b ca s sh k l = go (s (c.from k)) (s (c.to k)) (c.counted k) (b.flow k) (λ e f. sh k l e f) (ca.along k l)
  where
    go : (p q t : Bool) (x : ℕ) → (t ≡ true → p ≡ true → q ≡ true) → (t ≡ false → x ≡ 0) → only p x ≤ only q x
    go false q t x f g = omega arith
    go true true t x f g = omega arith
    go true false true x f g = let e : false ≡ true = f refl refl in absurd (bad e)
      where
        bad : false ≡ true → ⊥
        bad e = let z : ◌≡◌ {A = ℕ} 0 1 = cc in omega arith
    go true false false x f g = omega (arith, g refl)

-- WEAK DUALITY: no flow carries more than a set that no counted pair leaves lets through
pub at_most : (c : Network) → Placed c → (b : Flow) → Feasible c b → (s : ℕ → Bool) → Closed c s → carried c b ≤ cut c s
at_most c ok b ca s sh =
    omega (
      arith,
      set-conserved c ok b ca.conserved s,
      sum-le c.pairs (λ k. only (s (c.from k)) (b.flow k)) (λ k. only (s (c.to k)) (b.flow k)) (λ k l. flow-stays c b ca s sh k l),
      sum-le c.zones (λ z. only (s z) (b.import-used z)) (λ z. only (s z) (c.imports z)) (λ z l. only-mono (s z) (b.import-used z) (c.imports z) (ca.import-used-le z l)),
      sum-le c.zones (λ z. only (not (s z)) (b.export-used z)) (λ z. only (not (s z)) (c.exports z)) (λ z l. only-mono (not (s z)) (b.export-used z) (c.exports z) (ca.export-used-le z l)),
      split c s b.export-used,
    )

-- a yes and a no exclude each other, and two largest totals are equal
pub not-both : (c : Network) → Placed c → FeasibleAll c → DeficientSet c → ⊥
not-both c ok i n =
    omega (
      arith,
      at_most c ok i.flows i.feasible n.set n.closed,
      sum-ext c.zones i.flows.export-used c.exports i.every,
      split c n.set c.exports,
      n.exceeds,
    )

pub once : (c : Network) (b : Flow) → Feasible c b → Feasible (times 1 c) b
once c b ca = record { export-used-le = λ z l. omega (arith, ca.export-used-le z l); import-used-le = λ z l. omega (arith, ca.import-used-le z l); along = ca.along; conserved = ca.conserved }

pub one-largest : (c : Network) (t u : ℕ) → Largest c t → Largest c u → t ≡ u
one-largest c t u x y =
    omega (
      arith,
      x.total,
      y.total,
      x.most 1 y.flows (once c y.flows y.feasible),
      y.most 1 x.flows (once c x.flows x.feasible),
    )

-- A YES OR A NO DETERMINES THE TOTAL
pub yes-total : (c : Network) (t : ℕ) → FeasibleAll c → Largest c t → t ≡ all_exports c
yes-total c t i x =
    omega (
      arith,
      x.most 1 i.flows (once c i.flows i.feasible),
      sum-ext c.zones i.flows.export-used c.exports i.every,
      x.total,
      sum-le c.zones x.flows.export-used c.exports x.feasible.export-used-le,
    )

pub no-total : (c : Network) → Placed c → (t : ℕ) → DeficientSet c → Largest c t → t < all_exports c
no-total c ok t n x =
    omega (
      arith,
      at_most c ok x.flows x.feasible n.set n.closed,
      x.total,
      split c n.set c.exports,
      n.exceeds,
    )
