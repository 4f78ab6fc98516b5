-- A YES AND THE LARGEST TOTAL BY FLOWS ALONE, both ways, with every sum written out. Where imports equal exports, a
-- yes is flows along counted pairs that leave each zone with what it imports. Some flows carry the largest total,
-- and no flows carry more, not even in fractions. Assumes nothing.
use Rattle.std.specs.Prelude.{◌≡◌, refl, false, ◌↔◌, ℕ, ◌+◌, ◌*◌, ◌≤◌, ◌<◌, eqb}
use Rattle.std.proofs.Common.{arith}
use Rattle.base_integers.specs.Meaning.NaturalSums.{sum_nat, only}
use Rattle.flow_network.specs.Meaning.Network.{Network, Placed, Flow, Feasible, carried, all_exports, times, Largest, FeasibleAll}
use Rattle.flow_network.proofs.Promised.Duality.{once}
use Rattle.flow_network.proofs.Promised.Worth.{every-import}

-- what the flows bring to zone z, and what they take from it
abbrev pub brought_to : Network → (ℕ → ℕ) → ℕ → ℕ
brought_to c flow z = sum_nat c.pairs (λ k. only (eqb (c.to k) z) (flow k))

abbrev pub taken_from : Network → (ℕ → ℕ) → ℕ → ℕ
taken_from c flow z = sum_nat c.pairs (λ k. only (eqb (c.from k) z) (flow k))

-- FLOWS THAT CARRY ALL: in each zone, its export and what is brought to it equal its import and what is taken from
-- it
pub record Routed (c : Network) : Type 0 where
  pub flow : ℕ → ℕ
  pub counted-only : (k : ℕ) → k < c.pairs → c.counted k ≡ false → flow k ≡ 0
  pub zone-conserved : (z : ℕ) → z < c.zones → c.exports z + brought_to c flow z ≡ c.imports z + taken_from c flow z

pub yes-routed : (c : Network) → Placed c → all_exports c ≡ sum_nat c.zones c.imports → FeasibleAll c ↔ Routed c
yes-routed c ok e = (
  λ i. record {
    flow = i.flows.flow;
    counted-only = i.feasible.along;
    zone-conserved = λ z l. omega (arith, i.feasible.conserved z l, i.every z l, every-import c ok i e z l);
  },
  λ r. record {
    flows = record { flow = r.flow; export-used = c.exports; import-used = c.imports };
    feasible = record { export-used-le = λ z l. omega arith; import-used-le = λ z l. omega arith; along = r.counted-only; conserved = r.zone-conserved };
    every = λ z l. refl;
  },
)

-- FLOWS THAT CARRY u, in fractions over d: whole ones are those over 1
pub record Shipped (c : Network) (d u : ℕ) : Type 0 where
  pub flow : ℕ → ℕ
  pub export-used : ℕ → ℕ
  pub import-used : ℕ → ℕ
  pub counted-only : (k : ℕ) → k < c.pairs → c.counted k ≡ false → flow k ≡ 0
  pub export-used-within : (z : ℕ) → z < c.zones → export-used z ≤ d * c.exports z
  pub import-used-within : (z : ℕ) → z < c.zones → import-used z ≤ d * c.imports z
  pub zone-conserved : (z : ℕ) → z < c.zones → export-used z + brought_to c flow z ≡ import-used z + taken_from c flow z
  pub total-is : sum_nat c.zones export-used ≡ u

shipped-of : (c : Network) (d : ℕ) (b : Flow) → Feasible (times d c) b → Shipped c d (carried c b)
shipped-of c d b ca = record {
  flow = b.flow;
  export-used = b.export-used;
  import-used = b.import-used;
  counted-only = ca.along;
  export-used-within = ca.export-used-le;
  import-used-within = ca.import-used-le;
  zone-conserved = ca.conserved;
  total-is = refl;
}

feasible-of : (c : Network) (d u : ℕ) (f : Shipped c d u) → Feasible (times d c) (record { flow = f.flow; export-used = f.export-used; import-used = f.import-used })
feasible-of c d u f = record { export-used-le = f.export-used-within; import-used-le = f.import-used-within; along = f.counted-only; conserved = f.zone-conserved }

-- THE LARGEST TOTAL
pub largest-is : (c : Network) (t : ℕ) → Largest c t ↔ (Shipped c 1 t × ((d u : ℕ) → Shipped c d u → u ≤ d * t))
largest-is c t = (
  λ x. (
    rw (← x.total) (shipped-of c 1 x.flows (once c x.flows x.feasible)),
    λ d u f. omega (arith, x.most d _ (feasible-of c d u f), f.total-is),
  ),
  λ w. record {
    flows = record { flow = w.0.flow; export-used = w.0.export-used; import-used = w.0.import-used };
    feasible = record {
      export-used-le = λ z l. omega (arith, w.0.export-used-within z l);
      import-used-le = λ z l. omega (arith, w.0.import-used-within z l);
      along = w.0.counted-only;
      conserved = w.0.zone-conserved;
    };
    total = w.0.total-is;
    most = λ d b ca. w.1 d (carried c b) (shipped-of c d b ca);
  },
)
