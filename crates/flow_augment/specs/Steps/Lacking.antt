-- AN AUGMENTING PATH, one pair at a time. First the import of its last zone is used for d more, so that this zone
-- lacks d. Then a pair that leads to it carries d more, or a pair that leaves it d less, and the pair's other zone
-- lacks d. At a zone with export left, that export is used for d more, and no zone lacks anything. Assumes nothing.
use Rattle.std.specs.Prelude.{◌≡◌, Bool, true, false, ℕ, ◌+◌, ◌-◌, ◌≤◌, ◌<◌, eqb}
use Rattle.std.proofs.Common.{sym, ap, ◌∙◌, arith, eq-eqb, ne_eqb}
use Rattle.std.proofs.Math.Decide.{ℕ_discrete}
use Rattle.base_integers.specs.Meaning.NaturalSums.{sum_nat, only}
use Rattle.base_integers.specs.Steps.NaturalSums.{sum-ext, sum_one, only-add}
use Rattle.flow_network.specs.Meaning.Network.{Network, Flow, inflow, outflow, Feasible, carried}
use Rattle.flow_scratch.specs.Steps.Scratch.{FlowSet, ExportUsedSet, ImportUsedSet}

-- flows in which zone z lacks d: with d more its flow would be conserved
pub record Lacking (c : Network) (b : Flow) (total d z : ℕ) : Type 0 where
  pub export-used-le : (y : ℕ) → y < c.zones → b.export-used y ≤ c.exports y
  pub import-used-le : (y : ℕ) → y < c.zones → b.import-used y ≤ c.imports y
  pub along : (k : ℕ) → k < c.pairs → c.counted k ≡ false → b.flow k ≡ 0
  pub conserved : (y : ℕ) → y < c.zones → (b.export-used y + inflow c b y) + only (eqb z y) d ≡ b.import-used y + outflow c b y
  pub sum : carried c b ≡ total
  pub flows : (k : ℕ) → k < c.pairs → b.flow k ≤ total + d

-- a flow that carries a total; no amount on a pair is above the total
pub record State (c : Network) (b : Flow) (total : ℕ) : Type 0 where
  pub feasible : Feasible c b
  pub sum : carried c b ≡ total
  pub flows : (k : ℕ) → k < c.pairs → b.flow k ≤ total

clash : {A : Type 0} → true ≡ false → A
clash e = let z : ◌≡◌ {A = ℕ} 0 1 = cc in absurd (omega arith)

-- a sum over the pairs where pair k has d more
picked : (n k d : ℕ) (q : ℕ → Bool) (f g : ℕ → ℕ) → k < n → g k ≡ f k + d → ((j : ℕ) → j < n → (j ≡ k → ⊥) → g j ≡ f j)
    → sum_nat n (λ j. only (q j) (g j)) ≡ sum_nat n (λ j. only (q j) (f j)) + only (q k) d
picked n k d q f g h more e =
    omega (
      arith,
      sum_one n k (λ j. only (q j) (f j)) (λ j. only (q j) (g j)) h (λ j l w. ap (only (q j)) (e j l w)),
      ap (only (q k)) more,
      only-add (q k) (f k) d,
    )

-- an amount of zone t increased by d
used-more : (n t d : ℕ) (f g : ℕ → ℕ) → g t ≡ f t + d → ((y : ℕ) → y < n → (y ≡ t → ⊥) → g y ≡ f y) → (y : ℕ) → y < n → g y ≡ f y + only (eqb t y) d
used-more n t d f g at rest y p = elim (ℕ_discrete t y) [
  | yes e ↦ omega (arith, at, ap f e, ap g e, ap (λ (q : Bool). only q d) (eq-eqb t y e))
  | no e ↦ omega (arith, rest y p (λ w. e (sym w)), ap (λ (q : Bool). only q d) (ne_eqb t y e))
]

module _ (c : Network) (b b' : Flow) (total d : ℕ) where
  same_in : ((j : ℕ) → j < c.pairs → b'.flow j ≡ b.flow j) → (y : ℕ) → inflow c b' y ≡ inflow c b y
  same_in h y = sum-ext c.pairs _ _ (λ j l. ap (only (eqb (c.to j) y)) (h j l))

  same_out : ((j : ℕ) → j < c.pairs → b'.flow j ≡ b.flow j) → (y : ℕ) → outflow c b' y ≡ outflow c b y
  same_out h y = sum-ext c.pairs _ _ (λ j l. ap (only (eqb (c.from j) y)) (h j l))

  -- the import of a zone is used for d more: it lacks d
  pub use-import : (t : ℕ) → State c b total → t < c.zones → ImportUsedSet c b b' t (b.import-used t + d) → b.import-used t + d ≤ c.imports t → Lacking c b' total d t
  use-import t st l g h =
      record {
        export-used-le = λ y p. omega (arith, g.export-used y p, st.feasible.export-used-le y p);
        import-used-le = λ y p. by-import-used y p (ℕ_discrete y t);
        along = λ k p e. g.flow k p ∙ st.feasible.along k p e;
        conserved = λ y p. omega (arith, st.feasible.conserved y p, g.export-used y p, same_in g.flow y, same_out g.flow y, used-more c.zones t d b.import-used b'.import-used g.at g.rest y p);
        sum = sum-ext c.zones b'.export-used b.export-used g.export-used ∙ st.sum;
        flows = λ k p. omega (arith, g.flow k p, st.flows k p);
      }
    where
      by-import-used : (y : ℕ) → y < c.zones → Dec (y ≡ t) → b'.import-used y ≤ c.imports y
      by-import-used y p (yes e) = omega (arith, ap b'.import-used e, ap c.imports e, g.at)
      by-import-used y p (no e) = omega (arith, g.rest y p e, st.feasible.import-used-le y p)

  -- a pair that leads to the lacking zone carries d more: its first zone lacks d
  pub more-along : (k z : ℕ) → Lacking c b total d z → k < c.pairs → c.to k ≡ z → c.counted k ≡ true → b.flow k ≤ total → FlowSet c b b' k (b.flow k + d)
      → Lacking c b' total d (c.from k)
  more-along k z sh l e t r g =
      record {
        export-used-le = λ y p. omega (arith, g.export-used y p, sh.export-used-le y p);
        import-used-le = λ y p. omega (arith, g.import-used y p, sh.import-used-le y p);
        along = λ j p w. by-along j p w (ℕ_discrete j k);
        conserved = λ y p. omega (
          arith,
          sh.conserved y p,
          g.export-used y p,
          g.import-used y p,
          picked c.pairs k d (λ j. eqb (c.to j) y) b.flow b'.flow l g.at g.rest,
          picked c.pairs k d (λ j. eqb (c.from j) y) b.flow b'.flow l g.at g.rest,
          ap (λ (x : ℕ). only (eqb x y) d) e,
        );
        sum = sum-ext c.zones b'.export-used b.export-used g.export-used ∙ sh.sum;
        flows = λ j p. by-flows j p (ℕ_discrete j k);
      }
    where
      by-along : (j : ℕ) → j < c.pairs → c.counted j ≡ false → Dec (j ≡ k) → b'.flow j ≡ 0
      by-along j p w (yes q) = clash (sym t ∙ ap c.counted (sym q) ∙ w)
      by-along j p w (no q) = g.rest j p q ∙ sh.along j p w

      by-flows : (j : ℕ) → j < c.pairs → Dec (j ≡ k) → b'.flow j ≤ total + d
      by-flows j p (yes q) = omega (arith, ap b'.flow q, g.at)
      by-flows j p (no q) = omega (arith, g.rest j p q, sh.flows j p)

  -- a pair that leaves the lacking zone carries d less: its second zone lacks d
  pub less-along : (k z : ℕ) → Lacking c b total d z → k < c.pairs → c.from k ≡ z → d ≤ b.flow k → FlowSet c b b' k (b.flow k - d)
      → Lacking c b' total d (c.to k)
  less-along k z sh l e r g =
      record {
        export-used-le = λ y p. omega (arith, g.export-used y p, sh.export-used-le y p);
        import-used-le = λ y p. omega (arith, g.import-used y p, sh.import-used-le y p);
        along = λ j p w. by-along j p w (ℕ_discrete j k);
        conserved = λ y p. omega (
          arith,
          sh.conserved y p,
          g.export-used y p,
          g.import-used y p,
          picked c.pairs k d (λ j. eqb (c.to j) y) b'.flow b.flow l back (λ j p w. sym (g.rest j p w)),
          picked c.pairs k d (λ j. eqb (c.from j) y) b'.flow b.flow l back (λ j p w. sym (g.rest j p w)),
          ap (λ (x : ℕ). only (eqb x y) d) e,
        );
        sum = sum-ext c.zones b'.export-used b.export-used g.export-used ∙ sh.sum;
        flows = λ j p. by-flows j p (ℕ_discrete j k);
      }
    where
      back : b.flow k ≡ b'.flow k + d
      back = omega (arith, g.at)

      by-along : (j : ℕ) → j < c.pairs → c.counted j ≡ false → Dec (j ≡ k) → b'.flow j ≡ 0
      by-along j p w (yes q) = omega (arith, sh.along j p w, ap b.flow q, ap b'.flow q, back)
      by-along j p w (no q) = g.rest j p q ∙ sh.along j p w

      by-flows : (j : ℕ) → j < c.pairs → Dec (j ≡ k) → b'.flow j ≤ total + d
      by-flows j p (yes q) = omega (arith, ap b'.flow q, back, sh.flows k l)
      by-flows j p (no q) = omega (arith, g.rest j p q, sh.flows j p)

  -- the export of the lacking zone is used for d more: flow is conserved in all zones, and d more is carried
  pub use-export : (z : ℕ) → Lacking c b total d z → z < c.zones → ExportUsedSet c b b' z (b.export-used z + d) → b.export-used z + d ≤ c.exports z → State c b' (total + d)
  use-export z sh l g h =
      record {
        feasible = record {
          export-used-le = λ y p. by-export-used y p (ℕ_discrete y z);
          import-used-le = λ y p. omega (arith, g.import-used y p, sh.import-used-le y p);
          along = λ k p e. g.flow k p ∙ sh.along k p e;
          conserved = λ y p. omega (arith, sh.conserved y p, g.import-used y p, same_in g.flow y, same_out g.flow y, used-more c.zones z d b.export-used b'.export-used g.at g.rest y p);
        };
        sum = omega (arith, sum_one c.zones z b.export-used b'.export-used l g.rest, g.at, sh.sum);
        flows = λ k p. omega (arith, g.flow k p, sh.flows k p);
      }
    where
      by-export-used : (y : ℕ) → y < c.zones → Dec (y ≡ z) → b'.export-used y ≤ c.exports y
      by-export-used y p (yes e) = omega (arith, ap b'.export-used e, ap c.exports e, g.at)
      by-export-used y p (no e) = omega (arith, g.rest y p e, sh.export-used-le y p)
