-- REQUEST S-3: zones that export or import, ordered pairs of zones, some of which count, and flows of exports to
-- imports along counted pairs. Volumes are naturals. Assumes nothing.
use Rattle.std.specs.Prelude.{◌≡◌, Bool, true, false, ℕ, ◌+◌, ◌*◌, ◌≤◌, ◌<◌, eqb}
use Rattle.base_integers.specs.Meaning.NaturalSums.{sum_nat, only}

pub record Network : Type 0 where
  pub zones : ℕ
  pub pairs : ℕ
  pub from : ℕ → ℕ
  pub to : ℕ → ℕ
  pub counted : ℕ → Bool
  pub exports : ℕ → ℕ
  pub imports : ℕ → ℕ

-- each pair has two zones of the network
pub record Placed (c : Network) : Type 0 where
  pub from-in : (k : ℕ) → k < c.pairs → c.from k < c.zones
  pub to-in : (k : ℕ) → k < c.pairs → c.to k < c.zones

-- for each pair its flow; for each zone its export used and its import used
pub record Flow : Type 0 where
  pub flow : ℕ → ℕ
  pub export-used : ℕ → ℕ
  pub import-used : ℕ → ℕ

-- the flow into a zone and out of it
abbrev pub inflow : Network → Flow → ℕ → ℕ
inflow c b z = sum_nat c.pairs (λ k. only (eqb (c.to k) z) (b.flow k))

abbrev pub outflow : Network → Flow → ℕ → ℕ
outflow c b z = sum_nat c.pairs (λ k. only (eqb (c.from k) z) (b.flow k))

-- A FLOW: within the exports and imports, along counted pairs only, and conserved in every zone
pub record Feasible (c : Network) (b : Flow) : Type 0 where
  pub export-used-le : (z : ℕ) → z < c.zones → b.export-used z ≤ c.exports z
  pub import-used-le : (z : ℕ) → z < c.zones → b.import-used z ≤ c.imports z
  pub along : (k : ℕ) → k < c.pairs → c.counted k ≡ false → b.flow k ≡ 0
  pub conserved : (z : ℕ) → z < c.zones → b.export-used z + inflow c b z ≡ b.import-used z + outflow c b z

-- its total, and that of all exports
abbrev pub carried : Network → Flow → ℕ
carried c b = sum_nat c.zones b.export-used

abbrev pub all_exports : Network → ℕ
all_exports c = sum_nat c.zones c.exports

-- the network with each export and import d times as large: its flows are the flows in fractions over d
abbrev pub times : ℕ → Network → Network
times d c = record {
  zones = c.zones;
  pairs = c.pairs;
  from = c.from;
  to = c.to;
  counted = c.counted;
  exports = λ z. d * c.exports z;
  imports = λ z. d * c.imports z;
}

-- THE LARGEST TOTAL: some flow carries t, and none carries more, not even in fractions over any denominator
pub record Largest (c : Network) (t : ℕ) : Type 0 where
  pub flows : Flow
  pub feasible : Feasible c flows
  pub total : carried c flows ≡ t
  pub most : (d : ℕ) (b : Flow) → Feasible (times d c) b → carried c b ≤ d * t

-- a set of zones that no counted pair leaves
abbrev pub Closed : Network → (ℕ → Bool) → Type 0
Closed c s = (k : ℕ) → k < c.pairs → c.counted k ≡ true → s (c.from k) ≡ true → s (c.to k) ≡ true

-- a sum over the zones of a set
abbrev pub within : Network → (ℕ → Bool) → (ℕ → ℕ) → ℕ
within c s x = sum_nat c.zones (λ z. only (s z) (x z))

-- A YES: a flow that carries every export to imports
pub record FeasibleAll (c : Network) : Type 0 where
  pub flows : Flow
  pub feasible : Feasible c flows
  pub every : (z : ℕ) → z < c.zones → flows.export-used z ≡ c.exports z

-- A NO: a set of zones that no counted pair leaves and whose exports exceed its imports
pub record DeficientSet (c : Network) : Type 0 where
  pub set : ℕ → Bool
  pub closed : Closed c set
  pub exceeds : within c set c.imports < within c set c.exports
