-- What one store changes in the 96 numbers of a flow. Assumes nothing.
use Rattle.std.specs.Prelude.{◌≡◌, refl, List, ℕ, ◌+◌, ◌≤◌, ◌<◌, length, get_or, set, ℤ, pos}
use Rattle.std.proofs.Common.{ap, ◌∙◌, arith, length-set, get_or-set_same, get_or-set_other}
use Rattle.base_integers.specs.Meaning.Difference.{up}
use Rattle.flow_network.specs.Meaning.Network.{Network, Flow}
use Rattle.flow_scratch.specs.Meaning.Places.{amount_at, flow_of}

-- the same list except for its first 96 numbers
pub record Rest (s s' : List ℤ) : Type 0 where
  pub len : length s' ≡ length s
  pub past : (i : ℕ) → 96 ≤ i → get_or s' i (pos 0) ≡ get_or s i (pos 0)

pub rest-refl : (s : List ℤ) → Rest s s
rest-refl s = record { len = refl; past = λ i h. refl }

pub rest-trans : {s t u : List ℤ} → Rest s t → Rest t u → Rest s u
rest-trans a b = record { len = b.len ∙ a.len; past = λ i h. b.past i h ∙ a.past i h }

pub rest-set : (s : List ℤ) (k : ℕ) (v : ℤ) → k < 96 → Rest s (set s k v)
rest-set s k v h = record { len = length-set s k v; past = λ i l. get_or-set_other s k i v (pos 0) (λ e. omega arith) }

pub rest-to : (s s' : List ℤ) (k : ℕ) (v : ℤ) → k < 96 → s' ≡ set s k v → Rest s s'
rest-to s s' k v h e = rw e (rest-set s k v h)

-- ONE NUMBER CHANGES: a flow, an export used, an import used
pub record FlowSet (c : Network) (b b' : Flow) (k v : ℕ) : Type 0 where
  pub at : b'.flow k ≡ v
  pub rest : (j : ℕ) → j < c.pairs → (j ≡ k → ⊥) → b'.flow j ≡ b.flow j
  pub export-used : (z : ℕ) → z < c.zones → b'.export-used z ≡ b.export-used z
  pub import-used : (z : ℕ) → z < c.zones → b'.import-used z ≡ b.import-used z

pub record ExportUsedSet (c : Network) (b b' : Flow) (k v : ℕ) : Type 0 where
  pub at : b'.export-used k ≡ v
  pub rest : (z : ℕ) → z < c.zones → (z ≡ k → ⊥) → b'.export-used z ≡ b.export-used z
  pub flow : (j : ℕ) → j < c.pairs → b'.flow j ≡ b.flow j
  pub import-used : (z : ℕ) → z < c.zones → b'.import-used z ≡ b.import-used z

pub record ImportUsedSet (c : Network) (b b' : Flow) (k v : ℕ) : Type 0 where
  pub at : b'.import-used k ≡ v
  pub rest : (z : ℕ) → z < c.zones → (z ≡ k → ⊥) → b'.import-used z ≡ b.import-used z
  pub flow : (j : ℕ) → j < c.pairs → b'.flow j ≡ b.flow j
  pub export-used : (z : ℕ) → z < c.zones → b'.export-used z ≡ b.export-used z

module _ (c : Network) (s : List ℤ) (k v : ℕ) (zones : c.zones ≤ 16) (pairs : c.pairs ≤ 64) (room : 96 ≤ length s) where
  other : (i j : ℕ) → (j ≡ i → ⊥) → amount_at (set s i (pos v)) j ≡ amount_at s j
  other i j h = ap up (get_or-set_other s i j (pos v) (pos 0) h)

  pub set-flow : k < c.pairs → FlowSet c (flow_of s) (flow_of (set s k (pos v))) k v
  set-flow h = record {
    at = ap up (get_or-set_same s k (pos v) (pos 0) (omega arith));
    rest = λ j l e. other k j e;
    export-used = λ z l. other k (64 + z) (λ e. omega arith);
    import-used = λ z l. other k (80 + z) (λ e. omega arith);
  }

  pub set-export-used : k < c.zones → ExportUsedSet c (flow_of s) (flow_of (set s (64 + k) (pos v))) k v
  set-export-used h = record {
    at = ap up (get_or-set_same s (64 + k) (pos v) (pos 0) (omega arith));
    rest = λ z l e. other (64 + k) (64 + z) (λ w. e (omega arith));
    flow = λ j l. other (64 + k) j (λ e. omega arith);
    import-used = λ z l. other (64 + k) (80 + z) (λ e. omega arith);
  }

  pub set-import-used : k < c.zones → ImportUsedSet c (flow_of s) (flow_of (set s (80 + k) (pos v))) k v
  set-import-used h = record {
    at = ap up (get_or-set_same s (80 + k) (pos v) (pos 0) (omega arith));
    rest = λ z l e. other (80 + k) (80 + z) (λ w. e (omega arith));
    flow = λ j l. other (80 + k) j (λ e. omega arith);
    export-used = λ z l. other (80 + k) (64 + z) (λ e. omega arith);
  }
