-- THE LABELS OF A SEARCH: how much can be brought to a zone (0: it is not reached); its depth, which falls along
-- the path back to a zone with export left; and the pair by which it was reached. A step of the path changes one
-- flow; the links of the earlier zones stay. Assumes nothing.
use Rattle.std.specs.Prelude.{◌≡◌, true, ℕ, ◌+◌, ◌-◌, ◌≤◌, ◌<◌}
use Rattle.std.proofs.Common.{sym, ap, ◌∙◌, arith}
use Rattle.std.proofs.Math.Decide.{ℕ_discrete}
use Rattle.flow_network.specs.Meaning.Network.{Network, Flow}
use Rattle.flow_scratch.specs.Steps.Scratch.{FlowSet, ImportUsedSet}

pub record Trail : Type 0 where
  pub lab : ℕ → ℕ
  pub dep : ℕ → ℕ
  pub by : ℕ → ℕ

-- along a pair, or back along one that carries as much
pub record Onward (c : Network) (b : Flow) (total : ℕ) (m : Trail) (z k : ℕ) : Type 0 where
  pub counts : c.counted k ≡ true
  pub lab-le : m.lab z ≤ m.lab (c.from k)
  pub dep-lt : m.dep (c.from k) < m.dep z
  pub room : b.flow k ≤ total

pub record Backward (c : Network) (b : Flow) (m : Trail) (z k : ℕ) : Type 0 where
  pub leaves : c.from k ≡ z
  pub lab-le : m.lab z ≤ m.lab (c.to k)
  pub dep-lt : m.dep (c.to k) < m.dep z
  pub enough : m.lab z ≤ b.flow k

pub record Link (c : Network) (b : Flow) (total : ℕ) (m : Trail) (z : ℕ) : Type 0 where
  pub root : m.dep z ≡ 0 → b.export-used z + m.lab z ≤ c.exports z
  pub pair : 0 < m.dep z → m.by z < c.pairs
  pub on : 0 < m.dep z → c.to (m.by z) ≡ z → Onward c b total m z (m.by z)
  pub back : 0 < m.dep z → (c.to (m.by z) ≡ z → ⊥) → Backward c b m z (m.by z)

-- the links of all zones up to a depth
abbrev pub Links : Network → Flow → ℕ → Trail → ℕ → Type 0
Links c b total m n = (y : ℕ) → y < c.zones → 0 < m.lab y → m.dep y ≤ n → Link c b total m y

module _ (c : Network) (b b' : Flow) (total d : ℕ) (m : Trail) where
  -- a link stays where its zone has the same export used and its pair still has the room or carries enough
  link_stays : (y : ℕ) → Link c b total m y → b'.export-used y ≡ b.export-used y → (0 < m.dep y → c.to (m.by y) ≡ y → b'.flow (m.by y) ≤ total)
      → (0 < m.dep y → (c.to (m.by y) ≡ y → ⊥) → m.lab y ≤ b'.flow (m.by y)) → Link c b' total m y
  link_stays y l e room enough = record {
    root = λ w. omega (arith, l.root w);
    pair = l.pair;
    on = λ w v. let o = l.on w v in record { counts = o.counts; lab-le = o.lab-le; dep-lt = o.dep-lt; room = room w v };
    back = λ w v. let o = l.back w v in record { leaves = o.leaves; lab-le = o.lab-le; dep-lt = o.dep-lt; enough = enough w v };
  }

  pub links-on : (z : ℕ) → Links c b total m (m.dep z) → c.to (m.by z) ≡ z → FlowSet c b b' (m.by z) (b.flow (m.by z) + d)
      → (n : ℕ) → n < m.dep z → Links c b' total m n
  links-on z ls e g n h y p q r =
      let l = ls y p q (omega arith) in
      link_stays y l (g.export-used y p)
      (λ w v. omega (arith, g.rest (m.by y) (l.pair w) (λ u. omega (arith, ap m.dep (sym v ∙ ap c.to u ∙ e))), (l.on w v).room))
      (λ w v. more (l.back w v).enough (l.pair w) (ℕ_discrete (m.by y) (m.by z)))
    where
      more : m.lab y ≤ b.flow (m.by y) → m.by y < c.pairs → Dec (m.by y ≡ m.by z) → m.lab y ≤ b'.flow (m.by y)
      more k v (yes u) = omega (arith, ap b.flow u, ap b'.flow u, g.at)
      more k v (no u) = omega (arith, g.rest (m.by y) v u)

  pub links-back : (z : ℕ) → Links c b total m (m.dep z) → c.from (m.by z) ≡ z → FlowSet c b b' (m.by z) (b.flow (m.by z) - d)
      → (n : ℕ) → n < m.dep z → Links c b' total m n
  links-back z ls e g n h y p q r =
      let l = ls y p q (omega arith) in
      link_stays y l (g.export-used y p) (λ w v. less (l.on w v).room (l.pair w) (ℕ_discrete (m.by y) (m.by z)))
      (λ w v. let o = l.back w v in omega (arith, g.rest (m.by y) (l.pair w) (λ u. omega (arith, ap m.dep (sym o.leaves ∙ ap c.from u ∙ e))), o.enough))
    where
      less : b.flow (m.by y) ≤ total → m.by y < c.pairs → Dec (m.by y ≡ m.by z) → b'.flow (m.by y) ≤ total
      less k v (yes u) = omega (arith, ap b.flow u, ap b'.flow u, g.at)
      less k v (no u) = omega (arith, g.rest (m.by y) v u)

  pub links-import-used : (t v n : ℕ) → Links c b total m n → ImportUsedSet c b b' t v → Links c b' total m n
  links-import-used t v n ls g y p q r =
      let l = ls y p q r in
      link_stays y l (g.export-used y p) (λ w u. omega (arith, g.flow (m.by y) (l.pair w), (l.on w u).room))
      (λ w u. omega (arith, g.flow (m.by y) (l.pair w), (l.back w u).enough))
