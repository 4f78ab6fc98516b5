-- Flows that leave no augmenting path carry as much as a closed set lets through: the largest total, which decides
-- the yes or no. Assumes nothing.
use Rattle.std.specs.Prelude.{◌≡◌, refl, Bool, true, false, not, ℕ, ◌+◌, ◌*◌, ◌≤◌, ◌<◌}
use Rattle.std.proofs.Common.{sym, ap, ◌∙◌, arith}
use Rattle.base_integers.specs.Meaning.NaturalSums.{sum_nat, only}
use Rattle.base_integers.specs.Steps.NaturalSums.{sum-ext, sum-scale, only-scale, each-equal}
use Rattle.flow_network.specs.Meaning.Network.{Network, Placed, Flow, Feasible, carried, all_exports, Closed, times, Largest, DeficientSet, FeasibleAll}
use Rattle.flow_network.proofs.Promised.Duality.{cut, split, set-conserved, flow-stays, at_most}
use Rattle.flow_network.specs.Steps.Saturated.{Saturated}

pub as-much : (c : Network) → Placed c → (b : Flow) → Feasible c b → (s : ℕ → Bool) → Saturated c b s → carried c b ≡ cut c s
as-much c ok b ca s f =
    omega (
      arith,
      set-conserved c ok b ca.conserved s,
      sum-ext c.pairs (λ k. only (s (c.from k)) (b.flow k)) (λ k. only (s (c.to k)) (b.flow k)) same_flow,
      sum-ext c.zones (λ z. only (s z) (b.import-used z)) (λ z. only (s z) (c.imports z)) (λ z l. in-set (s z) (b.import-used z) (c.imports z) (f.inside z l)),
      sum-ext c.zones (λ z. only (not (s z)) (b.export-used z)) (λ z. only (not (s z)) (c.exports z)) (λ z l. out-set (s z) (b.export-used z) (c.exports z) (f.outside z l)),
      split c s b.export-used,
    )
  where
    in-set : (p : Bool) (x y : ℕ) → (p ≡ true → x ≡ y) → only p x ≡ only p y
    in-set true x y h = h refl
    in-set false x y h = refl

    out-set : (p : Bool) (x y : ℕ) → (p ≡ false → x ≡ y) → only (not p) x ≡ only (not p) y
    out-set true x y h = refl
    out-set false x y h = h refl

    both : (p q : Bool) (x : ℕ) → only p x ≤ only q x → (q ≡ true → p ≡ false → x ≡ 0) → only p x ≡ only q x
    both true true x h g = refl
    both true false x h g = omega arith
    both false true x h g = sym (g refl refl)
    both false false x h g = refl

    same_flow : (k : ℕ) → k < c.pairs → only (s (c.from k)) (b.flow k) ≡ only (s (c.to k)) (b.flow k)
    same_flow k l = both (s (c.from k)) (s (c.to k)) (b.flow k) (flow-stays c b ca s f.closed k l) (f.back k l)

cut-times : (d : ℕ) (c : Network) (s : ℕ → Bool) → cut (times d c) s ≡ d * cut c s
cut-times d c s = omega (arith, pull c.imports s, pull c.exports (λ z. not (s z)))
  where
    pull : (x : ℕ → ℕ) (q : ℕ → Bool) → sum_nat c.zones (λ z. only (q z) (d * x z)) ≡ d * sum_nat c.zones (λ z. only (q z) (x z))
    pull x q =
        sum-ext c.zones (λ z. only (q z) (d * x z)) (λ z. d * only (q z) (x z)) (λ z l. only-scale (q z) d (x z))
        ∙ sum-scale c.zones d (λ z. only (q z) (x z))

-- flows without an augmenting path carry the largest total
pub largest-of : (c : Network) → Placed c → (b : Flow) → Feasible c b → (s : ℕ → Bool) → Saturated c b s → Largest c (carried c b)
largest-of c ok b ca s f = record { flows = b; feasible = ca; total = refl; most = most }
  where
    most : (d : ℕ) (y : Flow) → Feasible (times d c) y → carried c y ≤ d * carried c b
    most d y cy =
        omega (
          arith,
          at_most (times d c) (record { from-in = ok.from-in; to-in = ok.to-in }) y cy s f.closed,
          cut-times d c s,
          ap (λ (k : ℕ). d * k) (as-much c ok b ca s f),
        )

pub yes_of : (c : Network) (b : Flow) → Feasible c b → carried c b ≡ all_exports c → FeasibleAll c
yes_of c b ca e = record { flows = b; feasible = ca; every = each-equal c.zones b.export-used c.exports ca.export-used-le e }

pub no_of : (c : Network) → Placed c → (b : Flow) → Feasible c b → (s : ℕ → Bool) → Saturated c b s → carried c b < all_exports c → DeficientSet c
no_of c ok b ca s f h = record { set = s; closed = f.closed; exceeds = omega (arith, as-much c ok b ca s f, split c s c.exports) }
