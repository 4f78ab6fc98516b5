-- Commercial flows and the net positions that they bring about. RULE 3: "000 writes unbounded commercial flows
-- here; over connected zones that says the same". `net-sum`: the net positions of any flows sum to zero.
-- `balanced-carried`: flows along lines bring about any positions that sum to zero. Assumes nothing.
use Rattle.std.specs.Prelude.{◌≡◌, refl, Bool, not, ◌||◌, T, eqb, ℤ, ◌+ℤ◌, ◌-ℤ◌, ◌*ℤ◌, ◌≤ℤ◌}
use Rattle.std.proofs.Common.{sym, ap, ◌∙◌, add-one, arith}
use Rattle.std.proofs.Math.Bool.{true, false}
use Prim.Native.Nat.{ℕ, zero, suc, ◌+◌, ◌≤◌, ◌<◌}
use Rattle.std.proofs.Math.Dec.{eqb→eq, eqb_refl, T_not}
use Rattle.std.proofs.Math.IntN.{pos, negsuc}
use Rattle.std.specs.Int.Signed.{≤ℤ_refl}
use Rattle.base_integers.specs.Steps.Difference.{at, ◌⊕◌, ◌⊖◌, ◌⊗◌, le-by, eq-by}
use Rattle.base_integers.specs.Steps.Order.{add-nonneg, times-nonneg}
use Rattle.base_integers.specs.Steps.Ranges.{or_left, or_right}
use Rattle.base_integers.specs.Meaning.Sums.{sum_to, only}
use Rattle.base_integers.specs.Steps.Sums.{sum-ext, sum-zero, sum-add, sum-sub, sum-scale, sum-scale-l, sum-swap, only-on, only-off, only-swap, sum_one, sum-key, sum-exchanged}
use Rattle.rules.specs.Meaning.Annex.{Route, here, onward, Connected, every_pair, net_flow}

-- NET FLOWS
-- a zone's flow to itself cancels
pub net-plain : (n : ℕ) (f : ℕ → ℕ → ℤ) (l : ℕ) → net_flow n f l ≡ sum_to n (λ k. f k l) -ℤ sum_to n (λ k. f l k)
unfolding net_flow
net-plain n f l = sum-ext n _ (λ k. f k l -ℤ f l k) (λ k h. off (eqb k l) k (eqb→eq k l)) ∙ sum-sub n (λ k. f k l) (λ k. f l k)
  where
    off : (b : Bool) (k : ℕ) → (T b → k ≡ l) → only (not b) (f k l -ℤ f l k) ≡ f k l -ℤ f l k
    off true k e = rw (e tt) (eq-by (at (pos 0)) (at (f l l) ⊖ at (f l l)) (omega arith))
    off false k e = refl

pub net-sum : (n : ℕ) (f : ℕ → ℕ → ℤ) → sum_to n (λ l. net_flow n f l) ≡ pos 0
net-sum n f = sum-ext n _ _ (λ l h. net-plain n f l) ∙ sum-exchanged n f

pub net-ext : (n : ℕ) (f g : ℕ → ℕ → ℤ) → ((l k : ℕ) → l < n → k < n → f l k ≡ g l k) → (l : ℕ) → l < n → net_flow n f l ≡ net_flow n g l
net-ext n f g e l h =
    net-plain n f l ∙ (cc (sum-ext n (λ k. f k l) (λ k. g k l) (λ k i. e k l i h), sum-ext n (λ k. f l k) (λ k. g l k) (λ k i. e l k h i))) ∙ sym (net-plain n g l)

pub net-zero : (n l : ℕ) → net_flow n (λ l k. pos 0) l ≡ pos 0
net-zero n l = net-plain n (λ l k. pos 0) l ∙ (cc (sum-zero n))

pub net-add : (n : ℕ) (f g : ℕ → ℕ → ℤ) (l : ℕ) → net_flow n (λ l k. f l k +ℤ g l k) l ≡ net_flow n f l +ℤ net_flow n g l
net-add n f g l =
    net-plain n (λ l k. f l k +ℤ g l k) l
    ∙ (cc (sum-add n (λ k. f k l) (λ k. g k l), sum-add n (λ k. f l k) (λ k. g l k)))
    ∙ regroup (sum_to n (λ k. f k l)) (sum_to n (λ k. g k l)) (sum_to n (λ k. f l k)) (sum_to n (λ k. g l k))
    ∙ (cc (net-plain n f l, net-plain n g l))
  where
    regroup : (a b e f : ℤ) → (a +ℤ b) -ℤ (e +ℤ f) ≡ (a -ℤ e) +ℤ (b -ℤ f)
    regroup a b e f = eq-by ((at a ⊕ at b) ⊖ (at e ⊕ at f)) ((at a ⊖ at e) ⊕ (at b ⊖ at f)) (omega arith)

pub net-scale : (n : ℕ) (z : ℤ) (f : ℕ → ℕ → ℤ) (l : ℕ) → net_flow n (λ l k. z *ℤ f l k) l ≡ z *ℤ net_flow n f l
net-scale n z f l =
    net-plain n (λ l k. z *ℤ f l k) l
    ∙ (cc (sum-scale-l n (λ k. f k l) z, sum-scale-l n (λ k. f l k) z))
    ∙ factor z (sum_to n (λ k. f k l)) (sum_to n (λ k. f l k))
    ∙ ap (λ (y : ℤ). z *ℤ y) (sym (net-plain n f l))
  where
    factor : (k a b : ℤ) → k *ℤ a -ℤ k *ℤ b ≡ k *ℤ (a -ℤ b)
    factor k a b = eq-by (at k ⊗ at a ⊖ at k ⊗ at b) (at k ⊗ (at a ⊖ at b)) (omega arith)

-- at a price for each zone, the net positions are worth what the flows gain on their way
pub net-priced : (n : ℕ) (f : ℕ → ℕ → ℤ) (price : ℕ → ℤ) → sum_to n (λ l. net_flow n f l *ℤ price l) ≡ sum_to n (λ l. sum_to n (λ k. f l k *ℤ (price k -ℤ price l)))
net-priced n f price =
    sum-ext n _ _ (λ l h.
    ap (λ (z : ℤ). z *ℤ price l) (net-plain n f l)
    ∙ times-sub (sum_to n (λ k. f k l)) (sum_to n (λ k. f l k)) (price l)
    ∙ sym (cc (sum-scale n (λ k. f k l) (price l), sum-scale n (λ k. f l k) (price l))))
    ∙ sum-sub n (λ l. sum_to n (λ k. f k l *ℤ price l)) (λ l. sum_to n (λ k. f l k *ℤ price l))
    ∙ ap (λ (z : ℤ). z -ℤ sum_to n (λ l. sum_to n (λ k. f l k *ℤ price l))) (sum-swap n n (λ l k. f k l *ℤ price l))
    ∙ sym (sum-sub n (λ l. sum_to n (λ k. f l k *ℤ price k)) (λ l. sum_to n (λ k. f l k *ℤ price l)))
    ∙ sum-ext n _ _ (λ l h. sym (sum-sub n (λ k. f l k *ℤ price k) (λ k. f l k *ℤ price l)) ∙ sum-ext n _ _ (λ k g. sub-times (f l k) (price k) (price l)))
  where
    times-sub : (a b z : ℤ) → (a -ℤ b) *ℤ z ≡ a *ℤ z -ℤ b *ℤ z
    times-sub a b z = eq-by ((at a ⊖ at b) ⊗ at z) (at a ⊗ at z ⊖ at b ⊗ at z) (omega arith)

    sub-times : (a u v : ℤ) → a *ℤ u -ℤ a *ℤ v ≡ a *ℤ (u -ℤ v)
    sub-times a u v = eq-by (at a ⊗ at u ⊖ at a ⊗ at v) (at a ⊗ (at u ⊖ at v)) (omega arith)

-- WHAT LINES CAN CARRY: net positions that come from flows along lines, none of them negative
pub record Carried (n : ℕ) (line : ℕ → ℕ → Bool) (net : ℕ → ℤ) : Type 0 where
  pub flow : ℕ → ℕ → ℤ
  pub flow-in : (l k : ℕ) → pos 0 ≤ℤ flow l k
  pub elsewhere : (l k : ℕ) → T (not (line l k)) → flow l k ≡ pos 0
  pub carries : (l : ℕ) → l < n → net_flow n flow l ≡ net l

-- net positions of the exchange of one unit, from zone a to zone b
unfoldable exchange : ℕ → ℕ → ℕ → ℤ
exchange a b l = only (eqb b l) (pos 1) -ℤ only (eqb a l) (pos 1)

module _ {n : ℕ} {line : ℕ → ℕ → Bool} where
  carried_same : {u v : ℕ → ℤ} → Carried n line u → ((l : ℕ) → l < n → u l ≡ v l) → Carried n line v
  carried_same r e = record { flow = r.flow; flow-in = r.flow-in; elsewhere = r.elsewhere; carries = λ l h. r.carries l h ∙ e l h }

  carried-zero : Carried n line (λ l. pos 0)
  carried-zero = record {
    flow = λ l k. pos 0;
    flow-in = λ l k. ≤ℤ_refl (pos 0);
    elsewhere = λ l k t. refl;
    carries = λ l h. net-zero n l;
  }

  carried-sum : {u v : ℕ → ℤ} → Carried n line u → Carried n line v → Carried n line (λ l. u l +ℤ v l)
  carried-sum {u} {v} r s = record {
    flow = λ l k. r.flow l k +ℤ s.flow l k;
    flow-in = λ l k. add-nonneg (r.flow-in l k) (s.flow-in l k);
    elsewhere = λ l k t. cc (r.elsewhere l k t, s.elsewhere l k t);
    carries = λ l h. net-add n r.flow s.flow l ∙ (cc (r.carries l h, s.carries l h));
  }

  carried-times : (m : ℕ) {u : ℕ → ℤ} → Carried n line u → Carried n line (λ l. pos m *ℤ u l)
  carried-times m {u} r = record {
    flow = λ l k. pos m *ℤ r.flow l k;
    flow-in = λ l k. times-nonneg m (r.flow-in l k);
    elsewhere = λ l k t. ap (λ (z : ℤ). pos m *ℤ z) (r.elsewhere l k t) ∙ eq-by (at (pos m) ⊗ at (pos 0)) (at (pos 0)) (omega arith);
    carries = λ l h. net-scale n (pos m) r.flow l ∙ ap (λ (z : ℤ). pos m *ℤ z) (r.carries l h);
  }

  line-carries : (a b : ℕ) → a < n → b < n → T (line a b) → Carried n line (exchange a b)
  unfolding exchange
  line-carries a b ha hb t = record {
    flow = λ l k. only (eqb a l) (only (eqb b k) (pos 1));
    flow-in = λ l k. unit-in (eqb a l) (eqb b k);
    elsewhere = λ l k f. no-unit (eqb a l) (eqb b k) (λ u v. T_not (line l k) f (rw (← eqb→eq a l u, ← eqb→eq b k v) t));
    carries = λ l h.
        net-plain n (λ l k. only (eqb a l) (only (eqb b k) (pos 1))) l
        ∙ (cc (
          sum-key n a (only (eqb b l) (pos 1)) ha,
          sum-ext n (λ k. only (eqb a l) (only (eqb b k) (pos 1))) (λ k. only (eqb b k) (only (eqb a l) (pos 1))) (λ k g. only-swap (eqb a l) (eqb b k) (pos 1)),
          sum-key n b (only (eqb a l) (pos 1)) hb,
        ));
  }
    where
      unit-in : (x y : Bool) → pos 0 ≤ℤ only x (only y (pos 1))
      unit-in true true = le-by (at (pos 0)) (at (pos 1)) (omega arith)
      unit-in true false = ≤ℤ_refl (pos 0)
      unit-in false y = ≤ℤ_refl (pos 0)

      no-unit : (x y : Bool) → (T x → T y → ⊥) → only x (only y (pos 1)) ≡ pos 0
      no-unit true true f = absurd (f tt tt)
      no-unit true false f = refl
      no-unit false y f = refl

  route-carries : {a b : ℕ} → Route n line a b → Carried n line (exchange a b)
  unfolding exchange
  route-carries (here {a}) = carried_same carried-zero (λ l h. eq-by (at (pos 0)) (at (only (eqb a l) (pos 1)) ⊖ at (only (eqb a l) (pos 1))) (omega arith))
  route-carries (onward {a} {b} {e} r hb he t) = carried_same (carried-sum (route-carries r) (line-carries b e hb he t)) (λ l h. chain (only (eqb a l) (pos 1)) (only (eqb b l) (pos 1)) (only (eqb e l) (pos 1)))
    where
      chain : (x y z : ℤ) → (y -ℤ x) +ℤ (z -ℤ y) ≡ z -ℤ x
      chain x y z = eq-by ((at y ⊖ at x) ⊕ (at z ⊖ at y)) (at z ⊖ at x) (omega arith)

  -- a zone's position, from zone 0 or to it
  exchange-carried : (x : ℤ) {a b : ℕ} → Route n line a b → Route n line b a → Carried n line (λ l. x *ℤ exchange a b l)
  unfolding exchange
  exchange-carried (pos m) r s = carried-times m (route-carries r)
  exchange-carried (negsuc m) {a} {b} r s = carried_same (carried-times (suc m) (route-carries s)) (λ l h. turned m (only (eqb a l) (pos 1)) (only (eqb b l) (pos 1)))
    where
      turned : (m : ℕ) (x y : ℤ) → pos (suc m) *ℤ (x -ℤ y) ≡ negsuc m *ℤ (y -ℤ x)
      turned m x y = eq-by (at (pos (suc m)) ⊗ (at x ⊖ at y)) (at (negsuc m) ⊗ (at y ⊖ at x)) (omega arith)

  first-zones : Connected n line → (x : ℕ → ℤ) (m : ℕ) → m ≤ n → Carried n line (λ l. sum_to m (λ z. x z *ℤ exchange 0 z l))
  unfolding sum_to
  first-zones q x zero h = carried-zero
  first-zones q x (suc m) h = carried-sum (first-zones q x m (omega arith)) (exchange-carried (x m) (q.from_first m h) (q.to-first m h))

  -- RULE 3: over connected zones commercial flows can carry any positions that sum to zero
  pub balanced-carried : Connected n line → (x : ℕ → ℤ) → sum_to n x ≡ pos 0 → Carried n line x
  unfolding exchange
  balanced-carried q x e = carried_same (first-zones q x n (omega arith)) (λ l h.
      sum-ext n _ _ (λ z g. apart (x z) (only (eqb z l) (pos 1)) (only (eqb 0 l) (pos 1)))
      ∙ sum-sub n (λ z. x z *ℤ only (eqb z l) (pos 1)) (λ z. x z *ℤ only (eqb 0 l) (pos 1))
      ∙ (cc (own l h, sum-scale n x (only (eqb 0 l) (pos 1)), e, less-nothing (x l) (only (eqb 0 l) (pos 1)))))
    where
      apart : (a u v : ℤ) → a *ℤ (u -ℤ v) ≡ a *ℤ u -ℤ a *ℤ v
      apart a u v = eq-by (at a ⊗ (at u ⊖ at v)) (at a ⊗ at u ⊖ at a ⊗ at v) (omega arith)

      less-nothing : (a v : ℤ) → a -ℤ pos 0 *ℤ v ≡ a
      less-nothing a v = eq-by (at a ⊖ at (pos 0) ⊗ at v) (at a) (omega arith)

      own : (l : ℕ) → l < n → sum_to n (λ z. x z *ℤ only (eqb z l) (pos 1)) ≡ x l
      own l h = sum_one n l (λ z. x z *ℤ only (eqb z l) (pos 1)) h (λ z g ne. ap (λ (y : ℤ). x z *ℤ y) (only-off (eqb z l) (pos 1) (λ t. ne (sym (eqb→eq z l t)))) ∙ eq-by (at (x z) ⊗ at (pos 0)) (at (pos 0)) (omega arith))
          ∙ ap (λ (y : ℤ). x l *ℤ y) (only-on (eqb l l) (pos 1) (eqb_refl l)) ∙ eq-by (at (x l) ⊗ at (pos 1)) (at (x l)) (omega arith)

-- CONNECTED: every two zones joined, as in the Annex
pub every-pair-connected : (n : ℕ) → Connected n every_pair
unfolding every_pair
every-pair-connected n = record { from_first = λ z h. direct 0 z (omega arith) h; to-first = λ z h. direct z 0 h (omega arith) }
  where
    by : (a b : ℕ) (x : Bool) → (T x → a ≡ b) → (T (not x) → Route n every_pair a b) → Route n every_pair a b
    by a b true e f = rw (e tt) here
    by a b false e f = f tt

    direct : (a b : ℕ) → a < n → b < n → Route n every_pair a b
    direct a b ha hb = by a b (eqb a b) (eqb→eq a b) (λ t. onward here ha hb t)

-- a chain, in which each zone is joined with the next, both ways
unfoldable pub chain : ℕ → ℕ → Bool
chain l k = eqb (l + 1) k || eqb (k + 1) l

pub chain-connected : (n : ℕ) → Connected n chain
unfolding chain
chain-connected n = record { from_first = from_first; to-first = to-first }
  where
    step : {a b e : ℕ} → a < n → b < n → T (chain a b) → Route n chain b e → Route n chain a e
    step ha hb t here = onward here ha hb t
    step ha hb t (onward r hc he u) = onward (step ha hb t r) hc he u

    from_first : (z : ℕ) → z < n → Route n chain 0 z
    from_first zero h = here
    from_first (suc z) h = onward (from_first z (omega arith)) (omega arith) h (or_left (eqb (z + 1) (suc z)) _ (rw (add-one z) (eqb_refl (suc z))))

    to-first : (z : ℕ) → z < n → Route n chain z 0
    to-first zero h = here
    to-first (suc z) h = step h (omega arith) (or_right (eqb (suc z + 1) z) (eqb (z + 1) (suc z)) (rw (add-one z) (eqb_refl (suc z)))) (to-first z (omega arith))
