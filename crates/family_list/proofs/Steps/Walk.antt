-- How the orders that lead back to themselves are found: a walk up from each order in turn, over orders that no
-- walk has visited. Entry i is the parent of order i until walk w visits i, then 512 + w. Laws over plain
-- variables. Assumes nothing.
use Rattle.std.specs.Prelude.{◌≡◌, ◌⊎◌, Bool, cond, List, ltb, length, set}
use Rattle.std.proofs.Math.Path.{refl, ap}
use Rattle.std.proofs.Common.{sym, subst, ◌∙◌, inl, inr, mul-le-mul_right, arith, lt-ltb, le-ltb, get_or-set_same, get_or-set_other}
use Rattle.std.proofs.Math.Option.{Option, none, some, none-ne-some, some-injective}
use Prim.Native.Nat.{ℕ, zero, suc, ◌+◌, ◌*◌, ◌-◌, ◌≤◌, ◌<◌, min}
use Rattle.std.proofs.Math.Decide.{dec_lt, ℕ_discrete}
use Rattle.std.proofs.Math.Dec.{not_T}
use Rattle.base_causes.specs.Meaning.Causes.{first_below}
use Rattle.base_causes.proofs.Promised.CauseLaws.{first_some, first-none}
use Rattle.rules.specs.Meaning.Families.{onward, ancestor, LeadsBack, leads_back}
use Rattle.family_list.specs.Meaning.Parents.{Exist}
use Rattle.family_list.proofs.Steps.Ancestors.{ancestor-add, stays-in, rounds}
use Rattle.family_list.specs.Steps.Round.{Least}
use Rattle.family_list.proofs.Steps.Round.{min-one}
use Rattle.family_list.proofs.Promised.Circle.{leads-back}
use Rattle.family_list.specs.Steps.Walk.{held, LeadsTo, as_before, been-at, SearchSoFar, Trail}
use Rattle.family_list.specs.Steps.Walk as shown

-- ONE ENTRY STORED
pub record Put (v w : ℕ → ℕ) (j x : ℕ) : Type 0 where
  pub here : w j ≡ x
  pub others : (k : ℕ) → (k ≡ j → ⊥) → w k ≡ v k

pub put-set : (up : List ℕ) (j x : ℕ) → j < length up → Put (held up) (held (set up j x)) j x
put-set up j x h = record { here = get_or-set_same up j x 0 h; others = λ k u. get_or-set_other up j k x 0 u }

-- HOW MANY of the first m entries are orders: those that no walk has visited
abbrev counted : Bool → ℕ
counted b = cond b 1 0

unfoldable pub unwalked : ℕ → ℕ → (ℕ → ℕ) → ℕ
unwalked n zero v = 0
unwalked n (suc m) v = counted (ltb (v m) n) + unwalked n m v

module _ (n : ℕ) {v w : ℕ → ℕ} {j x : ℕ} (p : Put v w j x) where
  unlike : (m : ℕ) → m < j → m ≡ j → ⊥
  unlike m h e = omega arith

  unlike-above : (m : ℕ) → j < m → m ≡ j → ⊥
  unlike-above m h e = omega arith

  same-below : (m : ℕ) → m ≤ j → unwalked n m w ≡ unwalked n m v
  unfolding unwalked
  same-below zero h = refl
  same-below (suc m) h = λ i. counted (ltb (p.others m (unlike m (omega arith)) i) n) + same-below m (omega arith) i

  pub fewer : (m : ℕ) → j < m → v j < n → n ≤ x → unwalked n m w < unwalked n m v
  unfolding unwalked
  fewer zero h l g = absurd (omega arith)
  fewer (suc m) h l g = elim (dec_lt j m) [
    | yes b ↦ omega (arith, ap (λ (k : ℕ). counted (ltb k n)) (p.others m (unlike-above m b)), fewer m b l g)
    | no c ↦ last (omega arith)
  ]
    where
      last : m ≡ j → counted (ltb (w m) n) + unwalked n m w < counted (ltb (v m) n) + unwalked n m v
      last e =
          let a : counted (ltb (w m) n) ≡ 0 = ap counted (le-ltb (w m) n (omega (arith, ap w e, p.here))) in
          let b : counted (ltb (v m) n) ≡ 1 = ap counted (lt-ltb (v m) n (omega (arith, ap v e))) in
          omega (arith, a, b, same-below m (omega arith))

module _ (parent : ℕ → Option ℕ) where
  one-step : {j k : ℕ} → parent j ≡ some k → LeadsTo parent j k
  unfolding ancestor
  one-step e = record { steps = 1; one-or-more = omega arith; there = e }

  step-more : {j k l : ℕ} → LeadsTo parent j k → parent k ≡ some l → LeadsTo parent j l
  unfolding ancestor
  step-more w e = record { steps = suc w.steps; one-or-more = omega arith; there = ap (onward parent) w.there ∙ e }

  -- if j leads back to itself, all orders that it leads to lead to it
  pub around : {j k : ℕ} → LeadsTo parent j k → LeadsBack parent j → (s : ℕ) × (ancestor parent s k ≡ some j)
  around {j} {k} w b =
      let a = w.steps in
      let m = b.steps in
      let q : a + (m * a - a) ≡ m * a = omega (arith, mul-le-mul_right {m = 1} {n = m} a b.one-or-more) in
      (m * a - a, sym (ancestor-add parent a (m * a - a) j w.there) ∙ ap (λ (s : ℕ). ancestor parent s j) q ∙ rounds parent m b.back a)

module _ (parent : ℕ → Option ℕ) (n : ℕ) where
  abbrev Walked : (i : ℕ) (v : ℕ → ℕ) → Type 0
  Walked = shown.Walked parent n

  abbrev Now : (i : ℕ) (u : ℕ → ℕ) (tip : ℕ) (v : ℕ → ℕ) (j : ℕ) → Type 0
  Now = shown.Now parent n

  abbrev Walking : (i : ℕ) (u : ℕ → ℕ) (tip : ℕ) (v : ℕ → ℕ) → Type 0
  Walking = shown.Walking parent n

  pub walk-starts : (i : ℕ) (u : ℕ → ℕ) → Walked i u → Walking i u i u
  walk-starts i u w = record { holds-parent = w.holds-parent; closed = λ j k h l e. inl (w.closed j k h l e); each = λ j h. as_before refl; start = inl refl }

  module _ (few : n ≤ 512) (i : ℕ) (u : ℕ → ℕ) (tip : ℕ) (h : tip < n) (v w : ℕ → ℕ) (fresh : v tip < n) (p : Put v w tip (512 + i)) where
    -- a visited order stays visited
    stays : (k : ℕ) → n ≤ v k → n ≤ w k
    stays k l = elim (ℕ_discrete k tip) [ yes e ↦ absurd (omega (arith, ap v e)) | no d ↦ omega (arith, p.others k d) ]

    -- a step up from tip, whose entry then holds the walk's number
    pub walk_steps : Walking i u tip v → Walking i u (v tip) w
    walk_steps s = record {
      holds-parent = λ j l f. elim (ℕ_discrete j tip) [ yes e ↦ absurd (omega (arith, ap w e, p.here)) | no d ↦ kept j l (p.others j d) f ];
      closed = λ j k l g e. elim (ℕ_discrete j tip) [ yes q ↦ inr (some-injective k (v tip) (sym e ∙ ap parent q ∙ onto)) | no d ↦ still j k l (p.others j d) g e ];
      each = λ j l. elim (ℕ_discrete j tip) [ yes e ↦ subst (λ (k : ℕ). Now i u (v tip) w k) (sym e) at-tip | no d ↦ other j d (s.each j l) ];
      start = started s.start;
    }
      where
        onto : parent tip ≡ some (v tip)
        onto = s.holds-parent tip h fresh

        kept : (j : ℕ) → j < n → w j ≡ v j → w j < n → parent j ≡ some (w j)
        kept j l e f = s.holds-parent j l (omega arith) ∙ ap some (sym e)

        on : (k : ℕ) → (n ≤ v k) ⊎ (k ≡ tip) → (n ≤ w k) ⊎ (k ≡ v tip)
        on k (inl g) = inl (stays k g)
        on k (inr e) = inl (omega (arith, ap w e, p.here))

        still : (j k : ℕ) → j < n → w j ≡ v j → n ≤ w j → parent j ≡ some k → (n ≤ w k) ⊎ (k ≡ v tip)
        still j k l q g e = on k (s.closed j k l (omega arith) e)

        was-fresh : Now i u tip v tip → u tip < n
        was-fresh (as_before e) = omega arith
        was-fresh (been-at e l t) = l

        at-tip : Now i u (v tip) w tip
        at-tip = been-at p.here (was-fresh (s.each tip h)) (one-step parent onto)

        other : (j : ℕ) → (j ≡ tip → ⊥) → Now i u tip v j → Now i u (v tip) w j
        other j d (as_before e) = as_before (p.others j d ∙ e)
        other j d (been-at e l t) = been-at (p.others j d ∙ e) l (step-more parent t onto)

        started : (i ≡ tip) ⊎ (n ≤ v i) → (i ≡ v tip) ⊎ (n ≤ w i)
        started (inl e) = inr (omega (arith, ap w e, p.here))
        started (inr g) = inr (stays i g)

  -- the walks have visited every order that a visited order leads to
  pub closed-up : Exist n parent → (i : ℕ) (u : ℕ → ℕ) → Walked i u → (s j k : ℕ) → j < n → n ≤ u j → ancestor parent s j ≡ some k → n ≤ u k
  unfolding ancestor
  closed-up x i u w zero j k h g e = omega (arith, ap u (some-injective j k e))
  closed-up x i u w (suc s) j k h g e = last (ancestor parent s j) refl e (λ m q. closed-up x i u w s j m h g q)
    where
      last : (o : Option ℕ) → ancestor parent s j ≡ o → onward parent o ≡ some k → ((m : ℕ) → ancestor parent s j ≡ some m → n ≤ u m) → n ≤ u k
      last none q e ih = absurd (none-ne-some k e)
      last (some m) q e ih = w.closed m k (stays-in parent x s h q) (ih m q) e

module _ (parent : ℕ → Option ℕ) {n : ℕ} (few : n ≤ 512) (x : Exist n parent) {i first : ℕ} (inside : i < n) {u v : ℕ → ℕ} {tip : ℕ} (s : SearchSoFar parent n i first u) (t : Trail n i u tip v) where
  walk : Walking parent n i u tip v
  walk = t.walking parent s.walked

  -- what the walks have visited
  after : Walked parent n (i + 1) v
  after = record {
    holds-parent = walk.holds-parent;
    closed = λ j k h g e. on k (walk.closed j k h g e);
    before = λ j h l. elim (ℕ_discrete j i) [ yes e ↦ subst (λ (k : ℕ). n ≤ v k) (sym e) (started walk.start) | no d ↦ old j (s.walked.before j h (omega arith)) (walk.each j h) ];
    ahead = λ j k h l m e. not-ahead j k h l m e (walk.each j h);
  }
    where
      on : (k : ℕ) → (n ≤ v k) ⊎ (k ≡ tip) → n ≤ v k
      on k (inl g) = g
      on k (inr e) = omega (arith, ap v e, t.ended)

      started : (i ≡ tip) ⊎ (n ≤ v i) → n ≤ v i
      started (inl e) = omega (arith, ap v e, t.ended)
      started (inr g) = g

      old : (j : ℕ) → n ≤ u j → Now parent n i u tip v j → n ≤ v j
      old j g (as_before e) = omega arith
      old j g (been-at e l w) = omega arith

      not-ahead : (j k : ℕ) → j < n → i + 1 ≤ k → k < 512 → v j ≡ 512 + k → Now parent n i u tip v j → ⊥
      not-ahead j k h l m e (as_before q) = s.walked.ahead j k h (omega arith) m (sym q ∙ e)
      not-ahead j k h l m e (been-at q f w) = omega arith

  -- THE WALK CAME BACK to an order that it had visited: this order leads back to itself
  pub came-back : v tip ≡ 512 + i → LeadsBack parent tip
  came-back e = by (walk.each tip t.tip-in)
    where
      by : Now parent n i u tip v tip → LeadsBack parent tip
      by (as_before q) = absurd (s.walked.ahead tip i t.tip-in (omega arith) (omega arith) (sym q ∙ e))
      by (been-at q f w) = record { steps = w.steps; one-or-more = w.one-or-more; back = w.there }

  pub next-found : {r : ℕ} → Least parent n i tip r → SearchSoFar parent n (i + 1) (min first r) v
  next-found {r} l = record {
    walked = after;
    first-in = omega (arith, s.first-in);
    back = min-one first r (λ (k : ℕ). k < n → LeadsBack parent k) s.back (λ h. l.back);
    none-less = λ j h g b. by j h g b (walk.each j h);
  }
    where
      by : (j : ℕ) → j < n → n ≤ v j → LeadsBack parent j → Now parent n i u tip v j → min first r ≤ j
      by j h g b (as_before e) = omega (arith, s.none-less j h (omega arith) b)
      by j h g b (been-at e f w) = elim (dec_lt j i) [
        | yes q ↦ absurd (omega (arith, s.walked.before j h q))
        | no q ↦ let a = around parent w b in omega (arith, l.no_less a.0 j a.1 (omega arith))
      ]

  -- THE WALK ENDED at an order that earlier walks had visited, or that has no parent: no order that it visited
  -- leads back to itself
  pub next-none : (v tip ≡ 512 + i → ⊥) → SearchSoFar parent n (i + 1) first v
  next-none d = record {
    walked = after;
    first-in = s.first-in;
    back = s.back;
    none-less = λ j h g b. by j h g b (walk.each j h);
  }
    where
      known : Now parent n i u tip v tip → n ≤ u tip
      known (as_before e) = omega (arith, t.ended)
      known (been-at e f w) = absurd (d e)

      by : (j : ℕ) → j < n → n ≤ v j → LeadsBack parent j → Now parent n i u tip v j → first ≤ j
      by j h g b (as_before e) = s.none-less j h (omega arith) b
      by j h g b (been-at e f w) =
          let a = around parent w b in
          absurd (omega (arith, f, closed-up parent n x i u s.walked a.0 tip j t.tip-in (known (walk.each tip t.tip-in)) a.1))

-- A VISITED ORDER, or one without a parent, needs no walk of its own
pub next-been : (parent : ℕ → Option ℕ) {n i first : ℕ} {v : ℕ → ℕ} → SearchSoFar parent n i first v → n ≤ v i → SearchSoFar parent n (i + 1) first v
next-been parent {n} {i} {first} {v} s g = record {
  walked = record {
    holds-parent = s.walked.holds-parent;
    closed = s.walked.closed;
    before = λ j h l. elim (ℕ_discrete j i) [ yes e ↦ subst (λ (k : ℕ). n ≤ v k) (sym e) g | no d ↦ s.walked.before j h (omega arith) ];
    ahead = λ j k h l m e. s.walked.ahead j k h (omega arith) m e;
  };
  first-in = s.first-in;
  back = s.back;
  none-less = s.none-less;
}

-- THE SEARCH AT ITS END
module _ (parent : ℕ → Option ℕ) {n : ℕ} (x : Exist n parent) {i first : ℕ} {v : ℕ → ℕ} (s : SearchSoFar parent n i first v) (all : first ≤ i) where
  none_before : (j : ℕ) → j < n → j < first → LeadsBack parent j → ⊥
  none_before j h l b = omega (arith, s.none-less j h (s.walked.before j h (omega arith)) b)

  pub first_found : first < n → first_below n (leads_back n parent) ≡ some first
  first_found l = first_some n (leads_back n parent) first (record {
    place_in = l;
    holds = (leads-back parent x l).1 (s.back l);
    none_before = λ j h. not_T (leads_back n parent j) (λ t. none_before j (omega arith) h ((leads-back parent x (omega arith)).0 t));
  })

  pub none_found : n ≤ first → first_below n (leads_back n parent) ≡ none
  none_found l = first-none n (leads_back n parent) (λ j h. not_T (leads_back n parent j) (λ t. none_before j h (omega arith) ((leads-back parent x h).0 t)))
