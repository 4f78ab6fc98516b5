-- THE ORDER OF A SEARCH: it has each reached zone of the first n once, e of them. Assumes nothing.
use Rattle.std.specs.Prelude.{◌≡◌, refl, Bool, ℕ, ◌+◌, ◌≤◌, ◌<◌, eqb}
use Rattle.std.proofs.Common.{sym, ap, ◌∙◌, arith, eq-eqb, ne_eqb}
use Rattle.std.proofs.Math.Decide.{ℕ_discrete, dec_lt}
use Rattle.base_integers.specs.Meaning.NaturalSums.{sum_nat, only}
use Rattle.base_integers.specs.Steps.NaturalSums.{sum-ext, sum_one, sum_more, one-le-sum}
use Rattle.flow_augment.specs.Steps.Links.{Trail}

-- how many of the first n zones are not reached
abbrev pub unreached : ℕ → Trail → ℕ
unreached n m = sum_nat n (λ y. only (eqb (m.lab y) 0) 1)

-- zone y is in the order
pub record Listed (q : ℕ → ℕ) (e y : ℕ) : Type 0 where
  pub place : ℕ
  pub place_in : place < e
  pub is : q place ≡ y

pub record Listing (n : ℕ) (m : Trail) (q : ℕ → ℕ) (e : ℕ) : Type 0 where
  pub listed : (y : ℕ) → y < n → 0 < m.lab y → Listed q e y
  pub inside : (i : ℕ) → i < e → q i < n
  pub reached : (i : ℕ) → i < e → 0 < m.lab (q i)
  pub shallow : (i : ℕ) → i < e → m.dep (q i) ≤ i
  pub count : unreached n m + e ≡ n

pub listing_none : (m : Trail) (q : ℕ → ℕ) → Listing 0 m q 0
unfolding sum_nat
listing_none m q = record {
  listed = λ y l h. absurd (omega arith);
  inside = λ i l. absurd (omega arith);
  reached = λ i l. absurd (omega arith);
  shallow = λ i l. absurd (omega arith);
  count = refl;
}

-- at most as many as there are zones
pub few : {n : ℕ} {m : Trail} {q : ℕ → ℕ} {e : ℕ} → Listing n m q e → e ≤ n
few l = omega (arith, l.count)

-- if a zone is not reached, there is room for one more
pub fewer : {n : ℕ} {m : Trail} {q : ℕ → ℕ} {e : ℕ} → Listing n m q e → (z : ℕ) → z < n → m.lab z ≡ 0 → e < n
fewer {n} {m} l z h new =
    omega (arith, l.count, one-le-sum n z (λ y. only (eqb (m.lab y) 0) 1) h, ap (λ (b : Bool). only b 1) (eq-eqb (m.lab z) 0 new))

-- ONE MORE ZONE IS LOOKED AT, and not reached
pub record Extended (n : ℕ) (m m' : Trail) : Type 0 where
  pub lab : m'.lab n ≡ 0
  pub lab-rest : (y : ℕ) → y < n → m'.lab y ≡ m.lab y
  pub dep-rest : (y : ℕ) → y < n → m'.dep y ≡ m.dep y

pub listing-extend : (n : ℕ) (m m' : Trail) (q q' : ℕ → ℕ) (e : ℕ) → Listing n m q e → Extended n m m' → ((i : ℕ) → i < e → q' i ≡ q i) → Listing (n + 1) m' q' e
listing-extend n m m' q q' e l x same = record {
  listed = λ y p h. by-listed y p h (dec_lt y n);
  inside = λ i p. omega (arith, l.inside i p, same i p);
  reached = λ i p. omega (arith, l.reached i p, ap m'.lab (same i p), x.lab-rest (q i) (l.inside i p));
  shallow = λ i p. omega (arith, l.shallow i p, ap m'.dep (same i p), x.dep-rest (q i) (l.inside i p));
  count = omega (
    arith,
    l.count,
    sum_more n (λ y. only (eqb (m'.lab y) 0) 1),
    sum-ext n (λ y. only (eqb (m'.lab y) 0) 1) (λ y. only (eqb (m.lab y) 0) 1) (λ y p. ap (λ (v : ℕ). only (eqb v 0) 1) (x.lab-rest y p)),
    ap (λ (b : Bool). only b 1) (eq-eqb (m'.lab n) 0 x.lab),
  );
}
  where
    by-listed : (y : ℕ) → y < n + 1 → 0 < m'.lab y → Dec (y < n) → Listed q' e y
    by-listed y p h (yes d) =
        let w = l.listed y d (omega (arith, x.lab-rest y d)) in record { place = w.place; place_in = w.place_in; is = same w.place w.place_in ∙ w.is }
    by-listed y p h (no d) = let w : y ≡ n = omega arith in absurd (omega (arith, ap m'.lab w, x.lab))

-- A ZONE IS REACHED: v can be brought to it, at depth d, by pair k, and it is next in the order
pub record Marked (m m' : Trail) (z v d k : ℕ) : Type 0 where
  pub lab : m'.lab z ≡ v
  pub dep : m'.dep z ≡ d
  pub by : m'.by z ≡ k
  pub lab-rest : (y : ℕ) → (y ≡ z → ⊥) → m'.lab y ≡ m.lab y
  pub dep-rest : (y : ℕ) → (y ≡ z → ⊥) → m'.dep y ≡ m.dep y
  pub by-rest : (y : ℕ) → (y ≡ z → ⊥) → m'.by y ≡ m.by y

pub listing-mark : (n : ℕ) (m m' : Trail) (q q' : ℕ → ℕ) (e z v d k : ℕ) → Listing n m q e → Marked m m' z v d k → m.lab z ≡ 0 → 0 < v → z < n → d ≤ e
    → q' e ≡ z → ((i : ℕ) → i < e → q' i ≡ q i) → Listing n m' q' (e + 1)
listing-mark n m m' q q' e z v d k l mk new some zin shallow last same = record {
  listed = λ y p h. by-listed y p h (ℕ_discrete y z);
  inside = λ i p. by-inside i p (dec_lt i e);
  reached = λ i p. by-reached i p (dec_lt i e);
  shallow = λ i p. by-shallow i p (dec_lt i e);
  count = omega (
    arith,
    l.count,
    sum_one n z (λ y. only (eqb (m.lab y) 0) 1) (λ y. only (eqb (m'.lab y) 0) 1) zin (λ y p w. ap (λ (x : ℕ). only (eqb x 0) 1) (mk.lab-rest y w)),
    ap (λ (b : Bool). only b 1) (eq-eqb (m.lab z) 0 new),
    ap (λ (b : Bool). only b 1) (ne_eqb (m'.lab z) 0 (λ w. omega (arith, mk.lab))),
  );
}
  where
    -- a zone in the order is not z
    not_new : (i : ℕ) → i < e → q i ≡ z → ⊥
    not_new i p w = omega (arith, l.reached i p, ap m.lab w)

    at-end : (i : ℕ) → i < e + 1 → (i < e → ⊥) → q' i ≡ z
    at-end i p f = let w : i ≡ e = omega arith in ap q' w ∙ last

    by-listed : (y : ℕ) → y < n → 0 < m'.lab y → Dec (y ≡ z) → Listed q' (e + 1) y
    by-listed y p h (yes w) = record { place = e; place_in = omega arith; is = last ∙ sym w }
    by-listed y p h (no w) =
        let x = l.listed y p (omega (arith, mk.lab-rest y w)) in record { place = x.place; place_in = omega (arith, x.place_in); is = same x.place x.place_in ∙ x.is }

    by-inside : (i : ℕ) → i < e + 1 → Dec (i < e) → q' i < n
    by-inside i p (yes a) = omega (arith, same i a, l.inside i a)
    by-inside i p (no a) = omega (arith, at-end i p a)

    by-reached : (i : ℕ) → i < e + 1 → Dec (i < e) → 0 < m'.lab (q' i)
    by-reached i p (yes a) = omega (arith, ap m'.lab (same i a), mk.lab-rest (q i) (not_new i a), l.reached i a)
    by-reached i p (no a) = omega (arith, ap m'.lab (at-end i p a), mk.lab)

    by-shallow : (i : ℕ) → i < e + 1 → Dec (i < e) → m'.dep (q' i) ≤ i
    by-shallow i p (yes a) = omega (arith, ap m'.dep (same i a), mk.dep-rest (q i) (not_new i a), l.shallow i a)
    by-shallow i p (no a) = omega (arith, ap m'.dep (at-end i p a), mk.dep)
