-- PAIRS OF ZONES IN PLAIN BYTES (S-3), both ways: which numbers are pairs, which pair passes row 84 and which is
-- the first that does not, and what the network of an hour has. Pair k is the bytes 2 k and 2 k + 1 of the list,
-- and `get_or bytes k 0` is the byte at place k, counted from 0. Assumes nothing.
use Rattle.std.specs.Prelude.{◌≡◌, refl, Bool, true, false, not, ◌&&◌, ◌↔◌, ◌≢◌, List, ℕ, zero, suc, ◌+◌, ◌*◌, ◌≤◌, ◌<◌, T, leb, ℤ, pos, neg_ℤ, ◌≤ℤ◌}
use Rattle.std.proofs.Math.Path.{sym}
use Rattle.std.proofs.Common.{◌∙◌, arith, leb→le}
use Rattle.std.proofs.Math.Decide.{dec_lt}
use borrow.Author.Tests.{eq-eqb}
use Rattle.std.proofs.Math.Dec.{eqb, eqb→eq, nleb→lt, not_T, T_not}
use Rattle.std.proofs.Math.ListN.{length, get_or, get_or-eq_default}
use Rattle.std.specs.Int.Signed.{le_z, le_z_yes}
use Rattle.base_integers.specs.Meaning.Difference.{up, dn}
use Rattle.base_integers.specs.Steps.Ranges.{is_true, is_false, nor-left, nor-right, nor-both, and_left, and_right}
use Rattle.base_causes.specs.Meaning.Causes.{Pass, each}
use Rattle.base_causes.proofs.Promised.CauseLaws.{First, no_place, any_none}
use Rattle.flow_pairs.specs.Meaning.Pairs.{pair_count, first_zone, second_zone, repeated, bad_pair, network_of}
use Rattle.flow_pairs.proofs.Steps.Tests.{read_below}

-- the pairs; a last byte alone is one too
pub is-pair : (bytes : List ℕ) (k : ℕ) → (k < pair_count bytes) ↔ (2 * k < length bytes)
is-pair bytes k = (λ h. omega arith, λ h. omega arith)

-- A PAIR THAT PASSES, with this many zones
pub record GoodPair (zones : ℕ) (bytes : List ℕ) (k : ℕ) : Type 0 where
  pub up-to-64th : k < 64
  pub two_bytes : 2 * k + 1 < length bytes
  pub first-known : get_or bytes (2 * k) 0 < zones
  pub second-known : get_or bytes (2 * k + 1) 0 < zones
  pub not_equal : get_or bytes (2 * k) 0 ≢ get_or bytes (2 * k + 1) 0
  pub not_earlier : (j : ℕ) → j < k → get_or bytes (2 * j) 0 ≡ get_or bytes (2 * k) 0 → get_or bytes (2 * j + 1) 0 ≡ get_or bytes (2 * k + 1) 0 → ⊥

abbrev pub AllGood : ℕ → List ℕ → Type 0
AllGood zones bytes = (k : ℕ) → 2 * k < length bytes → GoodPair zones bytes k

-- and the first that does not
pub record FirstBadPair (zones : ℕ) (bytes : List ℕ) (k : ℕ) : Type 0 where
  pub is-there : 2 * k < length bytes
  pub not_good : GoodPair zones bytes k → ⊥
  pub first_one : (j : ℕ) → j < k → GoodPair zones bytes j

module _ (bytes : List ℕ) where
  first-is : (k : ℕ) → 2 * k < length bytes → first_zone bytes k ≡ get_or bytes (2 * k) 0
  first-is k h = read_below bytes (2 * k) 16 0 h

  second_is : (k : ℕ) → 2 * k + 1 < length bytes → second_zone bytes k ≡ get_or bytes (2 * k + 1) 0
  second_is k h = read_below bytes (2 * k + 1) 16 0 h

  module _ (zones : ℕ) (few : zones ≤ 16) where
    not-le : (m n : ℕ) → n < m → T (not (leb m n))
    not-le m n h = not_T (leb m n) (λ t. never (leb→le m n t))
      where
        never : m ≤ n → ⊥
        never l = omega arith

    passes-good : (k : ℕ) → T (not (bad_pair zones bytes k)) → GoodPair zones bytes k
    unfolding bad_pair repeated
    passes-good k p =
        let q = nor-right (leb 64 k) _ p in
        let r = nor-right (leb zones (first_zone bytes k)) _ q in
        let e = nor-right (leb zones (second_zone bytes k)) _ r in
        let second : second_zone bytes k < zones = nleb→lt zones (second_zone bytes k) (nor-left (leb zones (second_zone bytes k)) _ r) in
        let two : 2 * k + 1 < length bytes = there (dec_lt (2 * k + 1) (length bytes)) second in
        let a : first_zone bytes k ≡ get_or bytes (2 * k) 0 = first-is k (omega (arith, two)) in
        let b : second_zone bytes k ≡ get_or bytes (2 * k + 1) 0 = second_is k two in
        record {
          up-to-64th = nleb→lt 64 k (nor-left (leb 64 k) _ p);
          two_bytes = two;
          first-known = omega (arith, a, nleb→lt zones (first_zone bytes k) (nor-left (leb zones (first_zone bytes k)) _ q));
          second-known = omega (arith, b, second);
          not_equal = λ w. T_not (eqb (first_zone bytes k) (second_zone bytes k)) (nor-left (eqb (first_zone bytes k) (second_zone bytes k)) _ e) (is_true (eq-eqb (first_zone bytes k) (second_zone bytes k) (a ∙ w ∙ sym b)));
          not_earlier = λ j h x y. T_not (eqb (first_zone bytes j) (first_zone bytes k) && eqb (second_zone bytes j) (second_zone bytes k))
              (no_place k _ (nor-right (eqb (first_zone bytes k) (second_zone bytes k)) _ e) j h)
              (is_true (λ i. eq-eqb (first_zone bytes j) (first_zone bytes k) (first-is j (omega (arith, two, h)) ∙ x ∙ sym a) i && eq-eqb (second_zone bytes j) (second_zone bytes k) (second_is j (omega (arith, two, h)) ∙ y ∙ sym b) i));
        }
      where
        there : Dec (2 * k + 1 < length bytes) → second_zone bytes k < zones → 2 * k + 1 < length bytes
        there (yes h) l = h
        there (no h) l = absurd (omega (arith, few, l, get_or-eq_default bytes 16 {n = 2 * k + 1} (omega arith)))

    good-passes : (k : ℕ) → GoodPair zones bytes k → T (not (bad_pair zones bytes k))
    unfolding bad_pair repeated
    good-passes k g =
        let a : first_zone bytes k ≡ get_or bytes (2 * k) 0 = first-is k (omega (arith, g.two_bytes)) in
        let b : second_zone bytes k ≡ get_or bytes (2 * k + 1) 0 = second_is k g.two_bytes in
        nor-both (leb 64 k) _ (not-le 64 k g.up-to-64th)
        (nor-both (leb zones (first_zone bytes k)) _ (not-le zones (first_zone bytes k) (omega (arith, a, g.first-known)))
        (nor-both (leb zones (second_zone bytes k)) _ (not-le zones (second_zone bytes k) (omega (arith, b, g.second-known)))
        (nor-both (eqb (first_zone bytes k) (second_zone bytes k)) _ (not_T (eqb (first_zone bytes k) (second_zone bytes k)) (λ t. g.not_equal (sym a ∙ eqb→eq _ _ t ∙ b)))
        (is_false (any_none k _ (λ j h. not_T (eqb (first_zone bytes j) (first_zone bytes k) && eqb (second_zone bytes j) (second_zone bytes k))
        (λ t. g.not_earlier j h
        (sym (first-is j (omega (arith, g.two_bytes, h))) ∙ eqb→eq _ _ (and_left (eqb (first_zone bytes j) (first_zone bytes k)) _ t) ∙ a)
        (sym (second_is j (omega (arith, g.two_bytes, h))) ∙ eqb→eq _ _ (and_right (eqb (first_zone bytes j) (first_zone bytes k)) _ t) ∙ b))))))))

    -- ROW 84, both ways, for up to 16 zones
    pub good-pair : (k : ℕ) → T (not (bad_pair zones bytes k)) ↔ GoodPair zones bytes k
    good-pair k = (passes-good k, good-passes k)

    pub all-good : (number : ℕ) → Pass (each number (pair_count bytes) (bad_pair zones bytes)) ↔ AllGood zones bytes
    all-good number = (λ p k h. passes-good k (p.pass k ((is-pair bytes k).1 h)), λ f. record { pass = λ k h. good-passes k (f k ((is-pair bytes k).0 h)) })

    pub first-bad : (k : ℕ) → First (pair_count bytes) (bad_pair zones bytes) k ↔ FirstBadPair zones bytes k
    first-bad k = (
      λ f. record {
        is-there = (is-pair bytes k).0 f.place_in;
        not_good = λ g. T_not (bad_pair zones bytes k) (good-passes k g) f.holds;
        first_one = λ j h. passes-good j (f.none_before j h);
      },
      λ f. record {
        place_in = (is-pair bytes k).1 f.is-there;
        holds = found (bad_pair zones bytes k) (λ t. f.not_good (passes-good k t));
        none_before = λ j h. good-passes j (f.first_one j h);
      },
    )
      where
        found : (t : Bool) → (T (not t) → ⊥) → T t
        found true n = tt
        found false n = absurd (n tt)

-- THE NETWORK OF AN HOUR: a pair leads from its first byte to its second, and counts if and only if the first zone's
-- price is at most the second's
module _ (net_exports prices : List ℤ) (pairs : List ℕ) where
  pub pair-leads : (k : ℕ) → 2 * k + 1 < length pairs → ((network_of net_exports prices pairs).from k ≡ get_or pairs (2 * k) 0) × ((network_of net_exports prices pairs).to k ≡ get_or pairs (2 * k + 1) 0)
  pair-leads k h = (first-is pairs k (omega arith), second_is pairs k h)

  pub pair-counts : (k : ℕ) → 2 * k + 1 < length pairs
      → ((network_of net_exports prices pairs).counted k ≡ true) ↔ (get_or prices (get_or pairs (2 * k) 0) (pos 0) ≤ℤ get_or prices (get_or pairs (2 * k + 1) 0) (pos 0))
  pair-counts k h = (
    λ e. le_z_yes (is_true (sym (read k h) ∙ e)),
    λ l. read k h ∙ set_is _ l.le,
  )
    where
      read : (k : ℕ) → 2 * k + 1 < length pairs → (network_of net_exports prices pairs).counted k ≡ le_z (get_or prices (get_or pairs (2 * k) 0) (pos 0)) (get_or prices (get_or pairs (2 * k + 1) 0) (pos 0))
      read k h = λ i. le_z (get_or prices (first-is pairs k (omega arith) i) (pos 0)) (get_or prices (second_is pairs k h i) (pos 0))

      set_is : (b : Bool) → T b → b ≡ true
      set_is true t = refl
      set_is false t = absurd t

  -- a zone with a positive position exports it and imports nothing; one with a negative position imports it and
  -- exports nothing
  pub exports-are : (z n : ℕ) → get_or net_exports z (pos 0) ≡ pos n → ((network_of net_exports prices pairs).exports z ≡ n) × ((network_of net_exports prices pairs).imports z ≡ 0)
  exports-are z n e = rw e (refl, refl)

  pub imports-are : (z n : ℕ) → get_or net_exports z (pos 0) ≡ neg_ℤ (pos n) → ((network_of net_exports prices pairs).exports z ≡ 0) × ((network_of net_exports prices pairs).imports z ≡ n)
  imports-are z n e = rw e (turned n)
    where
      turned : (n : ℕ) → (up (neg_ℤ (pos n)) ≡ 0) × (dn (neg_ℤ (pos n)) ≡ n)
      turned zero = (refl, refl)
      turned (suc n) = (refl, refl)
