-- Row 84's test of a pair, one cause after the other, and what holds of a pair that passes. Assumes nothing.
use Rattle.std.specs.Prelude.{◌≡◌, refl, true, false, not, ◌&&◌, ◌||◌, List, [], ◌∷◌, ℕ, zero, suc, ◌≤◌, ◌<◌, T, eqb, length, get_or}
use Rattle.std.proofs.Math.Path.{sym}
use Rattle.std.proofs.Common.{◌∙◌, arith, le-leb, eq-eqb, ne_eqb, leb-false, T_not}
use Rattle.std.proofs.lemmas.Bool.{lt-leb}
use Rattle.std.proofs.Math.Dec.{leb}
use Rattle.base_integers.specs.Steps.Ranges.{nor-left, nor-right, is_true, is_false, not_is}
use Rattle.base_causes.proofs.Promised.CauseLaws.{no_place}
use Rattle.base_zone_set.specs.Steps.Pairs.{holds, Seen, same_pair}
use Rattle.flow_pairs.specs.Meaning.Pairs.{first_zone, second_zone, repeated, bad_pair}
use Rattle.flow_pairs.specs.Steps.Tests.{PairValid}

-- below the end the value past the end does not matter
pub read_below : (l : List ℕ) (i d e : ℕ) → i < length l → get_or l i d ≡ get_or l i e
read_below [] i d e h = absurd (omega arith)
read_below (x ∷ xs) zero d e h = refl
read_below (x ∷ xs) (suc i) d e h = read_below xs i d e (omega arith)

-- by the zones as read
module _ (zones : ℕ) (bytes : List ℕ) (k a b : ℕ) (ea : a ≡ first_zone bytes k) (eb : b ≡ second_zone bytes k) where
  test-is : bad_pair zones bytes k ≡ (leb 64 k || (leb zones a || (leb zones b || (eqb a b || repeated bytes k))))
  unfolding bad_pair
  test-is = sym (λ i. leb 64 k || (leb zones (ea i) || (leb zones (eb i) || (eqb (ea i) (eb i) || repeated bytes k))))

  pub pair-past : 64 ≤ k → bad_pair zones bytes k ≡ true
  pair-past h = test-is ∙ simp (le-leb 64 k h)

  pub left-repeated : k < 64 → a < zones → b < zones → (a ≡ b → ⊥) → bad_pair zones bytes k ≡ repeated bytes k
  left-repeated few first second e = test-is ∙ simp (lt-leb 64 k few, lt-leb zones a first, lt-leb zones b second, ne_eqb a b e)

-- and by the pairs seen
pub seen-repeated : (bytes : List ℕ) (k a b : ℕ) {seen : List ℕ} → Seen (first_zone bytes) (second_zone bytes) k seen → a ≡ first_zone bytes k → b ≡ second_zone bytes k → holds seen a b ≡ repeated bytes k
unfolding repeated
seen-repeated bytes k a b {seen} w ea eb = (λ i. holds seen (ea i) (eb i)) ∙ w.held (first_zone bytes k) (second_zone bytes k)

-- the test would find an earlier pair with the same zones
new_by : (bytes : List ℕ) (k : ℕ) → T (not (repeated bytes k)) → (j : ℕ) → j < k → first_zone bytes j ≡ first_zone bytes k → second_zone bytes j ≡ second_zone bytes k → ⊥
unfolding repeated
new_by bytes k t j h f g =
    T_not (same_pair (first_zone bytes) (second_zone bytes) (first_zone bytes k) (second_zone bytes k) j) (no_place k (same_pair (first_zone bytes) (second_zone bytes) (first_zone bytes k) (second_zone bytes k)) t j h)
    (is_true (λ i. eq-eqb (first_zone bytes j) (first_zone bytes k) f i && eq-eqb (second_zone bytes j) (second_zone bytes k) g i))

pub good : (zones : ℕ) (bytes : List ℕ) (k : ℕ) → bad_pair zones bytes k ≡ false → PairValid zones bytes k
unfolding bad_pair
good zones bytes k w =
    let p = is_false w in
    let q = nor-right (leb 64 k) _ p in
    let r = nor-right (leb zones (first_zone bytes k)) _ q in
    let e = nor-right (leb zones (second_zone bytes k)) _ r in
    record {
      few = leb-false 64 k (not_is _ (nor-left (leb 64 k) _ p));
      first-in = leb-false zones (first_zone bytes k) (not_is _ (nor-left (leb zones (first_zone bytes k)) _ q));
      second-in = leb-false zones (second_zone bytes k) (not_is _ (nor-left (leb zones (second_zone bytes k)) _ r));
      new = new_by bytes k (nor-right (eqb (first_zone bytes k) (second_zone bytes k)) _ e);
    }
