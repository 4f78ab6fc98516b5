-- Shortfalls as pairs of numbers, read back: where a pair stands in a list, and that it is its shortfall.
-- Assumes nothing.
use Rattle.std.specs.Prelude.{◌≡◌, refl, List, [], ◌∷◌, ◌++◌, ℕ, zero, suc, ◌+◌, ◌*◌, ◌/◌, ◌%◌, ◌<◌, length, get_or, ℤ, pos, negsuc, ◌+ℤ◌, ◌*ℤ◌, ◌≤ℤ◌}
use Rattle.std.proofs.Common.{sym, ap, ◌∙◌, append_assoc, arith, length-append, get_or-append-add}
use Rattle.std.proofs.Math.Decide.{dec_lt}
use Rattle.std.proofs.lemmas.List.{get_or_at}
use Rattle.base_integers.specs.Steps.Difference.{at, ◌⊗◌, le-by, le-fact}
use Rattle.base_limits.specs.Meaning.Limits.{parts_in_one}
use Rattle.short_rules.specs.Meaning.Answer.{whole_of, parts_of, pairs_to, whole_at, parts_at, shortfall_at}

-- ONE SHORTFALL: both numbers, and what bounds them
pub value-is : (x : ℤ) → pos 0 ≤ℤ x → whole_of x *ℤ pos parts_in_one +ℤ parts_of x ≡ x
unfolding whole_of parts_of
value-is (pos n) h = ap pos (back n)
  where
    back : (n : ℕ) → n / 100000 * 100000 + n % 100000 ≡ n
    back n = omega arith
value-is (negsuc n) h = absurd h.le

pub parts-range : (x : ℤ) → (pos 0 ≤ℤ parts_of x) × (parts_of x ≤ℤ pos 99999)
unfolding parts_of
parts-range x = (le-by (at (pos 0)) (at (parts_of x)) (omega arith), le-by (at (parts_of x)) (at (pos 99999)) (omega arith))

pub whole-range : (x g : ℤ) → pos 0 ≤ℤ x → x ≤ℤ (pos parts_in_one *ℤ g) → (pos 0 ≤ℤ whole_of x) × (whole_of x ≤ℤ g)
unfolding whole_of
whole-range (pos n) g h k = (
  le-by (at (pos 0)) (at (pos (n / 100000))) (omega arith),
  le-by (at (pos (n / 100000))) (at g) (omega (arith, le-fact (at (pos n)) (at (pos parts_in_one) ⊗ at g) k)),
)
whole-range (negsuc n) g h k = absurd h.le

-- pair n of an output is that of x
pub record Pair (out : List ℤ) (n : ℕ) (x : ℤ) : Type 0 where
  pub whole_is : whole_at out n ≡ whole_of x
  pub parts_is : parts_at out n ≡ parts_of x

pub pair-value : {out : List ℤ} {n : ℕ} {x : ℤ} → pos 0 ≤ℤ x → Pair out n x → shortfall_at out n ≡ x
unfolding shortfall_at
pair-value {out} {n} {x} h p = (λ i. p.whole_is i *ℤ pos parts_in_one +ℤ p.parts_is i) ∙ value-is x h

-- A LIST OF THEM
pub pairs-long : (n : ℕ) (f : ℕ → ℤ) → length (pairs_to n f) ≡ 2 * n
unfolding pairs_to
pairs-long zero f = refl
pairs-long (suc n) f = length-append (pairs_to n f) (whole_of (f n) ∷ parts_of (f n) ∷ []) ∙ omega (arith, pairs-long n f)

-- among the first n, and past them
pub pair-here : (n : ℕ) (f : ℕ → ℤ) (rest : List ℤ) (i : ℕ) → i < n → Pair (pairs_to n f ++ rest) i (f i)
unfolding pairs_to whole_at parts_at
pair-here zero f rest i h = absurd (none i h)
  where
    none : (i : ℕ) → i < 0 → ⊥
    none i h = omega arith
pair-here (suc n) f rest i h = elim (dec_lt i n) [ yes l ↦ earlier (pair-here n f (w ∷ p ∷ rest) i l) | no g ↦ last (omega arith) ]
  where
    w : ℤ
    w = whole_of (f n)

    p : ℤ
    p = parts_of (f n)

    seam : (pairs_to n f ++ (w ∷ p ∷ [])) ++ rest ≡ pairs_to n f ++ (w ∷ p ∷ rest)
    seam = append_assoc (pairs_to n f) (w ∷ p ∷ []) rest

    earlier : Pair (pairs_to n f ++ (w ∷ p ∷ rest)) i (f i) → Pair ((pairs_to n f ++ (w ∷ p ∷ [])) ++ rest) i (f i)
    earlier q = record {
      whole_is = ap (λ (r : List ℤ). get_or r (2 * i) (pos 0)) seam ∙ q.whole_is;
      parts_is = ap (λ (r : List ℤ). get_or r (2 * i + 1) (pos 0)) seam ∙ q.parts_is;
    }

    last : i ≡ n → Pair ((pairs_to n f ++ (w ∷ p ∷ [])) ++ rest) i (f i)
    last e = record {
      whole_is = ap (λ (r : List ℤ). get_or r (2 * i) (pos 0)) seam ∙ get_or_at (pairs_to n f) w (p ∷ rest) (pos 0) (2 * i) (omega (arith, pairs-long n f)) ∙ ap (λ (k : ℕ). whole_of (f k)) (sym e);
      parts_is =
          let next : 2 * i + 1 ≡ length (pairs_to n f) + 1 = omega (arith, pairs-long n f) in
          ap (λ (r : List ℤ). get_or r (2 * i + 1) (pos 0)) seam
          ∙ ap (λ (k : ℕ). get_or (pairs_to n f ++ (w ∷ p ∷ rest)) k (pos 0)) next
          ∙ get_or-append-add (pairs_to n f) (w ∷ p ∷ rest) 1 (pos 0)
          ∙ ap (λ (k : ℕ). parts_of (f k)) (sym e);
    }

pub pair-past : (n : ℕ) (f : ℕ → ℤ) (rest : List ℤ) (k : ℕ) {x : ℤ} → Pair rest k x → Pair (pairs_to n f ++ rest) (n + k) x
unfolding whole_at parts_at
pair-past n f rest k {x} p = record {
  whole_is =
      let at-whole : 2 * (n + k) ≡ length (pairs_to n f) + 2 * k = omega (arith, pairs-long n f) in
      ap (λ (j : ℕ). get_or (pairs_to n f ++ rest) j (pos 0)) at-whole ∙ get_or-append-add (pairs_to n f) rest (2 * k) (pos 0) ∙ p.whole_is;
  parts_is =
      let at-parts : 2 * (n + k) + 1 ≡ length (pairs_to n f) + (2 * k + 1) = omega (arith, pairs-long n f) in
      ap (λ (j : ℕ). get_or (pairs_to n f ++ rest) j (pos 0)) at-parts ∙ get_or-append-add (pairs_to n f) rest (2 * k + 1) (pos 0) ∙ p.parts_is;
}
