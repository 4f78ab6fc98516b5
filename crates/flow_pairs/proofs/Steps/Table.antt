-- THE TABLE OF PAIRS: for two zones, the pair that leads from the first to the second, if there is one.
-- Assumes nothing.
use Rattle.std.specs.Prelude.{◌≡◌, refl, List, ℕ, ◌+◌, ◌*◌, ◌<◌, get_or, set, replicate}
use Rattle.std.proofs.Common.{sym, ap, ◌∙◌, arith, length-set, get_or-set_same, get_or-set_other}
use Rattle.std.proofs.Math.Decide.{ℕ_discrete}
use Rattle.std.proofs.lemmas.List.{get_or-replicate}
use Rattle.flow_pairs.specs.Meaning.Pairs.{pair_count, first_zone, second_zone}
use Rattle.flow_pairs.specs.Meaning.Table.{Distinct, pair_in, PairsTabled}

pub tabled-none : (bytes : List ℕ) → PairsTabled bytes 0 (replicate 256 64)
tabled-none bytes = record {
  wide = refl;
  sound = λ a b h l w. absurd (omega (arith, get_or-replicate {A = ℕ} 256 (16 * a + b) 64 0 (omega arith)));
  complete = λ k h. absurd (omega arith);
}

pub tabled-more : (bytes : List ℕ) (n : ℕ) (table : List ℕ) (i : ℕ) → Distinct bytes → n < pair_count bytes → PairsTabled bytes n table → i ≡ 16 * first_zone bytes n + second_zone bytes n → PairsTabled bytes (n + 1) (set table i n)
tabled-more bytes n table i d h t e = record {
  wide = length-set table i n ∙ t.wide;
  sound = λ a b p q w. by-sound a b p q w (ℕ_discrete (16 * a + b) i);
  complete = λ k p. by-complete k p (ℕ_discrete k n);
}
  where
    low : i < 256
    low = omega (arith, e, d.first-in n h, d.second-in n h)

    at : get_or (set table i n) i 0 ≡ n
    at = get_or-set_same table i n 0 (omega (arith, t.wide, low))

    by-sound : (a b : ℕ) → a < 16 → b < 16 → pair_in (set table i n) a b < 64 → Dec (16 * a + b ≡ i) → (pair_in (set table i n) a b < n + 1) × ((first_zone bytes (pair_in (set table i n) a b) ≡ a) × (second_zone bytes (pair_in (set table i n) a b) ≡ b))
    by-sound a b p q w (yes x) =
        let is : pair_in (set table i n) a b ≡ n = ap (λ (j : ℕ). get_or (set table i n) j 0) x ∙ at in
        rw is (omega arith, (omega (arith, x, e, d.second-in n h), omega (arith, x, e, d.second-in n h)))
    by-sound a b p q w (no x) =
        let is : pair_in (set table i n) a b ≡ pair_in table a b = get_or-set_other table i (16 * a + b) n 0 x in
        let o = t.sound a b p q (omega (arith, is, w)) in
        rw is (omega (arith, o.0), (o.1.0, o.1.1))

    by-complete : (k : ℕ) → k < n + 1 → Dec (k ≡ n) → pair_in (set table i n) (first_zone bytes k) (second_zone bytes k) ≡ k
    by-complete k p (yes x) = rw x (ap (λ (j : ℕ). get_or (set table i n) j 0) (sym e) ∙ at)
    by-complete k p (no x) =
        get_or-set_other table i (16 * first_zone bytes k + second_zone bytes k) n 0 (λ w. other k (omega arith) (w ∙ e))
        ∙ t.complete k (omega arith)
      where
        other : (k : ℕ) → k < n → 16 * first_zone bytes k + second_zone bytes k ≡ 16 * first_zone bytes n + second_zone bytes n → ⊥
        other k l w =
            let a = d.second-in k (omega (arith, l, h)) in
            let b = d.second-in n h in
            d.new k n l h (omega (arith, w, a, b)) (omega (arith, w, a, b))
