-- The pairs of numbers as written: those of one shortfall, and a run of them with one more. Assumes nothing.
use Rattle.std.specs.Prelude.{◌≡◌, List, [], ◌∷◌, ◌++◌, ℕ, ◌+◌, ◌*◌, ◌/◌, ◌%◌, ◌<◌, length, ℤ, pos, nat_abs, ◌*ℤ◌, ◌≤ℤ◌}
use Rattle.std.proofs.Common.{sym, ap, ◌∙◌, add-one, arith}
use Rattle.std.proofs.lemmas.List.Edits.{sets}
use Rattle.base_integers.specs.Steps.Bytes.{sets-append}
use Rattle.base_integers.specs.Steps.Difference.{at, ◌⊗◌, le-fact, eq-fact}
use Rattle.base_limits.specs.Meaning.Limits.{parts_in_one}
use Rattle.base_limits.specs.Meaning.Exact.{exactly}
use Rattle.base_measures.specs.declared.ExactMicrocents.{ExactMicrocents}
use Rattle.case_header.specs.declared.Counts.{Counts}
use Rattle.short_rules.specs.Meaning.Answer.{whole_of, parts_of, pairs_to}
use Rattle.short_rules.proofs.Steps.Pairs.{pairs-long}
use Rattle.short_single.specs.Meaning.Short.{Exact}

-- the number of shortfalls, from the counts
abbrev pub count_of : Counts → ℕ
count_of k = k.orders + k.branches + k.links

abbrev pub numbers_in : ExactMicrocents → List ℤ
numbers_in x = pos x.whole ∷ pos x.parts ∷ []

-- both numbers fit signed 64 bits
pub record Writable (x : ExactMicrocents) : Type 0 where
  pub whole_in : x.whole < 9223372036854775808
  pub parts_in : x.parts < 100000

pub writable : {x : ℤ} {r : ExactMicrocents} (g : ℤ) → Exact x r → x ≤ℤ (pos parts_in_one *ℤ g) → g ≤ℤ pos 1000000000000000 → Writable r
writable {x} {r} g e h k = record { whole_in = below r.whole r.parts x g e.value h k; parts_in = e.parts_in }
  where
    below : (w q : ℕ) (x g : ℤ) → pos (exactly w q) ≡ x → x ≤ℤ (pos parts_in_one *ℤ g) → g ≤ℤ pos 1000000000000000 → w < 9223372036854775808
    below w q x g e h k = omega (arith, eq-fact (at (pos (exactly w q))) (at x) e, le-fact (at x) (at (pos parts_in_one) ⊗ at g) h, le-fact (at g) (at (pos 1000000000000000)) k)

-- they are the pair of the shortfall
numbers-are : {x : ℤ} {r : ExactMicrocents} → Exact x r → numbers_in r ≡ whole_of x ∷ parts_of x ∷ []
unfolding whole_of parts_of
numbers-are {x} {r} e = λ j. pos (whole r.whole r.parts (nat_abs x) (ap nat_abs e.value) e.parts_in j) ∷ pos (parts r.whole r.parts (nat_abs x) (ap nat_abs e.value) e.parts_in j) ∷ []
  where
    whole : (w q n : ℕ) → exactly w q ≡ n → q < 100000 → w ≡ n / 100000
    whole w q n e h = omega arith

    parts : (w q n : ℕ) → exactly w q ≡ n → q < 100000 → q ≡ n % 100000
    parts w q n e h = omega arith

-- ONE PAIR MORE in a run from place k on
pub run_more : (out : List ℤ) (k i n : ℕ) (f : ℕ → ℤ) {r : ExactMicrocents} → 2 * n ≡ k + 2 * i → Exact (f i) r → sets (sets out k (pairs_to i f)) (2 * n) (numbers_in r) ≡ sets out k (pairs_to (i + 1) f)
unfolding pairs_to
run_more out k i n f {r} e x =
    let place : 2 * n ≡ k + length (pairs_to i f) = omega (arith, e, pairs-long i f) in
    ap (λ (m : ℕ). sets (sets out k (pairs_to i f)) m (numbers_in r)) place
    ∙ sets-append out k (pairs_to i f) (numbers_in r)
    ∙ ap (λ (l : List ℤ). sets out k (pairs_to i f ++ l)) (numbers-are x)
    ∙ ap (λ (m : ℕ). sets out k (pairs_to m f)) (sym (add-one i))

-- THREE RUNS, one after the other
pub three-runs : (out : List ℤ) (a b e : ℕ) (f g h : ℕ → ℤ)
    → sets (sets (sets out 0 (pairs_to a f)) (2 * a) (pairs_to b g)) (2 * (a + b)) (pairs_to e h) ≡ sets out 0 (pairs_to a f ++ (pairs_to b g ++ pairs_to e h))
three-runs out a b e f g h =
    let first : 2 * a ≡ 0 + length (pairs_to a f) = omega (arith, pairs-long a f) in
    let second : 2 * (a + b) ≡ 2 * a + length (pairs_to b g) = omega (arith, pairs-long b g) in
    ap (λ (n : ℕ). sets (sets (sets out 0 (pairs_to a f)) (2 * a) (pairs_to b g)) n (pairs_to e h)) second
    ∙ sets-append (sets out 0 (pairs_to a f)) (2 * a) (pairs_to b g) (pairs_to e h)
    ∙ ap (λ (n : ℕ). sets (sets out 0 (pairs_to a f)) n (pairs_to b g ++ pairs_to e h)) first
    ∙ sets-append out 0 (pairs_to a f) (pairs_to b g ++ pairs_to e h)
