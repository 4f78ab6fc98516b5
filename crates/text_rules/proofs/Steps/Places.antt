-- How many digits a number has: the fewest that hold it. Assumes nothing.
use Rattle.std.specs.Prelude.{◌≡◌, refl, ℕ, zero, suc, ◌+◌, ◌/◌, ◌^◌, ◌<◌, ◌≤◌}
use Rattle.std.proofs.Common.{sym, ap, ◌∙◌, pow-suc, arith, lt-ltb, le-ltb}
use Rattle.std.proofs.Math.Nat.{pow-le-pow_right}
use Rattle.std.proofs.Math.Decide.{dec_lt}
use Rattle.text_rules.specs.Meaning.Text.{places_in, places}

small : (most n : ℕ) → n < 10 → places_in most n ≡ 1
unfolding places_in
small zero n h = refl
small (suc most) n h = rw (lt-ltb n 10 h, places_in)

large : (most n : ℕ) → 10 ≤ n → places_in (suc most) n ≡ suc (places_in most (n / 10))
unfolding places_in
large most n h = rw (le-ltb n 10 h, places_in)

-- it can be divided at most n times, so allowing more changes nothing
enough : (most more n : ℕ) → n ≤ most → n ≤ more → places_in most n ≡ places_in more n
enough zero more n h k = small zero n (omega arith) ∙ sym (small more n (omega arith))
enough (suc most) zero n h k = small (suc most) n (omega arith) ∙ sym (small zero n (omega arith))
enough (suc most) (suc more) n h k = elim (dec_lt n 10) [
  | yes l ↦ small (suc most) n l ∙ sym (small (suc more) n l)
  | no g ↦ large most n (omega arith) ∙ ap suc (enough most more (n / 10) (omega arith) (omega arith)) ∙ sym (large more n (omega arith))
]

pub places-one : (n : ℕ) → n < 10 → places n ≡ 1
unfolding places
places-one n h = small n n h

pub places-more : (n : ℕ) → 10 ≤ n → places n ≡ suc (places (n / 10))
unfolding places
places-more n h = enough n (suc n) n (omega arith) (omega arith) ∙ large n n h ∙ ap suc (enough n (n / 10) (n / 10) (omega arith) (omega arith))

-- a number that fits k + 1 digits has no more
pub places-at-most : (k n : ℕ) → n < 10 ^ suc k → places n ≤ suc k
places-at-most zero n h = omega (arith, places-one n (omega arith))
places-at-most (suc k) n h = elim (dec_lt n 10) [ yes l ↦ omega (arith, places-one n l) | no g ↦ omega (arith, places-more n (omega arith), places-at-most k (n / 10) (omega (arith, pow-suc 10 (suc k)))) ]

-- THE FEWEST DIGITS: they hold n, and one fewer do not
pub record Fewest (n k : ℕ) : Type 0 where
  pub some-place : 1 ≤ k
  pub holds : n < 10 ^ k
  pub none-spare : (j : ℕ) → k ≡ suc j → 0 < j → 10 ^ j ≤ n

one_place : (n : ℕ) → n < 10 → Fewest n 1
one_place n h = record { some-place = omega arith; holds = omega arith; none-spare = λ j e l. absurd (no j e l) }
  where
    no : (j : ℕ) → 1 ≡ suc j → 0 < j → ⊥
    no j e l = omega arith

one_more : (n k : ℕ) → 10 ≤ n → Fewest (n / 10) k → Fewest n (suc k)
one_more n k g f = record { some-place = omega arith; holds = omega (arith, pow-suc 10 k, f.holds); none-spare = spare }
  where
    spare : (j : ℕ) → suc k ≡ suc j → 0 < j → 10 ^ j ≤ n
    spare zero e l = absurd (omega arith)
    spare (suc zero) e l = omega arith
    spare (suc (suc i)) e l = omega (arith, pow-suc 10 (suc i), f.none-spare (suc i) (omega arith) (omega arith))

fewest-in : (most n : ℕ) → n ≤ most → Fewest n (places_in most n)
fewest-in zero n h = rw (small zero n (omega arith)) (one_place n (omega arith))
fewest-in (suc most) n h = elim (dec_lt n 10) [
  | yes l ↦ rw (small (suc most) n l) (one_place n l)
  | no g ↦ rw (large most n (omega arith)) (one_more n (places_in most (n / 10)) (omega arith) (fewest-in most (n / 10) (omega arith)))
]

pub fewest : (n : ℕ) → Fewest n (places n)
unfolding places
fewest n = fewest-in n n (omega arith)

-- a number that reaches 10 ^ k has more than k digits
pub places-past : (k n : ℕ) → 10 ^ k ≤ n → k < places n
places-past k n h = elim (dec_lt k (places n)) [
  | yes l ↦ l
  | no g ↦ absurd (omega (arith, (fewest n).holds, pow-le-pow_right {n = 10} (omega arith) {i = places n} {j = k} (omega arith)))
]

-- four digits at a step
pub places-myriad : (n : ℕ) → 10 ^ 4 ≤ n → places n ≡ 4 + places (n / 10 ^ 4)
places-myriad n h =
    let four : n / 10 / 10 / 10 / 10 ≡ n / 10 ^ 4 = omega arith in
    omega (
      arith,
      places-more n (omega arith),
      places-more (n / 10) (omega arith),
      places-more (n / 10 / 10) (omega arith),
      places-more (n / 10 / 10 / 10) (omega arith),
      ap places four,
    )
