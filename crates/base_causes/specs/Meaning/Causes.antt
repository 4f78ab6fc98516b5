-- A table of causes: rows in the order in which they are asked. The answer is the first row that fails, at its
-- first place. Assumes nothing.
use Rattle.std.specs.Prelude.{Bool, false, not, cond, ◌||◌, List, [], ◌∷◌, ℕ, zero, suc, ◌<◌, T}
use Rattle.std.proofs.Math.Option.{Option, none, some}
use Rattle.base_causes.specs.declared.Outcome.{Outcome}

-- a cause: its number, how many places are tested, whether it holds at a place, and the index returned for a place
pub record Cause : Type 0 where
  pub number : ℕ
  pub places : ℕ
  pub fails : ℕ → Bool
  pub index : ℕ → ℕ

abbrev pub verdict : ℕ → ℕ → Outcome
verdict n k = record { number = n; index = k }

-- the first place below n at which a test holds
unfoldable pub first_below : ℕ → (ℕ → Bool) → Option ℕ
first_below zero f = none
first_below (suc n) f = elim (first_below n f) [ some k ↦ some k | none ↦ cond (f n) (some n) none ]

-- whether a test holds at some place below n
unfoldable pub any_below : ℕ → (ℕ → Bool) → Bool
any_below zero f = false
any_below (suc n) f = any_below n f || f n

-- the first of the w fields of a row at fault; 0 where none is
abbrev pub place_else : Option ℕ → ℕ
place_else (some j) = j
place_else none = 0

unfoldable pub first_field : ℕ → (ℕ → Bool) → ℕ
first_field w f = place_else (first_below w f)

-- a row passes: its cause holds at none of its places
pub record Pass (r : Cause) : Type 0 where
  pub pass : (k : ℕ) → k < r.places → T (not (r.fails k))

-- the first place at which a row fails
abbrev pub failing : Cause → Option ℕ
failing r = first_below r.places r.fails

-- the first row that fails, at its first place
abbrev pub cause_else : Cause → Option ℕ → Option Outcome → Option Outcome
cause_else r (some k) rest = some (verdict r.number (r.index k))
cause_else r none rest = rest

unfoldable pub refusal : List Cause → Option Outcome
refusal [] = none
refusal (r ∷ rs) = cause_else r (failing r) (refusal rs)

-- none fails: 0
abbrev pub answer : Option Outcome → Outcome
answer (some o) = o
answer none = verdict 0 0

-- a cause tested once, with index 0; a header field, with its offset; a cause tested at each of n places, with the
-- place
abbrev pub once : ℕ → Bool → Cause
once number f = record { number = number; places = 1; fails = λ k. f; index = λ k. 0 }

abbrev pub field : ℕ → ℕ → Bool → Cause
field number offset f = record { number = number; places = 1; fails = λ k. f; index = λ k. offset }

abbrev pub each : ℕ → ℕ → (ℕ → Bool) → Cause
each number n f = record { number = number; places = n; fails = f; index = λ k. k }

-- a cause tested at each of n places, with the offset of the place (S-2)
abbrev pub each_at : ℕ → ℕ → (ℕ → Bool) → (ℕ → ℕ) → Cause
each_at number n f offset = record { number = number; places = n; fails = f; index = offset }

-- a cause tested at each field of n rows in file order, w fields to a row: a row fails where one of its fields is
-- at fault, with the offset of the first (S-2)
abbrev pub each_field : ℕ → ℕ → ℕ → (ℕ → ℕ → Bool) → (ℕ → ℕ → ℕ) → Cause
each_field number n w fault offset = each_at number n (λ i. any_below w (fault i)) (λ i. offset i (first_field w (fault i)))
