-- Entries of a branch, by sign and size. Assumes nothing.
use Rattle.std.specs.Prelude.{◌≡◌, refl, Bool, true, false, not, ◌||◌, List, ℕ, zero, suc, ◌≤◌, ◌<◌, ℤ, pos, negsuc, neg_ℤ, ◌-ℤ◌}
use Rattle.std.proofs.Common.{sym, ap, ◌∙◌, arith, lt-ltb, SFits, to_z}
use Rattle.std.proofs.Math.Decide.{dec_lt}
use Rattle.std.proofs.Math.IntN.{neg_ℤ-neg_ℤ, +ℤ_idl}
use Rattle.std.specs.Int.Signed.{lt_z}
use Rattle.std.specs.Int.{w32}
use Rattle.std.proofs.Math.Facts.{to_z_pos}
use Rattle.base_integers.specs.Steps.Machine.{sfits-by}
use Rattle.base_integers.specs.Steps.Size.{near-pos, near-neg, near_fits}
use Rattle.base_integers.specs.Meaning.Ranges.{range, minus, outside}
use Rattle.base_limits.specs.Meaning.Limits as limits
use Rattle.sheet_numbers.specs.declared.Number.{Number}
use Rattle.sheet_numbers.specs.Meaning.Numeral.{is_digit, negative, units, sign, value}
use Rattle.sheet_numbers.specs.Meaning.Scan.{Separator}
use Rattle.sheet_numbers.proofs.Steps.Scan.{clash}
use Rattle.sheet_numbers.specs.Steps.Capped.{cap, capped}
use Rattle.sheet_numbers.proofs.Steps.Capped.{capped-over, capped-within}
use Rattle.sheet_numbers.specs.Meaning.Pieces.{held_number}
use Rattle.sheet_lines.specs.Meaning.Sheet.{decimal_count, limit, entry}
use Rattle.sheet_lines.specs.Steps.Entries.{entry_at, place, turned, entry_of_number}

-- entry j is read by what it is alone
pub decimals-at : (j : ℕ) → decimal_count (place (entry_at j)) ≡ decimal_count j
decimals-at zero = refl
decimals-at (suc z) = refl

pub limit-at : (j : ℕ) → limit (place (entry_at j)) ≡ limit j
limit-at zero = refl
limit-at (suc z) = refl

pub number-at : (j : ℕ) (x : Number) → entry_of_number (place (entry_at j)) x ≡ entry_of_number j x
number-at zero x = refl
number-at (suc z) x = refl

-- the margin, and a PTDF
pub ptdf-decimals : (j : ℕ) → (j ≡ 0 → ⊥) → decimal_count j ≡ 5
ptdf-decimals zero h = absurd (h refl)
ptdf-decimals (suc z) h = refl

pub decimals-few : (j : ℕ) → decimal_count j ≤ 9
decimals-few zero = omega arith
decimals-few (suc z) = omega arith

pub ptdf-limit : (j : ℕ) → (j ≡ 0 → ⊥) → limit j ≡ limits.ptdf
ptdf-limit zero h = absurd (h refl)
ptdf-limit (suc z) h = refl

pub ptdf-turned : (j : ℕ) (b : Bool) → (j ≡ 0 → ⊥) → turned j b ≡ not b
ptdf-turned zero b h = absurd (h refl)
ptdf-turned (suc z) b h = refl

neg-sign : (b : Bool) (n : ℕ) → neg_ℤ (sign b n) ≡ sign (not b) n
neg-sign true n = neg_ℤ-neg_ℤ (pos n)
neg-sign false n = refl

pub entry-sign : (j : ℕ) (field : List ℕ) → entry j field ≡ sign (turned j (negative field)) (units (decimal_count j) field)
unfolding entry value
entry-sign zero field = refl
entry-sign (suc z) field = neg-sign (negative field) (units 5 field)

abbrev pub held_entry : ℕ → List ℕ → ℤ
held_entry j field = entry_of_number j (held_number (decimal_count j) field)

-- cutting it at the cap does not change whether it is outside
far : (b : Bool) (g n : ℕ) → g < n → outside (range (minus g) (pos g)) (sign b n) ≡ true
unfolding outside
far false g n h = right (lt_z (pos n) (minus g)) (lt-ltb g n h)
  where
    right : (a : Bool) {b : Bool} → b ≡ true → a || b ≡ true
    right true e = refl
    right false e = e
far true zero zero h = absurd (omega arith)
far true (suc g) zero h = absurd (omega arith)
far true zero (suc n) h = refl
far true (suc g) (suc n) h = ap (λ (a : Bool). a || lt_z (pos (suc g)) (negsuc n)) (lt-ltb g n (omega arith))

held-range : (b : Bool) (g n : ℕ) → g < cap → outside (range (minus g) (pos g)) (sign b (capped n)) ≡ outside (range (minus g) (pos g)) (sign b n)
held-range b g n h = elim (dec_lt cap n) [
  | yes l ↦ far b g (capped n) (omega (arith, capped-over n l)) ∙ sym (far b g n (omega arith))
  | no k ↦ ap (λ (m : ℕ). outside (range (minus g) (pos g)) (sign b m)) (capped-within n (omega arith))
]

pub held-outside : (j : ℕ) (field : List ℕ) → outside (limit j) (held_entry j field) ≡ outside (limit j) (entry j field)
held-outside zero field = held-range (turned 0 (negative field)) 500000 (units 1 field) (omega arith) ∙ ap (outside limits.margin) (sym (entry-sign zero field))
held-outside (suc z) field = held-range (turned (suc z) (negative field)) 200000 (units 5 field) (omega arith) ∙ ap (outside limits.ptdf) (sym (entry-sign (suc z) field))

-- a size inside is not cut
held-within : (b : Bool) (g n : ℕ) → g < cap → outside (range (minus g) (pos g)) (sign b n) ≡ false → capped n ≡ n
held-within b g n h e = elim (dec_lt cap n) [ yes l ↦ absurd (clash (sym (far b g n (omega arith)) ∙ e)) | no k ↦ capped-within n (omega arith) ]

pub held-exact : (j : ℕ) (field : List ℕ) → outside (limit j) (entry j field) ≡ false → held_entry j field ≡ entry j field
held-exact zero field e =
    let d = ap (outside limits.margin) (sym (entry-sign zero field)) ∙ e in
    ap (λ (n : ℕ). sign (turned 0 (negative field)) n) (held-within (turned 0 (negative field)) 500000 (units 1 field) (omega arith) d) ∙ sym (entry-sign zero field)
held-exact (suc z) field e =
    let d = ap (outside limits.ptdf) (sym (entry-sign (suc z) field)) ∙ e in
    ap (λ (n : ℕ). sign (turned (suc z) (negative field)) n) (held-within (turned (suc z) (negative field)) 200000 (units 5 field) (omega arith) d) ∙ sym (entry-sign (suc z) field)

-- a cut size as a signed number
module _ (n : ℕ) (h : n ≤ cap) where
  pub size_is : to_z w32 n ≡ pos n
  size_is = to_z_pos w32 {n = n} (omega arith)

  pub minus_is : pos 0 -ℤ to_z w32 n ≡ sign true n
  minus_is = ap (λ (z : ℤ). pos 0 -ℤ z) size_is ∙ +ℤ_idl (neg_ℤ (pos n))

  pub minus-fits : SFits w32 (pos 0 -ℤ to_z w32 n)
  minus-fits = sfits-by w32 minus_is (near_fits w32 (omega arith) (near-neg (near-pos n)))

-- a cut entry fits 32 bits
pub entry-fits : (b : Bool) (n : ℕ) → n ≤ cap → SFits w32 (sign b n)
entry-fits true n h = near_fits w32 (omega arith) (near-neg (near-pos n))
entry-fits false n h = near_fits w32 (omega arith) (near-pos n)

-- a comma is no byte of a number, and a newline is none
pub comma : Separator 44
unfolding is_digit
comma = record { no_digit = refl; no_sign = refl; no-point = refl }

pub newline : Separator 10
unfolding is_digit
newline = record { no_digit = refl; no_sign = refl; no-point = refl }
