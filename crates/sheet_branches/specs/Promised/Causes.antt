-- The table's numbers in the order asked; a refusal is given for its own cause and no other and writes nothing; no
-- cause asked earlier holds. Assumes nothing.
use Rattle.std.specs.Prelude.{◌≡◌, true, List, [], ◌∷◌, ℕ, ◌<◌, length, get_or, T}
use Rattle.std.proofs.Math.Path.{refl, ap}
use Rattle.std.proofs.Math.Option.{Option, none}
use Rattle.std.proofs.Common.{arith}
use Rattle.base_causes.specs.declared.Outcome.{Outcome}
use Rattle.base_causes.proofs.Promised.Asked.{unnamed, the-place, ask, Asks}
use Rattle.base_causes.specs.Meaning.Causes.{Cause, verdict, answer}
use Rattle.base_causes.proofs.Promised.CauseLaws.{empty, CausedBy, answer-caused, Answered, answered, Soonest, soonest, lacks, zero-none}
use Rattle.base_output.specs.Meaning.Output.{written_by}
use Rattle.sheet_numbers.specs.Meaning.Numeral.{digits, starts, before, negative, unsigned, whole, is_number}
use Rattle.sheet_lines.specs.Meaning.Sheet.{fields, field_of, malformed, sheet_causes, sheet_refusal, sheet_outcome, sheet_bytes, sheet_written, sheet_output}
use Rattle.sheet_lines.proofs.Promised.PlainBytes.{refusal-leaves}
use Rattle.sheet_lines.proofs.Steps.Lines.{malformed-field}

module _ (zones : ℕ) (sheet : List ℕ) (room : ℕ) where
  abbrev rows : List Cause
  rows = sheet_causes zones sheet room

  -- 50 to 55, in this order; 51 to 53 name the line
  pub sheet-order : Asks rows (ask 50 unnamed ∷ ask 51 the-place ∷ ask 52 the-place ∷ ask 53 the-place ∷ ask 54 unnamed ∷ ask 55 unnamed ∷ [])
  unfolding sheet_causes
  sheet-order = (refl, (λ k. refl, (refl, (λ k. refl, (refl, (λ k. refl, (refl, (λ k. refl, (refl, (λ k. refl, (refl, (λ k. refl, tt))))))))))))

  -- 0 if and only if every row passes at every place, else the first row that fails, at its first place
  pub sheet-answers : Answered rows (sheet_outcome zones sheet room)
  unfolding sheet_outcome sheet_refusal sheet_causes lacks
  sheet-answers = answered rows tt

  -- a refusal has a row of its number that fails at its place, and nothing asked before fails
  pub sheet-caused : 0 < (sheet_outcome zones sheet room).number → CausedBy rows (sheet_outcome zones sheet room)
  unfolding sheet_outcome sheet_refusal
  sheet-caused h = answer-caused rows h

  -- if a cause holds, in row j at place k, it is not asked before the outcome's
  pub sheet-first : (j k : ℕ) → k < (get_or rows j empty).places → T ((get_or rows j empty).fails k) → Soonest rows (sheet_outcome zones sheet room) j k
  unfolding sheet_outcome sheet_refusal
  sheet-first j k h f = soonest rows j k h f

  -- the answer 0 has index 0, is given where no row fails, and writes the branches
  pub sheet-none : (sheet_outcome zones sheet room).number ≡ 0 → sheet_refusal zones sheet room ≡ none
  unfolding sheet_outcome sheet_refusal sheet_causes lacks
  sheet-none e = zero-none rows tt e

  pub sheet-answered : (sheet_outcome zones sheet room).number ≡ 0 → sheet_outcome zones sheet room ≡ verdict 0 0
  unfolding sheet_outcome
  sheet-answered e = ap answer (sheet-none e)

  pub sheet-writes : (sheet_outcome zones sheet room).number ≡ 0 → sheet_written zones sheet room ≡ sheet_bytes zones sheet
  unfolding sheet_written
  sheet-writes e = ap (λ (o : Option Outcome). written_by o (sheet_bytes zones sheet)) (sheet-none e)

-- a refusal leaves every byte unchanged
pub sheet-refused : (zones : ℕ) (sheet out : List ℕ) → 0 < (sheet_outcome zones sheet (length out)).number → (length (sheet_written zones sheet (length out)) ≡ 0) × (sheet_output zones sheet out ≡ out)
sheet-refused zones sheet out h = refusal-leaves zones sheet out (λ e. omega (arith, e))

-- an empty line is malformed, whatever the zones
pub empty-line : (zones : ℕ) → malformed zones [] ≡ true
unfolding field_of fields is_number digits whole unsigned negative starts before
empty-line zones = malformed-field zones [] 0 (omega arith) refl
