-- The two causes that the entries ask, one after the other, and what an entry's answer must meet. Assumes nothing.
use Rattle.std.specs.Prelude.{◌≡◌, refl, Bool, true, false, ℕ, ◌≤◌, ◌<◌, length, drop, Ok, Err}
use Rattle.std.proofs.Common.{sym, ap, ◌∙◌, lt-ltb, le-ltb}
use mathlib.Core.List.{List, [], ◌∷◌, ◌++◌}
use Rattle.std.proofs.Math.Option.{Option, none, some}
use Rattle.base_causes.specs.declared.Outcome.{Outcome}
use Rattle.base_causes.specs.Meaning.Causes.{Cause, verdict, refusal, answer, once}
use Rattle.base_causes.proofs.Promised.CauseLaws.{field-fails, field-passes}
use Rattle.base_output.specs.declared.Written.{Written}
use Rattle.base_output.specs.Meaning.Output.{output_after, written_by}
use Rattle.base_output.specs.Steps.Met.{Met, met-refusal}
use Rattle.column_file.specs.Meaning.Columns.{short_output}
use Rattle.column_file.specs.Meaning.Answer.{restore_by}

-- BOTH TABLES: whether 71 holds, how long the file is, and the room
abbrev pub rows_of : Bool → ℕ → ℕ → List Cause
rows_of bad size room = once 71 bad ∷ short_output size room ∷ []

module _ {bad : Bool} (size room : ℕ) where
  pub refused-71 : bad ≡ true → refusal (rows_of bad size room) ≡ some (verdict 71 0)
  refused-71 e = field-fails 71 0 (short_output size room ∷ []) e

  pub refused-72 : bad ≡ false → room < size → refusal (rows_of bad size room) ≡ some (verdict 72 0)
  refused-72 e h = field-passes 71 0 (short_output size room ∷ []) e ∙ field-fails 72 0 [] (lt-ltb room size h)

  pub taken : bad ≡ false → size ≤ room → refusal (rows_of bad size room) ≡ none
  unfolding refusal
  taken e h = field-passes 71 0 (short_output size room ∷ []) e ∙ field-passes 72 0 [] (le-ltb room size h)

pub restore-refused : (bad : Bool) {o : Outcome} → restore_by bad ≡ Err o → (bad ≡ true) × (o ≡ verdict 71 0)
restore-refused true e = (refl, cc)
restore-refused false e = (cc, cc)

pub restore-made : (bad : Bool) → restore_by bad ≡ Ok tt → bad ≡ false
restore-made true e = cc
restore-made false e = refl

-- WHAT MUST BE MET: r is returned, and the output is `out` before and `after` afterwards
abbrev pub Owed : Bool → ℕ → List ℕ → List ℕ → Written → List ℕ → Type 0
Owed bad size bytes out r after = Met (refusal (rows_of bad size (length out))) bytes out r after

module _ {bad : Bool} (size : ℕ) (bytes out : List ℕ) {r : Written} where
  pub by-71 : bad ≡ true → r ≡ record { number = 71; index = 0; length = 0 } → Owed bad size bytes out r out
  by-71 e q = met-refusal bytes out (refused-71 size (length out) e) q

  pub by-72 : bad ≡ false → length out < size → r ≡ record { number = 72; index = 0; length = 0 } → Owed bad size bytes out r out
  by-72 e h q = met-refusal bytes out (refused-72 size (length out) e h) q

  pub by-0 : {after : List ℕ} → bad ≡ false → size ≤ length out → r ≡ record { number = 0; index = 0; length = size } → length bytes ≡ size
      → after ≡ bytes ++ drop size out → Owed bad size bytes out r after
  by-0 e h q n w =
      let t = taken size (length out) e h in (
        ap (λ (x : Written). verdict x.number x.index) q ∙ sym (ap answer t),
        (
          ap (λ (x : Written). x.length) q ∙ sym n ∙ sym (ap (λ (p : Option Outcome). length (written_by p bytes)) t),
          w ∙ ap (λ (k : ℕ). bytes ++ drop k out) (sym n) ∙ sym (ap (λ (p : Option Outcome). output_after (written_by p bytes) out) t),
        ),
      )
