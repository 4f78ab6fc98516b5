-- WHAT AN ANSWER MUST MEET, for an entry that writes into a lent output, where it refuses and where it answers.
-- Assumes nothing.
use Rattle.std.specs.Prelude.{◌≡◌, List, ◌++◌, ℕ, ◌+◌, ◌≤◌, length, take, drop}
use Rattle.std.proofs.Common.{sym, ap, ◌∙◌, zero-add, arith}
use Rattle.std.proofs.Math.Option.{Option, none, some}
use Rattle.std.proofs.lemmas.List.Edits.{sets, sets-eq}
use Rattle.base_causes.specs.declared.Outcome.{Outcome}
use Rattle.base_causes.specs.Meaning.Causes.{verdict, answer}
use Rattle.base_output.specs.declared.Written.{Written}
use Rattle.base_output.specs.Meaning.Output.{written_by, output_after}

-- from the refusal, if any, and the bytes of the answer: number and index, length, every byte of the output
abbrev pub Met : Option Outcome → List ℕ → List ℕ → Written → List ℕ → Type 0
Met o bytes out r after =
    (verdict r.number r.index ≡ answer o)
    × ((r.length ≡ length (written_by o bytes))
    × (after ≡ output_after (written_by o bytes) out))

module _ {o : Option Outcome} (bytes out : List ℕ) where
  pub met-refusal : {n k : ℕ} {r : Written} → o ≡ some (verdict n k) → r ≡ record { number = n; index = k; length = 0 } → Met o bytes out r out
  met-refusal e q = (
    ap (λ (x : Written). verdict x.number x.index) q ∙ sym (ap answer e),
    (
      ap (λ (x : Written). x.length) q ∙ sym (ap (λ (p : Option Outcome). length (written_by p bytes)) e),
      sym (ap (λ (p : Option Outcome). output_after (written_by p bytes) out) e),
    ),
  )

  pub met-answer : {after : List ℕ} {m : ℕ} → o ≡ none → length bytes ≤ length out → m ≡ length bytes → after ≡ sets out 0 bytes → Met o bytes out (record { number = 0; index = 0; length = m }) after
  met-answer e h q b = (
    sym (ap answer e),
    (
      q ∙ sym (ap (λ (p : Option Outcome). length (written_by p bytes)) e),
      b ∙ sets-eq bytes out 0 (omega arith) ∙ whole ∙ sym (ap (λ (p : Option Outcome). output_after (written_by p bytes) out) e),
    ),
  )
    where
      whole : take 0 out ++ bytes ++ drop (0 + length bytes) out ≡ output_after bytes out
      whole = ap (λ (n : ℕ). bytes ++ drop n out) (zero-add (length bytes))
