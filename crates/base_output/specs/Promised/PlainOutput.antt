-- A LENT OUTPUT BYTE BY BYTE: `get_or out k 0` is the byte at place k, counted from 0. Assumes nothing.
use Rattle.std.specs.Prelude.{◌≡◌, refl, List, ◌++◌, ℕ, ◌+◌, ◌-◌, ◌≤◌, ◌<◌, length, get_or, drop}
use Rattle.std.proofs.Common.{sym, ap, ◌∙◌, arith, length-append, length-drop, get_or-append-add, get_or-drop}
use Rattle.std.proofs.Math.Option.{none, some}
use Rattle.std.proofs.Math.ListN.{get_or-append}
use Rattle.base_causes.specs.declared.Outcome.{Outcome}
use Rattle.base_output.specs.Meaning.Output.{written_by, output_after}

-- `bytes` stand from place 0 on, and all past them is unchanged
pub record Wrote (bytes out after : List ℕ) : Type 0 where
  pub written_at : (k : ℕ) → k < length bytes → get_or after k 0 ≡ get_or bytes k 0
  pub past-it : (k : ℕ) → length bytes ≤ k → get_or after k 0 ≡ get_or out k 0
  pub same_length : length after ≡ length out

module _ (bytes out : List ℕ) where
  -- A REFUSAL changes no byte, and nothing is written
  pub refusal-leaves : (o : Outcome) → (output_after (written_by (some o) bytes) out ≡ out) × (length (written_by (some o) bytes) ≡ 0)
  refusal-leaves o = (refl, refl)

  -- AN ANSWER is written whole, where the output has room for it
  pub answer-written : length bytes ≤ length out → Wrote (written_by none bytes) out (output_after (written_by none bytes) out)
  answer-written h = record {
    written_at = λ k l. get_or-append bytes (drop (length bytes) out) 0 k l;
    past-it = past;
    same_length = length-append bytes (drop (length bytes) out) ∙ omega (arith, h, length-drop (length bytes) out);
  }
    where
      past : (k : ℕ) → length bytes ≤ k → get_or (bytes ++ drop (length bytes) out) k 0 ≡ get_or out k 0
      past k l =
          let there : length bytes + (k - length bytes) ≡ k = omega (arith, l) in
          ap (λ (j : ℕ). get_or (bytes ++ drop (length bytes) out) j 0) (sym there)
          ∙ get_or-append-add bytes (drop (length bytes) out) (k - length bytes) 0
          ∙ get_or-drop (length bytes) out (k - length bytes) 0
          ∙ ap (λ (j : ℕ). get_or out j 0) there
