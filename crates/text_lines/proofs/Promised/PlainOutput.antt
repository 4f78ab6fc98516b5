-- THE DESK'S TEXT IN A LENT OUTPUT, in plain numbers and byte by byte: 31 exactly where the output has less than 1,024
-- bytes. Assumes nothing.
use Rattle.std.specs.Prelude.{◌≡◌, List, ℕ, ◌≤◌, ◌<◌}
use Rattle.std.proofs.Common.{sym, ◌∙◌, arith}
use Rattle.std.proofs.Math.Path.{ap, subst}
use Rattle.std.proofs.Math.Option.{Option}
use Rattle.std.proofs.Math.ListN.{length}
use Rattle.base_causes.specs.declared.Outcome.{Outcome}
use Rattle.base_causes.specs.Meaning.Causes.{verdict, answer}
use Rattle.rules.specs.Meaning.Lines.{desk_text}
use Rattle.base_output.specs.Meaning.Output.{written_by, output_after}
use Rattle.base_output.specs.Promised.PlainOutput.{Wrote, refusal-leaves, answer-written}
use Rattle.text_lines.specs.Meaning.Printed.{desk_outcome, desk_written, desk_output}
use Rattle.text_lines.proofs.Promised.ShortOutput.{refused-31, past-31}
use Rattle.text_lines.proofs.Promised.Room.{desk-room}

-- UNDER 1,024 BYTES: 31, index 0, nothing written, no byte changed
pub record TooShort (input out : List ℕ) : Type 0 where
  pub number_is : desk_outcome (length out) ≡ verdict 31 0
  pub length-is : length (desk_written (length out) input) ≡ 0
  pub output-is : desk_output input out ≡ out

-- FROM 1,024 BYTES ON: 0, index 0, the text and its length, and all past it unchanged
pub record Printed (input out : List ℕ) : Type 0 where
  pub number_is : desk_outcome (length out) ≡ verdict 0 0
  pub text-is : desk_written (length out) input ≡ desk_text input
  pub text-room : length (desk_text input) ≤ 1024
  pub output-is : Wrote (desk_text input) out (desk_output input out)

module _ (input out : List ℕ) where
  pub too_short : length out < 1024 → TooShort input out
  unfolding desk_outcome desk_written desk_output
  too_short h =
      let e = refused-31 (length out) h in
      let left = refusal-leaves (desk_text input) out (verdict 31 0) in
      record {
        number_is = ap (λ (o : Option Outcome). answer o) e;
        length-is = ap (λ (o : Option Outcome). length (written_by o (desk_text input))) e ∙ left.1;
        output-is = ap (λ (o : Option Outcome). output_after (written_by o (desk_text input)) out) e ∙ left.0;
      }

  pub printed : 1024 ≤ length out → Printed input out
  unfolding desk_outcome desk_written desk_output
  printed h =
      let e = past-31 (length out) h in
      record {
        number_is = ap (λ (o : Option Outcome). answer o) e;
        text-is = ap (λ (o : Option Outcome). written_by o (desk_text input)) e;
        text-room = desk-room input;
        output-is = subst (λ (o : Option Outcome). Wrote (desk_text input) out (output_after (written_by o (desk_text input)) out)) (sym e) (answer-written (desk_text input) out (omega (arith, desk-room input, h)));
      }
