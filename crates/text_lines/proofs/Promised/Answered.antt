-- WHAT AN ANSWER HOLDS: where the output has the desk's room, what was written is the text in plain bytes. This is
-- the clause `text` of the exported entry. Assumes nothing.
use Rattle.std.specs.Prelude.{◌≡◌, ℕ, ◌≤◌, length, drop}
use Rattle.std.proofs.Common.{sym, ◌∙◌}
use Rattle.std.proofs.Math.Path.{ap, subst}
use mathlib.Core.List.{List}
use Rattle.std.proofs.Math.Option.{Option}
use Rattle.std.proofs.Math.ListN.{take}
use Rattle.std.proofs.Math.Seq.{take-append_seam}
use Rattle.base_causes.specs.declared.Outcome.{Outcome}
use Rattle.base_output.specs.declared.Written.{Written}
use Rattle.base_output.specs.Meaning.Output.{written_by}
use Rattle.rules.specs.Meaning.Lines.{desk_text}
use Rattle.text_lines.specs.Meaning.Printed.{desk_written, desk_output, DeskPrinted}
use Rattle.text_lines.proofs.Promised.ShortOutput.{past-31}
use Rattle.text_lines.specs.Promised.PlainText.{PlainText}
use Rattle.text_lines.proofs.Promised.PlainText.{plain-text}

module _ {input before after : List ℕ} {r : Written} (a : DeskPrinted input before r after) where
  abbrev bytes : List ℕ
  bytes = desk_written (length before) input

  -- what was written reads back from the output
  stands : take r.length after ≡ bytes
  unfolding desk_output
  stands = (λ i. take (a.written i) (a.output i)) ∙ take-append_seam bytes (drop (length bytes) before)

  pub answer-text : 1024 ≤ length before → PlainText input (take r.length after)
  unfolding desk_written
  answer-text h =
      let text-is = stands ∙ ap (λ (o : Option Outcome). written_by o (desk_text input)) (past-31 (length before) h) in
      subst (λ (text : List ℕ). PlainText input text) (sym text-is) (plain-text input)
