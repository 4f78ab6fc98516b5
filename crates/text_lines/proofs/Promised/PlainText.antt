-- ALL THAT THE DESK PRINTS for an input, in plain bytes: where the input is cut, and which lines its two parts have.
-- The clause `text` of the exported entry cites it. Assumes nothing.
use Rattle.std.specs.Prelude.{List, ℕ, length}
use Rattle.std.proofs.Common.{ap, ◌∙◌, length-take-le}
use Rattle.rules.specs.Meaning.Cut.{case_part, proposal_part}
use Rattle.rules.specs.Meaning.Lines.{desk_text}
use Rattle.rules.proofs.Promised.PlainCut.{parts-joined, cut-there, too_few, bad-header}
use Rattle.rules.proofs.Promised.PlainLines.{all_lines, one_line}
use Rattle.text_lines.specs.Promised.PlainText.{PlainText}

pub plain-text : (input : List ℕ) → PlainText input (desk_text input)
unfolding desk_text
plain-text input = record {
  case-bytes = case_part input;
  proposal-bytes = proposal_part input;
  input-is = parts-joined input;
  cut-there = λ f n d h. ap length (cut-there input f n d h).case-is ∙ length-take-le n input h;
  too_few = λ f n d h. (too_few input f n d h).proposal-is;
  bad-header = λ g. (bad-header input g).proposal-is;
  lines_are = all_lines (case_part input) (proposal_part input);
  line-is = one_line (case_part input) (proposal_part input);
}
