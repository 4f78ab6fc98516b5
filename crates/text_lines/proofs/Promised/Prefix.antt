-- A long input is judged by its start. No legal hour has more than 10,126 + 2,573 = 12,699 bytes. So a longer input
-- is refused, and any start of it with more bytes than that is refused by the same number and index.
-- Assumes nothing.
use Rattle.std.specs.Prelude.{◌≡◌, refl, ◌&&◌, List, ℕ, ◌+◌, ◌*◌, ◌≤◌, ◌<◌, length, get_or, take, drop}
use Rattle.std.proofs.Common.{sym, ap, ◌∙◌, length-drop, length-take-le, take_all, take-take, get_or-take, get_or-drop}
use Rattle.std.proofs.Math.Bool.{not}
use Rattle.std.proofs.Math.Option.{Option, none, some}
use native.Mathlib.Omega.{arith}
use Rattle.std.proofs.Math.Decide.{dec_lt}
use Rattle.std.proofs.Math.Seq.{take-length}
use Rattle.std.proofs.Math.Dec.{eqb}
use Rattle.rules.specs.Meaning.Layout.{u8_at, u16_at, case_length, proposal_version, proposal_length}
use Rattle.base_causes.specs.declared.Outcome.{Outcome}
use Rattle.base_causes.specs.Meaning.Causes.{answer}
use Rattle.base_causes.proofs.Promised.CauseLaws.{else-refusal}
use Rattle.rules.specs.Meaning.Verdict.{header_refusal, differ, not_mark, case_refusal}
use Rattle.rules.specs.Meaning.Cut.{case_end, case_part, proposal_part}
use Rattle.rules.proofs.Steps.CaseEnd.{end_refused, end-good, SameHeader, same-refusal, same_length}
use Rattle.text_lines.proofs.Steps.Header.{case-at-most, proposal-at-most}
use Rattle.text_lines.proofs.Steps.Refused.{header_refused, long, too_long}
use Rattle.rules.specs.Meaning.Lines.{verdict_line, hour_text, desk_text}

-- WHERE THE CASE ENDS, by its header
refused-text : (s : List ℕ) (o : Outcome) → header_refusal s ≡ some o → desk_text s ≡ verdict_line o
unfolding desk_text case_part
refused-text s o e = header_refused (case_part s) (proposal_part s) o (ap header_refusal all ∙ e)
  where
    all : case_part s ≡ s
    all = ap (λ (k : ℕ). take k s) (end_refused s o e) ∙ take-length s

good-text : (s : List ℕ) (end : ℕ) → case_end s ≡ end → desk_text s ≡ hour_text (take end s) (drop end s)
unfolding desk_text case_part proposal_part
good-text s end e = ap (λ (k : ℕ). hour_text (take k s) (drop k s)) e

-- AN INPUT LONGER THAN n, and its first n bytes
module _ (n : ℕ) (input : List ℕ) (more : 12699 < n) (longer : n < length input) where
  start-length : length (take n input) ≡ n
  start-length = length-take-le n input (omega arith)

  same_start : SameHeader (take n input) input
  same_start = record { long = (omega (arith, start-length), omega arith); same = λ k l. get_or-take n input k 0 (omega arith) }

  module _ (good : header_refusal input ≡ none) where
    abbrev end : ℕ
    end = case_length input

    end-in : (14 ≤ end) × (end ≤ 10126)
    unfolding case_length
    end-in = (omega arith, case-at-most input good)

    -- the same case
    case-length : length (take end input) ≡ end
    case-length = length-take-le end input (omega (arith, end-in.1))

    case-header : SameHeader (take end input) input
    case-header = record { long = (omega (arith, case-length, end-in.0), omega arith); same = λ k l. get_or-take end input k 0 (omega (arith, end-in.0)) }

    fewer : proposal_length (take end input) ≤ 2573
    fewer = proposal-at-most (take end input) (same-refusal (take end input) input case-header ∙ good)

    -- two proposals, both too long, with the same first bytes
    abbrev whole : List ℕ
    whole = drop end input

    abbrev cut : List ℕ
    cut = drop end (take n input)

    byte : (k : ℕ) → k < 5 → get_or cut k 0 ≡ get_or whole k 0
    byte k l = get_or-drop end (take n input) k 0 ∙ get_or-take n input (end + k) 0 (omega (arith, end-in.1)) ∙ sym (get_or-drop end input k 0)

    same-mark : not_mark 76 84 80 cut ≡ not_mark 76 84 80 whole
    unfolding not_mark u8_at
    same-mark = λ i. not (eqb (byte 0 (omega arith) i) 76 && eqb (byte 1 (omega arith) i) 84 && eqb (byte 2 (omega arith) i) 80)

    same_version : proposal_version cut ≡ proposal_version whole
    unfolding proposal_version u16_at
    same_version = λ i. byte 3 (omega arith) i + 256 * byte 4 (omega arith) i

    cut-longer : proposal_length (take end input) < length cut
    cut-longer = omega (arith, fewer, length-drop end (take n input), start-length, end-in.1)

    whole-longer : proposal_length (take end input) < length whole
    whole-longer = omega (arith, fewer, length-drop end input, end-in.1)

    same-hour : hour_text (take end input) cut ≡ hour_text (take end input) whole
    same-hour =
        too_long (take end input) cut cut-longer
        ∙ (λ i. verdict_line (answer (else-refusal (case_refusal (take end input)) (some (long (same-mark i) (differ (same_version i) 1))))))
        ∙ sym (too_long (take end input) whole whole-longer)

    cut-end : case_end (take n input) ≡ end
    cut-end =
        end-good (take n input) (same-refusal (take n input) input same_start ∙ good) (omega (arith, same_length (take n input) input same_start, start-length, end-in.1))
        ∙ same_length (take n input) input same_start

    when-good : desk_text (take n input) ≡ desk_text input
    when-good =
        good-text (take n input) end cut-end
        ∙ ap (λ (s : List ℕ). hour_text s cut) (take-take end n input (omega (arith, end-in.1)))
        ∙ same-hour
        ∙ sym (good-text input end (end-good input good (omega (arith, end-in.1))))

  when-longer : desk_text (take n input) ≡ desk_text input
  when-longer = by (header_refusal input) refl
    where
      by : (x : Option Outcome) → header_refusal input ≡ x → desk_text (take n input) ≡ desk_text input
      by (some o) e = refused-text (take n input) o (same-refusal (take n input) input same_start ∙ e) ∙ sym (refused-text input o e)
      by none e = when-good e

-- THE DESK MAY STOP KEEPING BYTES after the first n, for any n above 12,699
pub start-enough : (n : ℕ) (input : List ℕ) → 12699 < n → desk_text (take n input) ≡ desk_text input
start-enough n input h = elim (dec_lt n (length input)) [ yes l ↦ when-longer n input h l | no g ↦ ap desk_text (take_all n input (omega arith)) ]
