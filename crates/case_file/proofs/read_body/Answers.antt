-- `case_file::read_body` meets its contract: row 5 for the bytes that are lent, then rows 6 to 8 in the case that
-- is cut. Assumes nothing.
use Rattle.std.proofs.lemmas.Result.{err_from_is_err_and}
use Rattle.std.proofs.Common.{◌≡◌, Ok, Err, ℕ, List, Bool, false, ◌≤◌, length, take, not, sym, ap, subst, ◌∙◌, eq-eqb}
use Rattle.rules.specs.Meaning.Layout.{case_length}
use Rattle.base_causes.specs.Meaning.Causes.{refusal}
use Rattle.base_causes.proofs.Promised.CauseLaws.{field-passes}
use Rattle.rules.specs.Meaning.Verdict.{case_refusal}
use Rattle.bytes_read.specs.Meaning.Field.{cursor}
use Rattle.bytes_read.specs.Steps.Walked.{rows-refused, rows-passed}
use Rattle.case_header.specs.declared.Counts.{Counts}
use Rattle.case_header.specs.Meaning.Answer.{counts_of}
use Rattle.case_header.specs.Meaning.CaseReadable.{HeaderValid, LengthValid, length_of}
use Rattle.case_header.specs.Steps.CaseReadable.{limited, length-is, body}
use Rattle.case_file.specs.declared.Files.{Files}
use Rattle.case_file.specs.Meaning.Answer.{case_by, case_answer}
use Rattle.case_file.specs.Meaning.Files.{case_in}
use Rattle.case_file.specs.Steps.Files.{length_refused, parts, refused-5, past-5, front-valid}
use Rattle.case_file.proofs.read_body.Goals as goal

pub demanded-end-requires : goal.demanded-end-requires
demanded-end-requires c = limited c.requires.header_valid

-- ROW 5, tested by the length that the counts demand
module _ (files : Files) {s : List ℕ} {k : Counts} (h : HeaderValid s k) {end : ℕ} (d : end ≡ length_of k) where
  demanded-is : end ≡ case_length s
  demanded-is = d ∙ length-is h

  tested : {b : Bool} → b ≡ length_refused files (length s) end → length_refused files (length s) (case_length s) ≡ b
  tested e = sym (e ∙ ap (λ (n : ℕ). length_refused files (length s) n) demanded-is)

  -- IT PASSED: the case that is cut
  module _ (e : false ≡ length_refused files (length s) end) where
    past : (case_length s ≤ length s) × (take (case_length s) s ≡ case_in files s)
    past = past-5 h files (tested e)

    file-is : take end s ≡ case_in files s
    file-is = ap (λ (n : ℕ). take n s) demanded-is ∙ past.1

    valid : LengthValid (take end s) k
    valid = subst (λ (n : ℕ). LengthValid (take n s) k) (sym demanded-is) (front-valid h past.0)

    past-length : case_refusal (take end s) ≡ refusal (parts (take end s))
    past-length = body valid.headed ∙ field-passes 5 0 (parts (take end s)) (ap not (eq-eqb (length (take end s)) (case_length (take end s)) valid.whole))

pub returns-then-length_refused : goal.returns-then-length_refused
returns-then-length_refused c =
    let s = c.args.«case».now in
    let h = c.requires.header_valid in
    c.refused.ensures ∙ ap (case_by (counts_of (case_in c.args.files s))) (sym (refused-5 h c.args.files (tested c.args.files h c.demanded-end.ensures c.if-length_refused.ensures)))

-- ROWS 6 TO 8
pub invariant_of-whole : goal.invariant_of-whole
invariant_of-whole c = record { whole = valid c.args.files c.requires.header_valid c.demanded-end.ensures c.if-length_refused.ensures }

pub returns : goal.returns
returns c =
    let f = c.args.files in
    let h = c.requires.header_valid in
    let d = c.demanded-end.ensures in
    let e = c.if-length_refused.ensures in
    let s = take c.demanded-end.result c.args.«case».now in
    ap Ok (valid f h d e).headed.counts
    ∙ ap (case_by (counts_of s)) (sym (past-length f h d e ∙ rows-passed (parts s) (cursor (case_length s)) (sym c.walk_parts.ensures ∙ c.in_ok-walk_parts.was)))
    ∙ ap case_answer (file-is f h d e)

pub returns-in_err-walk_parts : goal.returns-in_err-walk_parts
returns-in_err-walk_parts c =
    let f = c.args.files in
    let h = c.requires.header_valid in
    let d = c.demanded-end.ensures in
    let e = c.if-length_refused.ensures in
    let s = take c.demanded-end.result c.args.«case».now in
    let p = err_from_is_err_and c.from_residual.result c.from_residual.ensures.1 in
    p.1 ∙ ap Err p.2 ∙ ap (case_by (counts_of s)) (sym (past-length f h d e ∙ rows-refused (parts s) (cursor (case_length s)) (sym c.walk_parts.ensures ∙ c.in_err-walk_parts.was)))
    ∙ ap case_answer (file-is f h d e)
