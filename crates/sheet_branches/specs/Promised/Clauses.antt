-- WHAT ELSE AN ANSWER PROMISES: a case holds the sheet's numbers; and in plain numbers, which sheet gives which
-- answer and where each number stands. These are the clauses `branches`, `causes` and `bytes` of the exported
-- entry. Assumes nothing.
use Rattle.std.specs.Prelude.{◌≡◌, List, ◌++◌, ℕ, length, take}
use Rattle.std.proofs.Common.{sym, ap, subst, ◌∙◌}
use Rattle.base_causes.specs.declared.Outcome.{Outcome}
use Rattle.base_causes.specs.Meaning.Causes.{verdict}
use Rattle.base_output.specs.declared.Written.{Written}
use Rattle.sheet_lines.specs.Meaning.Sheet.{Header, SheetInCase, line_count, sheet_outcome, sheet_written}
use Rattle.sheet_lines.specs.Promised.PlainCauses.{Answers, AnswersTo}
use Rattle.sheet_lines.proofs.Promised.PlainCauses.{answers}
use Rattle.sheet_lines.specs.Promised.PlainBytes.{Branches, BranchesOf}
use Rattle.sheet_lines.proofs.Promised.PlainBytes.{branches-written}
use Rattle.sheet_branches.specs.Meaning.Answer.{SheetAnswered}
use Rattle.sheet_branches.specs.Promised.ReadBack.{written_back}

module _ {zones : ℕ} {sheet old new : List ℕ} {r : Written} (a : SheetAnswered zones sheet old new r) where
  zero_is : r.number ≡ 0 → (sheet_outcome zones sheet (length old)).number ≡ 0
  zero_is z = sym (ap (λ (o : Outcome). o.number) a.outcome) ∙ z

  pub branches-held : r.number ≡ 0 → (header rest : List ℕ) → Header zones (line_count sheet) header → SheetInCase zones sheet (header ++ (take r.length new ++ rest))
  branches-held z header rest good =
      subst (λ (t : List ℕ). SheetInCase zones sheet (header ++ (t ++ rest))) (λ i. take (sym a.length-is i) (sym a.output i)) (written_back zones sheet old (zero_is z) header rest good)

  pub causes-plain : AnswersTo zones sheet (length old) (verdict r.number r.index)
  causes-plain rows c = subst (Answers zones rows (length old)) (sym a.outcome) (answers zones sheet (length old) rows c)

  pub bytes-plain : r.number ≡ 0 → BranchesOf zones sheet r.length old new
  bytes-plain z rows c =
      subst (λ (n : ℕ). Branches zones rows n old new) (sym a.length-is) (subst (Branches zones rows (length (sheet_written zones sheet (length old))) old) (sym a.output) (branches-written zones sheet old rows c (zero_is z)))
