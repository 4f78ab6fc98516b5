-- `column_file::put_restored` meets its contract: the case is made in the first bytes of a local array, and copied only
-- if it is readable. Assumes nothing.
use Rattle.std.proofs.Common.{◌≡◌, false, List, ◌++◌, ℕ, length, take, drop, refl, sym, ap, subst, ◌∙◌}
use Rattle.std.proofs.lemmas.List.Edits.{sets}
use Rattle.column_file.specs.Steps.Stored.{every}
use Rattle.column_file.proofs.Steps.Stored.{copy_run}
use Rattle.std.proofs.lemmas.Result.{err_from_is_err_and}
use Rattle.base_causes.specs.declared.Outcome.{Outcome}
use Rattle.base_output.specs.declared.Written.{Written}
use Rattle.column_file.specs.Meaning.Columns.{restored_of, not_restored, restored_causes, restored_outcome, restored_written, restored_output, Restored, CaseRestored}
use Rattle.column_file.proofs.Promised.RoundTrip.{restored-length, restored-stands}
use Rattle.column_file.proofs.Steps.Answers.{restore-refused, restore-made, Owed, by-71, by-72, by-0}
use Rattle.column_file.proofs.Steps.Read.{too_long, not-readable}
use Rattle.column_file.proofs.put_restored.Goals as goal
use Rattle.column_file.proofs.put_restored.Goals.{In_ok-restore}

-- an answer by 0 keeps the promises about its bytes
all : (t out : List ℕ) {r : Written} {after : List ℕ} → Owed (not_restored t) (length t) (restored_of t) out r after → CaseRestored t out r after
unfolding restored_outcome restored_written restored_output restored_causes
all t out {r} {after} m = record { outcome-is = m.0; written = m.1.0; output = m.1.1; restored = stands }
  where
    stands : r.number ≡ 0 → Restored t (take r.length after)
    stands z = subst (λ (u : List ℕ). Restored t u) (λ i. take (sym m.1.0 i) (sym m.1.1 i)) (restored-stands t out (sym (ap (λ (o : Outcome). o.number) m.0) ∙ z))

-- 71: too long
pub returns-then-length-gt-LONGEST : goal.returns-then-length-gt-LONGEST
returns-then-length-gt-LONGEST c =
    let t = c.args.file.now in
    let out = c.args.out.now in
    all t out (by-71 (length t) (restored_of t) out (not-readable t (too_long t c.if-length-gt-LONGEST.true)) refl)

-- 71: not restored
pub returns-in_err-restore : goal.returns-in_err-restore
returns-in_err-restore c =
    let t = c.args.file.now in
    let out = c.args.out.now in
    let p = err_from_is_err_and c.from_residual.result c.from_residual.ensures.1 in
    let q = restore-refused (not_restored t) (sym c.restore.ensures.value ∙ c.in_err-restore.was) in
    rw (p.1, p.2, q.1) (all t out (by-71 (length t) (restored_of t) out q.0 refl))

made : (c : In_ok-restore) → not_restored c.args.file.now ≡ false
made c = restore-made (not_restored c.args.file.now) (sym c.restore.ensures.value ∙ c.in_ok-restore.was)

-- 72
pub returns-then-out-length : goal.returns-then-out-length
returns-then-out-length c =
    let t = c.args.file.now in
    let out = c.args.out.now in
    all t out (by-72 (length t) (restored_of t) out (made (goal.at.returns-then-out-length c).In_ok-restore) c.if-out-length.true refl)

pub returns : goal.returns
returns c =
    let t = c.args.file.now in
    let out = c.args.out.now in
    let n = length t in
    let rest = drop n c.blank-case.result in
    all t out (by-0 n (restored_of t) out (made (goal.at.returns c).In_ok-restore) c.if-out-length.false refl (restored-length t)
    (c.copy.ensures ∙ ap (λ (l : List ℕ). sets out 0 (every 0 1 n (l ++ rest))) (c.restore.ensures.case_after c.in_ok-restore.was) ∙ copy_run (restored_of t) rest out n (restored-length t) c.if-out-length.false))
