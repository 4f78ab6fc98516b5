-- `column_file::put_columned` meets its contract: the orders end a readable case, so its length tells where they start.
-- Assumes nothing.
use Rattle.std.proofs.Common.{◌≡◌, List, ◌++◌, ℕ, length, take, drop, refl, sym, ap, subst, ◌∙◌, arith}
use Rattle.base_causes.specs.declared.Outcome.{Outcome}
use Rattle.base_output.specs.declared.Written.{Written}
use Rattle.case_header.specs.Meaning.CaseReadable.{CaseReadable}
use Rattle.case_file.specs.Steps.Answer.{opened_of}
use Rattle.column_file.specs.Meaning.Columns.{columned_of, unreadable, columned_causes, columned_outcome, columned_written, columned_output, Columned, ComesBack, NotJudged, CaseColumned}
use Rattle.column_file.proofs.Promised.RoundTrip.{columned-length, columned-stands}
use Rattle.column_file.proofs.Steps.Counts.{unreadable-of, start-past}
use Rattle.column_file.proofs.Steps.Answers.{Owed, by-71, by-72, by-0}
use Rattle.column_file.proofs.Steps.Read.{refused-case, orders-end, columned-is}
use Rattle.column_file.proofs.put_columned.Goals as goal
use Rattle.column_file.proofs.put_columned.Goals.{In-Ok}

-- an answer by 0 keeps the promises about its bytes
all : (s out : List ℕ) {r : Written} {after : List ℕ} → Owed (unreadable s) (length s) (columned_of s) out r after → CaseColumned s out r after
unfolding columned_outcome columned_written columned_output columned_causes
all s out {r} {after} m =
    record { outcome-is = m.0; written = m.1.0; output = m.1.1; columns = λ z. (stands z).0; back = λ z. (stands z).1; not-judged = λ z. (stands z).2 }
  where
    stands : r.number ≡ 0 → Columned s (take r.length after) × ComesBack s (take r.length after) × NotJudged (take r.length after)
    stands z = subst (λ (u : List ℕ). Columned s u × ComesBack s u × NotJudged u) (λ i. take (sym m.1.0 i) (sym m.1.1 i)) (columned-stands s out (sym (ap (λ (o : Outcome). o.number) m.0) ∙ z))

opened : (c : In-Ok) → CaseReadable c.args.«case».now c.in-Ok.k
opened c = opened_of c.args.«case».now (sym c.read_case.ensures ∙ c.in-Ok.is)

-- 71
pub returns-in_default : goal.returns-in_default
returns-in_default c =
    let s = c.args.«case».now in
    let out = c.args.out.now in
    all s out (by-71 (length s) (columned_of s) out (refused-case s (sym c.read_case.ensures ∙ c.in_default.is)) refl)

-- 72
pub returns-then-out-case : goal.returns-then-out-case
returns-then-out-case c =
    let s = c.args.«case».now in
    let out = c.args.out.now in
    all s out (by-72 (length s) (columned_of s) out (unreadable-of s (opened (goal.at.returns-then-out-case c).In-Ok).readable) c.if-out-case.true refl)

pub overflow_mul-columns : goal.overflow_mul-columns
overflow_mul-columns c = omega (arith, orders-end (opened (goal.at.overflow_mul-columns c).In-Ok))

pub overflow_sub-columns : goal.overflow_sub-columns
overflow_sub-columns c = omega (arith, orders-end (opened (goal.at.overflow_sub-columns c).In-Ok))

pub put_file-requires-clause-le_start : goal.put_file-requires-clause-le_start
put_file-requires-clause-le_start c = omega (arith, orders-end (opened (goal.at.put_file-requires-clause-le_start c).In-Ok), start-past c.args.«case».now)

pub put_file-requires-clause-columns_value : goal.put_file-requires-clause-columns_value
put_file-requires-clause-columns_value c = omega (arith, orders-end (opened (goal.at.put_file-requires-clause-columns_value c).In-Ok))

pub returns : goal.returns
returns c =
    let s = c.args.«case».now in
    let out = c.args.out.now in
    let o = opened (goal.at.returns c).In-Ok in
    all s out (by-0 (length s) (columned_of s) out (unreadable-of s o.readable) c.if-out-case.false refl (columned-length s)
    (c.put_file.ensures ∙ ap (λ (l : List ℕ). l ++ drop (length s) out) (columned-is o)))
