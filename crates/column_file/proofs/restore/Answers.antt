-- `column_file::restore` meets its contract. The file's length tells where its orders would start. If its header
-- demands that length, the file in the other arrangement is the restored case; otherwise neither is readable.
-- Assumes nothing.
use Rattle.std.proofs.Common.{◌≡◌, true, not, ◌&&◌, List, ℕ, ◌+◌, ◌*◌, ◌-◌, ◌≤◌, length, sym, ap, subst, ◌∙◌, arith}
use Rattle.std.proofs.lemmas.Bool.{ltb-true, ltb-false}
use Rattle.std.proofs.Math.Dec.{eqb}
use Rattle.rules.specs.Meaning.Layout.{orders_in}
use Rattle.rules.specs.Meaning.Verdict.{not_mark, Readable}
use Rattle.case_header.specs.declared.Header.{Header}
use Rattle.case_header.specs.Meaning.Answer.{header_in}
use Rattle.case_header.specs.Steps.Answer.{header-taken, header_refused}
use Rattle.case_file.specs.Steps.Answer.{opened_of}
use Rattle.case_file.specs.Meaning.Answer.{case_answer}
use Rattle.column_file.specs.Meaning.Columns.{arranged, not_restored}
use Rattle.column_file.specs.Meaning.Answer.{restore_by}
use Rattle.column_file.proofs.Steps.Read.{refused-case, by_length, readable-by-length, unreadable-by-length, too_short, no-room-for-orders, marked-otherwise, not-readable, is-restored, fills}
use Rattle.column_file.proofs.restore.Goals as goal
use Rattle.column_file.proofs.restore.Goals.{In-Ok, After-differs, After-put_file}

-- the refusal
no-case : (t : List ℕ) → not_restored t ≡ true → restore_by true ≡ restore_by (not_restored t)
no-case t e = ap restore_by (sym e)

-- THE HEADER
pub returns-in_default-clause-value : goal.returns-in_default-clause-value
returns-in_default-clause-value c =
    let t = c.args.file.now in
    no-case t (not-readable t (too_short t (ltb-true (length t) 14 (header_refused t (sym c.take_header.ensures ∙ c.in_default.is)).0)))

taken : (c : In-Ok) → (14 ≤ length c.args.file.now) × (c.in-Ok.h ≡ header_in c.args.file.now)
taken c =
    let t = c.args.file.now in
    let e = header-taken t (sym c.take_header.ensures ∙ c.in-Ok.is) in
    (ltb-false (length t) 14 e.0, e.1)

mark-test : (c : After-differs) → c.in-Ok.h ≡ header_in c.args.file.now → c.differs.result ≡ not_mark 76 84 75 c.args.file.now
unfolding not_mark
mark-test c e = c.differs.ensures ∙ ap (λ (h : Header). not (eqb h.mark.0 76 && eqb h.mark.1 84 && eqb h.mark.2 75)) e

pub returns-then-differs-clause-value : goal.returns-then-differs-clause-value
returns-then-differs-clause-value c =
    let at = goal.at.returns-then-differs-clause-value c in
    let t = c.args.file.now in
    no-case t (marked-otherwise t (sym (mark-test at.After-differs (taken at.In-Ok).1) ∙ c.if-differs.true))

pub returns-then-file-orders-clause-value : goal.returns-then-file-orders-clause-value
returns-then-file-orders-clause-value c =
    let t = c.args.file.now in
    let d = taken (goal.at.returns-then-file-orders-clause-value c).In-Ok in
    no-case t (not-readable t (no-room-for-orders t (omega (arith, ap (λ (h : Header). h.orders) d.1, d.0, c.if-file-orders.true))))

-- the room is filled
made : (c : After-put_file) → c.in-Ok.h ≡ header_in c.args.file.now → c.put_file.new.out ≡ by_length c.args.file.now
made c e =
    let t = c.args.file.now in
    let orders = c.from-orders.result in
    let n : orders ≡ orders_in t = c.from-orders.ensures ∙ ap (λ (h : Header). h.orders) e in
    c.put_file.ensures
    ∙ fills (arranged 67 (length t - 10 * orders) orders 10 t) t c.args.«case».now c.requires
    ∙ (λ j. arranged 67 (length t - 10 * n j) (n j) 10 t)

-- what was read is the file in the other arrangement
pub returns-in_default-read_case-clause-value : goal.returns-in_default-read_case-clause-value
returns-in_default-read_case-clause-value c =
    let at = goal.at.returns-in_default-read_case-clause-value c in
    let t = c.args.file.now in
    let read = c.read_case.ensures ∙ ap case_answer (made at.After-put_file (taken at.In-Ok).1) in
    no-case t (not-readable t (unreadable-by-length t (refused-case (by_length t) (sym read ∙ c.in_default-read_case.is))))

pub returns-clause-value : goal.returns-clause-value
returns-clause-value c =
    let at = goal.at.returns-clause-value c in
    let t = c.args.file.now in
    let d = taken at.In-Ok in
    let read = c.read_case.ensures ∙ ap case_answer (made at.After-put_file d.1) in
    let o = opened_of (by_length t) (sym read ∙ c.in-Ok-read_case.is) in
    let enough : 14 + 10 * orders_in t ≤ length t = omega (arith, ap (λ (h : Header). h.orders) d.1, c.if-file-orders.false, d.0) in
    let e = readable-by-length t enough o.readable in
    sym (ap restore_by (is-restored t (sym (mark-test at.After-differs d.1) ∙ c.if-differs.false) (subst Readable e o.readable)))

pub returns-clause-case_after : goal.returns-clause-case_after
returns-clause-case_after c =
    let at = goal.at.returns-clause-case_after c in
    let t = c.args.file.now in
    let d = taken at.In-Ok in
    let filled = made at.After-put_file d.1 in
    let o = opened_of (by_length t) (sym (c.read_case.ensures ∙ ap case_answer filled) ∙ c.in-Ok-read_case.is) in
    let enough : 14 + 10 * orders_in t ≤ length t = omega (arith, ap (λ (h : Header). h.orders) d.1, c.if-file-orders.false, d.0) in
    λ q. filled ∙ readable-by-length t enough o.readable
