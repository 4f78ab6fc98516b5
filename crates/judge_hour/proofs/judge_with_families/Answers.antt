-- Row 30, and what the driver finds after it.
use Rattle.std.proofs.Common.{◌≡◌, List, ℕ, ◌≤◌, length, refl, lt-ltb, le-ltb}
use Rattle.std.proofs.Math.Option.{Option}
use Rattle.rules.specs.Meaning.Hour.{case_of, plan_of, prices_of}
use Rattle.rules.specs.Meaning.Report.{reports}
use Rattle.rules.specs.Meaning.Verdict.{room_causes, table}
use Rattle.base_causes.specs.Meaning.Causes.{refusal}
use Rattle.base_causes.proofs.Promised.CauseLaws.{field-fails, field-passes}
use Rattle.judge_stages.specs.Meaning.Found.{list_of, hour_causes}
use Rattle.judge_hour.specs.Steps.Judged.{refused, same_rows, judged}
use Rattle.judge_hour.proofs.judge_with_families.Goals as goal

past_room : (fs : Option (List ℕ)) (s t : List ℕ) (room : ℕ) → 176 ≤ room → refusal (table fs s t room (case_of s) (plan_of s t) (prices_of s t)) ≡ refusal (hour_causes fs s t)
unfolding table room_causes
past_room fs s t room h = field-passes 30 0 (hour_causes fs s t) (le-ltb room 176 h)

-- 30
pub returns-then-report-lt-REPORT_ROOM : goal.returns-then-report-lt-REPORT_ROOM
unfolding table room_causes reports
returns-then-report-lt-REPORT_ROOM c =
    let s = c.args.case.now in
    let t = c.args.proposal.now in
    let b = c.args.report.now in
    let fs = list_of c.args.families in
    refused (table fs s t (length b) (case_of s) (plan_of s t) (prices_of s t)) s t b 30 0 refl (field-fails 30 0 (hour_causes fs s t) (lt-ltb (length b) 176 c.if-report-lt-REPORT_ROOM.true))

-- THE HOUR
pub returns : goal.returns
returns c =
    let s = c.args.case.now in
    let t = c.args.proposal.now in
    let b = c.args.report.now in
    let fs = list_of c.args.families in
    same_rows (past_room fs s t (length b) c.if-report-lt-REPORT_ROOM.false) (judged (hour_causes fs s t) s t b c.find_in.result c.find_in.ensures c.conclude.ensures.verdict c.conclude.ensures.report)
