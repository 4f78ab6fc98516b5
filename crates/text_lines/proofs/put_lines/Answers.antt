-- The verdict's line and, for a valued hour, the lines of what was found.
use Rattle.std.proofs.Common.{ap, length, length-append, arith}
use Rattle.text_rules.proofs.Steps.Put.{put_as, put-length, put_then}
use Rattle.rules.specs.Meaning.Cut.{case_part, proposal_part}
use Rattle.rules.specs.Meaning.Lines.{verdict_line, desk_text}
use Rattle.text_lines.proofs.Steps.Judged.{verdict-found, line-found, lines-found}
use Rattle.text_lines.proofs.Promised.Room.{first-room, hour-room}
use Rattle.base_causes.specs.declared.Outcome.{Outcome}
use Rattle.text_lines.proofs.put_lines.Goals as goal

pub put_verdict-requires : goal.put_verdict-requires
put_verdict-requires c =
    let s = case_part c.args.input.now in
    let t = proposal_part c.args.input.now in
    omega (arith, ap (λ (o : Outcome). length (verdict_line o)) (verdict-found s t c.in-Err.ensures.verdict-is), first-room s t, c.requires)

pub put_verdict-at-requires : goal.put_verdict-at-requires
put_verdict-at-requires c =
    let s = case_part c.args.input.now in
    let t = proposal_part c.args.input.now in
    omega (arith, ap (λ (o : Outcome). length (verdict_line o)) (verdict-found s t c.in-Ok.ensures.verdict-is), first-room s t, c.requires)

pub put_hour-requires-clause-prices_in_bounds : goal.put_hour-requires-clause-prices_in_bounds
put_hour-requires-clause-prices_in_bounds c =
    let s = case_part c.args.input.now in
    let t = proposal_part c.args.input.now in
    let p = c.put_verdict-at.ensures in
    let text = lines-found s t c.in-Ok.ensures in
    omega (arith, simp length-append at (ap length text), hour-room s t, p.position, put-length p, c.requires)

pub returns-in-Err : goal.returns-in-Err
unfolding desk_text
returns-in-Err c = put_as (line-found (case_part c.args.input.now) (proposal_part c.args.input.now) c.in-Err.ensures) c.put_verdict.ensures

pub returns-in-Ok : goal.returns-in-Ok
unfolding desk_text
returns-in-Ok c =
    put_as
    (lines-found (case_part c.args.input.now) (proposal_part c.args.input.now) c.in-Ok.ensures)
    (put_then c.put_verdict-at.ensures c.put_hour.ensures)
