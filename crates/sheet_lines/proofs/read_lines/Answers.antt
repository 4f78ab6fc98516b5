-- `sheet_lines::read_lines` meets its contract: a malformed line, the next line, and the end of the sheet. Assumes
-- nothing.
use Rattle.std.proofs.Common.{ap, ◌∙◌}
use Rattle.std.specs.Option.{option_or}
use Rattle.base_causes.specs.Meaning.Place.{place_of}
use Rattle.sheet_lines.proofs.Steps.Lines.{row_min, first_or}
use Rattle.sheet_lines.specs.Meaning.Sheet.{branch_part}
use Rattle.sheet_lines.proofs.Steps.Walks.{sheet-start, sheet-malformed, sheet-turn, sheet-end}
use Rattle.sheet_lines.proofs.read_lines.Goals as goal

pub loop-cursor-init : goal.loop-cursor-init
loop-cursor-init c = let a = c.args in sheet-start a.zones a.sheet.now a.table.now

pub returns-in_default : goal.returns-in_default
returns-in_default c =
    let a = c.args in
    let l = c.loop-cursor in
    sheet-malformed a.zones a.sheet.now a.table.now l.cursor.at l.table l.finer l.outside l.n l.invariant c.loop-cursor-test.true c.read_line.ensures c.in_default.is

pub loop-cursor-preserved : goal.loop-cursor-preserved
loop-cursor-preserved c =
    let a = c.args in
    let l = c.loop-cursor in
    (sheet-turn a.zones a.sheet.now a.table.now l.cursor.at l.table l.finer l.outside l.n l.invariant c.loop-cursor-test.true c.read_line.ensures
    c.in-Some.is
    (ap place_of (c.or-finer.ensures ∙ ap (option_or l.finer) c.then_some.ensures) ∙ first_or l.finer l.n c.in-Some.flaws.finer)
    (ap place_of (c.or-outside.ensures ∙ ap (option_or l.outside) c.then_some-in-loop-cursor.ensures) ∙ first_or l.outside l.n c.in-Some.flaws.outside)
    (c.branch_part-base.ensures ∙ ap (branch_part a.zones) (c.min-row.ensures ∙ row_min l.n)) c.read_line.auto.table).1

pub returns : goal.returns
returns c =
    let a = c.args in
    let l = c.loop-cursor in
    sheet-end a.zones a.sheet.now a.table.now l.cursor.at l.table l.finer l.outside l.n l.invariant c.loop-cursor-test.false
