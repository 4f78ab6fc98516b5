-- `sheet_lines::read_line` meets its contract: a field that is no number, one with no comma after it, the next field,
-- and the end of the line. Assumes nothing.
use Rattle.std.proofs.Common.{◌≡◌, ℕ, Bool, ◌||◌, refl, sym, ap, subst, ◌∙◌, ℤ, to_z, of_z}
use Rattle.std.specs.Int.{w32}
use Rattle.std.proofs.lemmas.Int.{to_z-of_z}
use Rattle.sheet_numbers.specs.declared.Number.{Number}
use Rattle.sheet_numbers.specs.Meaning.Scan.{Separator}
use Rattle.sheet_numbers.specs.Meaning.Pieces.{piece_at, number_at}
use Rattle.sheet_numbers.specs.Steps.Pieces.{cut}
use Rattle.sheet_numbers.proofs.Steps.Pieces.{NumberRead, number_read, number-none}
use Rattle.sheet_lines.specs.Meaning.Sheet.{decimal_count, limit}
use Rattle.base_integers.specs.Meaning.Ranges.{Range, outside}
use Rattle.sheet_lines.specs.declared.Entry.{Entry}
use Rattle.sheet_lines.specs.Steps.Entries.{place, turned, entry_of_number}
use Rattle.sheet_lines.proofs.Steps.Entries.{decimals-at, limit-at, number-at, entry-fits}
use Rattle.sheet_lines.specs.Steps.Lines.{mark_of, LineRead}
use Rattle.sheet_lines.proofs.Steps.Lines.{separator}
use Rattle.sheet_lines.proofs.Steps.Walks.{line-start, line-no-number, line-unseparated, line-turn, line-end}
use Rattle.sheet_lines.proofs.read_line.Goals as goal
use Rattle.sheet_lines.proofs.read_line.Goals.{After-number, In_ok-x}

pub loop-j-init : goal.loop-j-init
loop-j-init c = let a = c.args in line-start a.zones a.sheet.now a.start.at a.base a.table.now c.requires.at_in_bounds

pub number-requires-clause-separator : goal.number-requires-clause-separator
number-requires-clause-separator c = subst Separator (sym c.mark.ensures) (separator c.args.zones c.loop-j.j)

-- this field read as a number up to its mark, with the decimals of entry j
number_is : (c : After-number) → c.number.result ≡ number_at (decimal_count c.loop-j.j) (mark_of c.args.zones c.loop-j.j) c.args.sheet.now c.loop-j.cursor.at
number_is c =
    c.number.ensures
    ∙ (λ i. number_at (c.decimals.ensures i) (c.mark.ensures i) c.args.sheet.now c.loop-j.cursor.at)
    ∙ ap (λ (e : Entry). number_at (decimal_count (place e)) (mark_of c.args.zones c.loop-j.j) c.args.sheet.now c.loop-j.cursor.at) c.at-entry.ensures
    ∙ ap (λ (k : ℕ). number_at k (mark_of c.args.zones c.loop-j.j) c.args.sheet.now c.loop-j.cursor.at) (decimals-at c.loop-j.j)

-- and as the walk reads it
read : (c : In_ok-x) → c.number.result ≡ number_at (decimal_count c.loop-j.j) (mark_of c.args.zones c.loop-j.j) c.args.sheet.now c.loop-j.cursor.at
    → NumberRead (decimal_count c.loop-j.j) (mark_of c.args.zones c.loop-j.j) c.args.sheet.now c.loop-j.cursor.at c.in_ok-x.x c.in_ok-x.piece
read c e = number_read (decimal_count c.loop-j.j) (mark_of c.args.zones c.loop-j.j) c.args.sheet.now c.loop-j.cursor.at e c.loop-j.invariant.from.inside c.in_ok-x.was

pub returns-in_err-x : goal.returns-in_err-x
returns-in_err-x c =
    let a = c.args in
    let l = c.loop-j in
    let m = mark_of a.zones l.j in
    subst (LineRead a.zones a.sheet.now a.start.at a.base a.table.now l.table) (sym c.from_residual.ensures) (
    line-no-number a.zones a.sheet.now a.start.at a.base a.table.now l.cursor.at l.table l.finer l.outside l.j l.invariant
    (piece_at m a.sheet.now l.cursor.at) c.loop-j-test.true (cut m a.sheet.now l.cursor.at l.invariant.from.inside refl)
    (number-none (decimal_count l.j) m a.sheet.now l.cursor.at (number_is (goal.at.returns-in_err-x c).After-number) c.in_err-x.was)
    )

pub returns-then-comma_missing : goal.returns-then-comma_missing
returns-then-comma_missing c =
    let a = c.args in
    let l = c.loop-j in
    let at = goal.at.returns-then-comma_missing c in
    line-unseparated a.zones a.sheet.now a.start.at a.base a.table.now l.cursor.at l.table l.finer l.outside l.j l.invariant
    c.in_ok-x.piece c.loop-j-test.true (read at.In_ok-x (number_is at.After-number)).place (sym c.if-comma_missing.ensures)

pub field-y-requires : goal.field-y-requires
field-y-requires c = let at = goal.at.field-y-requires c in (read at.In_ok-x (number_is at.After-number)).held

pub loop-j-preserved : goal.loop-j-preserved
loop-j-preserved c =
    let a = c.args in
    let l = c.loop-j in
    let x = c.in_ok-x.x in
    let at = goal.at.loop-j-preserved c in
    let r = read at.In_ok-x (number_is at.After-number) in
    let y : ℤ = to_z w32 (of_z w32 c.field-y.result) in
    let field_is : y ≡ entry_of_number (place c.at-entry.result) x = ap (λ (z : ℤ). to_z w32 (of_z w32 z)) c.field-y.ensures ∙ to_z-of_z w32 _ (entry-fits (turned (place c.at-entry.result) x.negative) x.units r.held) in
    line-turn a.zones a.sheet.now a.start.at a.base a.table.now l.cursor.at l.table l.finer l.outside l.j l.invariant
    c.in_ok-x.piece c.loop-j-test.true r.place (sym c.if-comma_missing.ensures) r.is-number
    (ap (λ (y : Number). l.finer || y.finer) r.number_is)
    (field_is ∙ ap (λ (e : Entry). entry_of_number (place e) x) c.at-entry.ensures ∙ number-at l.j x ∙ ap (entry_of_number l.j) r.number_is)
    (ap (λ (b : Bool). l.outside || b) (c.out_of_range-outside.ensures ∙ ap (λ (e : Entry). outside (limit (place e)) y) c.at-entry.ensures ∙ ap (λ (g : Range). outside g y) (limit-at l.j)))
    c.put_signed32.ensures

pub returns : goal.returns
returns c =
    let a = c.args in
    let l = c.loop-j in
    line-end a.zones a.sheet.now a.start.at a.base a.table.now l.cursor.at l.table l.finer l.outside l.j l.invariant c.loop-j-test.false
