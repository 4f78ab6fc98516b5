-- `sheet_numbers::TextCursor::number` meets its contract: each return of the walk is one of the texts of `Parts`.
-- Assumes nothing.
use Rattle.std.proofs.Common.{◌+◌, refl, sym, arith}
use Rattle.sheet_numbers.specs.Meaning.Numeral.{negative}
use Rattle.sheet_numbers.proofs.Steps.Parts.{start-in, WholeRead, value-le, end-in, point-in, none_read, other-read, whole-read, PointRead, last-in, held-le, point-none, point-other, point-read}
use Rattle.sheet_numbers.proofs.TextCursor.number.Goals as goal
use Rattle.sheet_numbers.proofs.TextCursor.number.Goals.{After-read_whole-whole, After-read_decimals-decimals}

pub read_whole-whole-requires : goal.read_whole-whole-requires
read_whole-whole-requires c = start-in c.args.s.now c.args.self.at c.requires.at_in_bounds c.past_sign-start.ensures

-- the digits before a point
whole_is : (c : After-read_whole-whole) → WholeRead c.args.mark c.args.k c.args.s.now c.args.self.at c.past_sign-start.result c.read_whole-whole.result
whole_is c = record { separates = c.requires.separator; inside = c.requires.at_in_bounds; start_is = c.past_sign-start.ensures; digits_are = c.read_whole-whole.ensures }

pub returns-then-end-start : goal.returns-then-end-start
returns-then-end-start c = none_read (whole_is (goal.at.returns-then-end-start c).After-read_whole-whole) c.if-end-start.true

-- the point is inside the text
pub overflow_add-next : goal.overflow_add-next
overflow_add-next c = omega (arith, point-in (whole_is (goal.at.overflow_add-next c).After-read_whole-whole) (sym c.if-starts_at.ensures))

pub read_decimals-decimals-requires-clause-at_in_bounds : goal.read_decimals-decimals-requires-clause-at_in_bounds
read_decimals-decimals-requires-clause-at_in_bounds c =
    omega (arith, point-in (whole_is (goal.at.read_decimals-decimals-requires-clause-at_in_bounds c).After-read_whole-whole) (sym c.if-starts_at.ensures))

pub read_decimals-decimals-requires-clause-x_le_cap : goal.read_decimals-decimals-requires-clause-x_le_cap
read_decimals-decimals-requires-clause-x_le_cap c = value-le (whole_is (goal.at.read_decimals-decimals-requires-clause-x_le_cap c).After-read_whole-whole)

-- the digits after it
point_is : (c : After-read_decimals-decimals) → WholeRead c.args.mark c.args.k c.args.s.now c.args.self.at c.past_sign-start.result c.read_whole-whole.result
    → PointRead c.args.mark c.args.k c.args.s.now c.args.self.at c.past_sign-start.result c.read_whole-whole.result (c.read_whole-whole.result.end + 1) c.read_decimals-decimals.result
point_is c w = record { whole = w; some = c.if-end-start.false; point = sym c.if-starts_at.ensures; next-is = refl; digits_are = c.read_decimals-decimals.ensures }

pub returns-then-last-next : goal.returns-then-last-next
returns-then-last-next c =
    let at = goal.at.returns-then-last-next c in
    point-none (point_is at.After-read_decimals-decimals (whole_is at.After-read_whole-whole)) c.if-last-next.true

pub returns-then-not-stops_at : goal.returns-then-not-stops_at
returns-then-not-stops_at c =
    let at = goal.at.returns-then-not-stops_at c in
    point-other (point_is at.After-read_decimals-decimals (whole_is at.After-read_whole-whole)) c.if-last-next.false (sym c.if-not-stops_at.ensures)

pub padded-units-requires : goal.padded-units-requires
padded-units-requires c =
    let at = goal.at.padded-units-requires c in
    held-le (point_is at.After-read_decimals-decimals (whole_is at.After-read_whole-whole))

pub piece_to-requires : goal.piece_to-requires
piece_to-requires c =
    let at = goal.at.piece_to-requires c in
    let whole = whole_is at.After-read_whole-whole in
    last-in (point_is at.After-read_decimals-decimals whole) (omega (arith, point-in whole (sym c.if-starts_at.ensures)))

pub returns-then-starts_at : goal.returns-then-starts_at
unfolding negative
returns-then-starts_at c =
    let at = goal.at.returns-then-starts_at c in
    point-read (point_is at.After-read_decimals-decimals (whole_is at.After-read_whole-whole)) c.if-last-next.false (sym c.if-not-stops_at.ensures) c.starts_at-negative.ensures c.padded-units.ensures c.piece_to.ensures

pub returns-then-not-stops_at-2 : goal.returns-then-not-stops_at-2
returns-then-not-stops_at-2 c =
    other-read (whole_is (goal.at.returns-then-not-stops_at-2 c).After-read_whole-whole) c.if-end-start.false (sym c.if-starts_at.ensures) (sym c.if-not-stops_at-2.ensures)

pub padded-units-requires-2 : goal.padded-units-requires-2
padded-units-requires-2 c = value-le (whole_is (goal.at.padded-units-requires-2 c).After-read_whole-whole)

pub piece_to-requires-2 : goal.piece_to-requires-2
piece_to-requires-2 c = end-in (whole_is (goal.at.piece_to-requires-2 c).After-read_whole-whole)

pub returns : goal.returns
unfolding negative
returns c =
    whole-read (whole_is (goal.at.returns c).After-read_whole-whole) c.if-end-start.false (sym c.if-not-stops_at-2.ensures) c.starts_at-negative.ensures c.padded-units-2.ensures c.piece_to-2.ensures
