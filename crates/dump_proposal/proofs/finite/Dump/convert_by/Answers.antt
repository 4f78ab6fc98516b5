-- `Dump::convert_by` meets its contract: row 59 after the opening, then row 60, then the proposal from the
-- table.
use Rattle.std.proofs.Common.{◌<◌, refl, sym, ap, ◌∙◌, arith}
use Rattle.base_causes.specs.Meaning.Place.{place_of}
use Rattle.base_output.specs.Meaning.Output.{written_of}
use Rattle.base_causes.proofs.Promised.CauseLaws.{place-below}
use Rattle.case_header.specs.Steps.CaseReadable.{headed, limited}
use Rattle.dump_proposal.specs.Steps.Walks.{rest_of, fault_after}
use Rattle.dump_proposal.proofs.Steps.Answers.{met-rest, met-60, met-0}
use Rattle.dump_proposal.proofs.finite.Dump.convert_by.Goals as goal
use Rattle.dump_proposal.proofs.finite.Dump.convert_by.Goals.{In-Some}
use Rattle.dump_proposal.proofs.finite.Dump.convert_by.Given.{Over}

-- a value's place is small
place_in : (g : Over) (c : In-Some g) → c.in-Some.i < rest_of c.args.self.«case».counts
place_in g c =
    let found = sym c.convert_rest.ensures.first ∙ ap place_of c.in-Some.is in
    place-below (rest_of c.args.self.«case».counts) (fault_after c.args.self.«case».bytes.now c.args.self.bytes.now) c.in-Some.i (rest_of c.args.self.«case».counts) found (omega arith)

pub overflow_add-i : goal.overflow_add-i
overflow_add-i g c = record { fits = omega (arith, place_in g (goal.at.overflow_add-i g c).In-Some, limited (headed c.args.self.passed.opened)) }

pub overflow_cast-i : goal.overflow_cast-i
overflow_cast-i g c = record { fits = omega (arith, place_in g (goal.at.overflow_cast-i g c).In-Some, limited (headed c.args.self.passed.opened)) }

pub returns-in-Some : goal.returns-in-Some
returns-in-Some g c =
    met-rest c.args.self.«case».bytes.now c.args.self.bytes.now c.args.out.now c.args.self.passed c.requires.opening_held (sym c.convert_rest.ensures.first ∙ ap place_of c.in-Some.is) (ap written_of c.refused.ensures)

pub rest_of-rest-requires : goal.rest_of-rest-requires
rest_of-rest-requires g c = limited (headed c.args.self.passed.opened)

pub returns-then-out-length : goal.returns-then-out-length
returns-then-out-length g c =
    met-60 c.args.self.«case».bytes.now c.args.self.bytes.now c.args.out.now c.args.self.passed c.requires.opening_held (sym c.convert_rest.ensures.first ∙ ap place_of c.in_default.is)
    (omega (arith, c.if-out-length.true, c.rest_of-rest.ensures)) refl

pub returns : goal.returns
returns g c =
    let nowhere = ap place_of c.in_default.is in
    met-0 c.args.self.«case».bytes.now c.args.self.bytes.now c.args.out.now c.args.self.passed c.requires.opening_held (sym c.convert_rest.ensures.first ∙ nowhere) c.rest_of-rest.ensures c.if-out-length.false
    (c.convert_rest.ensures.held nowhere) c.write_opening.ensures c.write_rest.ensures
