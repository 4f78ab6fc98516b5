-- `dump_proposal::convert` meets its contract: rows 56 to 58; then `Dump::convert` does the rest.
use Rattle.std.proofs.Common.{◌+◌, ◌*◌, ℕ, length, refl, sym, ap, ◌∙◌, arith}
use Rattle.base_causes.specs.Meaning.Causes.{first_below}
use Rattle.base_causes.specs.Meaning.Place.{place_of}
use Rattle.base_causes.proofs.Promised.CauseLaws.{place-below}
use Rattle.base_output.specs.Meaning.Output.{written_of}
use Rattle.case_file.specs.Steps.Answer.{opened_of, refused-of}
use Rattle.case_header.specs.Meaning.CaseReadable.{CaseReadable}
use Rattle.case_header.specs.Steps.CaseReadable.{headed, limited}
use Rattle.dump_proposal.proofs.Steps.Answers.{not_finite_at, refused-56, met-refusal, met-57, met-58, finite-dump}
use Rattle.dump_proposal.proofs.convert.Goals as goal
use Rattle.dump_proposal.proofs.convert.Goals.{In-Ok}

pub returns-in-Err : goal.returns-in-Err
returns-in-Err c =
    let s = c.args.«case».now in
    met-refusal s c.args.dump.now c.args.out.now (refused-56 s c.args.dump.now (length c.args.out.now) (refused-of s (sym c.read_case.ensures ∙ c.in-Err.is))) (ap written_of c.refused.ensures)

readable : (c : In-Ok) → CaseReadable c.args.«case».now c.in-Ok.counts
readable c = opened_of c.args.«case».now (sym c.read_case.ensures ∙ c.in-Ok.is)

pub rest_of-count-requires : goal.rest_of-count-requires
rest_of-count-requires c = limited (headed (readable (goal.at.rest_of-count-requires c).In-Ok))

pub overflow_add-count : goal.overflow_add-count
overflow_add-count c = record { fits = omega (arith, c.rest_of-count.ensures, limited (headed (readable (goal.at.overflow_add-count c).In-Ok))) }

pub overflow_mul-count : goal.overflow_mul-count
overflow_mul-count c = record { fits = omega (arith, c.rest_of-count.ensures, limited (headed (readable (goal.at.overflow_mul-count c).In-Ok))) }

pub returns-then-dump-count : goal.returns-then-dump-count
returns-then-dump-count c =
    let r = readable (goal.at.returns-then-dump-count c).In-Ok in
    met-57 c.args.«case».now c.args.dump.now c.args.out.now r (λ e. c.if-dump-count.true (e ∙ ap (λ (n : ℕ). 8 * (2 + n)) (sym c.rest_of-count.ensures))) refl

pub overflow_cast-n : goal.overflow_cast-n
overflow_cast-n c =
    let count = 2 + c.rest_of-count.result in
    let found = sym c.first_not_finite.ensures ∙ ap place_of c.in-Some.is in
    let below = place-below count (not_finite_at c.args.dump.now) c.in-Some.n count found (omega arith) in
    record { fits = omega (arith, below, c.rest_of-count.ensures, limited (headed (readable (goal.at.overflow_cast-n c).In-Ok))) }

pub returns-in-Some : goal.returns-in-Some
returns-in-Some c =
    let r = readable (goal.at.returns-in-Some c).In-Ok in
    let long = c.if-dump-count.false ∙ ap (λ (n : ℕ). 8 * (2 + n)) c.rest_of-count.ensures in
    let found = ap (λ (n : ℕ). first_below (2 + n) (not_finite_at c.args.dump.now)) (sym c.rest_of-count.ensures) ∙ sym c.first_not_finite.ensures ∙ ap place_of c.in-Some.is in
    met-58 c.args.«case».now c.args.dump.now c.args.out.now r long found (ap written_of c.refused-in-Some.ensures)

pub invariant_of-convert : goal.invariant_of-convert
invariant_of-convert c =
    let r = readable (goal.at.invariant_of-convert c).In-Ok in
    let long = c.if-dump-count.false ∙ ap (λ (n : ℕ). 8 * (2 + n)) c.rest_of-count.ensures in
    let found = ap (λ (n : ℕ). first_below (2 + n) (not_finite_at c.args.dump.now)) (sym c.rest_of-count.ensures) ∙ sym c.first_not_finite.ensures ∙ ap place_of c.in_default.is in
    record { passed = finite-dump c.args.«case».now c.args.dump.now c.args.out.now r long found }
