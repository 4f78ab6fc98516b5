-- `short_single::load_of` meets its contract: the load of one zone more. Assumes nothing.
use Rattle.std.proofs.Common.{ℕ, ◌<◌, ◌≡◌, ℤ, List, length, take, get_or, refl, ap, ◌∙◌, arith, to_z, of_z, to_z-of_z}
use Rattle.std.proofs.Common.{get_or-take, length-take}
use Rattle.std.specs.Prelude.{pos, ◌*ℤ◌}
use Rattle.std.specs.Int.{w32}
use Rattle.base_integers.specs.Meaning.Sums.{sum_to}
use Rattle.base_integers.specs.Steps.Machine.{step, step_fits}
use Rattle.base_integers.specs.Steps.Size.{near_fits, near_within}
use Rattle.base_limits.specs.Meaning.Limits as limits
use Rattle.base_measures.specs.declared.Tenths.{Tenths}
use Rattle.base_measures.specs.Meaning.TenthsHold.{no_tenths, tenths_at}
use Rattle.short_single.specs.Steps.HourAccepted.{load_on}
use Rattle.short_single.proofs.load_of.Goals as goal
use Rattle.short_single.proofs.load_of.Goals.{After-load}

pub loop-z-init : goal.loop-z-init
unfolding sum_to
loop-z-init c = refl

-- a zone that the loop goes over is one of the first `zones`, and has its own part
inside : (zones z : ℕ) (parts : List Tenths) → z < length (take zones parts) → z < zones
inside zones z parts h = omega (arith, length-take zones parts)

its-part : (zones z : ℕ) (parts : List Tenths) → z < length (take zones parts) → tenths_at (take zones parts) z ≡ tenths_at parts z
its-part zones z parts h = ap (λ (x : Tenths). x.0) (get_or-take zones parts z no_tenths (inside zones z parts h))

inside-loop : (c : After-load) → c.loop-z.z < c.args.zones
inside-loop c = inside c.args.zones c.loop-z.z c.args.parts c.loop-z-test.true

-- the entry that the machine reads, and its load on the branch
entry_read : (c : After-load) → to_z w32 (of_z w32 (get_or c.args.row c.loop-z.z (pos 0))) ≡ get_or c.args.row c.loop-z.z (pos 0)
entry_read c = to_z-of_z {w = w32} (near_fits w32 (omega arith) (near_within 200000 limits.ptdf _ (omega arith) (omega arith) (c.requires.by_index c.loop-z.z (inside-loop c))))

term_is : (c : After-load) → c.load.result.0 ≡ load_on c.args.row c.args.parts c.loop-z.z
term_is c =
    let z = c.loop-z.z in
    let row = c.args.row in
    let part = its-part c.args.zones z c.args.parts c.loop-z-test.true in
    c.load.ensures
    ∙ ap (λ (x : ℤ). x *ℤ tenths_at (take c.args.zones c.args.parts) z) (c.of_entry-ptdf.ensures ∙ entry_read c)
    ∙ ap (λ (x : ℤ). get_or row z (pos 0) *ℤ x) part

pub plus-load-requires : goal.plus-load-requires
plus-load-requires c =
    let after = (goal.at.plus-load-requires c).After-load in
    step_fits c.requires.sums_fit c.loop-z.z (inside-loop after) c.loop-z.invariant (term_is after)

pub loop-z-preserved : goal.loop-z-preserved
loop-z-preserved c = step c.requires.sums_fit c.loop-z.z c.loop-z.invariant (term_is (goal.at.loop-z-preserved c).After-load) c.plus-load.ensures
