-- `Dump::opening` meets its contract: both values are there and finite, and each has its field or is refused.
use Rattle.std.proofs.Common.{◌≡◌, sym, ap, ◌∙◌, arith}
use Rattle.std.specs.Prelude.{Float}
use Rattle.std.specs.Float.{binary64}
use Rattle.std.specs.Float.Ieee.{of_bits}
use Rattle.bytes_read.specs.declared.Cursor.{Cursor}
use Rattle.dump_binary64.specs.Meaning.Value.{bits_at, finite}
use Rattle.dump_proposal.proofs.Steps.Walks.{value-took, share-finite, system-finite, share-read, system-read}
use Rattle.dump_proposal.proofs.Steps.Answers.{share-refused, system-refused}
use Rattle.dump_proposal.proofs.finite.Dump.opening.Goals as goal
use Rattle.dump_proposal.proofs.finite.Dump.opening.Goals.{In-Some, In-Some-take}

-- the first value, and the second; the walk begins at the first byte
share-took : (c : In-Some) → (c.in-Some.share ≡ bits_at c.args.self.bytes.now 0) × (c.in-Some.at_system.at ≡ 8)
share-took c = value-took c.args.self.bytes.now c.new.result.at 0 (ap (λ (x : Cursor). x.at) c.new.ensures) (sym c.take.ensures ∙ c.in-Some.is)

system-took : (c : In-Some-take) → (c.in-Some-take.system ≡ bits_at c.args.self.bytes.now 1) × (c.in-Some-take.at_rest.at ≡ 16)
system-took c =
    let a = value-took c.args.self.bytes.now c.new.result.at 0 (ap (λ (x : Cursor). x.at) c.new.ensures) (sym c.take.ensures ∙ c.in-Some.is) in
    value-took c.args.self.bytes.now c.in-Some.at_system.at 1 a.1 (sym c.take-2.ensures ∙ c.in-Some-take.is)

pub value-requires : goal.value-requires
value-requires c = ap finite (share-took (goal.at.value-requires c).In-Some).0 ∙ c.args.self.passed.is_finite 0 (omega arith)

pub value-requires-2 : goal.value-requires-2
value-requires-2 c = ap finite (system-took (goal.at.value-requires-2 c).In-Some-take).0 ∙ c.args.self.passed.is_finite 1 (omega arith)

-- as floats
first : (c : In-Some) {x : Float} → x ≡ of_bits binary64 c.in-Some.share → x ≡ of_bits binary64 (bits_at c.args.self.bytes.now 0)
first c e = e ∙ ap (of_bits binary64) (share-took c).0

second : (c : In-Some-take) {x : Float} → x ≡ of_bits binary64 c.in-Some-take.system → x ≡ of_bits binary64 (bits_at c.args.self.bytes.now 1)
second c e = e ∙ ap (of_bits binary64) (system-took c).0

pub opening_fields-fields-requires-clause-t : goal.opening_fields-fields-requires-clause-t
opening_fields-fields-requires-clause-t c =
    let at = goal.at.opening_fields-fields-requires-clause-t c in
    share-finite c.args.self.passed {o = record { share = c.value.result; system = c.value-2.result }} (first at.In-Some c.value.ensures) (second at.In-Some-take c.value-2.ensures)

pub opening_fields-fields-requires-clause-t_2 : goal.opening_fields-fields-requires-clause-t_2
opening_fields-fields-requires-clause-t_2 c =
    let at = goal.at.opening_fields-fields-requires-clause-t_2 c in
    system-finite c.args.self.passed {o = record { share = c.value.result; system = c.value-2.result }} (first at.In-Some c.value.ensures) (second at.In-Some-take c.value-2.ensures)

pub returns-in_default-share : goal.returns-in_default-share
returns-in_default-share c =
    let at = goal.at.returns-in_default-share c in
    let f = c.args.self.passed in
    let share = share-read f (first at.In-Some c.value.ensures) (second at.In-Some-take c.value-2.ensures) c.opening_fields-fields.ensures in
    λ room. share-refused c.args.self.«case».bytes.now c.args.self.bytes.now room f (share ∙ c.in_default-share.is)

pub returns-in_default-system : goal.returns-in_default-system
returns-in_default-system c =
    let at = goal.at.returns-in_default-system c in
    let f = c.args.self.passed in
    let share = share-read f (first at.In-Some c.value.ensures) (second at.In-Some-take c.value-2.ensures) c.opening_fields-fields.ensures in
    let system = system-read f (first at.In-Some c.value.ensures) (second at.In-Some-take c.value-2.ensures) c.opening_fields-fields.ensures in
    λ room. system-refused c.args.self.«case».bytes.now c.args.self.bytes.now room f (share ∙ c.in-Some-share.is) (system ∙ c.in_default-system.is)

pub returns : goal.returns
returns c =
    let at = goal.at.returns c in
    let f = c.args.self.passed in
    let share = share-read f (first at.In-Some c.value.ensures) (second at.In-Some-take c.value-2.ensures) c.opening_fields-fields.ensures in
    let system = system-read f (first at.In-Some c.value.ensures) (second at.In-Some-take c.value-2.ensures) c.opening_fields-fields.ensures in
    (record { share-held = share ∙ c.in-Some-share.is; system-held = system ∙ c.in-Some-system.is }, (system-took at.In-Some-take).1)
