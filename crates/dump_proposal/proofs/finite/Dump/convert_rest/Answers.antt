-- `Dump::convert_rest` meets its contract: each turn takes a value of the dump and converts it into the table.
use Rattle.std.proofs.Common.{◌≡◌, ◌<◌, ◌+◌, ◌-◌, sym, ap, subst, ◌∙◌, arith, of_z, w64}
use Rattle.std.specs.Prelude.{ℕ}
use Rattle.std.proofs.Math.Option.{some-ne-none}
use Rattle.base_causes.proofs.Promised.CauseLaws.{first-here, first-later}
use Rattle.base_integers.specs.Meaning.Bytes.{bytes_of}
use Rattle.bytes_read.specs.declared.Cursor.{Cursor}
use Rattle.bytes_read.specs.Meaning.Field.{long_field}
use Rattle.bytes_read.specs.Steps.Part.{part_of}
use Rattle.case_header.specs.Steps.CaseReadable.{headed, limited}
use Rattle.dump_binary64.specs.Meaning.Value.{bits_at, finite}
use Rattle.dump_values.specs.Meaning.Answer.{field_of}
use Rattle.dump_values.specs.Meaning.Field.{Kind, after_opening, converted}
use Rattle.dump_values.proofs.Promised.PlainPlaces.{after-kind}
use Rattle.dump_proposal.specs.Steps.Walks.{rest_of, fault_after}
use Rattle.dump_proposal.proofs.Steps.Walks.{none_yet, part-took, field-held, field-outside, field-number, table_none, table_more}
use Rattle.dump_proposal.proofs.finite.Dump.convert_rest.Goals as goal
use Rattle.dump_proposal.proofs.finite.Dump.convert_rest.Goals.{In-Some}

pub rest_of-i-end-requires : goal.rest_of-i-end-requires
rest_of-i-end-requires c = limited (headed c.args.self.passed.opened)

pub loop-i-init : goal.loop-i-init
loop-i-init c = record {
  at_value = c.requires.at_value;
  none_before = none_yet (fault_after c.args.self.«case».bytes.now c.args.self.bytes.now);
  holds = table_none c.args.self.«case».bytes.now c.args.self.bytes.now _;
}

-- the bits of a turn's value, and the cursor past it
took : (c : In-Some) → (c.in-Some.bits ≡ bits_at c.args.self.bytes.now (2 + c.loop-i.i)) × (c.in-Some.past.at ≡ 8)
took c =
    let dump = c.args.self.bytes.now in
    let at = c.loop-i.cursor.at in
    let size = at + 8 - at in
    let is : c.take.result ≡ long_field (part_of dump at size) 0 = c.take.ensures ∙ ap (λ (d : Cursor). long_field (part_of dump at size) d.at) c.new.ensures in
    part-took dump at size (2 + c.loop-i.i) c.loop-i.invariant.at_value (omega arith) (sym is ∙ c.in-Some.is)

within : (c : In-Some) → c.loop-i.i < rest_of c.args.self.«case».counts
within c = subst (λ (n : ℕ). c.loop-i.i < n) c.rest_of-i-end.ensures c.loop-i-test.true

pub field_of-requires-clause-bits_value : goal.field_of-requires-clause-bits_value
field_of-requires-clause-bits_value c = ap finite (took (goal.at.field_of-requires-clause-bits_value c).In-Some).0 ∙ c.args.self.passed.is_finite (2 + c.loop-i.i) (omega (arith, within (goal.at.field_of-requires-clause-bits_value c).In-Some))

pub returns-in_default-field_of : goal.returns-in_default-field_of
returns-in_default-field_of c =
    let t = (goal.at.returns-in_default-field_of c).In-Some in
    let s = c.args.self.«case».bytes.now in
    let d = c.args.self.bytes.now in
    let i = c.loop-i.i in
    let is = ap (field_of (after_opening s i)) (sym (took t).0) ∙ sym c.field_of.ensures ∙ c.in_default-field_of.is in
    let q = field-outside (after_opening s i) (bits_at d (2 + i)) is in
    record {
      first = sym (first-here (fault_after s d) i (within t) c.loop-i.invariant.none_before q);
      held = λ e. absurd (some-ne-none i e);
    }

pub in_file-cursor-requires : goal.in_file-cursor-requires
in_file-cursor-requires c =
    let t = (goal.at.in_file-cursor-requires c).In-Some in
    omega (arith, (took t).1, within t, limited (headed c.args.self.passed.opened))

pub loop-i-preserved : goal.loop-i-preserved
loop-i-preserved c =
    let t = (goal.at.loop-i-preserved c).In-Some in
    let s = c.args.self.«case».bytes.now in
    let d = c.args.self.bytes.now in
    let i = c.loop-i.i in
    let b = bits_at d (2 + i) in
    let is = ap (field_of (after_opening s i)) (sym (took t).0) ∙ sym c.field_of.ensures ∙ c.in-Some-field_of.is in
    let number = field-number (after_opening s i) b is ∙ ap (λ (n : Kind). of_z w64 (converted n b)) (after-kind s i) in
    record {
      at_value = ap (λ (x : Cursor). x.at) c.in_file-cursor.ensures ∙ omega (arith, (took t).1);
      none_before = first-later (fault_after s d) i c.loop-i.invariant.none_before (field-held (after_opening s i) b is);
      holds = table_more s d c.loop-i.table i _ (omega (arith, within t)) c.loop-i.invariant.holds (c.low32.ensures ∙ ap (bytes_of 4) number);
    }
