-- The two bytes of a turn stand within the list; the test of an order is row 17's.
use Rattle.std.proofs.Common.{◌≡◌, List, ℕ, ◌+◌, ◌*◌, ◌<◌, Bool, length, refl, ap, sym, ◌∙◌, arith}
use Rattle.base_causes.specs.Meaning.Causes.{first_below}
use Rattle.base_causes.proofs.Promised.CauseLaws.{first-later}
use Rattle.bytes_read.specs.declared.Cursor.{Cursor}
use Rattle.bytes_read.specs.Meaning.Field.{cursor}
use Rattle.bytes_read.specs.Steps.Record.{RecordWithin, half-read}
use Rattle.bytes_read.specs.Steps.Walked.{walk-stops, walk-done}
use Rattle.rules.specs.Meaning.Layout.{u16_at}
use Rattle.rules.specs.Meaning.Families.{family_length, named, parent_in, parent_of, missing}
use Rattle.family_list.specs.Meaning.Answer.{absent, parent_cause, ListLengthValid}
use Rattle.family_list.proofs.Steps.Parents.{take_none, take_more}
use Rattle.family_list.proofs.walk_parents.Goals as goal

module _ {f : List ℕ} {orders : ℕ} (k : ListLengthValid f orders) where
  long-is : length f ≡ 5 + 2 * orders
  unfolding family_length
  long-is = k.long

  -- THE PARENT OF ORDER i: its two bytes, within the list
  module _ (i at : ℕ) (l : i < orders) (p : at ≡ 5 + 2 * i) where
    within : RecordWithin f at 2
    within = record { inside = omega (arith, long-is); small = omega (arith, long-is, k.few) }

    number_is : {v : ℕ} → v ≡ u16_at f (at + 0) → v ≡ parent_in f i
    unfolding parent_in
    number_is e = let q : at + 0 ≡ 5 + 2 * i = omega arith in e ∙ ap (u16_at f) q

    -- row 17 for this order
    tested : {v : ℕ} {b : Bool} → v ≡ parent_in f i → b ≡ missing orders (named v) → absent f orders i ≡ b
    unfolding parent_of
    tested e q = ap (λ (n : ℕ). missing orders (named n)) (sym e) ∙ sym q

pub loop-i-init : goal.loop-i-init
unfolding first_below
loop-i-init c = record { place = c.requires.at_value; exist = refl; taken = take_none _ _ c.told-up }

pub slice_bounds-field-end : goal.slice_bounds-field-end
slice_bounds-field-end c = omega (arith, c.loop-i.invariant.place, long-is c.requires.list_length_valid)

pub returns-then-is_absent-clause-walk : goal.returns-then-is_absent-clause-walk
returns-then-is_absent-clause-walk c =
    let f = c.args.families.now in
    let k = c.requires.list_length_valid in
    let i = c.loop-i.i in
    let at = c.loop-i.cursor.at in
    let l = c.loop-i-test.true in
    let p = c.loop-i.invariant.place in
    let read = half-read (within k i at l p) 0 (ap (λ (d : Cursor). d.at) c.new.ensures) (omega arith) c.take.ensures c.in-Some.is in
    c.refused.ensures ∙ walk-stops (parent_cause f c.args.orders) (cursor (family_length c.args.orders)) i c.loop-i.invariant.exist l (tested k i at l p (number_is k i at l p read.is) c.is_absent.ensures ∙ c.if-is_absent.true)

pub loop-i-preserved : goal.loop-i-preserved
loop-i-preserved c =
    let f = c.args.families.now in
    let k = c.requires.list_length_valid in
    let i = c.loop-i.i in
    let at = c.loop-i.cursor.at in
    let l = c.loop-i-test.true in
    let p = c.loop-i.invariant.place in
    let read = half-read (within k i at l p) 0 (ap (λ (d : Cursor). d.at) c.new.ensures) (omega arith) c.take.ensures c.in-Some.is in
    let number = number_is k i at l p read.is in
    record {
      place = ap (λ (d : Cursor). d.at) c.in_file-cursor.ensures ∙ omega (arith, read.past, p);
      exist = first-later (absent f c.args.orders) i c.loop-i.invariant.exist (tested k i at l p number c.is_absent.ensures ∙ c.if-is_absent.false);
      taken = take_more f c.loop-i.up i c.in-Some.parent (omega (arith, k.few)) c.loop-i.invariant.taken number;
    }

pub returns-clause-walk : goal.returns-clause-walk
unfolding family_length
returns-clause-walk c =
    walk-done (parent_cause c.args.families.now c.args.orders) (λ (n : ℕ). 5 + 2 * n) c.loop-i.invariant.place c.loop-i.invariant.exist (omega arith) refl
