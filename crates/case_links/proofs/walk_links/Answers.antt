-- `case_links::walk_links` meets its contract: the link of a turn is within the file, so no field of it is missing;
-- each return follows from the tests passed before it. Assumes nothing.
use Rattle.std.proofs.lemmas.Grind.{get_or_default_zero}
use Rattle.std.proofs.Math.Bool.{true≢false}
use Rattle.std.proofs.Common.{◌≡◌, ℕ, get_or, Bool, true, false, length, eqb-true, ◌||◌, List, ◌+◌, ◌<◌, set, refl, sym, ap, subst, ◌∙◌, arith, eqb, le-leb, eq-eqb, ne_eqb}
use Rattle.std.proofs.lemmas.Bool.{lt-leb}
use Rattle.std.specs.Prelude.{pos, Option}
use Rattle.std.specs.Int.Signed.{lt_z}
use Rattle.base_measures.specs.Steps.Derived.{less-is}
use Rattle.base_measures.specs.Steps.Held.{tenths-outside, tenths-held}
use Rattle.rules.specs.Meaning.Layout.{u8_at, u32_at, case_version, zones_in, links_in, link_fields, link_field_at, contracted_size, link_at, order_at, from_in, to_in}
use Rattle.rules.specs.Meaning.Hour.{case_of}
use Rattle.base_causes.specs.Meaning.Causes.{first_below}
use Rattle.rules.specs.Meaning.Verdict.{link_fault}
use Rattle.bytes_read.specs.declared.Cursor.{Cursor}
use Rattle.bytes_read.specs.Meaning.Field.{cursor}
use Rattle.bytes_read.specs.Steps.Walk.{Took}
use Rattle.bytes_read.specs.Steps.Record.{FieldRead, byte-read, word_read}
use Rattle.bytes_read.specs.Steps.Walked.{AtField, field-stops, field-passes, record-passes, walk-done}
use Rattle.base_zone_set.specs.Meaning.Zones.{added}
use Rattle.case_header.specs.declared.Counts.{Counts}
use Rattle.case_header.specs.Meaning.CaseReadable.{LengthValid, link_cause}
use Rattle.case_header.specs.Steps.CaseReadable.{limited}
use Rattle.base_zone_set.specs.Steps.Zones.{held-again, held-anew}
use Rattle.base_zone_set.specs.Steps.Pairs.{Seen, seen_none, seen_more}
use Rattle.case_links.specs.Steps.Walk.{contracted_at, contracted_field, contracted-took, contracted-short, link-next, orders-begin, LinkTurn, PairRead, link-turn, from-stops, repeated-stops, to-stops, at-capacity, capacity-fault, contracted-fault}
use Rattle.case_links.proofs.walk_links.Goals as goal
use Rattle.case_links.proofs.walk_links.Goals.{In-loop, In-Some, In-Some-take, In-Some-take-2, In-Some-contracted_field, After-volume}

pub loop-init : goal.loop-init
unfolding first_below
loop-init c = (c.requires, refl, seen_none (from_in c.args.«case».bytes.now) (to_in c.args.«case».bytes.now), (limited c.args.«case».whole.headed).zones-in)

-- THE LINK OF A TURN
link : (c : In-loop) → LinkTurn c.args.«case».bytes.now c.loop.counter c.loop.cursor.at c.loop.seen
link c = link-turn c.args.«case».whole c.loop.counter c.loop-test.true c.loop.invariant.0 c.loop.invariant.1 c.loop.invariant.2

pub overflow_add-link : goal.overflow_add-link
overflow_add-link c = omega (arith, link (goal.at.overflow_add-link c).In-loop)

pub slice_bounds-link-end : goal.slice_bounds-link-end
slice_bounds-link-end c = omega (arith, (link (goal.at.slice_bounds-link-end c).In-loop).within)

-- FROM: its first field
start : {d : Cursor} → d ≡ cursor 0 → d.at ≡ 0
start e = ap (λ (d : Cursor). d.at) e

from-read : (c : In-Some) → FieldRead c.in-Some.first (u8_at c.args.«case».bytes.now (c.loop.cursor.at + 0)) c.in-Some.at_to 1
from-read c =
    let t = link-turn c.args.«case».whole c.loop.counter c.loop-test.true c.loop.invariant.0 c.loop.invariant.1 c.loop.invariant.2 in
    byte-read t.within 0 (start c.new-at_from.ensures) (omega arith) c.take.ensures c.in-Some.is

zones-is : {s : List ℕ} {k : Counts} → LengthValid s k → k.zones ≡ zones_in s
zones-is w = ap (λ (k : Counts). k.zones) w.headed.counts

pub refuse_in-requires-then-case-from : goal.refuse_in-requires-then-case-from
refuse_in-requires-then-case-from c = omega (arith, start c.new-at_from.ensures, (link (goal.at.refuse_in-requires-then-case-from c).In-loop).within)

pub returns-then-case-from : goal.returns-then-case-from
returns-then-case-from c =
    let g = goal.at.returns-then-case-from c in
    c.refuse_in-then-case-from.ensures
    ∙ from-stops (link g.In-loop) (zones-is c.args.«case».whole) (c.from-from.ensures ∙ (from-read g.In-Some).is) c.if-case-from.true (omega (arith, start c.new-at_from.ensures))

-- TO: its second
to-read : (c : In-Some-take) → FieldRead c.in-Some-take.second (u8_at c.args.«case».bytes.now (c.loop.cursor.at + 1)) c.in-Some-take.at_capacity 2
to-read c =
    let t = link-turn c.args.«case».whole c.loop.counter c.loop-test.true c.loop.invariant.0 c.loop.invariant.1 c.loop.invariant.2 in
    let from = byte-read t.within 0 (start c.new-at_from.ensures) (omega arith) c.take.ensures c.in-Some.is in
    byte-read t.within 1 from.past (omega arith) c.take-in-loop.ensures c.in-Some-take.is

pair : {s : List ℕ} {k : Counts} {at first second from to : ℕ} {d e : Cursor} → LengthValid s k → FieldRead first (u8_at s (at + 0)) d 1 → FieldRead second (u8_at s (at + 1)) e 2 → from ≡ first → to ≡ second → PairRead s at k.zones from to
pair w f g p q = record { zones-is = zones-is w; from_is = p ∙ f.is; to_is = q ∙ g.is }

pub refuse_in-requires-then-case-to : goal.refuse_in-requires-then-case-to
refuse_in-requires-then-case-to c = let g = goal.at.refuse_in-requires-then-case-to c in omega (arith, (from-read g.In-Some).past, (link g.In-loop).within)

pub returns-then-case-to : goal.returns-then-case-to
returns-then-case-to c =
    let g = goal.at.returns-then-case-to c in
    let from = from-read g.In-Some in
    let p = pair c.args.«case».whole from (to-read g.In-Some-take) c.from-from.ensures c.from-to.ensures in
    c.refuse_in-then-case-to.ensures
    ∙ to-stops (link g.In-loop) p (lt-leb _ _ c.if-case-from.false) (ap (λ (b : Bool). b || eqb c.from-from.result c.from-to.result) (le-leb _ _ c.if-case-to.true)) (omega (arith, from.past))

pub refuse_in-requires-then-from-to : goal.refuse_in-requires-then-from-to
refuse_in-requires-then-from-to c = let g = goal.at.refuse_in-requires-then-from-to c in omega (arith, (from-read g.In-Some).past, (link g.In-loop).within)

pub returns-then-from-to : goal.returns-then-from-to
returns-then-from-to c =
    let g = goal.at.returns-then-from-to c in
    let from = from-read g.In-Some in
    let p = pair c.args.«case».whole from (to-read g.In-Some-take) c.from-from.ensures c.from-to.ensures in
    c.refuse_in-then-from-to.ensures
    ∙ to-stops (link g.In-loop) p (lt-leb _ _ c.if-case-from.false) (λ j. lt-leb _ _ c.if-case-to.false j || eq-eqb _ _ c.if-from-to.true j) (omega (arith, from.past))

-- what the set of the first zone was, and what it is with the second: read at any default
module _ (seen : List ℕ) (from d : ℕ) (h : from < length seen) where
  set-was : get_or seen from d ≡ get_or seen from 0
  set-was = get_or_default_zero seen from d h

  set-is : (to : ℕ) {r : ℕ} → r ≡ added (get_or seen from d) to → r ≡ added (get_or seen from 0) to
  set-is to e = e ∙ ap (λ (n : ℕ). added n to) set-was

  set-same : {r : ℕ} {b : Bool} → b ≡ eqb r (get_or seen from d) → b ≡ true → r ≡ get_or seen from 0
  set-same {r} e t = eqb-true r (get_or seen from d) (sym e ∙ t) ∙ set-was

  set-new : {r : ℕ} {b : Bool} → b ≡ eqb r (get_or seen from d) → b ≡ false → r ≡ get_or seen from 0 → ⊥
  set-new {r} e f q = true≢false (sym (eq-eqb r (get_or seen from d) (q ∙ sym set-was)) ∙ sym e ∙ f)

-- THE PAIR: the second zone is added to the set of the first
pub refuse_in-requires-then-eq : goal.refuse_in-requires-then-eq
refuse_in-requires-then-eq c = omega (arith, start c.new-at_from.ensures, (link (goal.at.refuse_in-requires-then-eq c).In-loop).within)

pub returns-then-eq : goal.returns-then-eq
returns-then-eq c =
    let g = goal.at.returns-then-eq c in
    let p = pair c.args.«case».whole (from-read g.In-Some) (to-read g.In-Some-take) c.from-from.ensures c.from-to.ensures in
    let h : c.from-from.result < length c.loop.seen = omega (arith, (link g.In-loop).pairs.places, limited c.args.«case».whole.headed) in
    c.refuse_in-then-eq.ensures
    ∙ repeated-stops (link g.In-loop) p (lt-leb _ _ c.if-case-from.false) (held-again _ _ (omega (arith, limited c.args.«case».whole.headed)) (sym (set-is c.loop.seen c.from-from.result c.index-seen-from.result h c.from-to.result c.with-after.ensures) ∙ set-same c.loop.seen c.from-from.result c.index-seen-from.result h c.eq.ensures c.if-eq.true)) (omega (arith, start c.new-at_from.ensures))

-- THE CAPACITY, where the pair is new
capacity-read : (c : In-Some-take-2) → FieldRead c.in-Some-take-2.capacity (u32_at c.args.«case».bytes.now (c.loop.cursor.at + 2)) c.in-Some-take-2.past 6
capacity-read c =
    let t = link-turn c.args.«case».whole c.loop.counter c.loop-test.true c.loop.invariant.0 c.loop.invariant.1 c.loop.invariant.2 in
    let from = byte-read t.within 0 (start c.new-at_from.ensures) (omega arith) c.take.ensures c.in-Some.is in
    let to = byte-read t.within 1 from.past (omega arith) c.take-in-loop.ensures c.in-Some-take.is in
    word_read t.within 2 to.past (omega arith) c.take-in-loop-2.ensures c.in-Some-take-2.is

-- the walk at field j of it
abbrev Stands : List ℕ → ℕ → ℕ → Type 0
Stands s l j = AtField 7 (links_in s) link_fields (link_fault (case_of s)) (link_field_at s) l j

new-pair : {s : List ℕ} {k : Counts} {l at from to after : ℕ} {seen : List ℕ} → LengthValid s k → LinkTurn s l at seen → PairRead s at k.zones from to → from < k.zones → to < k.zones → (from ≡ to → ⊥)
    → after ≡ added (get_or seen from 0) to → (after ≡ get_or seen from 0 → ⊥) → Stands s l 2
new-pair w t p f g differ e new =
    at-capacity t p (lt-leb _ _ f) (λ j. lt-leb _ _ g j || ne_eqb _ _ differ j) (held-anew _ _ (omega (arith, limited w.headed)) (λ h. new (e ∙ h)))

pub refuse_in-requires-in_default-capacity : goal.refuse_in-requires-in_default-capacity
refuse_in-requires-in_default-capacity c = let g = goal.at.refuse_in-requires-in_default-capacity c in omega (arith, (to-read g.In-Some-take).past, (link g.In-loop).within)

pub returns-in_default-capacity : goal.returns-in_default-capacity
returns-in_default-capacity c =
    let g = goal.at.returns-in_default-capacity c in
    let s = c.args.«case».bytes.now in
    let w = c.args.«case».whole in
    let t = link g.In-loop in
    let to = to-read g.In-Some-take in
    let p = pair w (from-read g.In-Some) to c.from-from.ensures c.from-to.ensures in
    let h : c.from-from.result < length c.loop.seen = omega (arith, t.pairs.places, limited w.headed) in
    let stands = new-pair w t p c.if-case-from.false c.if-case-to.false c.if-from-to.false (set-is c.loop.seen c.from-from.result c.index-seen-from.result h c.from-to.result c.with-after.ensures) (set-new c.loop.seen c.from-from.result c.index-seen-from.result h c.eq.ensures c.if-eq.false) in
    let capacity = c.from.ensures ∙ ap pos (capacity-read g.In-Some-take-2).is in
    c.refuse_in-in_default-capacity.ensures
    ∙ field-stops stands (cursor (order_at s 0)) (omega arith) (capacity-fault t capacity ∙ tenths-outside _ _ (sym c.capacity.ensures ∙ c.in_default-capacity.is)) (omega (arith, to.past, t.place))

pub in_file-at_contracted-requires : goal.in_file-at_contracted-requires
in_file-at_contracted-requires c = let g = goal.at.in_file-at_contracted-requires c in omega (arith, (capacity-read g.In-Some-take-2).past, (link g.In-loop).within)

-- THE CONTRACTED VOLUME, which begins where the capacity ends
after-capacity : (at : ℕ) {past d : Cursor} → past.at ≡ 6 → d ≡ cursor (at + past.at) → d.at ≡ at + 6
after-capacity at e p = ap (λ (d : Cursor). d.at) p ∙ omega arith

field_is : {s : List ℕ} {k : Counts} (at : ℕ) {capacity : ℕ} {past d : Cursor} {r : Option (ℕ × Cursor)} → LengthValid s k → FieldRead capacity (u32_at s (at + 2)) past 6 → d ≡ cursor (at + past.at) → r ≡ contracted_field s k.version capacity d.at
    → contracted_field s (case_version s) (u32_at s (at + 2)) (at + 6) ≡ r
field_is {s} {k} at w f p e =
    let version = ap (λ (k : Counts). k.version) w.headed.counts in
    sym (e ∙ (λ j. contracted_field s (version j) (f.is j) (after-capacity at f.past p j)))

contracted-read : (c : In-Some-contracted_field) →
    let s = c.args.«case».bytes.now in let at = c.loop.cursor.at in
    Took s (at + 6) (contracted_size (case_version s)) (contracted_at s (case_version s) (u32_at s (at + 2)) (at + 6)) c.in-Some-contracted_field.contracted c.in-Some-contracted_field.next
contracted-read c =
    let s = c.args.«case».bytes.now in
    let at = c.loop.cursor.at in
    let w = c.args.«case».whole in
    let t = link-turn w c.loop.counter c.loop-test.true c.loop.invariant.0 c.loop.invariant.1 c.loop.invariant.2 in
    let from = byte-read t.within 0 (start c.new-at_from.ensures) (omega arith) c.take.ensures c.in-Some.is in
    let to = byte-read t.within 1 from.past (omega arith) c.take-in-loop.ensures c.in-Some-take.is in
    let capacity = word_read t.within 2 to.past (omega arith) c.take-in-loop-2.ensures c.in-Some-take-2.is in
    contracted-took s (case_version s) (u32_at s (at + 2)) (at + 6) (omega (arith, t)) (field_is at w capacity c.in_file-at_contracted.ensures c.contracted_field.ensures ∙ c.in-Some-contracted_field.is)

pub refuse-requires : goal.refuse-requires
refuse-requires c =
    let g = goal.at.refuse-requires c in
    let t = link g.In-loop in
    omega (arith, after-capacity c.loop.cursor.at (capacity-read g.In-Some-take-2).past c.in_file-at_contracted.ensures, t.room, t.within)

pub returns-in_default-contracted_field : goal.returns-in_default-contracted_field
returns-in_default-contracted_field c =
    let g = goal.at.returns-in_default-contracted_field c in
    let s = c.args.«case».bytes.now in
    let at = c.loop.cursor.at in
    let f = field_is at c.args.«case».whole (capacity-read g.In-Some-take-2) c.in_file-at_contracted.ensures c.contracted_field.ensures in
    absurd (omega (arith, contracted-short s (case_version s) (u32_at s (at + 2)) (at + 6) (f ∙ c.in_default-contracted_field.is), (link g.In-loop).room))

pub refuse-requires-then-lt : goal.refuse-requires-then-lt
refuse-requires-then-lt c =
    let g = goal.at.refuse-requires-then-lt c in
    let t = link g.In-loop in
    omega (arith, after-capacity c.loop.cursor.at (capacity-read g.In-Some-take-2).past c.in_file-at_contracted.ensures, t.room, t.within)

-- the capacity is in range, and the volume is tested against it
tested : (c : After-volume) → let s = c.args.«case».bytes.now in Stands s c.loop.counter 3 × (link_fault (case_of s) c.loop.counter 3 ≡ lt_z c.in-Some-capacity.offered.0 c.volume.result.0)
tested c =
    let s = c.args.«case».bytes.now in
    let at = c.loop.cursor.at in
    let w = c.args.«case».whole in
    let t = link-turn w c.loop.counter c.loop-test.true c.loop.invariant.0 c.loop.invariant.1 c.loop.invariant.2 in
    let from = byte-read t.within 0 (start c.new-at_from.ensures) (omega arith) c.take.ensures c.in-Some.is in
    let to = byte-read t.within 1 from.past (omega arith) c.take-in-loop.ensures c.in-Some-take.is in
    let read = word_read t.within 2 to.past (omega arith) c.take-in-loop-2.ensures c.in-Some-take-2.is in
    let took = contracted-took s (case_version s) (u32_at s (at + 2)) (at + 6) (omega (arith, t)) (field_is at w read c.in_file-at_contracted.ensures c.contracted_field.ensures ∙ c.in-Some-contracted_field.is) in
    let p = pair w from to c.from-from.ensures c.from-to.ensures in
    let h : c.from-from.result < length c.loop.seen = omega (arith, t.pairs.places, limited w.headed) in
    let stands = new-pair w t p c.if-case-from.false c.if-case-to.false c.if-from-to.false (set-is c.loop.seen c.from-from.result c.index-seen-from.result h c.from-to.result c.with-after.ensures) (set-new c.loop.seen c.from-from.result c.index-seen-from.result h c.eq.ensures c.if-eq.false) in
    let capacity = c.from.ensures ∙ ap pos read.is in
    let held = tenths-held _ _ c.in-Some-capacity.offered (sym c.capacity.ensures ∙ c.in-Some-capacity.is) in
    (field-passes stands (capacity-fault t capacity ∙ held.0), contracted-fault t (held.1 ∙ capacity) (c.volume.ensures ∙ ap pos took.is))

pub returns-then-lt : goal.returns-then-lt
returns-then-lt c =
    let g = goal.at.returns-then-lt c in
    let s = c.args.«case».bytes.now in
    let t = link g.In-loop in
    let f = tested g.After-volume in
    let at = after-capacity c.loop.cursor.at (capacity-read g.In-Some-take-2).past c.in_file-at_contracted.ensures in
    c.refuse-then-lt.ensures ∙ field-stops f.0 (cursor (order_at s 0)) (omega arith) (f.1 ∙ sym (c.lt.ensures ∙ less-is c.in-Some-capacity.offered.0 c.volume.result.0) ∙ c.if-lt.true) (omega (arith, at, t.place))

-- THE NEXT TURN
pub loop-preserved : goal.loop-preserved
unfolding from_in to_in
loop-preserved c =
    let g = goal.at.loop-preserved c in
    let s = c.args.«case».bytes.now in
    let l = c.loop.counter in
    let w = c.args.«case».whole in
    let t = link g.In-loop in
    let f = tested g.After-volume in
    let p = pair w (from-read g.In-Some) (to-read g.In-Some-take) c.from-from.ensures c.from-to.ensures in
    let first : c.loop.cursor.at + 0 ≡ link_at s l = omega (arith, t.place) in
    let from-l = p.from_is ∙ ap (u8_at s) first in
    let to-l = p.to_is ∙ ap (λ (n : ℕ). u8_at s (n + 1)) t.place in
    let small = limited w.headed in
    let h : c.from-from.result < length c.loop.seen = omega (arith, t.pairs.places, small) in (
      ap (λ (n : Cursor). n.at) (contracted-read g.In-Some-contracted_field).past ∙ ap (λ (n : ℕ). n + 6 + contracted_size (case_version s)) t.place ∙ link-next s l,
      record-passes (field-passes f.0 (f.1 ∙ sym (c.lt.ensures ∙ less-is c.in-Some-capacity.offered.0 c.volume.result.0) ∙ c.if-lt.false)) refl,
      subst (λ (n : ℕ). Seen (from_in s) (to_in s) (l + 1) (set c.loop.seen c.from-from.result n)) (sym (set-is c.loop.seen c.from-from.result c.index-seen-from.result h c.from-to.result c.with-after.ensures))
          (seen_more (from_in s) (to_in s) l t.pairs from-l to-l (omega (arith, small)) (omega (arith, small))),
      c.loop.invariant.3,
    )

pub returns : goal.returns
returns c =
    let s = c.args.«case».bytes.now in
    let links = ap (λ (k : Counts). k.links) c.args.«case».whole.headed.counts in
    walk-done (link_cause s) (link_at s) c.loop.invariant.0 c.loop.invariant.1 (omega (arith, links)) (orders-begin s)
