-- The walk over the links of a case, field by field as row 7 tests them, with the set of the pairs seen.
-- Assumes nothing.
use Rattle.std.specs.Prelude.{◌≡◌, Bool, not, ◌||◌, List, ℕ, ◌+◌, ◌≤◌, ◌<◌, leb, ℤ, Option, None, Some, Result}
use Rattle.std.proofs.Math.Path.{refl, sym, ap, subst}
use Rattle.std.proofs.lemmas.Option.{none-some, same_Some}
use Rattle.std.proofs.Common.{◌∙◌, arith, le-leb}
use Rattle.base_causes.specs.declared.Outcome.{Outcome}
use Rattle.std.proofs.Math.Bool.{true, false, cond}
use Rattle.std.proofs.Math.Option.{none}
use Rattle.std.proofs.Math.Dec.{T, eqb, eqb→eq}
use Rattle.std.proofs.Math.IntN.{pos}
use Rattle.std.specs.Int.Signed.{lt_z}
use Rattle.std.proofs.Math.ListN.{length}
use Rattle.base_integers.specs.Meaning.Ranges.{outside}
use Rattle.base_integers.specs.Steps.Ranges.{is_true, and_left, and_right}
use Rattle.base_limits.specs.Meaning.Limits as limits
use Rattle.rules.specs.Meaning.Layout.{u8_at, u32_at, case_version, zones_in, links_in, contracts, contracted_size, link_at, link_fields, link_field_at, order_at, from_in, to_in, capacity_in, contracted_in}
use Rattle.rules.specs.Meaning.Hour.{case_of}
use Rattle.base_causes.specs.Meaning.Causes.{first_below, first_field}
use Rattle.base_causes.proofs.Promised.CauseLaws.{not-below, no_place, first-field}
use Rattle.rules.specs.Meaning.Verdict.{unknown, repeated, link_fault}
use Rattle.bytes_read.specs.declared.Cursor.{Cursor}
use Rattle.bytes_read.specs.Meaning.Field.{cursor, word_field}
use Rattle.bytes_read.specs.Steps.Walk.{Took, word-took, word-short}
use Rattle.bytes_read.specs.Meaning.Walk.{refused_at, walked}
use Rattle.bytes_read.specs.Steps.Record.{RecordWithin}
use Rattle.bytes_read.specs.Steps.Walked.{AtField, at_first, field-stops, field-passes}
use Rattle.case_header.specs.declared.Counts.{Counts}
use Rattle.case_header.specs.Meaning.CaseReadable.{LengthValid, link_cause}
use Rattle.case_header.specs.Steps.CaseReadable.{small, link-start-is, link-inside}
use Rattle.base_zone_set.specs.Steps.Pairs.{holds, same_pair, Seen}

-- THE CONTRACTED VOLUME at a cursor: 32 bits where the version has them; else the capacity, and the cursor stays
-- (S-4)
abbrev pub contracted_at : List ℕ → ℕ → ℕ → ℕ → ℕ
contracted_at s version capacity at = cond (contracts version) (u32_at s at) capacity

abbrev pub contracted_by : List ℕ → ℕ → ℕ → Bool → Option (ℕ × Cursor)
contracted_by s capacity at true = word_field s at
contracted_by s capacity at false = Some (capacity, cursor at)

abbrev pub contracted_field : List ℕ → ℕ → ℕ → ℕ → Option (ℕ × Cursor)
contracted_field s version capacity at = contracted_by s capacity at (contracts version)

module _ (s : List ℕ) (version capacity at : ℕ) where
  pub contracted-took : {v : ℕ} {c : Cursor} → at ≤ length s → contracted_field s version capacity at ≡ Some (v, c) → Took s at (contracted_size version) (contracted_at s version capacity at) v c
  unfolding contracted_size
  contracted-took {v} {c} h e = by (contracts version) e
    where
      by : (b : Bool) → contracted_by s capacity at b ≡ Some (v, c) → Took s at (cond b 4 0) (cond b (u32_at s at) capacity) v c
      by true e = word-took s at e
      by false e =
          let p = same_Some (capacity, cursor at) (v, c) e in
          record { inside = omega arith; is = sym (ap (λ (t : ℕ × Cursor). t.0) p); past = sym (ap (λ (t : ℕ × Cursor). t.1) p) ∙ ap cursor (omega arith) }

  pub contracted-short : contracted_field s version capacity at ≡ None → length s < at + contracted_size version
  unfolding contracted_size
  contracted-short e = by (contracts version) e
    where
      by : (b : Bool) → contracted_by s capacity at b ≡ None → length s < at + cond b 4 0
      by true e = word-short s at e
      by false e = absurd (none-some (capacity, cursor at) (sym e))

-- WHERE LINKS STAND: each begins where the one before ends, and the orders begin where the last ends
pub link-next : (s : List ℕ) (l : ℕ) → link_at s l + 6 + contracted_size (case_version s) ≡ link_at s (l + 1)
unfolding link_at
link-next s l = omega arith

pub orders-begin : (s : List ℕ) → link_at s (links_in s) ≡ order_at s 0
unfolding link_at order_at
orders-begin s = omega arith

-- THE LINK OF A TURN: it is within the file, no link before it has a field at fault, and the set holds the pairs of
-- those
pub record LinkTurn (s : List ℕ) (l at : ℕ) (seen : List ℕ) : Type 0 where
  pub within : RecordWithin s at 6
  pub room : at + 6 + contracted_size (case_version s) ≤ length s
  pub place : at ≡ link_at s l
  pub stands : AtField 7 (links_in s) link_fields (link_fault (case_of s)) (link_field_at s) l 0
  pub pairs : Seen (from_in s) (to_in s) l seen

pub link-turn : {s : List ℕ} {k : Counts} → LengthValid s k → (l : ℕ) → l < k.links → {at : ℕ} → at ≡ link_at s l → first_below l (link_cause s).fails ≡ none → {seen : List ℕ} → Seen (from_in s) (to_in s) l seen → LinkTurn s l at seen
link-turn {s} {k} w l h {at} p e q =
    let counts = w.headed.counts in
    let room : at + 6 + contracted_size (case_version s) ≤ length s = omega (arith, p, link-start-is w.headed l, link-inside w l h, ap (λ (k : Counts). contracted_size k.version) counts) in
    record {
      within = record { inside = omega arith; small = small w };
      room = room;
      place = p;
      stands = at_first (omega (arith, h, ap (λ (k : Counts). k.links) counts)) e;
      pairs = q;
    }

pub record PairRead (s : List ℕ) (at zones from to : ℕ) : Type 0 where
  pub zones-is : zones ≡ zones_in s
  pub from_is : from ≡ u8_at s (at + 0)
  pub to_is : to ≡ u8_at s (at + 1)

-- ITS FIELDS, as row 7 tests them
module _ {s : List ℕ} {l at : ℕ} {seen : List ℕ} (t : LinkTurn s l at seen) where
  abbrev fault : ℕ → Bool
  fault = link_fault (case_of s) l

  abbrev walk : Result Cursor Outcome
  walk = walked (link_cause s) (cursor (order_at s 0))

  from_place : u8_at s (at + 0) ≡ from_in s l
  unfolding from_in
  from_place = let q : at + 0 ≡ link_at s l = omega (arith, t.place) in ap (u8_at s) q

  to-place : u8_at s (at + 1) ≡ to_in s l
  unfolding to_in
  to-place = ap (λ (n : ℕ). u8_at s (n + 1)) t.place

  from-fault : fault 0 ≡ unknown (zones_in s) (from_in s l) || holds seen (from_in s l) (to_in s l)
  unfolding link_fault repeated case_of
  from-fault = ap (λ (b : Bool). unknown (zones_in s) (from_in s l) || b) (sym (t.pairs.held (from_in s l) (to_in s l)))

  to-fault : fault 1 ≡ unknown (zones_in s) (to_in s l) || eqb (from_in s l) (to_in s l)
  unfolding link_fault case_of
  to-fault = refl

  pub from-stops : {zones from : ℕ} → zones ≡ zones_in s → from ≡ u8_at s (at + 0) → zones ≤ from → {a : ℕ} → a ≡ at → refused_at 7 a ≡ walk
  from-stops {zones} {from} e f h p =
      let q : unknown (zones_in s) (from_in s l) ≡ true = sym (λ j. leb (e j) ((f ∙ from_place) j)) ∙ le-leb zones from h in
      field-stops t.stands (cursor (order_at s 0)) (omega arith) (from-fault ∙ ap (λ (b : Bool). b || holds seen (from_in s l) (to_in s l)) q) (p ∙ t.place)

  -- a pair that was seen passed then: its second zone is known and differs from the first
  seen-passed : T (holds seen (from_in s l) (to_in s l)) → T (not (fault 1))
  unfolding link_fault case_of
  seen-passed h =
      let pair = same_pair (from_in s) (to_in s) (from_in s l) (to_in s l) in
      let k = first_field l pair in
      let p = first-field l pair (subst T (t.pairs.held (from_in s l) (to_in s l)) h) in
      let f : from_in s k ≡ from_in s l = eqb→eq (from_in s k) (from_in s l) (and_left (eqb (from_in s k) (from_in s l)) (eqb (to_in s k) (to_in s l)) p.holds) in
      let g : to_in s k ≡ to_in s l = eqb→eq (to_in s k) (to_in s l) (and_right (eqb (from_in s k) (from_in s l)) (eqb (to_in s k) (to_in s l)) p.holds) in
      subst (λ (b : Bool). T (not b)) (λ j. unknown (zones_in s) (g j) || eqb (f j) (g j))
      (no_place link_fields (link_fault (case_of s) k) (not-below l (link_cause s).fails t.stands.records-clear k p.place_in) 1 (omega arith))

  unseen : fault 1 ≡ true → holds seen (from_in s l) (to_in s l) ≡ false
  unseen e = by (holds seen (from_in s l) (to_in s l)) refl
    where
      by : (b : Bool) → holds seen (from_in s l) (to_in s l) ≡ b → b ≡ false
      by true q = absurd (subst (λ (b : Bool). T (not b)) e (seen-passed (is_true q)))
      by false q = refl

  -- its first zone is known
  module _ {zones from to : ℕ} (p : PairRead s at zones from to) (known : leb zones from ≡ false) where
    from-known : unknown (zones_in s) (from_in s l) ≡ false
    from-known = sym (λ j. leb (p.zones-is j) ((p.from_is ∙ from_place) j)) ∙ known

    second-fault : fault 1 ≡ leb zones to || eqb from to
    second-fault = to-fault ∙ sym (λ j. leb (p.zones-is j) ((p.to_is ∙ to-place) j) || eqb ((p.from_is ∙ from_place) j) ((p.to_is ∙ to-place) j))

    pair_held : holds seen (from_in s l) (to_in s l) ≡ holds seen from to
    pair_held = sym (λ j. holds seen ((p.from_is ∙ from_place) j) ((p.to_is ∙ to-place) j))

    pub repeated-stops : holds seen from to ≡ true → {a : ℕ} → a ≡ at → refused_at 7 a ≡ walk
    repeated-stops e q = field-stops t.stands (cursor (order_at s 0)) (omega arith) (from-fault ∙ (λ j. from-known j || (pair_held ∙ e) j)) (q ∙ t.place)

    at-to : holds seen (from_in s l) (to_in s l) ≡ false → AtField 7 (links_in s) link_fields (link_fault (case_of s)) (link_field_at s) l 1
    at-to e = field-passes t.stands (from-fault ∙ (λ j. from-known j || e j))

    pub to-stops : (leb zones to || eqb from to) ≡ true → {a : ℕ} → a ≡ at + 1 → refused_at 7 a ≡ walk
    to-stops e q =
        let f = second-fault ∙ e in
        field-stops (at-to (unseen f)) (cursor (order_at s 0)) (omega arith) f (q ∙ ap (λ (n : ℕ). n + 1) t.place)

    -- so is its second, and the pair is new
    pub at-capacity : (leb zones to || eqb from to) ≡ false → holds seen from to ≡ false → AtField 7 (links_in s) link_fields (link_fault (case_of s)) (link_field_at s) l 2
    at-capacity e new = field-passes (at-to (pair_held ∙ new)) (second-fault ∙ e)

  pub capacity-fault : {v : ℤ} → v ≡ pos (u32_at s (at + 2)) → fault 2 ≡ outside limits.capacity v
  unfolding link_fault case_of capacity_in
  capacity-fault f = ap (outside limits.capacity) (sym (f ∙ ap (λ (n : ℕ). pos (u32_at s (n + 2))) t.place))

  pub contracted-fault : {offered v : ℤ} → offered ≡ pos (u32_at s (at + 2)) → v ≡ pos (contracted_at s (case_version s) (u32_at s (at + 2)) (at + 6)) → fault 3 ≡ lt_z offered v
  unfolding link_fault case_of capacity_in contracted_in
  contracted-fault f g =
      let e = f ∙ ap (λ (n : ℕ). pos (u32_at s (n + 2))) t.place in
      sym (λ j. lt_z (e j) ((g ∙ ap (λ (n : ℕ). pos (contracted_at s (case_version s) (u32_at s (n + 2)) (n + 6))) t.place) j))
