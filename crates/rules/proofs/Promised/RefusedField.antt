-- What a refusal by 6, 7, 8 or 14 names (S-2): the offset, within the file, of a field of its part. That field is
-- at fault, and no earlier field of the part is. Each field's test is of the value at its own offset.
-- Assumes nothing.
use Rattle.std.specs.Prelude.{◌≡◌, Bool, true, false, not, cond, ◌&&◌, ◌||◌, List, ◌∷◌, length, pos}
use Rattle.std.proofs.Math.Path.{refl, sym, ap, subst}
use Rattle.std.proofs.Common.{◌∙◌, lt-ltb, le-ltb, ltb→lt, T_not}
use Rattle.std.proofs.Math.Option.{Option, none, some}
use Prim.Native.Nat.{ℕ, zero, suc, ◌+◌, ◌*◌, ◌-◌, ◌≤◌, ◌<◌}
use Rattle.std.proofs.Math.Nat.{suc-mul}
use Rattle.std.proofs.Math.Decide.{dec_lt}
use native.Mathlib.Omega.{arith}
use Rattle.std.proofs.lemmas.Bool.{lt-leb}
use Rattle.std.proofs.Math.Dec.{T, eqb, eqb→eq, eqb_refl}
use Rattle.base_integers.specs.Meaning.Ranges.{outside}
use Rattle.base_integers.specs.Steps.Ranges.{is_true, is_false, and_both, and_left, and_right, or_right}
use Rattle.base_limits.specs.Meaning.Limits as limits
use Rattle.rules.specs.Meaning.Layout.{zones_in, branches_in, links_in, orders_in, branch_size, branch_at, branch_field_at, link_at, link_fields, link_field_at, link_field_size, contracts, case_version, from_in, to_in, order_at, order_fields, order_field_at, order_field_size, shadow_at, case_length, proposal_length, u8_at, u32_at, i32_at, ram_in, ptdf_in, capacity_in, contracted_in, zone_in, side_in, quantity_in, price_in}
use Rattle.rules.specs.Meaning.Hour.{case_of, plan_of, prices_of}
use Rattle.base_causes.specs.declared.Outcome.{Outcome}
use Rattle.base_causes.specs.Meaning.Causes.{Cause, verdict, any_below, place_else, first_field, refusal}
use Rattle.base_causes.proofs.Promised.CauseLaws.{First, no_less, first_some, any_some, any_none, row-fails, else-refusal, refusal-append, first-field, no_place, lacks, row-by-number, number-passes, before, behind, cause_numbered}
use Rattle.rules.specs.Meaning.Verdict.{◌over◌, unknown, branch_fault, repeated, link_fault, row_fault, order_fault, room_causes, case_causes, proposal_causes, clearing_causes, table, outcome, case_refusal, bad_link_field}
use Rattle.rules.proofs.Steps.Passed.{not-not}

-- the fields of a part: n rows of w fields each, where each stands, how many bytes it has, and whether it is at fault
pub record Part : Type 0 where
  pub rows : ℕ
  pub fields : ℕ
  pub offset : ℕ → ℕ → ℕ
  pub width : ℕ → ℕ
  pub fault : ℕ → ℕ → Bool

-- an outcome names a field of a part of a file of `size` bytes
pub record FieldNamed (number : ℕ) (part : Part) (size : ℕ) (o : Outcome) : Type 0 where
  pub row : ℕ
  pub field : ℕ
  pub row_in : row < part.rows
  pub field_in : field < part.fields
  pub is : o ≡ verdict number (part.offset row field)
  pub inside : part.offset row field + part.width field ≤ size
  pub at-fault : T (part.fault row field)
  pub none_before : (i j : ℕ) → i < part.rows → j < part.fields → part.offset i j < part.offset row field → T (not (part.fault i j))

-- FIELDS ARE ADJACENT: a field begins where the one before ends, and a row where the last field of the row before
-- ends; the last row ends within the file
pub record Adjacent (part : Part) (size : ℕ) : Type 0 where
  pub some-field : 0 < part.fields
  pub next_field : (i j : ℕ) → suc j < part.fields → part.offset i (suc j) ≡ part.offset i j + part.width j
  pub next_row : (i j : ℕ) → suc j ≡ part.fields → part.offset (suc i) 0 ≡ part.offset i j + part.width j
  pub last-ends : part.offset part.rows 0 ≤ size

-- so offsets are in file order
module _ (part : Part) {size : ℕ} (a : Adjacent part size) where
  field-order : (i j l : ℕ) → j ≤ l → l < part.fields → part.offset i j ≤ part.offset i l
  field-order i j zero h k = let e : 0 ≡ j = omega arith in subst (λ (n : ℕ). part.offset i n ≤ part.offset i 0) e (omega arith)
  field-order i j (suc l) h k = elim (dec_lt l j) [
    | yes b ↦ let e : suc l ≡ j = omega arith in subst (λ (n : ℕ). part.offset i n ≤ part.offset i (suc l)) e (omega arith)
    | no g ↦ omega (arith, field-order i j l (omega arith) (omega arith), a.next_field i l k)
  ]

  row_ends : (i j : ℕ) → j < part.fields → part.offset i j + part.width j ≤ part.offset (suc i) 0
  row_ends i j h = elim (dec_lt (suc j) part.fields) [
    | yes b ↦ omega (arith, a.next_field i j b, field-order i (suc j) last (omega arith) (omega arith), a.next_row i last (omega arith))
    | no g ↦ omega (arith, a.next_row i j (omega arith))
  ]
    where
      last : ℕ
      last = part.fields - 1

  row-order : (i k : ℕ) → i ≤ k → part.offset i 0 ≤ part.offset k 0
  row-order i zero h = let e : 0 ≡ i = omega arith in subst (λ (n : ℕ). part.offset n 0 ≤ part.offset 0 0) e (omega arith)
  row-order i (suc k) h = elim (dec_lt k i) [
    | yes b ↦ let e : suc k ≡ i = omega arith in subst (λ (n : ℕ). part.offset n 0 ≤ part.offset (suc k) 0) e (omega arith)
    | no g ↦ omega (arith, row-order i k (omega arith), row_ends k 0 a.some-field)
  ]

  later-row : (i j k l : ℕ) → i < k → j < part.fields → l < part.fields → part.offset i j ≤ part.offset k l
  later-row i j k l h f g = omega (arith, row_ends i j f, row-order (suc i) k h, field-order k 0 l (omega arith) g)

  pub field-inside : (i j : ℕ) → i < part.rows → j < part.fields → part.offset i j + part.width j ≤ size
  field-inside i j h f = omega (arith, row_ends i j f, row-order (suc i) part.rows h, a.last-ends)

named : (number : ℕ) (part : Part) (size : ℕ) (o : Outcome) → Adjacent part size → (i : ℕ) → First part.rows (λ i. any_below part.fields (part.fault i)) i
    → o ≡ verdict number (part.offset i (first_field part.fields (part.fault i))) → FieldNamed number part size o
named number part size o adjacent i f e = record {
  row = i;
  field = j;
  row_in = f.place_in;
  field_in = g.place_in;
  is = e;
  inside = field-inside part adjacent i j f.place_in g.place_in;
  at-fault = g.holds;
  none_before = earlier;
}
  where
    j : ℕ
    j = first_field part.fields (part.fault i)

    g : First part.fields (part.fault i) j
    g = first-field part.fields (part.fault i) f.holds

    earlier : (k l : ℕ) → k < part.rows → l < part.fields → part.offset k l < part.offset i j → T (not (part.fault k l))
    earlier k l hk hl h = elim (dec_lt k i) [
      | yes b ↦ no_place part.fields (part.fault k) (f.none_before k b) l hl
      | no nb ↦ elim (dec_lt i k) [
        | yes b ↦ absurd (past (part.offset k l) (part.offset i j) h (later-row part adjacent i j k l b g.place_in hl))
        | no na ↦ same (both k i nb na)
      ]
    ]
      where
        past : (a b : ℕ) → a < b → b ≤ a → ⊥
        past a b h k = omega arith

        both : (a b : ℕ) → (a < b → ⊥) → (b < a → ⊥) → a ≡ b
        both a b h k = omega arith

        same : k ≡ i → T (not (part.fault k l))
        same e = elim (dec_lt l j) [
          | yes b ↦ subst (λ (m : ℕ). T (not (part.fault m l))) (sym e) (g.none_before l b)
          | no nb ↦ absurd (past (part.offset k l) (part.offset i j) h (subst (λ (m : ℕ). part.offset i j ≤ part.offset m l) (sym e) (field-order part adjacent i j l (omega arith) hl)))
        ]

-- THE PARTS of a case s, and the shadow prices of a proposal t for it
abbrev pub branch_part : List ℕ → Part
branch_part s = record { rows = branches_in s; fields = 1 + zones_in s; offset = branch_field_at s; width = λ n. 4; fault = branch_fault (case_of s) }

abbrev pub link_part : List ℕ → Part
link_part s = record { rows = links_in s; fields = link_fields; offset = link_field_at s; width = link_field_size (case_version s); fault = link_fault (case_of s) }

abbrev pub order_part : List ℕ → Part
order_part s = record { rows = orders_in s; fields = order_fields; offset = order_field_at s; width = order_field_size; fault = order_fault (case_of s) }

abbrev pub shadow_part : List ℕ → List ℕ → Part
shadow_part s t = record { rows = branches_in s; fields = 1; offset = λ m n. shadow_at s m; width = λ n. 4; fault = λ m n. outside limits.shadow_price (pos ((prices_of s t).shadow m)) }

module _ (s : List ℕ) where
  -- every field of a branch has 4 bytes
  branch-field : (m n : ℕ) → branch_field_at s m n ≡ branch_at s m + 4 * n
  branch-field m zero = omega arith
  branch-field m (suc z) = omega arith

  pub branches-adjacent : Adjacent (branch_part s) (case_length s)
  unfolding branch_at branch_size case_length
  branches-adjacent = record {
    some-field = omega arith;
    next_field = λ i j h. omega (arith, branch-field i j);
    next_row = λ i j h. omega (arith, branch-field i j, suc-mul i (branch_size s));
    last-ends = omega arith;
  }

  pub links-adjacent : Adjacent (link_part s) (case_length s)
  unfolding link_at case_length
  links-adjacent = record { some-field = omega arith; next_field = next; next_row = row_ends; last-ends = omega arith }
    where
      next : (l j : ℕ) → suc j < link_fields → link_field_at s l (suc j) ≡ link_field_at s l j + link_field_size (case_version s) j
      next l zero h = refl
      next l (suc zero) h = omega arith
      next l (suc (suc zero)) h = omega arith
      next l (suc (suc (suc j))) h = absurd (omega arith)

      row_ends : (l j : ℕ) → suc j ≡ link_fields → link_at s (suc l) ≡ link_field_at s l j + link_field_size (case_version s) j
      row_ends l zero h = absurd (omega arith)
      row_ends l (suc zero) h = absurd (omega arith)
      row_ends l (suc (suc zero)) h = absurd (omega arith)
      row_ends l (suc (suc (suc j))) h = omega arith

  pub orders-adjacent : Adjacent (order_part s) (case_length s)
  unfolding order_at case_length
  orders-adjacent = record { some-field = omega arith; next_field = next; next_row = row_ends; last-ends = omega arith }
    where
      next : (i j : ℕ) → suc j < order_fields → order_field_at s i (suc j) ≡ order_field_at s i j + order_field_size j
      next i zero h = refl
      next i (suc zero) h = omega arith
      next i (suc (suc zero)) h = omega arith
      next i (suc (suc (suc j))) h = absurd (omega arith)

      row_ends : (i j : ℕ) → suc j ≡ order_fields → order_at s (suc i) ≡ order_field_at s i j + order_field_size j
      row_ends i zero h = absurd (omega arith)
      row_ends i (suc zero) h = absurd (omega arith)
      row_ends i (suc (suc zero)) h = absurd (omega arith)
      row_ends i (suc (suc (suc j))) h = omega arith

  pub shadows-adjacent : (t : List ℕ) → Adjacent (shadow_part s t) (proposal_length s)
  unfolding shadow_at proposal_length
  shadows-adjacent t = record {
    some-field = omega arith;
    next_field = λ i j h. absurd (omega arith);
    next_row = λ i j h. omega arith;
    last-ends = omega arith;
  }

-- WHAT IS NAMED
module _ (s t : List ℕ) (room : ℕ) where
  abbrev rows : List Cause
  rows = table none s t room (case_of s) (plan_of s t) (prices_of s t)

  pub names-branch-field : (outcome s t room).number ≡ 6 → FieldNamed 6 (branch_part s) (length s) (outcome s t room)
  unfolding outcome table room_causes case_causes proposal_causes clearing_causes lacks before cause_numbered case_of
  names-branch-field e =
      let r = row-by-number 6 rows (omega arith) tt tt e in
      let whole = eqb→eq (length s) (case_length s) (not-not (eqb (length s) (case_length s)) ((number-passes (before 6 rows) r.earlier 5).pass 0 (omega arith))) in
      named 6 (branch_part s) (length s) (outcome s t room) (subst (λ (n : ℕ). Adjacent (branch_part s) n) (sym whole) (branches-adjacent s)) r.place r.first-place r.is

  pub names-link-field : (outcome s t room).number ≡ 7 → FieldNamed 7 (link_part s) (length s) (outcome s t room)
  unfolding outcome table room_causes case_causes proposal_causes clearing_causes lacks before cause_numbered case_of
  names-link-field e =
      let r = row-by-number 7 rows (omega arith) tt tt e in
      let whole = eqb→eq (length s) (case_length s) (not-not (eqb (length s) (case_length s)) ((number-passes (before 7 rows) r.earlier 5).pass 0 (omega arith))) in
      named 7 (link_part s) (length s) (outcome s t room) (subst (λ (n : ℕ). Adjacent (link_part s) n) (sym whole) (links-adjacent s)) r.place r.first-place r.is

  pub names-order-field : (outcome s t room).number ≡ 8 → FieldNamed 8 (order_part s) (length s) (outcome s t room)
  unfolding outcome table room_causes case_causes proposal_causes clearing_causes lacks before cause_numbered case_of
  names-order-field e =
      let r = row-by-number 8 rows (omega arith) tt tt e in
      let whole = eqb→eq (length s) (case_length s) (not-not (eqb (length s) (case_length s)) ((number-passes (before 8 rows) r.earlier 5).pass 0 (omega arith))) in
      named 8 (order_part s) (length s) (outcome s t room) (subst (λ (n : ℕ). Adjacent (order_part s) n) (sym whole) (orders-adjacent s)) r.place r.first-place r.is

  -- in the proposal
  pub names-shadow-price : (outcome s t room).number ≡ 14 → FieldNamed 14 (shadow_part s t) (length t) (outcome s t room)
  unfolding outcome table room_causes case_causes proposal_causes clearing_causes lacks before cause_numbered case_of any_below
  names-shadow-price e =
      let r = row-by-number 14 rows (omega arith) tt tt e in
      let whole = eqb→eq (length t) (proposal_length s) (not-not (eqb (length t) (proposal_length s)) ((number-passes (before 14 rows) r.earlier 12).pass 0 (omega arith))) in
      named 14 (shadow_part s t) (length t) (outcome s t room) (subst (λ (n : ℕ). Adjacent (shadow_part s t) n) (sym whole) (shadows-adjacent s t)) r.place r.first-place r.is

-- S-2'S OWN SENTENCES ON LINKS, for link l of a case whose rows before 7 pass and whose links before l have no
-- field at fault
module _ (s : List ℕ) (l : ℕ) (rows_before : refusal (before 7 (case_causes s (case_of s))) ≡ none) (l-in : l < links_in s)
    (links-before : (i n : ℕ) → i < l → n < link_fields → T (not (link_fault (case_of s) i n))) where
  -- its first field at fault is named
  first-named : (n : ℕ) → First link_fields (link_fault (case_of s) l) n → case_refusal s ≡ some (verdict 7 (link_field_at s l n))
  unfolding case_refusal case_causes before case_of first_field
  first-named n f =
      let rows = case_causes s (case_of s) in
      let from-links = bad_link_field s (case_of s) ∷ behind 7 rows in
      refusal-append (before 7 rows) from-links
      ∙ ap (λ (x : Option Outcome). else-refusal x (refusal from-links)) rows_before
      ∙ row-fails (bad_link_field s (case_of s)) (behind 7 rows) l (record {
        place_in = l-in;
        holds = is_true (any_some link_fields (link_fault (case_of s) l) n f.place_in f.holds);
        none_before = λ i h. is_false (any_none link_fields (link_fault (case_of s) i) (λ j k. links-before i j h k));
      })
      ∙ ap (λ (o : Option ℕ). some (verdict 7 (link_field_at s l (place_else o)))) (first_some link_fields (link_fault (case_of s) l) n f)

  -- a repeated pair names the later link's first byte, even where its capacity is out of range
  pub repeated-pair-named : (k : ℕ) → k < l → from_in s k ≡ from_in s l → to_in s k ≡ to_in s l → case_refusal s ≡ some (verdict 7 (link_at s l))
  unfolding link_fault repeated case_of
  repeated-pair-named k h e f = first-named 0 (record {
    place_in = omega arith;
    holds = or_right (unknown (zones_in s) (from_in s l)) (repeated (case_of s) l) (is_true (any_some l _ k h (rw (e, f) (and_both (eqb (from_in s l) (from_in s l)) (eqb (to_in s l) (to_in s l)) (eqb_refl (from_in s l)) (eqb_refl (to_in s l))))));
    none_before = λ i b. absurd (no_less i b);
  })

  -- equal zones name the second of the two
  pub equal-zones-named : from_in s l < zones_in s → from_in s l ≡ to_in s l → case_refusal s ≡ some (verdict 7 (link_at s l + 1))
  unfolding link_fault repeated case_of
  equal-zones-named known e = first-named 1 (record {
    place_in = omega arith;
    holds = or_right (unknown (zones_in s) (to_in s l)) (eqb (from_in s l) (to_in s l)) (subst (λ (z : ℕ). T (eqb (from_in s l) z)) e (eqb_refl (from_in s l)));
    none_before = λ i b. first_passes i (omega arith);
  })
    where
      -- if an earlier link had the same pair, its zones would be equal too
      equal-too : (k : ℕ) → T (eqb (from_in s k) (from_in s l) && eqb (to_in s k) (to_in s l)) → from_in s k ≡ to_in s k
      equal-too k t = eqb→eq (from_in s k) (from_in s l) (and_left (eqb (from_in s k) (from_in s l)) (eqb (to_in s k) (to_in s l)) t)
          ∙ e ∙ sym (eqb→eq (to_in s k) (to_in s l) (and_right (eqb (from_in s k) (from_in s l)) (eqb (to_in s k) (to_in s l)) t))

      no-earlier : (k : ℕ) → k < l → (b : Bool) → eqb (from_in s k) (from_in s l) && eqb (to_in s k) (to_in s l) ≡ b → T (not b)
      no-earlier k h true q = absurd (T_not (link_fault (case_of s) k 1) (links-before k 1 h (omega arith))
          (or_right (unknown (zones_in s) (to_in s k)) (eqb (from_in s k) (to_in s k)) (subst (λ (z : ℕ). T (eqb (from_in s k) z)) (equal-too k (is_true q)) (eqb_refl (from_in s k)))))
      no-earlier k h false q = tt

      first_passes : (i : ℕ) → i ≡ 0 → T (not (link_fault (case_of s) l i))
      first_passes i z = subst (λ (i : ℕ). T (not (link_fault (case_of s) l i))) (sym z)
          (is_false (λ j. lt-leb (zones_in s) (from_in s l) known j || any_none l (λ k. eqb (from_in s k) (from_in s l) && eqb (to_in s k) (to_in s l)) (λ k h. no-earlier k h _ refl) j))

  -- S-4'S OWN SENTENCE: a contracted volume that exceeds the capacity names its own field; a capacity out of range
  -- in the same link is named first
  module _ (zones-good : (n : ℕ) → n < 2 → T (not (link_fault (case_of s) l n))) where
    pub capacity-named : T (outside limits.capacity (pos (capacity_in s l))) → case_refusal s ≡ some (verdict 7 (link_at s l + 2))
    unfolding link_fault case_of
    capacity-named t = first-named 2 (record { place_in = omega arith; holds = t; none_before = zones-good })

    pub contracted-volume-named : T (not (outside limits.capacity (pos (capacity_in s l)))) → case_version s ≡ 2 → capacity_in s l < u32_at s (link_at s l + 6) → case_refusal s ≡ some (verdict 7 (link_at s l + 6))
    unfolding link_fault case_of contracted_in contracts
    contracted-volume-named good version h = first-named 3 (record {
      place_in = omega arith;
      holds = subst (λ (v : ℕ). T ((cond (eqb v 2) (u32_at s (link_at s l + 6)) (capacity_in s l)) over capacity_in s l)) (sym version) (is_true (lt-ltb (capacity_in s l) (u32_at s (link_at s l + 6)) h));
      none_before = three-good;
    })
      where
        three-good : (n : ℕ) → n < 3 → T (not (link_fault (case_of s) l n))
        three-good zero k = zones-good 0 (omega arith)
        three-good (suc zero) k = zones-good 1 (omega arith)
        three-good (suc (suc zero)) k = good
        three-good (suc (suc (suc n))) k = absurd (omega arith)

-- S-4: A CONTRACTED VOLUME IS NAMED only in a case of version 2, where it has bytes of its own; then the fields
-- before it are good
contracted-apart : (s : List ℕ) (l : ℕ) (b : Bool) → contracts (case_version s) ≡ b → T (link_fault (case_of s) l 3) → T b
unfolding link_fault case_of contracted_in
contracted-apart s l true q t = tt
contracted-apart s l false q t = absurd (T_not (capacity_in s l over capacity_in s l) (is_false (le-ltb (capacity_in s l) (capacity_in s l) (omega arith)))
    (subst (λ (b : Bool). T ((cond b (u32_at s (link_field_at s l 3)) (capacity_in s l)) over capacity_in s l)) q t))

pub contracted-named : (s : List ℕ) (l : ℕ) → T (link_fault (case_of s) l 3) → (case_version s ≡ 2) × (capacity_in s l < u32_at s (link_field_at s l 3))
unfolding link_fault case_of contracted_in contracts
contracted-named s l t =
    let v = contracted-apart s l (contracts (case_version s)) refl t in
    (eqb→eq (case_version s) 2 v, ltb→lt (capacity_in s l) (u32_at s (link_field_at s l 3)) (subst (λ (b : Bool). T ((cond b (u32_at s (link_field_at s l 3)) (capacity_in s l)) over capacity_in s l)) (true-is (contracts (case_version s)) v) t))
  where
    true-is : (b : Bool) → T b → b ≡ true
    true-is true t = refl
    true-is false t = absurd t

-- WHAT EACH FIELD'S TEST IS OF: the value at the field's own offset
module _ (s : List ℕ) where
  pub margin-tested : (m : ℕ) → branch_fault (case_of s) m 0 ≡ outside limits.margin (i32_at s (branch_field_at s m 0))
  unfolding branch_fault case_of ram_in
  margin-tested m = refl

  pub ptdf-tested : (m z : ℕ) → branch_fault (case_of s) m (suc z) ≡ outside limits.ptdf (i32_at s (branch_field_at s m (suc z)))
  unfolding branch_fault case_of ptdf_in
  ptdf-tested m z = refl

  pub from-tested : (l : ℕ) → link_fault (case_of s) l 0 ≡ (unknown (zones_in s) (u8_at s (link_field_at s l 0)) || repeated (case_of s) l)
  unfolding link_fault case_of from_in
  from-tested l = refl

  pub to-tested : (l : ℕ) → link_fault (case_of s) l 1 ≡ (unknown (zones_in s) (u8_at s (link_field_at s l 1)) || eqb (u8_at s (link_field_at s l 0)) (u8_at s (link_field_at s l 1)))
  unfolding link_fault case_of from_in to_in
  to-tested l = refl

  pub capacity-tested : (l : ℕ) → link_fault (case_of s) l 2 ≡ outside limits.capacity (pos (u32_at s (link_field_at s l 2)))
  unfolding link_fault case_of capacity_in
  capacity-tested l = refl

  pub contracted-tested : (l : ℕ) → case_version s ≡ 2 → link_fault (case_of s) l 3 ≡ u32_at s (link_field_at s l 3) over u32_at s (link_field_at s l 2)
  unfolding link_fault case_of capacity_in contracted_in contracts
  contracted-tested l e = ap (λ (v : ℕ). (cond (eqb v 2) (u32_at s (link_field_at s l 3)) (u32_at s (link_field_at s l 2))) over u32_at s (link_field_at s l 2)) e

  pub zone-tested : (i : ℕ) → order_fault (case_of s) i 0 ≡ unknown (zones_in s) (u8_at s (order_field_at s i 0))
  unfolding order_fault row_fault case_of zone_in
  zone-tested i = refl

  pub side-tested : (i : ℕ) → order_fault (case_of s) i 1 ≡ u8_at s (order_field_at s i 1) over 1
  unfolding order_fault row_fault case_of side_in
  side-tested i = refl

  pub quantity-tested : (i : ℕ) → order_fault (case_of s) i 2 ≡ outside limits.quantity (pos (u32_at s (order_field_at s i 2)))
  unfolding order_fault row_fault case_of quantity_in
  quantity-tested i = refl

  pub price-tested : (i : ℕ) → order_fault (case_of s) i 3 ≡ outside limits.order_price (i32_at s (order_field_at s i 3))
  unfolding order_fault row_fault case_of price_in
  price-tested i = refl
