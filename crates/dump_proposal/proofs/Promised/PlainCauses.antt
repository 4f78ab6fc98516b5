-- 0 AND 56 TO 60 IN PLAIN NUMBERS, both ways, number and index. `get_or d k 0` is the byte at place k, counted from
-- 0. The case's byte 6 counts its branches, byte 7 its links, bytes 8 and 9 its orders; value n of the dump is its
-- bytes 8 n to 8 n + 7. `CaseFacts` says in plain facts what a readable case is, and `PlainFaults` of `dump_values`
-- which value of which kind is refused. Assumes nothing.
use Rattle.std.specs.Prelude.{◌≡◌, ◌⊎◌, ◌↔◌, ◌≢◌, Bool, true, false, List, [], ◌∷◌, ℕ, ◌+◌, ◌-◌, ◌*◌, ◌/◌, ◌%◌, ◌^◌, ◌≤◌, ◌<◌, length}
use Rattle.std.proofs.Math.Path.{refl, sym, ap, subst}
use Rattle.std.proofs.Common.{◌∙◌, inl, inr, lt_trans, arith, eq-eqb, ne_eqb, eqb-true, le-ltb}
use Rattle.std.proofs.Math.Bool.{not}
use Rattle.std.proofs.Math.Option.{Option, none, some, some-ne-none}
use Rattle.std.proofs.Math.Decide.{dec_lt}
use Rattle.std.proofs.lemmas.Bool.{not-false}
use Rattle.std.proofs.Math.Dec.{T, ltb→lt, lt→ltb, nltb→le, not_T, T_not}
use Rattle.base_integers.specs.Steps.Ranges.{is_true, is_false, not_is}
use Rattle.base_causes.specs.declared.Outcome.{Outcome}
use Rattle.base_causes.specs.Meaning.Causes.{Pass, verdict, refusal, answer}
use Rattle.base_causes.proofs.Promised.CauseLaws.{Comes, past, none_left, row-by-number, row-answers, number-passes, number-below, numbers_below, cause_numbered, lacks, before, zero-none}
use Rattle.rules.specs.Meaning.Layout.{u8_at, u16_at, orders_in, links_in, branches_in, quantity_in, proposal_length}
use Rattle.rules.specs.Meaning.Hour.{case_of}
use Rattle.rules.specs.Meaning.Verdict.{differ, case_causes, case_refusal}
use Rattle.rules.proofs.Promised.PlainFacts.{CaseFacts, case-facts, facts-readable}
use Rattle.dump_binary64.specs.Meaning.Value.{bits_at, finite}
use Rattle.dump_binary64.proofs.Promised.PlainBits.{not-finite}
use Rattle.dump_binary64.proofs.Promised.Taken.{bits-are-bytes}
use Rattle.dump_values.specs.Meaning.Field.{Kind, share-of, flow, system-price, shadow-price, kind_of, fault}
use Rattle.dump_values.proofs.Promised.PlainPlaces.{branches, links, orders, first-value, second-value, order-at, link-at, branch-at}
use Rattle.dump_values.proofs.Promised.PlainFaults.{ShareRefused, FlowRefused, ShadowRefused, SystemRefused, share-refused, flow-refused, shadow-refused, system-refused}
use Rattle.dump_proposal.specs.Meaning.Dump.{value_count, dump_length, refuses, number_in, refused_case, wrong_length, not_finite, out_of_field, short_output, dump_causes, dump_refusal, dump_outcome}
use Rattle.dump_proposal.specs.Promised.PlainCauses.{bits}

-- HOW MANY VALUES a dump for the case s has, and the 64 bits of value n, its lowest byte first
abbrev pub values : List ℕ → ℕ
values s = 2 + (orders s + links s + branches s)

-- 58: a value whose eleven exponent bits are all ones
abbrev pub ValueNotFinite : List ℕ → ℕ → Type 0
ValueNotFinite d n = bits d n / 2 ^ 52 % 2048 ≡ 2047

-- 59: value 0 is the LTA share, value 1 the system price; then come the orders' shares, the links' flows, the
-- branches' shadow prices
abbrev pub ValueRefused : List ℕ → List ℕ → ℕ → Type 0
ValueRefused s d n =
    ((n ≡ 0) × ShareRefused (bits d n))
    ⊎ (((n ≡ 1) × SystemRefused (bits d n))
    ⊎ (((2 ≤ n) × ((n < 2 + orders s) × ShareRefused (bits d n)))
    ⊎ (((2 + orders s ≤ n) × ((n < 2 + (orders s + links s)) × FlowRefused (bits d n)))
    ⊎ ((2 + (orders s + links s) ≤ n) × ShadowRefused (bits d n)))))

-- THE FIRST VALUE of which something holds
pub record FirstValue (s : List ℕ) (P : ℕ → Type 0) (n : ℕ) : Type 0 where
  pub value_in : n < 2 + (orders s + links s + branches s)
  pub holds : P n
  pub none_before : (j : ℕ) → j < n → P j → ⊥

-- WHAT PASSES: the case alone; its dump's length too; every value finite; every value taken
pub record DumpSized (s d : List ℕ) : Type 0 where
  pub case-is : CaseFacts s
  pub length-is : length d ≡ 8 * (2 + (orders s + links s + branches s))

pub record ValuesFinite (s d : List ℕ) : Type 0 where
  pub sized : DumpSized s d
  pub finite : (n : ℕ) → n < 2 + (orders s + links s + branches s) → ValueNotFinite d n → ⊥

pub record ValuesConvertible (s d : List ℕ) : Type 0 where
  pub all-finite : ValuesFinite s d
  pub taken : (n : ℕ) → n < 2 + (orders s + links s + branches s) → ValueRefused s d n → ⊥

-- A VALUE'S TESTS
module _ (d : List ℕ) (n : ℕ) where
  bits_are : bits_at d n ≡ bits d n
  bits_are = bits-are-bytes d n

  finite-test : T (not (finite (bits_at d n))) ↔ ValueNotFinite d n
  finite-test = subst (λ (b : ℕ). T (not (finite b)) ↔ ValueNotFinite d n) (sym bits_are) (λ t. (not-finite (bits d n)).0 (not_is _ t), λ e. is_false ((not-finite (bits d n)).1 e))

module _ (s d : List ℕ) (f : ValuesFinite s d) where
  is_finite : (n : ℕ) → n < values s → finite (bits d n) ≡ true
  is_finite n h = by (finite (bits d n)) refl
    where
      by : (t : Bool) → finite (bits d n) ≡ t → finite (bits d n) ≡ true
      by true e = e
      by false e = absurd (f.finite n h ((not-finite (bits d n)).0 e))

  -- by the kind at that place
  test-as : (n : ℕ) (k : Kind) → kind_of s n ≡ k → {P : Type 0} → (fault k (bits d n) ≡ true) ↔ P → T (fault (kind_of s n) (bits_at d n)) ↔ P
  test-as n k e {P} w = (λ t. w.0 (sym same ∙ is-so _ t), λ x. is_true (same ∙ w.1 x))
    where
      same : fault (kind_of s n) (bits_at d n) ≡ fault k (bits d n)
      same = (λ i. fault (e i) (bits_are d n i))

      is-so : (t : Bool) → T t → t ≡ true
      is-so true u = refl
      is-so false u = absurd u

  quantity-most : (n : ℕ) → 2 ≤ n → n < 2 + orders s → quantity_in s (n - 2) ≤ 100000
  unfolding orders_in u16_at
  quantity-most n h l = (f.sized.case-is.quantity-in (n - 2) (omega arith)).1

  module _ (n : ℕ) (h : n < values s) where
    abbrev Fault : Type 0
    Fault = T (fault (kind_of s n) (bits_at d n))

    first-test : n ≡ 0 → Fault ↔ ShareRefused (bits d n)
    first-test e = test-as n (share-of 100000) (ap (kind_of s) e ∙ first-value s) (share-refused 100000 (bits d n) (is_finite n h) (omega arith))

    second-test : n ≡ 1 → Fault ↔ SystemRefused (bits d n)
    second-test e = test-as n system-price (ap (kind_of s) e ∙ second-value s) (system-refused (bits d n))

    order-test : 2 ≤ n → n < 2 + orders s → Fault ↔ ShareRefused (bits d n)
    order-test l k = test-as n (share-of (quantity_in s (n - 2))) (order-at s n l k) (share-refused (quantity_in s (n - 2)) (bits d n) (is_finite n h) (quantity-most n l k))

    link-test : 2 + orders s ≤ n → n < 2 + (orders s + links s) → Fault ↔ FlowRefused (bits d n)
    link-test l k = test-as n flow (link-at s n l k) (flow-refused (bits d n))

    branch-test : 2 + (orders s + links s) ≤ n → Fault ↔ ShadowRefused (bits d n)
    branch-test l = test-as n shadow-price (branch-at s n l) (shadow-refused (bits d n))

    fault-refused : Fault → ValueRefused s d n
    fault-refused t = elim (dec_lt n 1) [
      | yes a ↦ let e : n ≡ 0 = omega arith in inl (e, (first-test e).0 t)
      | no a ↦ elim (dec_lt n 2) [
        | yes b ↦ let e : n ≡ 1 = omega arith in inr (inl (e, (second-test e).0 t))
        | no b ↦ elim (dec_lt n (2 + orders s)) [
          | yes c ↦ let l : 2 ≤ n = omega arith in inr (inr (inl (l, (c, (order-test l c).0 t))))
          | no c ↦ elim (dec_lt n (2 + (orders s + links s))) [
            | yes g ↦ let l : 2 + orders s ≤ n = omega arith in inr (inr (inr (inl (l, (g, (link-test l g).0 t)))))
            | no g ↦ let l : 2 + (orders s + links s) ≤ n = omega arith in inr (inr (inr (inr (l, (branch-test l).0 t))))
          ]
        ]
      ]
    ]

    refused-fault : ValueRefused s d n → Fault
    refused-fault (inl x) = (first-test x.0).1 x.1
    refused-fault (inr (inl x)) = (second-test x.0).1 x.1
    refused-fault (inr (inr (inl x))) = (order-test x.0 x.1.0).1 x.1.1
    refused-fault (inr (inr (inr (inl x)))) = (link-test x.0 x.1.0).1 x.1.1
    refused-fault (inr (inr (inr (inr x)))) = (branch-test x.0).1 x.1

-- EACH ROW, where it passes
case-passes : (s : List ℕ) → CaseFacts s → Pass (refused_case s)
case-passes s f = record { pass = λ k h. is_false (ap refuses (facts-readable s f).none-holds) }

passes-case : (s : List ℕ) → Pass (refused_case s) → CaseFacts s
passes-case s p = case-facts s (record { none-holds = by (case_refusal s) (p.pass 0 (omega arith)) })
  where
    by : (o : Option Outcome) → T (not (refuses o)) → o ≡ none
    by (some x) t = absurd t
    by none t = refl

length-passes : (s d : List ℕ) → DumpSized s d → Pass (wrong_length s d)
unfolding dump_length value_count orders_in links_in branches_in u8_at u16_at
length-passes s d f = record { pass = λ k h. is_false (ap not (eq-eqb (length d) (8 * values s) f.length-is)) }

passes-length : (s d : List ℕ) → CaseFacts s → Pass (wrong_length s d) → DumpSized s d
unfolding dump_length value_count orders_in links_in branches_in u8_at u16_at
passes-length s d f p = record { case-is = f; length-is = eqb-true (length d) (8 * values s) (not-false _ (not_is _ (p.pass 0 (omega arith)))) }

finite-passes : (s d : List ℕ) → ValuesFinite s d → Pass (not_finite s d)
unfolding value_count orders_in links_in branches_in u8_at u16_at
finite-passes s d f = record { pass = λ n h. not_T (not (finite (bits_at d n))) (λ t. f.finite n h ((finite-test d n).0 t)) }

passes-finite : (s d : List ℕ) → DumpSized s d → Pass (not_finite s d) → ValuesFinite s d
unfolding value_count orders_in links_in branches_in u8_at u16_at
passes-finite s d f p = record { sized = f; finite = λ n h x. T_not (not (finite (bits_at d n))) (p.pass n h) ((finite-test d n).1 x) }

taken-passes : (s d : List ℕ) → ValuesConvertible s d → Pass (out_of_field s d)
unfolding value_count orders_in links_in branches_in u8_at u16_at
taken-passes s d f = record { pass = λ n h. not_T (fault (kind_of s n) (bits_at d n)) (λ t. f.taken n h (fault-refused s d f.all-finite n h t)) }

passes-taken : (s d : List ℕ) → ValuesFinite s d → Pass (out_of_field s d) → ValuesConvertible s d
unfolding value_count orders_in links_in branches_in u8_at u16_at
passes-taken s d f p = record { all-finite = f; taken = λ n h x. T_not (fault (kind_of s n) (bits_at d n)) (p.pass n h) (refused-fault s d f n h x) }

-- a case is refused by 1 to 8
case-number : (s : List ℕ) (o : Outcome) → case_refusal s ≡ some o → (1 ≤ o.number) × (o.number ≤ 8)
unfolding case_refusal case_causes lacks numbers_below
case-number s o e =
    let rows = case_causes s (case_of s) in
    let same : (answer (refusal rows)).number ≡ o.number = ap (λ (x : Option Outcome). (answer x).number) e in
    let few = number-below 9 rows (omega arith) tt in
    (some_number o.number (λ z. some-ne-none o (sym e ∙ zero-none rows tt (same ∙ z))), omega (arith, few, same))
  where
    some_number : (n : ℕ) → (n ≡ 0 → ⊥) → 1 ≤ n
    some_number n g = omega arith

nothing-before : (P : ℕ → Type 0) (i : ℕ) → i < 0 → P i
nothing-before P i l = absurd (never i l)
  where
    never : (i : ℕ) → i < 0 → ⊥
    never i l = omega arith

module _ (s d : List ℕ) (room : ℕ) where
  -- 56 IF AND ONLY IF one of 1 to 8 refuses the case, and its index is that number
  pub refused-56 : (dump_outcome s d room).number ≡ 56
      → (n : ℕ) × ((k : ℕ) × ((case_refusal s ≡ some (verdict n k)) × ((1 ≤ n) × ((n ≤ 8) × (dump_outcome s d room ≡ verdict 56 n)))))
  unfolding dump_outcome dump_refusal dump_causes lacks before cause_numbered
  refused-56 e = let row = row-by-number 56 (dump_causes s d room) (omega arith) tt tt e in by (case_refusal s) refl row.first-place.holds row.is
    where
      by : (o : Option Outcome) → case_refusal s ≡ o → T (refuses o) → dump_outcome s d room ≡ verdict 56 (number_in o)
          → (n : ℕ) × ((k : ℕ) × ((case_refusal s ≡ some (verdict n k)) × ((1 ≤ n) × ((n ≤ 8) × (dump_outcome s d room ≡ verdict 56 n)))))
      by (some o) q t r = let w = case-number s o q in (o.number, (o.index, (q, (w.0, (w.1, r)))))
      by none q t r = absurd t

  pub is-56 : (n k : ℕ) → case_refusal s ≡ some (verdict n k) → dump_outcome s d room ≡ verdict 56 n
  unfolding dump_outcome dump_refusal dump_causes lacks before cause_numbered refusal
  is-56 n k e = row-answers 56 (dump_causes s d room) tt refl 0 (record { place_in = omega arith; holds = is_true (ap refuses e); none_before = nothing-before _ }) ∙ ap (λ (o : Option Outcome). verdict 56 (number_in o)) e

  -- 57 IF AND ONLY IF the case is readable and the dump does not have eight bytes for each value; its index is 0
  pub refused-57 : (dump_outcome s d room).number ≡ 57 → (dump_outcome s d room ≡ verdict 57 0) × (CaseFacts s × (length d ≢ 8 * (2 + (orders s + links s + branches s))))
  unfolding dump_outcome dump_refusal dump_causes lacks before cause_numbered
  refused-57 e =
      let row = row-by-number 57 (dump_causes s d room) (omega arith) tt tt e in
      let c = passes-case s (number-passes (refused_case s ∷ []) row.earlier 56) in
      (row.is, (c, λ q. T_not (differ (length d) (dump_length s)) ((length-passes s d (record { case-is = c; length-is = q })).pass 0 (omega arith)) row.first-place.holds))

  pub is-57 : CaseFacts s → length d ≢ 8 * (2 + (orders s + links s + branches s)) → dump_outcome s d room ≡ verdict 57 0
  unfolding dump_outcome dump_refusal dump_causes lacks before cause_numbered dump_length value_count orders_in links_in branches_in u8_at u16_at
  is-57 f q =
      let rows : Comes (refused_case s ∷ []) none = past (case-passes s f) none_left in
      row-answers 57 (dump_causes s d room) tt rows.is 0 (record { place_in = omega arith; holds = is_true (ap not (ne_eqb (length d) (8 * values s) q)); none_before = nothing-before _ })

  -- 58 IF AND ONLY IF the length is right and a value is not finite; its index is the first such value
  pub refused-58 : (dump_outcome s d room).number ≡ 58 → (dump_outcome s d room ≡ verdict 58 (dump_outcome s d room).index) × (DumpSized s d × FirstValue s (ValueNotFinite d) (dump_outcome s d room).index)
  unfolding dump_outcome dump_refusal dump_causes lacks before cause_numbered value_count orders_in links_in branches_in u8_at u16_at
  refused-58 e =
      let row = row-by-number 58 (dump_causes s d room) (omega arith) tt tt e in
      let passed = number-passes (refused_case s ∷ wrong_length s d ∷ []) row.earlier in
      let place : row.place ≡ (dump_outcome s d room).index = sym (ap (λ (o : Outcome). o.index) row.is) in (
        row.is ∙ ap (verdict 58) place,
        (
          passes-length s d (passes-case s (passed 56)) (passed 57),
          subst (λ (k : ℕ). FirstValue s (ValueNotFinite d) k) place (record {
            value_in = row.first-place.place_in;
            holds = (finite-test d row.place).0 row.first-place.holds;
            none_before = λ j h x. T_not (not (finite (bits_at d j))) (row.first-place.none_before j h) ((finite-test d j).1 x);
          }),
        ),
      )

  pub is-58 : DumpSized s d → (n : ℕ) → FirstValue s (ValueNotFinite d) n → dump_outcome s d room ≡ verdict 58 n
  unfolding dump_outcome dump_refusal dump_causes lacks before cause_numbered value_count orders_in links_in branches_in u8_at u16_at
  is-58 f n w =
      let rows : Comes (refused_case s ∷ wrong_length s d ∷ []) none = past (case-passes s f.case-is) (past (length-passes s d f) none_left) in
      row-answers 58 (dump_causes s d room) tt rows.is n (record {
        place_in = w.value_in;
        holds = (finite-test d n).1 w.holds;
        none_before = λ j h. not_T (not (finite (bits_at d j))) (λ t. w.none_before j h ((finite-test d j).0 t));
      })

  -- 59 IF AND ONLY IF every value is finite and one has no field; its index is the first such value
  pub refused-59 : (dump_outcome s d room).number ≡ 59 → (dump_outcome s d room ≡ verdict 59 (dump_outcome s d room).index) × (ValuesFinite s d × FirstValue s (ValueRefused s d) (dump_outcome s d room).index)
  unfolding dump_outcome dump_refusal dump_causes lacks before cause_numbered value_count orders_in links_in branches_in u8_at u16_at
  refused-59 e =
      let row = row-by-number 59 (dump_causes s d room) (omega arith) tt tt e in
      let passed = number-passes (refused_case s ∷ wrong_length s d ∷ not_finite s d ∷ []) row.earlier in
      let f = passes-finite s d (passes-length s d (passes-case s (passed 56)) (passed 57)) (passed 58) in
      let place : row.place ≡ (dump_outcome s d room).index = sym (ap (λ (o : Outcome). o.index) row.is) in (
        row.is ∙ ap (verdict 59) place,
        (
          f,
          subst (λ (k : ℕ). FirstValue s (ValueRefused s d) k) place (record {
            value_in = row.first-place.place_in;
            holds = fault-refused s d f row.place row.first-place.place_in row.first-place.holds;
            none_before = λ j h x. T_not (fault (kind_of s j) (bits_at d j)) (row.first-place.none_before j h) (refused-fault s d f j (lt_trans h row.first-place.place_in) x);
          }),
        ),
      )

  pub is-59 : ValuesFinite s d → (n : ℕ) → FirstValue s (ValueRefused s d) n → dump_outcome s d room ≡ verdict 59 n
  unfolding dump_outcome dump_refusal dump_causes lacks before cause_numbered value_count orders_in links_in branches_in u8_at u16_at
  is-59 f n w =
      let rows : Comes (refused_case s ∷ wrong_length s d ∷ not_finite s d ∷ []) none = past (case-passes s f.sized.case-is) (past (length-passes s d f.sized) (past (finite-passes s d f) none_left)) in
      row-answers 59 (dump_causes s d room) tt rows.is n (record {
        place_in = w.value_in;
        holds = refused-fault s d f n w.value_in w.holds;
        none_before = λ j h. not_T (fault (kind_of s j) (bits_at d j)) (λ t. w.none_before j h (fault-refused s d f j (lt_trans h w.value_in) t));
      })

  -- 60 IF AND ONLY IF every value is taken and the output is shorter than the proposal; its index is 0
  all-passed : ValuesConvertible s d → Pass (short_output s room) → dump_refusal s d room ≡ none
  unfolding dump_refusal dump_causes
  all-passed f p =
      let rows : Comes (dump_causes s d room) none =
      past (case-passes s f.all-finite.sized.case-is) (past (length-passes s d f.all-finite.sized) (past (finite-passes s d f.all-finite) (past (taken-passes s d f) (past p none_left)))) in
      rows.is

  pub refused-60 : (dump_outcome s d room).number ≡ 60 → (dump_outcome s d room ≡ verdict 60 0) × (ValuesConvertible s d × (room < 13 + 4 * (orders s + links s + branches s)))
  unfolding dump_outcome dump_refusal dump_causes lacks before cause_numbered proposal_length orders_in links_in branches_in u8_at u16_at
  refused-60 e =
      let row = row-by-number 60 (dump_causes s d room) (omega arith) tt tt e in
      let passed = number-passes (refused_case s ∷ wrong_length s d ∷ not_finite s d ∷ out_of_field s d ∷ []) row.earlier in
      (row.is, (passes-taken s d (passes-finite s d (passes-length s d (passes-case s (passed 56)) (passed 57)) (passed 58)) (passed 59), ltb→lt room (13 + 4 * (orders s + links s + branches s)) row.first-place.holds))

  pub is-60 : ValuesConvertible s d → room < 13 + 4 * (orders s + links s + branches s) → dump_outcome s d room ≡ verdict 60 0
  unfolding dump_outcome dump_refusal dump_causes lacks before cause_numbered proposal_length orders_in links_in branches_in u8_at u16_at
  is-60 f h =
      let rows : Comes (refused_case s ∷ wrong_length s d ∷ not_finite s d ∷ out_of_field s d ∷ []) none =
      past (case-passes s f.all-finite.sized.case-is) (past (length-passes s d f.all-finite.sized) (past (finite-passes s d f.all-finite) (past (taken-passes s d f) none_left))) in
      row-answers 60 (dump_causes s d room) tt rows.is 0 (record { place_in = omega arith; holds = lt→ltb room (13 + 4 * (orders s + links s + branches s)) h; none_before = nothing-before _ })

  -- 0 IF AND ONLY IF every value is taken and the proposal has room; its index is 0
  pub answered-0 : (dump_outcome s d room).number ≡ 0 → (dump_outcome s d room ≡ verdict 0 0) × (ValuesConvertible s d × (13 + 4 * (orders s + links s + branches s) ≤ room))
  unfolding dump_outcome dump_refusal dump_causes lacks cause_numbered proposal_length orders_in links_in branches_in u8_at u16_at
  answered-0 e =
      let passed = number-passes (dump_causes s d room) (zero-none (dump_causes s d room) tt e) in (
        ap answer (zero-none (dump_causes s d room) tt e),
        (
          passes-taken s d (passes-finite s d (passes-length s d (passes-case s (passed 56)) (passed 57)) (passed 58)) (passed 59),
          nltb→le room (13 + 4 * (orders s + links s + branches s)) ((passed 60).pass 0 (omega arith)),
        ),
      )

  pub is-0 : ValuesConvertible s d → 13 + 4 * (orders s + links s + branches s) ≤ room → dump_outcome s d room ≡ verdict 0 0
  unfolding dump_outcome proposal_length orders_in links_in branches_in u8_at u16_at
  is-0 f h = ap answer (all-passed f (record { pass = λ k l. is_false (le-ltb room (13 + 4 * (orders s + links s + branches s)) h) }))
