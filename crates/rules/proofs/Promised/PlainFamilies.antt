-- FAMILY LISTS IN PLAIN BYTES (S-11), both ways: what the bytes of a list are, and when the judgement with a list
-- answers 16, 17, 18 and 28, number and index. `get_or f k 0` is the byte at place k of the list, counted from 0.
-- Here 18 is given by rounds of at most as many steps as there are orders; `PlainCircles` of `family_list` gives it
-- by rounds of any length. Assumes nothing.
use Rattle.std.specs.Prelude.{◌≡◌, ◌↔◌, ◌≢◌, Bool, true, false, not, cond, ◌||◌, length, get_or, eqb, leb, ltb, pos, ◌*ℤ◌, ◌≤ℤ◌, ◌<ℤ◌}
use Rattle.std.proofs.Math.Path.{refl, sym, ap, subst}
use Rattle.std.proofs.Common.{◌∙◌, eqb→eq}
use mathlib.Core.List.{List, [], ◌∷◌, ◌++◌}
use Rattle.std.proofs.Math.Option.{Option, none, some, none-ne-some, some-ne-none, some-injective}
use Prim.Native.Nat.{ℕ, zero, suc, ◌+◌, ◌*◌, ◌≤◌, ◌<◌}
use native.Mathlib.Omega.{arith}
use Rattle.std.proofs.Math.Decide.{dec_lt}
use Rattle.std.proofs.Math.Dec.{T, eqb_refl, leb→le, le→leb, nleb→lt, ltb→lt, lt→ltb, nltb→le, not_T, T_not}
use Rattle.base_integers.specs.Steps.Ranges.{is_true, is_false, nor-left, nor-right, nor-both}
use Rattle.rules.specs.Meaning.Layout.{u8_at, u16_at, orders_in, tolerance_in, quantity_in, volume_in}
use Rattle.rules.specs.Meaning.Hour.{Case, case_of, plan_of, prices_of, gap}
use Rattle.rules.specs.Meaning.Families.{family_version, parent_in, family_length, named, parent_of, missing, onward, ancestor, LeadsBack, is_order, leads_back}
use Rattle.base_causes.specs.declared.Outcome.{Outcome}
use Rattle.base_causes.specs.Meaning.Causes.{Pass, verdict, refusal, any_below}
use Rattle.base_causes.proofs.Promised.CauseLaws.{any_some, any_place, none_both, none_each, row-passes, row-passed, row-by-number, row-answers, number-passes, cause_numbered, lacks, before, has_cause, row_of, is_cause}
use Rattle.rules.specs.Meaning.Verdict.{differ, not_mark, room_causes, case_causes, proposal_causes, wrong_family_list, missing_parent, family_causes, excess_volume, exceeds_parent, clearing_causes, table, outcome, family_outcome}
use Rattle.rules.proofs.Promised.PlainFacts.{marked, mark-passes}
use Rattle.rules.specs.Meaning.Report.{reports}
use Rattle.rules.proofs.Promised.PlainVerdicts.{ReadFacts, ClearedFacts, read_causes, read-passes, passes-read, valued-facts, refused-26, accepted-0}
use Rattle.rules.proofs.Promised.Families.{valued-alike, passed-alike}

-- A FAMILY LIST for this many orders: LTF, version 1, and 16 bits for each order
pub record ListFacts (f : List ℕ) (orders : ℕ) : Type 0 where
  pub mark-is : (get_or f 0 0 ≡ 76) × ((get_or f 1 0 ≡ 84) × (get_or f 2 0 ≡ 70))
  pub version-is : (get_or f 3 0 ≡ 1) × (get_or f 4 0 ≡ 0)
  pub length-is : length f ≡ 5 + 2 * orders

-- the number of order i: the byte at 5 + 2 i, and 256 times the next. 65,535 is none
abbrev pub parent_at : List ℕ → ℕ → ℕ
parent_at f i = get_or f (5 + 2 * i) 0 + 256 * get_or f (6 + 2 * i) 0

parent-in : (f : List ℕ) (i : ℕ) → parent_in f i ≡ parent_at f i
unfolding parent_in u16_at
parent-in f i = ap (λ (k : ℕ). get_or f (5 + 2 * i) 0 + 256 * get_or f k 0) next
  where
    next : 5 + 2 * i + 1 ≡ 6 + 2 * i
    next = omega arith

parent-of : (f : List ℕ) (i : ℕ) → parent_of f i ≡ named (parent_at f i)
unfolding parent_of
parent-of f i = ap named (parent-in f i)

by_number : (P : Option ℕ → Type 0) (v : ℕ) → (v ≡ 65535 → P none) → (v ≢ 65535 → P (some v)) → P (named v)
by_number P v f g = by (eqb v 65535) refl
  where
    by : (b : Bool) → eqb v 65535 ≡ b → P (cond b none (some v))
    by true e = f (eqb→eq v 65535 (is_true e))
    by false e = g (λ q. T_not (eqb v 65535) (is_false e) (subst (λ (k : ℕ). T (eqb v k)) q (eqb_refl v)))

-- WHO HAS A PARENT, and which
pub no-parent : (f : List ℕ) (i : ℕ) → (parent_of f i ≡ none) ↔ (parent_at f i ≡ 65535)
no-parent f i = subst (λ (o : Option ℕ). (o ≡ none) ↔ (parent_at f i ≡ 65535)) (sym (parent-of f i))
    (by_number (λ (o : Option ℕ). (o ≡ none) ↔ (parent_at f i ≡ 65535)) (parent_at f i) (λ e. (λ q. e, λ q. refl)) (λ n. (λ q. absurd (some-ne-none (parent_at f i) q), λ q. absurd (n q))))

pub has-parent : (f : List ℕ) (i j : ℕ) → (parent_of f i ≡ some j) ↔ ((parent_at f i ≡ j) × (parent_at f i ≢ 65535))
has-parent f i j = subst (λ (o : Option ℕ). (o ≡ some j) ↔ ((parent_at f i ≡ j) × (parent_at f i ≢ 65535))) (sym (parent-of f i))
    (by_number (λ (o : Option ℕ). (o ≡ some j) ↔ ((parent_at f i ≡ j) × (parent_at f i ≢ 65535))) (parent_at f i)
    (λ e. (λ q. absurd (none-ne-some j q), λ q. absurd (q.1 e)))
    (λ n. (λ q. (some-injective (parent_at f i) j q, n), λ q. ap some q.0)))

-- ROW 16
list-passes : (f : List ℕ) (c : Case) → ListFacts f c.orders → Pass (wrong_family_list f c)
unfolding u8_at u16_at family_version family_length
list-passes f c l = record {
  pass = λ k h. nor-both (not_mark 76 84 70 f || differ (family_version f) 1) (differ (length f) (family_length c.orders))
      (nor-both (not_mark 76 84 70 f) (differ (family_version f) 1) (mark-passes 76 84 70 f l.mark-is) (same (family_version f) 1 (omega (arith, l.version-is.0, l.version-is.1))))
      (same (length f) (family_length c.orders) l.length-is);
}
  where
    same : (a b : ℕ) → a ≡ b → T (not (differ a b))
    same a b e = not_T (differ a b) (λ t. T_not (eqb a b) t (subst (λ (k : ℕ). T (eqb a k)) e (eqb_refl a)))

passes-list : (f : List ℕ) (c : Case) → Pass (wrong_family_list f c) → ListFacts f c.orders
unfolding u8_at u16_at family_version family_length
passes-list f c p =
    let t = p.pass 0 (omega arith) in
    let front = nor-left (not_mark 76 84 70 f || differ (family_version f) 1) (differ (length f) (family_length c.orders)) t in
    let version : family_version f ≡ 1 = same (family_version f) 1 (nor-right (not_mark 76 84 70 f) (differ (family_version f) 1) front) in
    record {
      mark-is = marked 76 84 70 f (nor-left (not_mark 76 84 70 f) (differ (family_version f) 1) front);
      version-is = (omega (arith, version), omega (arith, version));
      length-is = same (length f) (family_length c.orders) (nor-right (not_mark 76 84 70 f || differ (family_version f) 1) (differ (length f) (family_length c.orders)) t);
    }
  where
    same : (a b : ℕ) → T (not (differ a b)) → a ≡ b
    same a b t = by (eqb a b) refl t
      where
        by : (q : Bool) → eqb a b ≡ q → T (not (not q)) → a ≡ b
        by true e u = eqb→eq a b (is_true e)
        by false e u = absurd u

-- A TEST OF A PARENT that passes where there is none: it fails only for an order that names a parent
holds_of : (f : List ℕ) (Q : Option ℕ → Bool) → Q none ≡ false → (i : ℕ) → T (Q (parent_of f i)) ↔ ((parent_at f i ≢ 65535) × T (Q (some (parent_at f i))))
holds_of f Q z i = subst (λ (o : Option ℕ). T (Q o) ↔ ((parent_at f i ≢ 65535) × T (Q (some (parent_at f i))))) (sym (parent-of f i))
    (by_number (λ (o : Option ℕ). T (Q o) ↔ ((parent_at f i ≢ 65535) × T (Q (some (parent_at f i))))) (parent_at f i)
    (λ e. (λ t. absurd (T_not (Q none) (is_false z) t), λ q. absurd (q.0 e)))
    (λ n. (λ t. (n, t), λ q. q.1)))

passes_of : (f : List ℕ) (Q : Option ℕ → Bool) → Q none ≡ false → (i : ℕ) → T (not (Q (parent_of f i))) ↔ (parent_at f i ≢ 65535 → T (not (Q (some (parent_at f i)))))
passes_of f Q z i = subst (λ (o : Option ℕ). T (not (Q o)) ↔ (parent_at f i ≢ 65535 → T (not (Q (some (parent_at f i)))))) (sym (parent-of f i))
    (by_number (λ (o : Option ℕ). T (not (Q o)) ↔ (parent_at f i ≢ 65535 → T (not (Q (some (parent_at f i)))))) (parent_at f i)
    (λ e. (λ t n. absurd (n e), λ q. is_false z))
    (λ n. (λ t m. t, λ q. q n)))

-- EVERY PARENT EXISTS
abbrev pub ParentsExist : List ℕ → ℕ → Type 0
ParentsExist f orders = (i : ℕ) → i < orders → parent_at f i ≢ 65535 → parent_at f i < orders

-- the first order whose parent does not exist: it names one at or above the count of orders
pub record NoSuchParent (f : List ℕ) (orders i : ℕ) : Type 0 where
  pub is-order : i < orders
  pub names-one : parent_at f i ≢ 65535
  pub not_there : orders ≤ parent_at f i
  pub first_one : (j : ℕ) → j < i → parent_at f j ≢ 65535 → parent_at f j < orders

-- THE FIRST CHILD ACCEPTED IN A LARGER FRACTION than its parent, with both fractions multiplied by both quantities
pub record ExceedsParent (s t f : List ℕ) (i : ℕ) : Type 0 where
  pub is-order : i < orders_in s
  pub names-one : parent_at f i ≢ 65535
  pub exceeds : volume_in s t (parent_at f i) * quantity_in s i < volume_in s t i * quantity_in s (parent_at f i)
  pub first_one : (j : ℕ) → j < i → parent_at f j ≢ 65535 → volume_in s t j * quantity_in s (parent_at f j) ≤ volume_in s t (parent_at f j) * quantity_in s j

-- every volume is at most its order's quantity, and every child's fraction at most its parent's
abbrev pub VolumesWithin : List ℕ → List ℕ → Type 0
VolumesWithin s t = (i : ℕ) → i < orders_in s → volume_in s t i ≤ quantity_in s i

abbrev pub ChildrenWithin : List ℕ → List ℕ → List ℕ → Type 0
ChildrenWithin s t f = (i : ℕ) → i < orders_in s → parent_at f i ≢ 65535 → volume_in s t i * quantity_in s (parent_at f i) ≤ volume_in s t (parent_at f i) * quantity_in s i

le-nltb : (m n : ℕ) → n ≤ m → T (not (ltb m n))
le-nltb m n h = not_T (ltb m n) (λ t. never (ltb→lt m n t))
  where
    never : m < n → ⊥
    never l = omega arith

module _ (s t f : List ℕ) (room : ℕ) where
  -- 16 IF AND ONLY IF the rows before pass and the bytes are no list for this case; its index is 0
  pub refused-16 : (family_outcome s t f room).number ≡ 16 → (family_outcome s t f room ≡ verdict 16 0) × (ReadFacts s t room × (ListFacts f (orders_in s) → ⊥))
  unfolding family_outcome table room_causes case_causes proposal_causes clearing_causes lacks before cause_numbered case_of
  refused-16 e =
      let row = row-by-number 16 (table (some f) s t room (case_of s) (plan_of s t) (prices_of s t)) (omega arith) tt tt e in
      (row.is, (passes-read s t room row.earlier, λ l. T_not (not_mark 76 84 70 f || differ (family_version f) 1 || differ (length f) (family_length (orders_in s))) ((list-passes f (case_of s) l).pass 0 (omega arith)) row.first-place.holds))

  pub is-16 : ReadFacts s t room → (ListFacts f (orders_in s) → ⊥) → family_outcome s t f room ≡ verdict 16 0
  unfolding family_outcome table room_causes case_causes proposal_causes clearing_causes lacks before cause_numbered case_of
  is-16 r n = row-answers 16 (table (some f) s t room (case_of s) (plan_of s t) (prices_of s t)) tt (read-passes s t room r) 0
      (record { place_in = omega arith; holds = by (not_mark 76 84 70 f || differ (family_version f) 1 || differ (length f) (family_length (orders_in s))) refl; none_before = λ i l. absurd (nothing i l) })
    where
      nothing : (i : ℕ) → i < 0 → ⊥
      nothing i l = omega arith

      by : (b : Bool) → not_mark 76 84 70 f || differ (family_version f) 1 || differ (length f) (family_length (orders_in s)) ≡ b → T (not_mark 76 84 70 f || differ (family_version f) 1 || differ (length f) (family_length (orders_in s)))
      by true e = is_true e
      by false e = absurd (n (passes-list f (case_of s) (record { pass = λ k h. is_false e })))

  -- 17 IF AND ONLY IF the rows before pass, the bytes are a list and a parent does not exist; its index is the
  -- first order that names such a parent
  pub refused-17 : (family_outcome s t f room).number ≡ 17 → ReadFacts s t room × (ListFacts f (orders_in s) × NoSuchParent f (orders_in s) (family_outcome s t f room).index)
  unfolding family_outcome table room_causes case_causes proposal_causes clearing_causes lacks before cause_numbered case_of
  refused-17 e =
      let row = row-by-number 17 (table (some f) s t room (case_of s) (plan_of s t) (prices_of s t)) (omega arith) tt tt e in
      let a = none_each (read_causes s t room) (wrong_family_list f (case_of s) ∷ []) row.earlier in
      let place : row.place ≡ (family_outcome s t f room).index = sym (ap (λ (o : Outcome). o.index) row.is) in
      let held = (holds_of f (missing (orders_in s)) refl row.place).0 row.first-place.holds in (
        passes-read s t room a.0,
        (
          passes-list f (case_of s) (number-passes (wrong_family_list f (case_of s) ∷ []) a.1 16),
          subst (λ (k : ℕ). NoSuchParent f (orders_in s) k) place (record {
            is-order = row.first-place.place_in;
            names-one = held.0;
            not_there = leb→le (orders_in s) (parent_at f row.place) held.1;
            first_one = λ j h n. nleb→lt (orders_in s) (parent_at f j) ((passes_of f (missing (orders_in s)) refl j).0 (row.first-place.none_before j h) n);
          }),
        ),
      )

  pub is-17 : ReadFacts s t room → ListFacts f (orders_in s) → (i : ℕ) → NoSuchParent f (orders_in s) i → family_outcome s t f room ≡ verdict 17 i
  unfolding family_outcome table room_causes case_causes proposal_causes clearing_causes lacks before cause_numbered refusal case_of
  is-17 r l i w = row-answers 17 (table (some f) s t room (case_of s) (plan_of s t) (prices_of s t)) tt
      (none_both (read_causes s t room) (wrong_family_list f (case_of s) ∷ []) (read-passes s t room r) (row-passes (wrong_family_list f (case_of s)) [] (list-passes f (case_of s) l))) i (record {
        place_in = w.is-order;
        holds = (holds_of f (missing (orders_in s)) refl i).1 (w.names-one, le→leb (orders_in s) (parent_at f i) w.not_there);
        none_before = λ j h. (passes_of f (missing (orders_in s)) refl j).1 (λ n. above (orders_in s) (parent_at f j) (w.first_one j h n));
      })
    where
      above : (m n : ℕ) → n < m → T (not (leb m n))
      above m n h = not_T (leb m n) (λ t. never (leb→le m n t))
        where
          never : m ≤ n → ⊥
          never l = omega arith

  -- AN EMPTY LIST is 16
  pub empty-is-16 : f ≡ [] → ReadFacts s t room → family_outcome s t f room ≡ verdict 16 0
  empty-is-16 e r = is-16 r (λ l. none-there l.length-is)
    where
      none-there : length f ≡ 5 + 2 * orders_in s → ⊥
      none-there q = omega (arith, q, ap length e)

  -- 28: the child named is accepted in a larger fraction than its parent, which is an order, and no earlier child
  -- is
  pub refused-28 : (family_outcome s t f room).number ≡ 28
      → ReadFacts s t room × (ListFacts f (orders_in s) × (ParentsExist f (orders_in s) × (VolumesWithin s t × ExceedsParent s t f (family_outcome s t f room).index)))
  unfolding family_outcome table room_causes case_causes proposal_causes clearing_causes lacks before cause_numbered case_of plan_of
  refused-28 e =
      let row = row-by-number 28 (table (some f) s t room (case_of s) (plan_of s t) (prices_of s t)) (omega arith) tt tt e in
      let a = none_each (read_causes s t room) (family_causes (some f) (case_of s) ++ (excess_volume (case_of s) (plan_of s t) ∷ [])) row.earlier in
      let passed = number-passes (family_causes (some f) (case_of s) ++ (excess_volume (case_of s) (plan_of s t) ∷ [])) a.1 in
      let place : row.place ≡ (family_outcome s t f room).index = sym (ap (λ (o : Outcome). o.index) row.is) in
      let held = (holds_of f (exceeds_parent (case_of s) (plan_of s t) row.place) refl row.place).0 row.first-place.holds in (
        passes-read s t room a.0,
        (
          passes-list f (case_of s) (passed 16),
          (
            λ i h n. nleb→lt (orders_in s) (parent_at f i) ((passes_of f (missing (orders_in s)) refl i).0 ((passed 17).pass i h) n),
            (
              λ i h. nltb→le (quantity_in s i) (volume_in s t i) ((passed 21).pass i h),
              subst (λ (k : ℕ). ExceedsParent s t f k) place (record {
                is-order = row.first-place.place_in;
                names-one = held.0;
                exceeds = ltb→lt _ _ held.1;
                first_one = λ j h n. nltb→le _ _ ((passes_of f (exceeds_parent (case_of s) (plan_of s t) j) refl j).0 (row.first-place.none_before j h) n);
              }),
            ),
          ),
        ),
      )

  -- and conversely, where 16 to 18 pass
  pub is-28 : ReadFacts s t room → refusal (family_causes (some f) (case_of s)) ≡ none → VolumesWithin s t → (i : ℕ) → ExceedsParent s t f i → family_outcome s t f room ≡ verdict 28 i
  unfolding family_outcome table room_causes case_causes proposal_causes clearing_causes lacks before cause_numbered refusal case_of plan_of
  is-28 r l v i w = row-answers 28 (table (some f) s t room (case_of s) (plan_of s t) (prices_of s t)) tt
      (none_both (read_causes s t room) (family_causes (some f) (case_of s) ++ (excess_volume (case_of s) (plan_of s t) ∷ [])) (read-passes s t room r)
      (none_both (family_causes (some f) (case_of s)) (excess_volume (case_of s) (plan_of s t) ∷ []) l
      (row-passes (excess_volume (case_of s) (plan_of s t)) [] (record { pass = λ k h. le-nltb (quantity_in s k) (volume_in s t k) (v k h) })))) i (record {
        place_in = w.is-order;
        holds = (holds_of f (exceeds_parent (case_of s) (plan_of s t) i) refl i).1 (w.names-one, lt→ltb _ _ w.exceeds);
        none_before = λ j h. (passes_of f (exceeds_parent (case_of s) (plan_of s t) j) refl j).1 (λ n. le-nltb _ _ (w.first_one j h n));
      })

  -- ACCEPTED: the bytes are a list, every parent exists, and every child's fraction is at most its parent's
  pub accepted-families : (family_outcome s t f room).number ≡ 0 → ListFacts f (orders_in s) × (ParentsExist f (orders_in s) × ChildrenWithin s t f)
  unfolding family_outcome table room_causes case_causes proposal_causes clearing_causes before has_cause row_of is_cause case_of plan_of
  accepted-families e =
      let passed = row-passed 0 (table (some f) s t room (case_of s) (plan_of s t) (prices_of s t)) e in (
        passes-list f (case_of s) (passed 16 0 tt),
        (
          λ i h n. nleb→lt (orders_in s) (parent_at f i) ((passes_of f (missing (orders_in s)) refl i).0 ((passed 17 0 tt).pass i h) n),
          λ i h n. nltb→le _ _ ((passes_of f (exceeds_parent (case_of s) (plan_of s t) i) refl i).0 ((passed 28 0 tt).pass i h) n),
        ),
      )

  -- the hour is read and valued as without the list (`PlainVerdicts.accepted-0`, `refused-26`)
  pub valued-families : T (reports (family_outcome s t f room).number) → ReadFacts s t room × ClearedFacts s t
  valued-families r = valued-facts s t room (subst (λ (o : Outcome). T (reports o.number)) (valued-alike s t f room r) r)

  -- so 26 says that the gap exceeds a million times the tolerance, and 0 that it does not
  pub families-26 : (family_outcome s t f room).number ≡ 26 → (pos 1000000 *ℤ pos (tolerance_in s)) <ℤ gap (case_of s) (plan_of s t) (prices_of s t)
  unfolding reports
  families-26 e = (refused-26 s t room (ap (λ (o : Outcome). o.number) (sym (valued-alike s t f room (subst (λ (n : ℕ). T (reports n)) (sym e) tt))) ∙ e)).1.1.1

  pub families-0 : (family_outcome s t f room).number ≡ 0 → gap (case_of s) (plan_of s t) (prices_of s t) ≤ℤ (pos 1000000 *ℤ pos (tolerance_in s))
  unfolding reports
  families-0 e = (accepted-0 s t room (ap (λ (o : Outcome). o.number) (sym (valued-alike s t f room (subst (λ (n : ℕ). T (reports n)) (sym e) tt))) ∙ e)).1.1

  -- IF 16 TO 18 PASS and no child's fraction is above its parent's, the answer is the one without a list
  pub within-alike : refusal (family_causes (some f) (case_of s)) ≡ none → ChildrenWithin s t f → family_outcome s t f room ≡ outcome s t room
  unfolding case_of plan_of
  within-alike l w = passed-alike s t f room l (record { pass = λ k h. (passes_of f (exceeds_parent (case_of s) (plan_of s t) k) refl k).1 (λ n. le-nltb _ _ (w k h n)) })

-- 16 AND 17 AS ROWS: both pass if and only if the bytes are a list whose parents exist
module _ (f : List ℕ) (c : Case) where
  pub list-facts : Pass (wrong_family_list f c) ↔ ListFacts f c.orders
  list-facts = (passes-list f c, list-passes f c)

  pub parents-exist : Pass (missing_parent f c) ↔ ParentsExist f c.orders
  parents-exist = (
    λ p i h n. nleb→lt c.orders (parent_at f i) ((passes_of f (missing c.orders) refl i).0 (p.pass i h) n),
    λ x. record { pass = λ k h. (passes_of f (missing c.orders) refl k).1 (λ n. above c.orders (parent_at f k) (x k h n)) },
  )
    where
      above : (m n : ℕ) → n < m → T (not (leb m n))
      above m n h = not_T (leb m n) (λ t. never (leb→le m n t))
        where
          never : m ≤ n → ⊥
          never l = omega arith

-- AN ORDER LEADS BACK TO ITSELF, as a round of orders: it is the first and the last of them, and each names the
-- next as its parent
pub record Round (f : List ℕ) (i : ℕ) : Type 0 where
  pub steps : ℕ
  pub one-or-more : 1 ≤ steps
  pub order : ℕ → ℕ
  pub starts : order 0 ≡ i
  pub ends : order steps ≡ i
  pub up : (k : ℕ) → k < steps → (parent_at f (order k) ≡ order (suc k)) × (parent_at f (order k) ≢ 65535)

abbrev or_zero : Option ℕ → ℕ
or_zero (some j) = j
or_zero none = 0

module _ (f : List ℕ) (i : ℕ) where
  last_step : (o : Option ℕ) {j : ℕ} → onward (parent_of f) o ≡ some j → (m : ℕ) × (o ≡ some m)
  last_step none {j} e = absurd (none-ne-some j e)
  last_step (some m) e = (m, refl)

  there : (n j : ℕ) → ancestor (parent_of f) n i ≡ some j → ancestor (parent_of f) n i ≡ some (or_zero (ancestor (parent_of f) n i))
  there n j e = e ∙ ap some (sym (ap or_zero e))

  on-the-way : (n j : ℕ) → ancestor (parent_of f) n i ≡ some j → (k : ℕ) → k ≤ n → ancestor (parent_of f) k i ≡ some (or_zero (ancestor (parent_of f) k i))
  unfolding ancestor
  on-the-way zero j e k h = subst (λ (m : ℕ). ancestor (parent_of f) m i ≡ some (or_zero (ancestor (parent_of f) m i))) none_more refl
    where
      none_more : 0 ≡ k
      none_more = omega (arith, h)
  on-the-way (suc n) j e k h = elim (dec_lt k (suc n)) [
    | yes l ↦ let w = last_step (ancestor (parent_of f) n i) e in on-the-way n w.0 w.1 k (omega (arith, l))
    | no g ↦ subst (λ (m : ℕ). ancestor (parent_of f) m i ≡ some (or_zero (ancestor (parent_of f) m i))) (the_last g) (there (suc n) j e)
  ]
    where
      the_last : (k < suc n → ⊥) → suc n ≡ k
      the_last g = omega arith

  to-round : (b : LeadsBack (parent_of f) i) → (r : Round f i) × (r.steps ≡ b.steps)
  unfolding ancestor
  to-round b = (
    record {
      steps = b.steps;
      one-or-more = b.one-or-more;
      order = λ k. or_zero (ancestor (parent_of f) k i);
      starts = refl;
      ends = ap or_zero b.back;
      up = λ k h. (has-parent f (or_zero (ancestor (parent_of f) k i)) (or_zero (ancestor (parent_of f) (suc k) i))).0
          (sym (ap (onward (parent_of f)) (on-the-way b.steps i b.back k (omega (arith, h)))) ∙ on-the-way b.steps i b.back (suc k) h);
    },
    refl,
  )

  reached : (r : Round f i) (k : ℕ) → k ≤ r.steps → ancestor (parent_of f) k i ≡ some (r.order k)
  unfolding ancestor
  reached r zero h = ap some (sym r.starts)
  reached r (suc k) h = ap (onward (parent_of f)) (reached r k (omega (arith, h))) ∙ (has-parent f (r.order k) (r.order (suc k))).1 (r.up k h)

  pub leads-back-is : LeadsBack (parent_of f) i ↔ Round f i
  leads-back-is = (λ b. (to-round b).0, λ r. record { steps = r.steps; one-or-more = r.one-or-more; back = reached r r.steps (omega arith) ∙ ap some r.ends })

-- ROW 18'S TEST: a round of at most as many steps as there are orders. `family_list` shows that an order with a
-- round has one this short
abbrev pub ShortRound : List ℕ → ℕ → ℕ → Type 0
ShortRound f orders i = (r : Round f i) × (r.steps ≤ orders)

pub record FirstShortRound (f : List ℕ) (orders i : ℕ) : Type 0 where
  pub is-order : i < orders
  pub round : ShortRound f orders i
  pub first_one : (j : ℕ) → j < i → ShortRound f orders j → ⊥

module _ (f : List ℕ) (orders i : ℕ) where
  is-back : (o : Option ℕ) → T (is_order i o) → o ≡ some i
  is-back none t = absurd t
  is-back (some j) t = ap some (eqb→eq j i t)

  test-round : T (leads_back orders (parent_of f) i) → ShortRound f orders i
  unfolding leads_back
  test-round t =
      let w = any_place orders (λ k. is_order i (ancestor (parent_of f) (suc k) i)) t in
      let r = to-round f i (record { steps = suc w.0; one-or-more = omega arith; back = is-back (ancestor (parent_of f) (suc w.0) i) w.2 }) in
      (r.0, short r.0.steps w.0 r.1 w.1)
    where
      short : (n k : ℕ) → n ≡ suc k → k < orders → n ≤ orders
      short n k e h = omega arith

  round-test : ShortRound f orders i → T (leads_back orders (parent_of f) i)
  unfolding leads_back
  round-test w = by w.0.steps w.0.one-or-more w.1 (reached f i w.0 w.0.steps (omega arith) ∙ ap some w.0.ends)
    where
      by : (n : ℕ) → 1 ≤ n → n ≤ orders → ancestor (parent_of f) n i ≡ some i → T (any_below orders (λ k. is_order i (ancestor (parent_of f) (suc k) i)))
      by zero h l e = absurd (never h)
        where
          never : 1 ≤ 0 → ⊥
          never h = omega (arith, h)
      by (suc k) h l e = is_true (any_some orders (λ k. is_order i (ancestor (parent_of f) (suc k) i)) k l (subst (λ (o : Option ℕ). T (is_order i o)) (sym e) (eqb_refl i)))

  pub leads-back-test : T (leads_back orders (parent_of f) i) ↔ ShortRound f orders i
  leads-back-test = (test-round, round-test)

module _ (s t f : List ℕ) (room : ℕ) where
  pub refused-18 : (family_outcome s t f room).number ≡ 18
      → ReadFacts s t room × (ListFacts f (orders_in s) × (ParentsExist f (orders_in s) × FirstShortRound f (orders_in s) (family_outcome s t f room).index))
  unfolding family_outcome table room_causes case_causes proposal_causes clearing_causes lacks before cause_numbered case_of
  refused-18 e =
      let row = row-by-number 18 (table (some f) s t room (case_of s) (plan_of s t) (prices_of s t)) (omega arith) tt tt e in
      let a = none_each (read_causes s t room) (wrong_family_list f (case_of s) ∷ missing_parent f (case_of s) ∷ []) row.earlier in
      let passed = number-passes (wrong_family_list f (case_of s) ∷ missing_parent f (case_of s) ∷ []) a.1 in
      let place : row.place ≡ (family_outcome s t f room).index = sym (ap (λ (o : Outcome). o.index) row.is) in (
        passes-read s t room a.0,
        (
          (list-facts f (case_of s)).0 (passed 16),
          (
            (parents-exist f (case_of s)).0 (passed 17),
            subst (λ (k : ℕ). FirstShortRound f (orders_in s) k) place (record {
              is-order = row.first-place.place_in;
              round = test-round f (orders_in s) row.place row.first-place.holds;
              first_one = λ j h r. T_not (leads_back (orders_in s) (parent_of f) j) (row.first-place.none_before j h) (round-test f (orders_in s) j r);
            }),
          ),
        ),
      )

  pub is-18 : ReadFacts s t room → ListFacts f (orders_in s) → ParentsExist f (orders_in s) → (i : ℕ) → FirstShortRound f (orders_in s) i → family_outcome s t f room ≡ verdict 18 i
  unfolding family_outcome table room_causes case_causes proposal_causes clearing_causes lacks before cause_numbered refusal case_of
  is-18 r l x i w = row-answers 18 (table (some f) s t room (case_of s) (plan_of s t) (prices_of s t)) tt
      (none_both (read_causes s t room) (wrong_family_list f (case_of s) ∷ missing_parent f (case_of s) ∷ []) (read-passes s t room r)
      (row-passes (wrong_family_list f (case_of s)) (missing_parent f (case_of s) ∷ []) ((list-facts f (case_of s)).1 l) ∙ row-passes (missing_parent f (case_of s)) [] ((parents-exist f (case_of s)).1 x))) i (record {
        place_in = w.is-order;
        holds = round-test f (orders_in s) i w.round;
        none_before = λ j h. not_T (leads_back (orders_in s) (parent_of f) j) (λ u. w.first_one j h (test-round f (orders_in s) j u));
      })
