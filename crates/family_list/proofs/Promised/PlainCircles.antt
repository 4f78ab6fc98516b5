-- 18 AND 28 IN PLAIN BYTES, both ways, for the judgement with a family list: number and index. `PlainFamilies` of
-- `rules` says what a list, a parent and a round of orders are in bytes, and has 16 and 17. Assumes nothing.
use Rattle.std.specs.Prelude.{◌≡◌, not, List, [], ◌∷◌, ℕ, ◌<◌, T}
use Rattle.std.proofs.Math.Path.{sym, subst}
use Rattle.std.proofs.Common.{ap, arith}
use Rattle.std.proofs.Math.Option.{none, some}
use Rattle.std.proofs.Math.Dec.{T_not, not_T}
use Rattle.base_causes.specs.declared.Outcome.{Outcome}
use Rattle.base_causes.specs.Meaning.Causes.{verdict, refusal}
use Rattle.base_causes.proofs.Promised.CauseLaws.{Comes, past, none_left, none_both, none_each, row-by-number, row-answers, number-passes, cause_numbered, lacks, before}
use Rattle.rules.specs.Meaning.Layout.{orders_in}
use Rattle.rules.specs.Meaning.Hour.{Case, case_of, plan_of, prices_of}
use Rattle.rules.specs.Meaning.Families.{parent_of, leads_back}
use Rattle.rules.specs.Meaning.Verdict.{room_causes, case_causes, proposal_causes, wrong_family_list, missing_parent, family_causes, clearing_causes, table, outcome, family_outcome}
use Rattle.rules.proofs.Promised.PlainVerdicts.{ReadFacts, read_causes, read-passes, passes-read}
use Rattle.rules.proofs.Promised.PlainFamilies as Plain
use Rattle.rules.proofs.Promised.PlainFamilies.{ListFacts, ParentsExist, VolumesWithin, ChildrenWithin, ExceedsParent, Round, has-parent, list-facts, parents-exist, leads-back-is, within-alike}
use Rattle.family_list.specs.Meaning.Parents.{Exist}
use Rattle.family_list.proofs.Promised.Circle.{leads-back}

-- THE FIRST ORDER THAT LEADS BACK TO ITSELF
pub record FirstRound (f : List ℕ) (orders i : ℕ) : Type 0 where
  pub is-order : i < orders
  pub round : Round f i
  pub first_one : (j : ℕ) → j < i → Round f j → ⊥

-- none does
abbrev pub NoRound : List ℕ → ℕ → Type 0
NoRound f orders = (i : ℕ) → i < orders → Round f i → ⊥

module _ (f : List ℕ) (orders : ℕ) (x : ParentsExist f orders) where
  exist : Exist orders (parent_of f)
  exist = record { exists = λ i j h e. let w = (has-parent f i j).0 e in subst (λ (k : ℕ). k < orders) w.0 (x i h w.1) }

  -- the row's test is the definition
  is-round : (i : ℕ) → i < orders → T (leads_back orders (parent_of f) i) → Round f i
  is-round i h t = (leads-back-is f i).0 ((leads-back (parent_of f) exist h).0 t)

  no-round : (i : ℕ) → i < orders → (Round f i → ⊥) → T (not (leads_back orders (parent_of f) i))
  no-round i h n = not_T (leads_back orders (parent_of f) i) (λ t. n (is-round i h t))

  the-test : (i : ℕ) → i < orders → Round f i → T (leads_back orders (parent_of f) i)
  the-test i h r = (leads-back (parent_of f) exist h).1 ((leads-back-is f i).1 r)

-- 16 TO 18 PASS if and only if the bytes are a list, every parent exists, and no order leads back to itself
module _ (f : List ℕ) (c : Case) where
  pub rows_pass : ListFacts f c.orders → ParentsExist f c.orders → NoRound f c.orders → refusal (family_causes (some f) c) ≡ none
  rows_pass l x n =
      let rows : Comes (family_causes (some f) c) none = past ((list-facts f c).1 l) (past ((parents-exist f c).1 x) (past (record { pass = λ k h. no-round f c.orders x k h (n k h) }) none_left)) in
      rows.is

  pub pass-rows : refusal (family_causes (some f) c) ≡ none → ListFacts f c.orders × (ParentsExist f c.orders × NoRound f c.orders)
  unfolding cause_numbered
  pass-rows e =
      let passed = number-passes (family_causes (some f) c) e in
      let x = (parents-exist f c).0 (passed 17) in
      ((list-facts f c).0 (passed 16), (x, λ i h r. T_not (leads_back c.orders (parent_of f) i) ((passed 18).pass i h) (the-test f c.orders x i h r)))

module _ (s t f : List ℕ) (room : ℕ) where
  -- 18 IF AND ONLY IF the rows before pass, the bytes are a list, every parent exists, and an order leads back to
  -- itself; its index is the first that does
  pub refused-18 : (family_outcome s t f room).number ≡ 18
      → ReadFacts s t room × (ListFacts f (orders_in s) × (ParentsExist f (orders_in s) × FirstRound f (orders_in s) (family_outcome s t f room).index))
  unfolding family_outcome table room_causes case_causes proposal_causes clearing_causes lacks before cause_numbered case_of
  refused-18 e =
      let row = row-by-number 18 (table (some f) s t room (case_of s) (plan_of s t) (prices_of s t)) (omega arith) tt tt e in
      let a = none_each (read_causes s t room) (wrong_family_list f (case_of s) ∷ missing_parent f (case_of s) ∷ []) row.earlier in
      let passed = number-passes (wrong_family_list f (case_of s) ∷ missing_parent f (case_of s) ∷ []) a.1 in
      let x = (parents-exist f (case_of s)).0 (passed 17) in
      let place : row.place ≡ (family_outcome s t f room).index = sym (ap (λ (o : Outcome). o.index) row.is) in (
        passes-read s t room a.0,
        (
          (list-facts f (case_of s)).0 (passed 16),
          (
            x,
            subst (λ (k : ℕ). FirstRound f (orders_in s) k) place (record {
              is-order = row.first-place.place_in;
              round = is-round f (orders_in s) x row.place row.first-place.place_in row.first-place.holds;
              first_one = λ j h r. T_not (leads_back (orders_in s) (parent_of f) j) (row.first-place.none_before j h) (the-test f (orders_in s) x j (omega (arith, row.first-place.place_in)) r);
            }),
          ),
        ),
      )

  pub is-18 : ReadFacts s t room → ListFacts f (orders_in s) → ParentsExist f (orders_in s) → (i : ℕ) → FirstRound f (orders_in s) i → family_outcome s t f room ≡ verdict 18 i
  unfolding family_outcome table room_causes case_causes proposal_causes clearing_causes lacks before cause_numbered case_of
  is-18 r l x i w =
      let rows : Comes (wrong_family_list f (case_of s) ∷ missing_parent f (case_of s) ∷ []) none = past ((list-facts f (case_of s)).1 l) (past ((parents-exist f (case_of s)).1 x) none_left) in
      row-answers 18 (table (some f) s t room (case_of s) (plan_of s t) (prices_of s t)) tt
      (none_both (read_causes s t room) (wrong_family_list f (case_of s) ∷ missing_parent f (case_of s) ∷ []) (read-passes s t room r) rows.is) i (record {
        place_in = w.is-order;
        holds = the-test f (orders_in s) x i w.is-order w.round;
        none_before = λ j h. no-round f (orders_in s) x j (omega (arith, w.is-order)) (w.first_one j h);
      })

  -- 28, where the bytes are a list, every parent exists and no order leads back to itself
  -- (`PlainFamilies.refused-28` says what it means for the hour)
  pub is-28 : ReadFacts s t room → ListFacts f (orders_in s) → ParentsExist f (orders_in s) → NoRound f (orders_in s) → VolumesWithin s t → (i : ℕ) → ExceedsParent s t f i → family_outcome s t f room ≡ verdict 28 i
  unfolding case_of
  is-28 r l x n v i w = Plain.is-28 s t f room r (rows_pass f (case_of s) l x n) v i w

  -- if also no child's fraction exceeds its parent's, the list changes nothing
  pub list-changes-nothing : ListFacts f (orders_in s) → ParentsExist f (orders_in s) → NoRound f (orders_in s) → ChildrenWithin s t f → family_outcome s t f room ≡ outcome s t room
  unfolding case_of
  list-changes-nothing l x n w = within-alike s t f room (rows_pass f (case_of s) l x n) w
