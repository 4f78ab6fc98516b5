-- What S-2 changed. Against the verdict table with the earlier rows 6, 7, 8 and 14, every number is the same, and
-- so is every index except those of these four. Assumes nothing.
use Rattle.std.specs.Prelude.{◌≡◌, refl, Bool, true, false, not, ◌||◌, List, [], ◌∷◌, ◌++◌, ℕ, zero, suc, ◌+◌, T, eqb, ℤ, pos}
use Rattle.std.proofs.Common.{sym, ap, ◌∙◌, subst, arith}
use Rattle.std.proofs.Math.Bool.{or-false, or_assoc}
use Rattle.std.proofs.Math.Option.{Option, none, some}
use Rattle.base_integers.specs.Meaning.Ranges.{outside}
use Rattle.base_limits.specs.Meaning.Limits as limits
use Rattle.rules.specs.Meaning.Layout.{link_fields, order_fields}
use Rattle.rules.specs.Meaning.Hour.{Case, Plan, Prices, case_of, plan_of, prices_of}
use Rattle.base_causes.specs.declared.Outcome.{Outcome}
use Rattle.base_causes.specs.Meaning.Causes.{Cause, verdict, first_below, any_below, cause_else, refusal, answer, each}
use Rattle.rules.specs.Meaning.Verdict.{◌over◌, unknown, bad_row, branch_fault, repeated, link_fault, row_fault, order_fault, room_causes, case_causes, proposal_causes, judgement_causes, table, outcome, bad_branch_field, shadow_above}
use Rattle.base_causes.proofs.Promised.CauseLaws.{before, behind}

-- THE EARLIER TABLE, with S-4's contracted volumes among the causes of a link: rows 6, 7, 8 and 14 named the
-- branch, the link and the order
unfoldable pub bad_branch : Case → ℕ → Bool
bad_branch c m = outside limits.margin (c.ram m) || any_below c.zones (λ z. outside limits.ptdf (c.ptdf m z))

unfoldable pub bad_link : Case → ℕ → Bool
bad_link c l = unknown c.zones (c.from l)
    || unknown c.zones (c.to l)
    || eqb (c.from l) (c.to l)
    || outside limits.capacity (pos (c.capacity l))
    || c.contracted l over c.capacity l
    || repeated c l

unfoldable pub bad_order : Case → ℕ → Bool
bad_order c i = unknown c.zones (c.zone i)
    || c.side i over 1
    || outside limits.quantity (pos (c.quantity i))
    || outside limits.order_price (c.price i)

unfoldable pub case_causes_before : List ℕ → Case → List Cause
case_causes_before s c = before 6 (case_causes s c) ++ (each 6 c.branches (bad_branch c) ∷ each 7 c.links (bad_link c) ∷ each 8 c.orders (bad_order c) ∷ behind 8 (case_causes s c))

unfoldable pub proposal_causes_before : List ℕ → List ℕ → Case → Plan → Prices → List Cause
proposal_causes_before s t c p d = before 14 (proposal_causes s t c p d) ++ (each 14 c.branches (λ m. outside limits.shadow_price (pos (d.shadow m))) ∷ behind 14 (proposal_causes s t c p d))

unfoldable pub outcome_before : List ℕ → List ℕ → ℕ → Outcome
outcome_before s t room =
    let c = case_of s in
    let p = plan_of s t in
    let d = prices_of s t in
    answer (refusal (room_causes room ++ (case_causes_before s c ++ (proposal_causes_before s t c p d ++ judgement_causes none c p d))))

-- the numbers with a changed index
abbrev pub indexed : ℕ → Bool
indexed n = eqb n 6 || eqb n 7 || eqb n 8 || eqb n 14

-- ALIKE: the same number, and the same index unless the number is one of those
pub record Alike (o p : Outcome) : Type 0 where
  pub number_same : o.number ≡ p.number
  pub index_same : T (not (indexed o.number)) → o ≡ p

record RowAlike (r q : Cause) : Type 0 where
  number_same : r.number ≡ q.number
  places_same : r.places ≡ q.places
  fails-same : (k : ℕ) → r.fails k ≡ q.fails k
  index_same : T (not (indexed r.number)) → (k : ℕ) → r.index k ≡ q.index k

abbrev AllAlike : List Cause → List Cause → Type 0
AllAlike [] [] = Unit {0}
AllAlike [] (q ∷ qs) = ⊥
AllAlike (r ∷ rs) [] = ⊥
AllAlike (r ∷ rs) (q ∷ qs) = RowAlike r q × AllAlike rs qs

same : (r : Cause) → RowAlike r r
same r = record { number_same = refl; places_same = refl; fails-same = λ k. refl; index_same = λ h k. refl }

all_same : (rs : List Cause) → AllAlike rs rs
all_same [] = tt
all_same (r ∷ rs) = (same r, all_same rs)

appended : (rs qs xs ys : List Cause) → AllAlike rs qs → AllAlike xs ys → AllAlike (rs ++ xs) (qs ++ ys)
appended [] [] xs ys a b = b
appended [] (q ∷ qs) xs ys a b = absurd a
appended (r ∷ rs) [] xs ys a b = absurd a
appended (r ∷ rs) (q ∷ qs) xs ys a b = (a.0, appended rs qs xs ys a.1 b)

refusals : (rs qs : List Cause) → AllAlike rs qs → Alike (answer (refusal rs)) (answer (refusal qs))
unfolding refusal
refusals [] [] a = record { number_same = refl; index_same = λ h. refl }
refusals [] (q ∷ qs) a = absurd a
refusals (r ∷ rs) [] a = absurd a
refusals (r ∷ rs) (q ∷ qs) a = subst (λ (x : Option ℕ). Alike (answer (cause_else r (first_below r.places r.fails) (refusal rs))) (answer (cause_else q x (refusal qs)))) place_same
    (by (first_below r.places r.fails) (refusals rs qs a.1))
  where
    place_same : first_below r.places r.fails ≡ first_below q.places q.fails
    place_same = λ j. first_below (a.0.places_same j) (λ k. a.0.fails-same k j)

    by : (o : Option ℕ) → Alike (answer (refusal rs)) (answer (refusal qs)) → Alike (answer (cause_else r o (refusal rs))) (answer (cause_else q o (refusal qs)))
    by (some k) rest = record { number_same = a.0.number_same; index_same = λ h. λ j. verdict (a.0.number_same j) (a.0.index_same h k j) }
    by none rest = rest

-- A ROW FAILED where one of its fields is at fault
first-apart : (n : ℕ) (f : ℕ → Bool) → any_below (suc n) f ≡ (f 0 || any_below n (λ z. f (suc z)))
unfolding any_below
first-apart zero f = sym (or-false (f 0))
first-apart (suc n) f = ap (λ (b : Bool). b || f (suc n)) (first-apart n f) ∙ or_assoc (f 0) (any_below n (λ z. f (suc z))) (f (suc n))

one_more : (n : ℕ) → 1 + n ≡ suc n
one_more n = omega arith

branch-fails : (c : Case) (m : ℕ) → any_below (1 + c.zones) (branch_fault c m) ≡ bad_branch c m
unfolding branch_fault bad_branch
branch-fails c m = ap (λ (n : ℕ). any_below n (branch_fault c m)) (one_more c.zones) ∙ first-apart c.zones (branch_fault c m)

link-tests : (a b e q v r : Bool) → (((a || r) || (b || e)) || q) || v ≡ a || b || e || q || v || r
link-tests true b e q v r = refl
link-tests false true e q v true = refl
link-tests false true e q v false = refl
link-tests false false true q v true = refl
link-tests false false true q v false = refl
link-tests false false false true v true = refl
link-tests false false false true v false = refl
link-tests false false false false true true = refl
link-tests false false false false true false = refl
link-tests false false false false false true = refl
link-tests false false false false false false = refl

link-fails : (c : Case) (l : ℕ) → any_below link_fields (link_fault c l) ≡ bad_link c l
unfolding any_below link_fault bad_link
link-fails c l = link-tests (unknown c.zones (c.from l)) (unknown c.zones (c.to l)) (eqb (c.from l) (c.to l)) (outside limits.capacity (pos (c.capacity l))) (c.contracted l over c.capacity l) (repeated c l)

order-fails : (c : Case) (i : ℕ) → any_below order_fields (order_fault c i) ≡ bad_order c i
unfolding any_below order_fault row_fault bad_order
order-fails c i = refl

-- the lent book's test of a row has not changed
pub book-row-same : (n zone side quantity : ℕ) (price : ℤ) → bad_row n zone side quantity price ≡ (unknown n zone || side over 1 || outside limits.quantity (pos quantity) || outside limits.order_price price)
unfolding bad_row any_below row_fault
book-row-same n zone side quantity price = refl

-- THE TABLE: every row except those four is unchanged
module _ (s t : List ℕ) (c : Case) (p : Plan) (d : Prices) where
  case-alike : AllAlike (case_causes s c) (case_causes_before s c)
  unfolding case_causes case_causes_before before
  case-alike = appended (before 6 (case_causes s c)) (before 6 (case_causes s c)) (bad_branch_field s c ∷ behind 6 (case_causes s c)) (each 6 c.branches (bad_branch c) ∷ each 7 c.links (bad_link c) ∷ each 8 c.orders (bad_order c) ∷ [])
      (all_same (before 6 (case_causes s c))) (
        record { number_same = refl; places_same = refl; fails-same = branch-fails c; index_same = λ h. absurd h },
        (
          record { number_same = refl; places_same = refl; fails-same = link-fails c; index_same = λ h. absurd h },
          (record { number_same = refl; places_same = refl; fails-same = order-fails c; index_same = λ h. absurd h }, tt),
        ),
      )

  proposal-alike : AllAlike (proposal_causes s t c p d) (proposal_causes_before s t c p d)
  unfolding proposal_causes proposal_causes_before before
  proposal-alike = appended (before 14 (proposal_causes s t c p d)) (before 14 (proposal_causes s t c p d)) (shadow_above s c d ∷ behind 14 (proposal_causes s t c p d)) (each 14 c.branches (λ m. outside limits.shadow_price (pos (d.shadow m))) ∷ [])
      (all_same (before 14 (proposal_causes s t c p d)))
      (record { number_same = refl; places_same = refl; fails-same = λ m. refl; index_same = λ h. absurd h }, tt)

pub only-four-changed : (s t : List ℕ) (room : ℕ) → Alike (outcome s t room) (outcome_before s t room)
unfolding outcome table outcome_before
only-four-changed s t room =
    let c = case_of s in
    let p = plan_of s t in
    let d = prices_of s t in
    refusals (room_causes room ++ (case_causes s c ++ (proposal_causes s t c p d ++ judgement_causes none c p d))) (room_causes room ++ (case_causes_before s c ++ (proposal_causes_before s t c p d ++ judgement_causes none c p d)))
    (appended (room_causes room) (room_causes room) (case_causes s c ++ (proposal_causes s t c p d ++ judgement_causes none c p d)) (case_causes_before s c ++ (proposal_causes_before s t c p d ++ judgement_causes none c p d)) (all_same (room_causes room))
    (appended (case_causes s c) (case_causes_before s c) (proposal_causes s t c p d ++ judgement_causes none c p d) (proposal_causes_before s t c p d ++ judgement_causes none c p d) (case-alike s t c p d)
    (appended (proposal_causes s t c p d) (proposal_causes_before s t c p d) (judgement_causes none c p d) (judgement_causes none c p d) (proposal-alike s t c p d) (all_same (judgement_causes none c p d)))))
