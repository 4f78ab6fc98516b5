-- BOTH SIZES OF SCRATCH GIVE ONE ANSWER (S-13). In any two results that meet the two contracts with number 0 on one
-- input, the yes or no and the total are equal. What the wide entry takes, the smaller takes too. 81 to 84 are the
-- same. The proof uses only the contracts, not how they are met. Assumes nothing.
use Rattle.std.specs.Prelude.{◌≡◌, Bool, ℕ, ◌≤◌, ◌<◌, length, ℤ}
use Rattle.std.proofs.Math.Path.{refl, sym, ap}
use Rattle.std.proofs.Common.{◌∙◌, arith, le-ltb}
use Rattle.std.proofs.Math.Bool.{true, false}
use mathlib.Core.List.{List, [], ◌∷◌, ◌++◌}
use Rattle.std.proofs.Math.Option.{Option, none, some}
use Rattle.base_causes.specs.declared.Outcome.{Outcome}
use Rattle.base_causes.specs.Meaning.Causes.{Cause, refusal, answer, once, each}
use Rattle.base_causes.proofs.Promised.CauseLaws.{else-refusal, refusal-append, field-fails, field-passes}
use Rattle.rules.specs.Meaning.Verdict.{◌under◌}
use Rattle.flow_positions.specs.Meaning.Positions.{position_outside, unbalanced}
use Rattle.flow_pairs.specs.Meaning.Pairs.{pair_count, bad_pair, network_of}
use Rattle.flow_network.specs.Meaning.Network.{Network, Placed}
use Rattle.flow_scratch.specs.Meaning.Places.{amount_at, flow_of}
use Rattle.flow_intuitive.specs.declared.Carried.{Carried}
use Rattle.flow_intuitive.specs.Meaning.Intuitive.{scratch_room, unfit, price_outside, intuitive_causes, intuitive_refusal, intuitive_outcome, EntryAnswer, IntuitiveAnswer}
use Rattle.flow_intuitive.specs.Meaning.SmallScratch.{flow_place, export_place, import_place, small_room}
use Rattle.flow_intuitive.proofs.Promised.Causes.{intuitive-none}
use Rattle.flow_intuitive.proofs.Promised.OneAnswer.{one_answer}
use Rattle.flow_intuitive.proofs.Steps.Sizes.{placed, room_in}

-- two answers with number 0 agree on one network
pub entries-agree : (c : Network) → Placed c → (o p : Outcome) (s'' t'' : List ℤ) (r q : Carried) (s t : List ℤ) → EntryAnswer o c s'' r s → EntryAnswer p c t'' q t → r.number ≡ 0 → q.number ≡ 0
    → (r.intuitive ≡ q.intuitive) × (r.total.0 ≡ q.total.0)
entries-agree c ok o p s'' t'' r q s t a b e f =
    one_answer c ok r.intuitive q.intuitive r.total.0 q.total.0
    (record { yes_or_no = a.yes_or_no; a-yes = a.a-yes e; a-no = a.a-no e; most = a.largest e })
    (record { yes_or_no = b.yes_or_no; a-yes = b.a-yes f; a-no = b.a-no f; most = b.largest f })

module _ (net_exports prices : List ℤ) (pairs : List ℕ) where
  -- YES OR NO AND THE TOTAL ARE EQUAL on each input that both take, with any scratches
  pub answers_agree : (s t : List ℤ) (r q : Carried) (s' t' : List ℤ) → IntuitiveAnswer net_exports prices pairs scratch_room s r s' → IntuitiveAnswer net_exports prices pairs small_room t q t' → r.number ≡ 0 → q.number ≡ 0
      → (r.intuitive ≡ q.intuitive) × (r.total.0 ≡ q.total.0)
  answers_agree s t r q s' t' a b e f =
      let taken = intuitive-none net_exports prices pairs scratch_room (length s) (sym (ap (λ (o : Outcome). o.number) a.outcome) ∙ e) in
      entries-agree (network_of net_exports prices pairs) (placed net_exports prices pairs scratch_room (length s) taken) _ _ _ _ r q s' t' a b e f

  -- WHAT IS TAKEN. With enough room the table is the same for either n
  abbrev before-85 : List Cause
  before-85 =
      once 81 (unfit net_exports prices)
      ∷ each 82 (length net_exports) (position_outside net_exports)
      ∷ once 82 (unbalanced net_exports)
      ∷ each 83 (length prices) (price_outside prices)
      ∷ each 84 (pair_count pairs) (bad_pair (length net_exports) pairs)
      ∷ []

  abbrev last : ℕ → ℕ → List Cause
  last n room = once 85 (room under n) ∷ []

  pub same_rows : (m n room other : ℕ) → m ≤ room → n ≤ other → intuitive_causes net_exports prices pairs m room ≡ intuitive_causes net_exports prices pairs n other
  unfolding intuitive_causes
  same_rows m n room other h k = ap (λ (b : Bool). before-85 ++ (once 85 b ∷ [])) (le-ltb room m h ∙ sym (le-ltb other n k))

  -- so with a scratch that the wide entry takes, both answer alike, refused or not
  pub wide-is-small : (room : ℕ) → scratch_room ≤ room → intuitive_outcome net_exports prices pairs small_room room ≡ intuitive_outcome net_exports prices pairs scratch_room room
  unfolding intuitive_outcome intuitive_refusal
  wide-is-small room h = ap (λ (rows : List Cause). answer (refusal rows)) (same_rows small_room scratch_room room room (omega arith) h)

  pub small-takes : (room : ℕ) → (intuitive_outcome net_exports prices pairs scratch_room room).number ≡ 0 → (intuitive_outcome net_exports prices pairs small_room room).number ≡ 0
  small-takes room e = ap (λ (o : Outcome). o.number) (wide-is-small room (room_in net_exports prices pairs scratch_room room (intuitive-none net_exports prices pairs scratch_room room e))) ∙ e

  -- the last row has 85 alone
  last_else : (n room : ℕ) → 0 < (answer (refusal (last n room))).number → (answer (refusal (last n room))).number < 85 → ⊥
  unfolding refusal
  last_else n room h l = by (room under n) refl
    where
      by : (b : Bool) → room under n ≡ b → ⊥
      by true u = omega (arith, h, l, ap (λ (o : Option Outcome). (answer o).number) (field-fails 85 0 [] u))
      by false u = omega (arith, h, l, ap (λ (o : Option Outcome). (answer o).number) (field-passes 85 0 [] u))

  -- 81 TO 84 AS BEFORE, with any scratch, including the index
  pub refused-alike : (m n room other : ℕ) → 0 < (intuitive_outcome net_exports prices pairs m room).number → (intuitive_outcome net_exports prices pairs m room).number < 85
      → intuitive_outcome net_exports prices pairs n other ≡ intuitive_outcome net_exports prices pairs m room
  unfolding intuitive_outcome intuitive_refusal intuitive_causes
  refused-alike m n room other h l = by (refusal before-85) refl
    where
      split : (n room : ℕ) (o : Option Outcome) → refusal before-85 ≡ o → refusal (before-85 ++ last n room) ≡ else-refusal o (refusal (last n room))
      split n room o q = refusal-append before-85 (last n room) ∙ ap (λ (x : Option Outcome). else-refusal x (refusal (last n room))) q

      by : (o : Option Outcome) → refusal before-85 ≡ o → answer (refusal (before-85 ++ last n other)) ≡ answer (refusal (before-85 ++ last m room))
      by (some x) q = ap answer (split n other (some x) q ∙ sym (split m room (some x) q))
      by none q = absurd (last_else m room (rw (split m room none q) at h) (rw (split m room none q) at l))

-- THE SCRATCH IS LAID OUT as S-13 says: on the way to an answer the flows, exports used and imports used stand at
-- these places and at no other
pub scratch-places : (s : List ℤ) → flow_of s ≡ record { flow = λ k. amount_at s (flow_place k); export-used = λ z. amount_at s (export_place z); import-used = λ z. amount_at s (import_place z) }
scratch-places s = refl
