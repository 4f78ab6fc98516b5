-- 81 TO 85 AND 0 IN PLAIN NUMBERS (S-3, S-13), number and index, both ways: for which net positions, prices, pairs
-- and scratch each is given, and what the scratch holds afterwards. `get_or xs z (pos 0)` is the number at place z of
-- a list, counted from 0, and pair k is the bytes 2 k and 2 k + 1. The numbers are the paper's own and cite no
-- limit. Index 0 of 82 is zone 0's or the sum's, and `says-82` tells which. Assumes nothing.
use Rattle.std.specs.Prelude.{◌≡◌, ◌↔◌, ◌⊎◌, Bool, true, false, not, eqb, ltb, length, get_or, drop, replicate, ℤ, pos, neg_ℤ}
use Rattle.std.proofs.Math.Path.{refl, sym, ap}
use Rattle.std.proofs.Common.{subst, ◌∙◌, eq-eqb, eqb→eq, lt→ltb, length-append, length-drop, get_or-append-add, get_or-drop}
use Rattle.std.proofs.Math.Logic.{inl, inr}
use mathlib.Core.List.{List, [], ◌∷◌, ◌++◌}
use Rattle.std.proofs.Math.Option.{Option, none, some}
use Prim.Native.Nat.{ℕ, zero, suc, ◌+◌, ◌-◌, ◌≤◌, ◌<◌}
use native.Mathlib.Omega.{arith}
use Rattle.std.proofs.Math.Dec.{T, ltb→lt, nltb→le, not_T, T_not}
use Rattle.std.proofs.lemmas.List.{length-replicate, get_or-replicate}
use Rattle.std.proofs.Math.ListN.{get_or-append}
use Rattle.base_integers.specs.Meaning.Ranges.{outside}
use Rattle.base_integers.specs.Steps.Ranges.{is_true, nor-left, nor-right, nor-both, nat-within, nat-inside}
use Rattle.base_limits.proofs.Promised.Numbers.{zone-price-is}
use Rattle.base_causes.specs.declared.Outcome.{Outcome}
use Rattle.base_causes.specs.Meaning.Causes.{Cause, Pass, verdict, failing, refusal, answer, once, each}
use Rattle.base_causes.proofs.Promised.CauseLaws.{empty, First, Comes, past, none_left, later, lacks, before, cause_numbered, row_named, row-by-number, row-answers, row-clear, row-fails, row-passes, all_pass, first-is, not-below, none_both, none_each}
use Rattle.rules.specs.Meaning.Layout.{zone_counts}
use Rattle.rules.specs.Meaning.Verdict.{◌under◌}
use Rattle.flow_positions.specs.Meaning.Positions.{position_outside, unbalanced}
use Rattle.flow_positions.proofs.Promised.PlainPositions.{AllInside, FirstOutside, first-outside, all-inside, positions-inside, first-position, SumZero, sum-zero, sum-not-zero}
use Rattle.flow_pairs.specs.Meaning.Pairs.{pair_count, bad_pair}
use Rattle.flow_pairs.proofs.Promised.PlainPairs.{AllGood, FirstBadPair, all-good, first-bad}
use Rattle.flow_intuitive.specs.Meaning.Intuitive.{scratch_room, unfit, price_outside, intuitive_causes, intuitive_refusal, intuitive_outcome, intuitive_scratch}
use Rattle.flow_intuitive.specs.Meaning.SmallScratch.{small_room}
use Rattle.flow_intuitive.proofs.Promised.Causes.{intuitive-caused, intuitive-none, intuitive-answered, scratch-refused, scratch-answered}

-- WHAT EACH ROW ASKS. Cause 81: 1 to 16 zones, and a price for each
pub record ListsFit (net_exports prices : List ℤ) : Type 0 where
  pub zones-in : (1 ≤ length net_exports) × (length net_exports ≤ 16)
  pub one-length : length prices ≡ length net_exports

-- 82 and 83: positions in tenths, prices in grains, which are -50,000 and 400,000 cents
abbrev pub PositionsIn : List ℤ → Type 0
PositionsIn net_exports = AllInside (neg_ℤ (pos 51200000)) (pos 51200000) net_exports

abbrev pub PricesInRange : List ℤ → Type 0
PricesInRange prices = AllInside (neg_ℤ (pos 5000000000)) (pos 40000000000) prices

-- the rows before each, passed
abbrev pub Past82 : List ℤ → List ℤ → Type 0
Past82 net_exports prices = ListsFit net_exports prices × (PositionsIn net_exports × SumZero net_exports)

abbrev pub Past83 : List ℤ → List ℤ → Type 0
Past83 net_exports prices = Past82 net_exports prices × PricesInRange prices

abbrev pub Past84 : List ℤ → List ℤ → List ℕ → Type 0
Past84 net_exports prices pairs = Past83 net_exports prices × AllGood (length net_exports) pairs

found : (t : Bool) → (T (not t) → ⊥) → T t
found true n = tt
found false n = absurd (n tt)

nothing : (i : ℕ) → i < 0 → ⊥
nothing i l = omega arith

once-first : (b : Bool) → T b → First 1 (λ k. b) 0
once-first b t = record { place_in = omega arith; holds = t; none_before = λ i l. absurd (nothing i l) }

module _ (net_exports prices : List ℤ) where
  lists-fit : T (not (unfit net_exports prices)) ↔ ListsFit net_exports prices
  lists-fit = (
    λ t. record {
      zones-in = nat-within 1 16 (length net_exports) (nor-left (outside zone_counts (pos (length net_exports))) _ t);
      one-length = same (eqb (length prices) (length net_exports)) refl (nor-right (outside zone_counts (pos (length net_exports))) _ t);
    },
    λ f. nor-both (outside zone_counts (pos (length net_exports))) _ (nat-inside 1 16 (length net_exports) f.zones-in.0 f.zones-in.1)
        (subst (λ (b : Bool). T (not (not b))) (sym (eq-eqb (length prices) (length net_exports) f.one-length)) tt),
  )
    where
      same : (b : Bool) → eqb (length prices) (length net_exports) ≡ b → T (not (not b)) → length prices ≡ length net_exports
      same true e t = eqb→eq (length prices) (length net_exports) (is_true e)
      same false e t = absurd t

  pub prices-inside : Pass (each 83 (length prices) (price_outside prices)) ↔ PricesInRange prices
  prices-inside = all-inside _ (neg_ℤ (pos 5000000000)) (pos 40000000000) zone-price-is prices 83

  first-price : (z : ℕ) → First (length prices) (price_outside prices) z ↔ FirstOutside (neg_ℤ (pos 5000000000)) (pos 40000000000) prices z
  first-price = first-outside _ (neg_ℤ (pos 5000000000)) (pos 40000000000) zone-price-is prices

module _ (net_exports prices : List ℤ) (pairs : List ℕ) (n room : ℕ) where
  abbrev rows : List Cause
  rows = intuitive_causes net_exports prices pairs n room

  abbrev said : Outcome
  said = intuitive_outcome net_exports prices pairs n room

  -- 81 IF AND ONLY IF there is no zone or there are more than 16, or the lists have different lengths
  pub says-81 : (k : ℕ) → (said ≡ verdict 81 k) ↔ ((k ≡ 0) × (ListsFit net_exports prices → ⊥))
  unfolding intuitive_outcome intuitive_refusal intuitive_causes lacks before cause_numbered refusal
  says-81 k = (
    λ e. let row = row-by-number 81 rows (omega arith) tt tt (ap (λ (o : Outcome). o.number) e) in
        (sym (ap (λ (o : Outcome). o.index) e) ∙ ap (λ (o : Outcome). o.index) row.is, λ f. T_not (unfit net_exports prices) ((lists-fit net_exports prices).1 f) row.first-place.holds),
    λ w. row-answers 81 rows tt refl 0 (once-first (unfit net_exports prices) (found (unfit net_exports prices) (λ t. w.1 ((lists-fit net_exports prices).0 t)))) ∙ ap (λ (i : ℕ). verdict 81 i) (sym w.0),
  )

  -- 82 IF AND ONLY IF the lists fit, and zone k is the first whose position is out of range; or none is, the sum is
  -- not zero, and the index is 0
  abbrev pub Named82 : ℕ → Type 0
  Named82 k = FirstOutside (neg_ℤ (pos 51200000)) (pos 51200000) net_exports k ⊎ ((k ≡ 0) × (PositionsIn net_exports × (SumZero net_exports → ⊥)))

  abbrev fit_row : Cause
  fit_row = once 81 (unfit net_exports prices)

  abbrev position-row : Cause
  position-row = each 82 (length net_exports) (position_outside net_exports)

  abbrev sum_row : Cause
  sum_row = once 82 (unbalanced net_exports)

  abbrev price-row : Cause
  price-row = each 83 (length prices) (price_outside prices)

  abbrev pair_row : Cause
  pair_row = each 84 (pair_count pairs) (bad_pair (length net_exports) pairs)

  abbrev scratch-row : Cause
  scratch-row = once 85 (room under n)

  abbrev behind-82 : List Cause
  behind-82 = price-row ∷ pair_row ∷ scratch-row ∷ []

  pub says-82 : (k : ℕ) → (said ≡ verdict 82 k) ↔ (ListsFit net_exports prices × Named82 k)
  unfolding intuitive_outcome intuitive_refusal intuitive_causes lacks refusal
  says-82 k = (out, λ w. ap answer (row-passes fit_row (position-row ∷ sum_row ∷ behind-82) (record { pass = λ i h. (lists-fit net_exports prices).1 w.0 })) ∙ back w.1)
    where
      by : (o : Option ℕ) → failing position-row ≡ o → answer (refusal (position-row ∷ sum_row ∷ behind-82)) ≡ verdict 82 k → Named82 k
      by (some z) q e =
          let f = first-is (length net_exports) (position_outside net_exports) z q in
          let same : z ≡ k = ap (λ (o : Outcome). o.index) (sym (ap answer (row-fails position-row (sum_row ∷ behind-82) z f)) ∙ e) in
          inl ((first-position net_exports k).0 (subst (λ (y : ℕ). First (length net_exports) (position_outside net_exports) y) same f))
      by none q e =
          let then : answer (refusal (sum_row ∷ behind-82)) ≡ verdict 82 k = sym (ap answer (row-clear position-row (sum_row ∷ behind-82) q)) ∙ e in
          let row = row_named 82 [] sum_row behind-82 (omega arith) tt tt (ap (λ (o : Outcome). o.number) then) in
          inr (
            sym (ap (λ (o : Outcome). o.index) then) ∙ ap (λ (o : Outcome). o.index) row.is,
            ((positions-inside net_exports 82).0 (record { pass = not-below (length net_exports) (position_outside net_exports) q }), (sum-not-zero net_exports).0 row.first-place.holds),
          )

      out : said ≡ verdict 82 k → ListsFit net_exports prices × Named82 k
      out e =
          let l = later 82 (fit_row ∷ []) (position-row ∷ sum_row ∷ behind-82) tt (ap (λ (o : Outcome). o.number) e) in
          let fits = all_pass (fit_row ∷ []) l.none_first 0 in (
            (lists-fit net_exports prices).0 (fits.pass 0 (omega arith)),
            by (failing position-row) refl (sym (ap answer (row-passes fit_row (position-row ∷ sum_row ∷ behind-82) fits)) ∙ e),
          )

      back : Named82 k → answer (refusal (position-row ∷ sum_row ∷ behind-82)) ≡ verdict 82 k
      back (inl z) = ap answer (row-fails position-row (sum_row ∷ behind-82) k ((first-position net_exports k).1 z))
      back (inr w) = ap answer (row-passes position-row (sum_row ∷ behind-82) ((positions-inside net_exports 82).1 w.1.0))
          ∙ ap answer (row-fails sum_row behind-82 0 (once-first (unbalanced net_exports) ((sum-not-zero net_exports).1 w.1.1))) ∙ ap (λ (i : ℕ). verdict 82 i) (sym w.0)

  -- what the rows up to 82, to 83 and to 84 pass
  abbrev to-82 : List Cause
  to-82 = fit_row ∷ position-row ∷ sum_row ∷ []

  abbrev to-83 : List Cause
  to-83 = fit_row ∷ position-row ∷ sum_row ∷ price-row ∷ []

  abbrev to-84 : List Cause
  to-84 = fit_row ∷ position-row ∷ sum_row ∷ price-row ∷ pair_row ∷ []

  one_more : (qs : List Cause) (r : Cause) → (refusal (qs ++ (r ∷ [])) ≡ none) ↔ ((refusal qs ≡ none) × Pass r)
  unfolding refusal
  one_more qs r = (λ e. let a = none_each qs (r ∷ []) e in (a.0, all_pass (r ∷ []) a.1 0), λ w. none_both qs (r ∷ []) w.0 (row-passes r [] w.1))

  past-82 : (refusal to-82 ≡ none) ↔ Past82 net_exports prices
  past-82 = (
    λ e. let p = all_pass to-82 e in ((lists-fit net_exports prices).0 ((p 0).pass 0 (omega arith)), ((positions-inside net_exports 82).0 (p 1), (sum-zero net_exports).0 ((p 2).pass 0 (omega arith)))),
    λ w. let c : Comes to-82 none =
        past (record { pass = λ i h. (lists-fit net_exports prices).1 w.0 }) (past ((positions-inside net_exports 82).1 w.1.0) (past (record { pass = λ i h. (sum-zero net_exports).1 w.1.1 }) none_left)) in
        c.is,
  )

  past-83 : (refusal to-83 ≡ none) ↔ Past83 net_exports prices
  past-83 = (
    λ e. let a = (one_more to-82 price-row).0 e in (past-82.0 a.0, (prices-inside net_exports prices).0 a.1),
    λ w. (one_more to-82 price-row).1 (past-82.1 w.0, (prices-inside net_exports prices).1 w.1),
  )

  -- at most 16 zones, after 81
  few : Past83 net_exports prices → length net_exports ≤ 16
  few w = w.0.0.zones-in.1

  past-84 : (refusal to-84 ≡ none) ↔ Past84 net_exports prices pairs
  past-84 = (
    λ e. let a = (one_more to-83 pair_row).0 e in let w = past-83.0 a.0 in (w, (all-good pairs (length net_exports) (few w) 84).0 a.1),
    λ w. (one_more to-83 pair_row).1 (past-83.1 w.0, (all-good pairs (length net_exports) (few w.0) 84).1 w.1),
  )

  -- 83 IF AND ONLY IF 81 and 82 pass and zone k is the first whose price is out of range
  pub says-83 : (k : ℕ) → (said ≡ verdict 83 k) ↔ (Past82 net_exports prices × FirstOutside (neg_ℤ (pos 5000000000)) (pos 40000000000) prices k)
  unfolding intuitive_outcome intuitive_refusal intuitive_causes lacks before cause_numbered
  says-83 k = (
    λ e. let row = row-by-number 83 rows (omega arith) tt tt (ap (λ (o : Outcome). o.number) e) in
        let same : row.place ≡ k = ap (λ (o : Outcome). o.index) (sym row.is ∙ e) in
        (past-82.0 row.earlier, (first-price net_exports prices k).0 (subst (λ (y : ℕ). First (length prices) (price_outside prices) y) same row.first-place)),
    λ w. row-answers 83 rows tt (past-82.1 w.0) k ((first-price net_exports prices k).1 w.1),
  )

  -- 84 IF AND ONLY IF 81 to 83 pass and pair k is the first that is not good
  pub says-84 : (k : ℕ) → (said ≡ verdict 84 k) ↔ (Past83 net_exports prices × FirstBadPair (length net_exports) pairs k)
  unfolding intuitive_outcome intuitive_refusal intuitive_causes lacks before cause_numbered
  says-84 k = (
    λ e. let row = row-by-number 84 rows (omega arith) tt tt (ap (λ (o : Outcome). o.number) e) in
        let same : row.place ≡ k = ap (λ (o : Outcome). o.index) (sym row.is ∙ e) in
        let w = past-83.0 row.earlier in
        (w, (first-bad pairs (length net_exports) (few w) k).0 (subst (λ (y : ℕ). First (pair_count pairs) (bad_pair (length net_exports) pairs) y) same row.first-place)),
    λ w. row-answers 84 rows tt (past-83.1 w.0) k ((first-bad pairs (length net_exports) (few w.0) k).1 w.1),
  )

  -- 85 IF AND ONLY IF 81 to 84 pass and the scratch has less than n numbers
  pub says-85 : (k : ℕ) → (said ≡ verdict 85 k) ↔ ((k ≡ 0) × (Past84 net_exports prices pairs × (room < n)))
  unfolding intuitive_outcome intuitive_refusal intuitive_causes lacks before cause_numbered
  says-85 k = (
    λ e. let row = row-by-number 85 rows (omega arith) tt tt (ap (λ (o : Outcome). o.number) e) in
        (sym (ap (λ (o : Outcome). o.index) e) ∙ ap (λ (o : Outcome). o.index) row.is, (past-84.0 row.earlier, ltb→lt room n row.first-place.holds)),
    λ w. row-answers 85 rows tt (past-84.1 w.1.0) 0 (once-first (room under n) (lt→ltb room n w.1.1)) ∙ ap (λ (i : ℕ). verdict 85 i) (sym w.0),
  )

  -- 0 IF AND ONLY IF all pass and the scratch has n numbers
  pub says-0 : (k : ℕ) → (said ≡ verdict 0 k) ↔ ((k ≡ 0) × (Past84 net_exports prices pairs × (n ≤ room)))
  unfolding intuitive_outcome intuitive_refusal intuitive_causes
  says-0 k = (
    λ e. let number : said.number ≡ 0 = ap (λ (o : Outcome). o.number) e in
        let a = (one_more to-84 scratch-row).0 (intuitive-none net_exports prices pairs n room number) in
        (sym (ap (λ (o : Outcome). o.index) e) ∙ ap (λ (o : Outcome). o.index) (intuitive-answered net_exports prices pairs n room number), (past-84.0 a.0, nltb→le room n (a.1.pass 0 (omega arith)))),
    λ w. ap answer ((one_more to-84 scratch-row).1 (past-84.1 w.1.0, record { pass = λ i h. enough w.1.1 })) ∙ ap (λ (i : ℕ). verdict 0 i) (sym w.0),
  )
    where
      enough : n ≤ room → T (not (room under n))
      enough h = not_T (ltb room n) (λ t. never (ltb→lt room n t))
        where
          never : room < n → ⊥
          never l = omega arith

  -- NO OTHER NUMBER than these
  from-81 : (p : ℕ) → p < length rows → (81 ≤ (get_or rows p empty).number) × ((get_or rows p empty).number ≤ 85)
  unfolding intuitive_causes
  from-81 zero l = (omega arith, omega arith)
  from-81 (suc zero) l = (omega arith, omega arith)
  from-81 (suc (suc zero)) l = (omega arith, omega arith)
  from-81 (suc (suc (suc zero))) l = (omega arith, omega arith)
  from-81 (suc (suc (suc (suc zero)))) l = (omega arith, omega arith)
  from-81 (suc (suc (suc (suc (suc zero))))) l = (omega arith, omega arith)
  from-81 (suc (suc (suc (suc (suc (suc p)))))) l = absurd (omega arith)

  pub says-no-other : 0 < said.number → (81 ≤ said.number) × (said.number ≤ 85)
  says-no-other h =
      let w = intuitive-caused net_exports prices pairs n room h in
      let is : said.number ≡ (get_or rows w.position empty).number = ap (λ (o : Outcome). o.number) w.is in
      let b = from-81 w.position w.position_in in
      (omega (arith, b.0, is), omega (arith, b.1, is))

-- THE TWO ENTRIES: the wide one asks for 324 numbers of scratch, the smaller one (S-13) for 96
module _ (net_exports prices : List ℤ) (pairs : List ℕ) (room : ℕ) where
  pub wide-85 : (k : ℕ) → (intuitive_outcome net_exports prices pairs scratch_room room ≡ verdict 85 k) ↔ ((k ≡ 0) × (Past84 net_exports prices pairs × (room < 324)))
  wide-85 = says-85 net_exports prices pairs 324 room

  pub wide-0 : (k : ℕ) → (intuitive_outcome net_exports prices pairs scratch_room room ≡ verdict 0 k) ↔ ((k ≡ 0) × (Past84 net_exports prices pairs × (324 ≤ room)))
  wide-0 = says-0 net_exports prices pairs 324 room

  pub small-85 : (k : ℕ) → (intuitive_outcome net_exports prices pairs small_room room ≡ verdict 85 k) ↔ ((k ≡ 0) × (Past84 net_exports prices pairs × (room < 96)))
  small-85 = says-85 net_exports prices pairs 96 room

  pub small-0 : (k : ℕ) → (intuitive_outcome net_exports prices pairs small_room room ≡ verdict 0 k) ↔ ((k ≡ 0) × (Past84 net_exports prices pairs × (96 ≤ room)))
  small-0 = says-0 net_exports prices pairs 96 room

-- THE SCRATCH AFTERWARDS: after an answer the first 324 (96) numbers are zero and all others unchanged; after a
-- refusal all are unchanged
pub record ScratchCleared (n : ℕ) (before after : List ℤ) : Type 0 where
  pub same_length : length after ≡ length before
  pub zeros : (i : ℕ) → i < n → get_or after i (pos 0) ≡ pos 0
  pub others : (i : ℕ) → n ≤ i → get_or after i (pos 0) ≡ get_or before i (pos 0)

pub zeros-then : (n : ℕ) (s after : List ℤ) → n ≤ length s → after ≡ replicate n (pos 0) ++ drop n s → ScratchCleared n s after
zeros-then n s after h e = rw e (record {
  same_length = length-append (replicate n (pos 0)) (drop n s) ∙ omega (arith, length-replicate n (pos 0), length-drop n s);
  zeros = λ i l. get_or-append (replicate n (pos 0)) (drop n s) (pos 0) i (omega (arith, length-replicate n (pos 0))) ∙ get_or-replicate n i (pos 0) (pos 0) l;
  others = λ i l. past-them i l;
})
  where
    past-them : (i : ℕ) → n ≤ i → get_or (replicate n (pos 0) ++ drop n s) i (pos 0) ≡ get_or s i (pos 0)
    past-them i l =
        let there : n + (i - n) ≡ i = omega arith in
        ap (λ (k : ℕ). get_or (replicate n (pos 0) ++ drop n s) k (pos 0)) (sym there ∙ ap (λ (k : ℕ). k + (i - n)) (sym (length-replicate n (pos 0))))
        ∙ get_or-append-add (replicate n (pos 0)) (drop n s) (i - n) (pos 0)
        ∙ get_or-drop n s (i - n) (pos 0) ∙ ap (λ (k : ℕ). get_or s k (pos 0)) there

module _ (net_exports prices : List ℤ) (pairs : List ℕ) (s : List ℤ) where
  cleared : (n : ℕ) → intuitive_outcome net_exports prices pairs n (length s) ≡ verdict 0 0 → ScratchCleared n s (intuitive_scratch net_exports prices pairs n s)
  cleared n e = zeros-then n s (intuitive_scratch net_exports prices pairs n s) ((says-0 net_exports prices pairs n (length s) 0).0 e).1.1 (scratch-answered net_exports prices pairs n s (ap (λ (o : Outcome). o.number) e))

  pub wide-scratch : intuitive_outcome net_exports prices pairs scratch_room (length s) ≡ verdict 0 0 → ScratchCleared 324 s (intuitive_scratch net_exports prices pairs scratch_room s)
  wide-scratch = cleared 324

  pub small-scratch : intuitive_outcome net_exports prices pairs small_room (length s) ≡ verdict 0 0 → ScratchCleared 96 s (intuitive_scratch net_exports prices pairs small_room s)
  small-scratch = cleared 96

  pub kept-scratch : (n m k : ℕ) → 0 < m → intuitive_outcome net_exports prices pairs n (length s) ≡ verdict m k → intuitive_scratch net_exports prices pairs n s ≡ s
  kept-scratch n m k h e = scratch-refused net_exports prices pairs n s (omega (arith, ap (λ (o : Outcome). o.number) e))
