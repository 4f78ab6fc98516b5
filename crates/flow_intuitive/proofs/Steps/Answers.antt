-- The table's rows as the entry asks them, and what it then answers: the number, the answer and every number of the
-- scratch. Assumes nothing.
use Rattle.std.specs.Prelude.{◌≡◌, refl, Bool, true, false, ◌||◌, List, ◌++◌, ℕ, ◌+◌, ◌-◌, ◌≤◌, ◌<◌, eqb, length, get_or, drop, replicate, ℤ, pos, Result, Err}
use Rattle.std.proofs.Math.Path.{sym}
use Rattle.std.proofs.Common.{ap, ◌∙◌, arith, eq-eqb, ne_eqb, T_not, length-append, length-drop, ext_get_or, get_or-append-add, get_or-drop}
use Rattle.std.proofs.Math.Bool.{not}
use Rattle.std.proofs.Math.Option.{Option, none, some}
use Rattle.std.proofs.Math.Decide.{dec_lt}
use mir.Val.{bool_byte}
use Rattle.std.proofs.lemmas.List.{length-replicate, get_or-replicate}
use Rattle.std.proofs.Math.ListN.{get_or-append}
use Rattle.base_integers.specs.Meaning.Ranges.{outside}
use Rattle.base_integers.specs.Steps.Ranges.{is_true, is_false, nat-within}
use Rattle.base_causes.specs.declared.Outcome.{Outcome}
use Rattle.base_causes.specs.Meaning.Causes.{verdict, first_below, refusal, answer, each}
use Rattle.base_causes.proofs.Promised.CauseLaws.{row-found, row-clear, field-fails, field-passes, first-is, lacks, not-refused}
use Rattle.rules.specs.Meaning.Layout.{zone_counts}
use Rattle.flow_positions.specs.Meaning.Positions.{position_outside, unbalanced}
use Rattle.flow_pairs.specs.Meaning.Pairs.{pair_count, bad_pair, network_of}
use Rattle.flow_pairs.proofs.Steps.Tests.{pair-past}
use Rattle.flow_network.specs.Meaning.Network.{Network, FeasibleAll, DeficientSet}
use Rattle.flow_scratch.specs.Meaning.Cleared.{Cleared}
use Rattle.flow_max.specs.Meaning.MaxFlow.{MaxFlowAnswer}
use Rattle.flow_intuitive.specs.declared.Carried.{Carried}
use Rattle.flow_intuitive.specs.Meaning.Intuitive.{price_outside, intuitive_causes, intuitive_refusal, intuitive_outcome, intuitive_scratch, scratch_by, LargestTotal, EntryAnswer, IntuitiveAnswer}
use Rattle.flow_intuitive.specs.Meaning.Answers.{ListsPass, refused_as}
use Rattle.flow_intuitive.specs.Steps.Answers.{flag_of, rest_causes, Examined}

module _ (net_exports prices : List ℤ) (pairs : List ℕ) (n room : ℕ) where
  abbrev pub From : ℕ → Type 0
  From k = intuitive_refusal net_exports prices pairs n room ≡ refusal (drop k (intuitive_causes net_exports prices pairs n room))

  abbrev pub Refused : ℕ → ℕ → Type 0
  Refused m k = intuitive_refusal net_exports prices pairs n room ≡ some (verdict m k)

  -- 81, by the count and then by the lengths
  pub refused-count : outside zone_counts (pos (length net_exports)) ≡ true → Refused 81 0
  unfolding intuitive_refusal intuitive_causes
  refused-count e = field-fails 81 0 _ (ap (λ (b : Bool). b || not (eqb (length prices) (length net_exports))) e)

  pub refused-lengths : outside zone_counts (pos (length net_exports)) ≡ false → (length prices ≡ length net_exports → ⊥) → Refused 81 0
  unfolding intuitive_refusal intuitive_causes
  refused-lengths e h = field-fails 81 0 _ ((λ i. e i || not (ne_eqb (length prices) (length net_exports) h i)))

  pub past-81 : outside zone_counts (pos (length net_exports)) ≡ false → length prices ≡ length net_exports → From 1
  unfolding intuitive_refusal intuitive_causes
  past-81 e h = field-passes 81 0 _ ((λ i. e i || not (eq-eqb (length prices) (length net_exports) h i)))

  -- 82, at its first zone and then by the sum
  pub refused-82 : {k : ℕ} → From 1 → first_below (length net_exports) (position_outside net_exports) ≡ some k → Refused 82 k
  unfolding intuitive_refusal intuitive_causes
  refused-82 {k} p e = p ∙ row-found (each 82 (length net_exports) (position_outside net_exports)) _ k e

  pub past-82 : From 1 → first_below (length net_exports) (position_outside net_exports) ≡ none → From 2
  unfolding intuitive_refusal intuitive_causes
  past-82 p e = p ∙ row-clear (each 82 (length net_exports) (position_outside net_exports)) _ e

  pub refused-sum : From 2 → unbalanced net_exports ≡ true → Refused 82 0
  unfolding intuitive_refusal intuitive_causes
  refused-sum p e = p ∙ field-fails 82 0 _ e

  pub past-sum : From 2 → unbalanced net_exports ≡ false → From 3
  unfolding intuitive_refusal intuitive_causes
  past-sum p e = p ∙ field-passes 82 0 _ e

  -- 83, at its first zone
  pub refused-83 : {k : ℕ} → From 3 → first_below (length prices) (price_outside prices) ≡ some k → Refused 83 k
  unfolding intuitive_refusal intuitive_causes
  refused-83 {k} p e = p ∙ row-found (each 83 (length prices) (price_outside prices)) _ k e

  pub past-83 : From 3 → first_below (length prices) (price_outside prices) ≡ none → From 4
  unfolding intuitive_refusal intuitive_causes
  past-83 p e = p ∙ row-clear (each 83 (length prices) (price_outside prices)) _ e

  pub outcome-by : {x : Option Outcome} → intuitive_refusal net_exports prices pairs n room ≡ x → answer x ≡ intuitive_outcome net_exports prices pairs n room
  unfolding intuitive_outcome
  outcome-by e = sym (ap answer e)

  -- the rest, after 83
  pub by-rest : From 4 → intuitive_refusal net_exports prices pairs n room ≡ refusal (rest_causes (length net_exports) pairs n room)
  unfolding intuitive_causes
  by-rest p = p

  pub lists-past : ListsPass net_exports prices → From 4
  lists-past l = past-83 (past-sum (past-82 (past-81 l.count-in l.lengths) l.positions-in) l.balanced) l.prices-in

pub few-listed : {net_exports prices : List ℤ} → ListsPass net_exports prices → length net_exports ≤ 16
few-listed {net_exports} l = (nat-within 1 16 (length net_exports) (is_false l.count-in)).1

-- a named pair is at most the 65th
pub pair-named : (zones : ℕ) (pairs : List ℕ) (k : ℕ) → first_below (pair_count pairs) (bad_pair zones pairs) ≡ some k → k ≤ 64
pair-named zones pairs k e = by (dec_lt 64 k)
  where
    past : bad_pair zones pairs 64 ≡ true
    past = pair-past zones pairs 64 _ _ refl refl (omega arith)

    by : Dec (64 < k) → k ≤ 64
    by (yes h) = absurd (T_not (bad_pair zones pairs 64) ((first-is (pair_count pairs) (bad_pair zones pairs) k e).none_before 64 h) (is_true past))
    by (no h) = omega arith

-- an examination ends at the refusal of a row
pub examined-refused : {x : Option Outcome} {r : Result (Unit {0}) Outcome} {m k : ℕ} → r ≡ Err (verdict m k) → x ≡ some (verdict m k) → Examined x r
examined-refused e h = rw e h

-- A CLEARED SCRATCH as one list
pub cleared-is : (n : ℕ) (s s' : List ℤ) → n ≤ length s → Cleared n s s' → s' ≡ replicate n (pos 0) ++ drop n s
cleared-is n s s' h w = ext_get_or (pos 0) s' (replicate n (pos 0) ++ drop n s) (w.len ∙ sym lengths) (λ i l. by i (dec_lt i n))
  where
    lengths : length (replicate n (pos 0) ++ drop n s) ≡ length s
    lengths = length-append (replicate n (pos 0)) (drop n s) ∙ omega (arith, length-replicate n (pos 0), length-drop n s)

    by : (i : ℕ) → Dec (i < n) → get_or s' i (pos 0) ≡ get_or (replicate n (pos 0) ++ drop n s) i (pos 0)
    by i (yes l) = w.zeros i l ∙ sym (get_or-append (replicate n (pos 0)) (drop n s) (pos 0) i (omega (arith, length-replicate n (pos 0))) ∙ get_or-replicate n i (pos 0) (pos 0) l)
    by i (no l) =
        let e : i ≡ n + (i - n) = omega arith in
        w.past i (omega arith)
        ∙ sym (ap (λ (k : ℕ). get_or (replicate n (pos 0) ++ drop n s) k (pos 0)) (e ∙ ap (λ (k : ℕ). k + (i - n)) (sym (length-replicate n (pos 0))))
        ∙ get_or-append-add (replicate n (pos 0)) (drop n s) (i - n) (pos 0)
        ∙ get_or-drop n s (i - n) (pos 0) ∙ ap (λ (k : ℕ). get_or s k (pos 0)) (sym e))

pub flag_is : (b : Bool) → bool_byte b ≡ flag_of b
flag_is true = refl
flag_is false = refl

flag-yes : (b : Bool) → flag_of b ≡ 1 → b ≡ true
flag-yes true e = refl
flag-yes false e = absurd (omega arith)

flag-no : (b : Bool) → flag_of b ≡ 0 → b ≡ false
flag-no true e = absurd (omega arith)
flag-no false e = refl

flag-low : (b : Bool) → flag_of b < 2
flag-low true = omega arith
flag-low false = omega arith

-- an answer and the eighth clause, as the clauses of a contract
pub clauses : {o : Outcome} {c : Network} {b' : List ℤ} {r : Carried} {b : List ℤ} {H : Type 0} → EntryAnswer o c b' r b → H
    → (verdict r.number r.index ≡ o)
    × ((r.number ≡ 0 → r.intuitive ≡ 1 → FeasibleAll c)
    × ((r.number ≡ 0 → r.intuitive ≡ 0 → DeficientSet c)
    × ((r.intuitive < 2)
    × ((r.number ≡ 0 → LargestTotal c r.total.0)
    × ((b ≡ b')
    × ((0 < r.number → (r.intuitive ≡ 0) × (r.total.0 ≡ pos 0)) × H))))))
clauses m h = (m.outcome, (m.a-yes, (m.a-no, (m.yes_or_no, (m.largest, (m.scratch, (m.refused, h)))))))

module _ (net_exports prices : List ℤ) (pairs : List ℕ) (n : ℕ) (s : List ℤ) where
  pub answer-refused : (o : Outcome) → intuitive_refusal net_exports prices pairs n (length s) ≡ some o → IntuitiveAnswer net_exports prices pairs n s (refused_as o) s
  unfolding intuitive_scratch intuitive_refusal intuitive_causes lacks
  answer-refused o e = record {
    outcome = outcome-by net_exports prices pairs n (length s) e;
    a-yes = λ z. absurd (named z);
    a-no = λ z. absurd (named z);
    yes_or_no = omega arith;
    largest = λ z. absurd (named z);
    scratch = sym (ap (λ (x : Option Outcome). scratch_by x n s) e);
    refused = λ l. (refl, refl);
  }
    where
      named : o.number ≡ 0 → ⊥
      named = not-refused 0 (intuitive_causes net_exports prices pairs n (length s)) tt o e

  pub answer-given : intuitive_refusal net_exports prices pairs n (length s) ≡ none → (s' : List ℤ) (all : Bool) (volume flag : ℕ) (total : ℤ) → MaxFlowAnswer (network_of net_exports prices pairs) all volume → n ≤ length s → Cleared n s s' → flag ≡ flag_of all → total ≡ pos volume
      → IntuitiveAnswer net_exports prices pairs n s (record { number = 0; index = 0; intuitive = flag; total = record { 0 = total } }) s'
  unfolding intuitive_scratch
  answer-given z s' all volume flag total a h w f t = record {
    outcome = outcome-by net_exports prices pairs n (length s) z;
    a-yes = λ e x. a.feasible-all (flag-yes all (sym f ∙ x));
    a-no = λ e x. a.deficient (flag-no all (sym f ∙ x));
    yes_or_no = rw f (flag-low all);
    largest = λ e. record { volume = volume; is = t; largest = a.largest };
    scratch = cleared-is n s s' h w ∙ sym (ap (λ (x : Option Outcome). scratch_by x n s) z);
    refused = λ l. absurd (omega arith);
  }
