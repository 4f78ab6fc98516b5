-- S-14 IN PLAIN NUMBERS: when the entry answers 86 and 0, both ways, and what each pair of numbers of an answer is,
-- with the paper's own 100,000. `PlainLayout` of `rules` has the bytes of a field such as `capacity_in s l`;
-- `price z` is the zone price of rule 6 in grains. Assumes nothing.
use Rattle.std.specs.Prelude.{◌≡◌, ◌↔◌, List, ℕ, zero, suc, ◌+◌, ◌*◌, ◌≤◌, ◌<◌, eqb, get_or, ℤ, pos, ◌+ℤ◌, ◌-ℤ◌, ◌*ℤ◌, ◌≤ℤ◌}
use Rattle.std.proofs.Math.Path.{refl, ap, subst}
use Rattle.std.proofs.Common.{sym, ◌∙◌, arith}
use Rattle.std.proofs.Math.Option.{Option, none, some}
use Rattle.std.proofs.Math.Decide.{dec_lt}
use Rattle.base_integers.specs.Meaning.Order.{positive}
use Rattle.base_integers.specs.Meaning.Sums.{sum_to}
use Rattle.base_causes.specs.declared.Outcome.{Outcome}
use Rattle.base_causes.specs.Meaning.Causes.{refusal, answer}
use Rattle.base_causes.proofs.Promised.CauseLaws.{lacks, not-refused}
use Rattle.rules.specs.Meaning.Layout.{u8_at, u16_at, zones_in, branches_in, links_in, orders_in, ram_in, ptdf_in, from_in, to_in, capacity_in, zone_in, side_in, quantity_in, price_in, share_in, volume_in, flow_in, shadow_in}
use Rattle.rules.specs.Meaning.Hour.{case_of, plan_of, prices_of, buys, above, fb_part, branch_use, branch_room, zone_price, surplus_of, order_surplus, spread}
use Rattle.rules.specs.Meaning.Verdict.{room_causes, case_causes, proposal_causes, clearing_causes, table, outcome}
use Rattle.short_rules.specs.Meaning.Shortfalls.{earned, order_shortfall, branch_shortfall, link_shortfall}
use Rattle.short_rules.specs.Meaning.Answer.{shortfall_count, shortfall_outcome, whole_at, parts_at, shortfall_at, Answers}
use Rattle.short_rules.proofs.Promised.Causes.{not-accepted, short-output, enough-room}

-- how many orders, branches and links a case has
abbrev pub orders : List ℕ → ℕ
orders s = get_or s 8 0 + 256 * get_or s 9 0

abbrev pub branches : List ℕ → ℕ
branches s = get_or s 6 0

abbrev pub links : List ℕ → ℕ
links s = get_or s 7 0

-- THE ANSWER o, for an hour that the judgement answers by `judged` and an output of `room` numbers. Each order,
-- branch and link needs two
pub record Numbers (s : List ℕ) (judged : Outcome) (room : ℕ) (o : Outcome) : Type 0 where
  pub not-judged-0 : 0 < judged.number → o ≡ judged
  pub is-86 : (o.number ≡ 86) ↔ ((judged.number ≡ 0) × (room < 2 * (orders s + branches s + links s)))
  pub is-0 : (o.number ≡ 0) ↔ ((judged.number ≡ 0) × (2 * (orders s + branches s + links s) ≤ room))
  pub index-0 : judged.number ≡ 0 → o.index ≡ 0

module _ (s t : List ℕ) (room : ℕ) where
  abbrev needed : ℕ
  needed = 2 * (orders s + branches s + links s)

  never-86 : (outcome s t 176).number ≡ 86 → ⊥
  unfolding outcome table room_causes case_causes proposal_causes clearing_causes lacks
  never-86 e = by (refusal (table none s t 176 (case_of s) (plan_of s t) (prices_of s t))) refl e
    where
      by : (o : Option Outcome) → refusal (table none s t 176 (case_of s) (plan_of s t) (prices_of s t)) ≡ o → (answer o).number ≡ 86 → ⊥
      by (some x) q m = not-refused 86 (table none s t 176 (case_of s) (plan_of s t) (prices_of s t)) tt x q m
      by none q m = omega (arith, m)

  pub shortfall-numbers : Numbers s (outcome s t 176) room (shortfall_outcome s t room)
  unfolding shortfall_outcome shortfall_count case_of orders_in branches_in links_in u16_at u8_at
  shortfall-numbers = by (outcome s t 176).number refl (dec_lt room needed)
    where
      given : {x : Outcome} → Numbers s (outcome s t 176) room x → shortfall_outcome s t room ≡ x → Numbers s (outcome s t 176) room (shortfall_outcome s t room)
      given w e = subst (λ (y : Outcome). Numbers s (outcome s t 176) room y) (sym e) w

      by : (n : ℕ) → (outcome s t 176).number ≡ n → Dec (room < needed) → Numbers s (outcome s t 176) room (shortfall_outcome s t room)
      by (suc n) e d = given (record {
        not-judged-0 = λ h. refl;
        is-86 = (λ q. absurd (never-86 q), λ h. absurd (omega (arith, e, h.0)));
        is-0 = (λ q. absurd (omega (arith, e, q)), λ h. absurd (omega (arith, e, h.0)));
        index-0 = λ h. absurd (omega (arith, e, h));
      }) (not-accepted s t room (omega (arith, e)))
      by zero e (yes l) = given (record {
        not-judged-0 = λ h. absurd (omega (arith, e, h));
        is-86 = (λ q. (e, l), λ h. refl);
        is-0 = (λ q. absurd (omega (arith, q)), λ h. absurd (omega (arith, l, h.1)));
        index-0 = λ h. refl;
      }) (ap answer (short-output s t room e l))
      by zero e (no l) = given (record {
        not-judged-0 = λ h. absurd (omega (arith, e, h));
        is-86 = (λ q. absurd (omega (arith, q)), λ h. absurd (omega (arith, l, h.1)));
        is-0 = (λ q. (e, omega (arith, l)), λ h. refl);
        index-0 = λ h. refl;
      }) (ap answer (enough-room s t room e (omega (arith, l))))

-- AMOUNT n of an output, in hundred-thousandths of a microcent: 100,000 times the first of its two numbers, plus
-- the second
abbrev pub amount : List ℤ → ℕ → ℤ
amount out n = get_or out (2 * n) (pos 0) *ℤ pos 100000 +ℤ get_or out (2 * n + 1) (pos 0)

module _ (s t : List ℕ) where
  abbrev pub price : ℕ → ℤ
  price z = zone_price (case_of s) (prices_of s t) z

  -- EACH ORDER: what its whole quantity could earn, where that is above zero, less what its volume earns
  abbrev pub left : ℕ → ℤ → ℤ
  left i gain = pos 100000 *ℤ (positive (pos (quantity_in s i) *ℤ gain) -ℤ pos (volume_in s t i) *ℤ gain)

  -- EACH BRANCH: the margin scaled by the flow-based share, less the flow-based part's use of it, at the shadow price
  abbrev pub free : ℕ → ℤ
  free m = (pos 100000 -ℤ pos (share_in t)) *ℤ ram_in s m -ℤ sum_to (zones_in s) (λ z. ptdf_in s m z *ℤ fb_part (case_of s) (plan_of s t) z)

  -- EACH LINK: from its "from" to its "to"
  abbrev pub rise : ℕ → ℤ
  rise l = price (to_in s l) -ℤ price (from_in s l)

  pub record PlainAnswer (out : List ℤ) : Type 0 where
    pub bought : (i : ℕ) → i < orders s → side_in s i ≡ 0 → amount out i ≡ left i (pos 100000 *ℤ price_in s i -ℤ price (zone_in s i))
    pub sold : (i : ℕ) → i < orders s → side_in s i ≡ 1 → amount out i ≡ left i (price (zone_in s i) -ℤ pos 100000 *ℤ price_in s i)
    pub branch : (m : ℕ) → m < branches s → amount out (orders s + m) ≡ pos 100000 *ℤ (pos (shadow_in s t m) *ℤ free m)
    pub link : (l : ℕ) → l < links s
        → amount out (orders s + branches s + l) ≡ pos (capacity_in s l) *ℤ pos (share_in t) *ℤ positive (rise l) -ℤ pos 100000 *ℤ (pos (flow_in s t l) *ℤ rise l)
    pub parts_in : (n : ℕ) → n < orders s + branches s + links s → (pos 0 ≤ℤ get_or out (2 * n + 1) (pos 0)) × (get_or out (2 * n + 1) (pos 0) ≤ℤ pos 99999)

  order-by : (n : ℕ) (i : ℕ) → side_in s i ≡ n
      → order_shortfall (case_of s) (plan_of s t) (prices_of s t) i ≡ left i (above (eqb n 0) (pos 100000 *ℤ price_in s i) (price (zone_in s i)))
  unfolding order_shortfall order_surplus surplus_of earned buys case_of plan_of
  order-by n i e = ap (λ (k : ℕ). left i (above (eqb k 0) (pos 100000 *ℤ price_in s i) (price (zone_in s i)))) e

  pub plain-answer : (out : List ℤ) → Answers (case_of s) (plan_of s t) (prices_of s t) out → PlainAnswer out
  unfolding shortfall_at whole_at parts_at shortfall_count branch_shortfall branch_room branch_use link_shortfall spread case_of plan_of prices_of orders_in branches_in links_in u16_at u8_at
  plain-answer out a = record {
    bought = λ i h e. a.order_is i h ∙ order-by 0 i e;
    sold = λ i h e. a.order_is i h ∙ order-by 1 i e;
    branch = λ m h. a.branch-is m h;
    link = λ l h. a.link-is l h;
    parts_in = a.parts_in;
  }
