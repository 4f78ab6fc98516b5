-- The verdict table of document 01, as requests S-2, S-4, S-6, S-11 and S-12 amend it: a row for each cause, in the
-- table's own order, and the outcome of the judgement. Every test has a value on any bytes; it counts only where
-- the rows before it passed. Assumes nothing.
use Rattle.std.specs.Prelude.{◌≡◌, Bool, false, not, ◌&&◌, ◌||◌, List, [], ◌∷◌, ◌++◌, ℕ, zero, suc, ◌+◌, length, eqb, leb, ltb, ℤ, pos}
use Rattle.std.proofs.Math.Option.{Option, none, some}
use Rattle.std.specs.Int.Signed.{lt_z}
use Rattle.base_integers.specs.Meaning.Ranges.{outside, is_zero}
use Rattle.base_limits.specs.Meaning.Limits as limits
use Rattle.rules.specs.Meaning.Layout.{u8_at, case_header, case_version, case_length, proposal_header, proposal_version, proposal_length, zone_counts, branch_counts, link_counts, order_counts, report_room, branch_field_at, link_fields, link_field_at, order_fields, order_field_at, shadow_at}
use Rattle.rules.specs.Meaning.Hour.{Case, Plan, Prices, case_of, plan_of, prices_of, net_sum, broken, broken_z, link_rule, branch_rule, zone_price, no_link, gap}
use Rattle.rules.specs.Meaning.Families.{family_version, family_length, parent_of, missing, leads_back, accepted, fraction_rule}
use Rattle.base_causes.specs.declared.Outcome.{Outcome}
use Rattle.base_causes.specs.Meaning.Causes.{Cause, any_below, refusal, answer, once, field, each, each_at, each_field}

infix 90 ◌under◌ ◌over◌ ◌over_z◌
abbrev pub ◌under◌ : ℕ → ℕ → Bool
x under least = ltb x least

abbrev pub ◌over◌ : ℕ → ℕ → Bool
x over greatest = ltb greatest x

abbrev pub ◌over_z◌ : ℤ → ℤ → Bool
x over_z greatest = lt_z greatest x

abbrev pub differ : ℕ → ℕ → Bool
differ x y = not (eqb x y)

-- the first three bytes are not the mark
unfoldable pub not_mark : ℕ → ℕ → ℕ → List ℕ → Bool
not_mark a b e s = not (eqb (u8_at s 0) a && eqb (u8_at s 1) b && eqb (u8_at s 2) e)

abbrev pub unknown : ℕ → ℕ → Bool
unknown n zone = leb n zone

-- ROWS 6 TO 8, FIELD BY FIELD (S-2): whether field n of a row is at fault.
-- branch m: its margin, then one PTDF per zone
unfoldable pub branch_fault : Case → ℕ → ℕ → Bool
branch_fault c m zero = outside limits.margin (c.ram m)
branch_fault c m (suc z) = outside limits.ptdf (c.ptdf m z)

-- the same ordered pair as an earlier link
unfoldable pub repeated : Case → ℕ → Bool
repeated c l = any_below l (λ k. eqb (c.from k) (c.from l) && eqb (c.to k) (c.to l))

-- link l: from (unknown zone, repeated pair), to (unknown zone, equal zones), capacity, contracted volume (S-4:
-- exceeds capacity)
unfoldable pub link_fault : Case → ℕ → ℕ → Bool
link_fault c l zero = unknown c.zones (c.from l) || repeated c l
link_fault c l (suc zero) = unknown c.zones (c.to l) || eqb (c.from l) (c.to l)
link_fault c l (suc (suc zero)) = outside limits.capacity (pos (c.capacity l))
link_fault c l (suc (suc (suc n))) = c.contracted l over c.capacity l

-- a row of an order book, with n zones: zone, side, quantity, price
unfoldable pub row_fault : ℕ → ℕ → ℕ → ℕ → ℤ → ℕ → Bool
row_fault n zone side quantity price zero = unknown n zone
row_fault n zone side quantity price (suc zero) = side over 1
row_fault n zone side quantity price (suc (suc zero)) = outside limits.quantity (pos quantity)
row_fault n zone side quantity price (suc (suc (suc k))) = outside limits.order_price price

unfoldable pub order_fault : Case → ℕ → ℕ → Bool
order_fault c i = row_fault c.zones (c.zone i) (c.side i) (c.quantity i) (c.price i)

-- a row of a lent book is refused where one of its fields is at fault
unfoldable pub bad_row : ℕ → ℕ → ℕ → ℕ → ℤ → Bool
bad_row n zone side quantity price = any_below order_fields (row_fault n zone side quantity price)

-- THE TABLE, for a case s, a proposal t and a report buffer of `room` bytes; c, p and d are what s and t hold. A
-- case may come with a family list (S-11); without one, rows 16 to 18 and 28 are not asked. Each row has a name,
-- and the lists of names give the order in which the rows are asked.
-- 30 is asked first: report buffer under 176 bytes
abbrev pub small_buffer : ℕ → Cause
small_buffer room = once 30 (room under report_room)

unfoldable pub room_causes : ℕ → List Cause
room_causes room = small_buffer room ∷ []

-- 1: case shorter than 14 bytes. 2: mark is not LTC. 3: case version is neither 1 nor 2 (S-4)
abbrev pub short_case : List ℕ → Cause
short_case s = once 1 (length s under case_header)

abbrev pub wrong_case_mark : List ℕ → Cause
wrong_case_mark s = once 2 (not_mark 76 84 67 s)

abbrev pub wrong_case_version : List ℕ → Cause
wrong_case_version s = once 3 (differ (case_version s) 1 && differ (case_version s) 2)

-- 4: header field outside its range: its offset
abbrev pub bad_zone_count : Case → Cause
bad_zone_count c = field 4 5 (outside zone_counts (pos c.zones))

abbrev pub bad_branch_count : Case → Cause
bad_branch_count c = field 4 6 (outside branch_counts (pos c.branches))

abbrev pub bad_link_count : Case → Cause
bad_link_count c = field 4 7 (outside link_counts (pos c.links))

abbrev pub bad_order_count : Case → Cause
bad_order_count c = field 4 8 (outside order_counts (pos c.orders))

abbrev pub bad_tolerance : Case → Cause
bad_tolerance c = field 4 10 (outside limits.tolerance (pos c.tolerance))

-- 5: case length is not what the header demands
abbrev pub wrong_case_length : List ℕ → Cause
wrong_case_length s = once 5 (differ (length s) (case_length s))

-- 6: branch field out of range. 7: link: unknown zone, equal zones, capacity, repeated pair, contracted volume
-- (S-4). 8: order field out of range. Each names the offset of the first such field (S-2)
abbrev pub bad_branch_field : List ℕ → Case → Cause
bad_branch_field s c = each_field 6 c.branches (1 + c.zones) (branch_fault c) (branch_field_at s)

abbrev pub bad_link_field : List ℕ → Case → Cause
bad_link_field s c = each_field 7 c.links link_fields (link_fault c) (link_field_at s)

abbrev pub bad_order_field : List ℕ → Case → Cause
bad_order_field s c = each_field 8 c.orders order_fields (order_fault c) (order_field_at s)

-- the rows of the header, and those of what follows it
abbrev pub case_header_causes : List ℕ → Case → List Cause
case_header_causes s c =
    short_case s
    ∷ wrong_case_mark s
    ∷ wrong_case_version s
    ∷ bad_zone_count c
    ∷ bad_branch_count c
    ∷ bad_link_count c
    ∷ bad_order_count c
    ∷ bad_tolerance c
    ∷ []

abbrev pub case_body_causes : List ℕ → Case → List Cause
case_body_causes s c = wrong_case_length s ∷ bad_branch_field s c ∷ bad_link_field s c ∷ bad_order_field s c ∷ []

unfoldable pub case_causes : List ℕ → Case → List Cause
case_causes s c = case_header_causes s c ++ case_body_causes s c

-- 9: proposal shorter than 13 bytes. 10: mark is not LTP. 11: proposal version is not 1. 12: proposal length wrong
-- for this case
abbrev pub short_proposal : List ℕ → Cause
short_proposal t = once 9 (length t under proposal_header)

abbrev pub wrong_proposal_mark : List ℕ → Cause
wrong_proposal_mark t = once 10 (not_mark 76 84 80 t)

abbrev pub wrong_proposal_version : List ℕ → Cause
wrong_proposal_version t = once 11 (differ (proposal_version t) 1)

abbrev pub wrong_proposal_length : List ℕ → List ℕ → Cause
wrong_proposal_length s t = once 12 (differ (length t) (proposal_length s))

-- 13: LTA share above 100,000. 14: shadow price above 1,000,000: its offset in the proposal (S-2)
abbrev pub share_above : Plan → Cause
share_above p = once 13 (outside limits.share (pos p.share))

abbrev pub shadow_above : List ℕ → Case → Prices → Cause
shadow_above s c d = each_at 14 c.branches (λ m. outside limits.shadow_price (pos (d.shadow m))) (shadow_at s)

unfoldable pub proposal_causes : List ℕ → List ℕ → Case → Plan → Prices → List Cause
proposal_causes s t c p d =
    short_proposal t
    ∷ wrong_proposal_mark t
    ∷ wrong_proposal_version t
    ∷ wrong_proposal_length s t
    ∷ share_above p
    ∷ shadow_above s c d
    ∷ []

-- 15 (S-12), asked straight after 14: the tolerance is above 10,000 cents
abbrev pub wide_tolerance : Case → Cause
wide_tolerance c = once 15 (outside limits.accepted_tolerance (pos c.tolerance))

-- ROWS OF A FAMILY LIST f (S-11), asked after 15.
-- 16: mark is not LTF, version is not 1, or length is wrong for this case.
-- 17: a parent does not exist; the index is the order that names it. 18: an order leads back to itself
abbrev pub wrong_family_list : List ℕ → Case → Cause
wrong_family_list f c = once 16 (not_mark 76 84 70 f || differ (family_version f) 1 || differ (length f) (family_length c.orders))

abbrev pub missing_parent : List ℕ → Case → Cause
missing_parent f c = each 17 c.orders (λ i. missing c.orders (parent_of f i))

abbrev pub own_ancestor : List ℕ → Case → Cause
own_ancestor f c = each 18 c.orders (leads_back c.orders (parent_of f))

abbrev pub family_causes : Option (List ℕ) → Case → List Cause
family_causes none c = []
family_causes (some f) c = wrong_family_list f c ∷ missing_parent f c ∷ own_ancestor f c ∷ []

-- 21: volume above the order's quantity
abbrev pub excess_volume : Case → Plan → Cause
excess_volume c p = each 21 c.orders (λ i. p.volume i over c.quantity i)

-- 28 (S-11), asked after 21: a child's fraction exceeds its parent's; the index is the child
abbrev pub exceeds_parent : Case → Plan → ℕ → Option ℕ → Bool
exceeds_parent c p child none = false
exceeds_parent c p child (some parent) = broken (fraction_rule (accepted c p child) (accepted c p parent))

abbrev pub excess_fraction : List ℕ → Case → Plan → Cause
excess_fraction f c p = each 28 c.orders (λ i. exceeds_parent c p i (parent_of f i))

abbrev pub fraction_causes : Option (List ℕ) → Case → Plan → List Cause
fraction_causes none c p = []
fraction_causes (some f) c p = excess_fraction f c p ∷ []

-- 22: balance (rule 3) fails. 27, asked between 22 and 23: no link, and the LTA share above 0 (S-6). 23: link rule
-- (4) fails. 24: branch rule (5) fails
abbrev pub unbalanced : Case → Plan → Cause
unbalanced c p = once 22 (not (is_zero (net_sum c p)))

abbrev pub share_without_link : Case → Plan → Cause
share_without_link c p = once 27 (no_link c && p.share over 0)

abbrev pub overused_link : Case → Plan → Cause
overused_link c p = each 23 c.links (λ l. broken (link_rule c p l))

abbrev pub overloaded_branch : Case → Plan → Cause
overloaded_branch c p = each 24 c.branches (λ m. broken_z (branch_rule c p m))

-- 25: zone price under -50,000 or over 400,000 cents
abbrev pub price_outside : Case → Prices → Cause
price_outside c d = each 25 c.zones (λ z. outside limits.zone_price (zone_price c d z))

-- 26: gap above tolerance (in microcents)
abbrev pub wide_gap : Case → Plan → Prices → Cause
wide_gap c p d = once 26 (gap c p d over_z (limits.microcents_of (pos c.tolerance)))

-- the rows after the volumes, which 21 and 28 ask
abbrev pub exchange_causes : Case → Plan → Prices → List Cause
exchange_causes c p d =
    unbalanced c p
    ∷ share_without_link c p
    ∷ overused_link c p
    ∷ overloaded_branch c p
    ∷ price_outside c d
    ∷ wide_gap c p d
    ∷ []

unfoldable pub clearing_causes : Option (List ℕ) → Case → Plan → Prices → List Cause
clearing_causes fs c p d = excess_volume c p ∷ (fraction_causes fs c p ++ exchange_causes c p d)

-- the rows once both files are read: the tolerance, the family list, the clearing
abbrev pub judgement_causes : Option (List ℕ) → Case → Plan → Prices → List Cause
judgement_causes fs c p d = wide_tolerance c ∷ (family_causes fs c ++ clearing_causes fs c p d)

unfoldable pub table : Option (List ℕ) → List ℕ → List ℕ → ℕ → Case → Plan → Prices → List Cause
table fs s t room c p d = room_causes room ++ (case_causes s c ++ (proposal_causes s t c p d ++ judgement_causes fs c p d))

-- the judgement's answer, without a family list
unfoldable pub outcome : List ℕ → List ℕ → ℕ → Outcome
outcome s t room = answer (refusal (table none s t room (case_of s) (plan_of s t) (prices_of s t)))

-- with the family list f (S-11)
unfoldable pub family_outcome : List ℕ → List ℕ → List ℕ → ℕ → Outcome
family_outcome s t f room = answer (refusal (table (some f) s t room (case_of s) (plan_of s t) (prices_of s t)))

-- READABLE: none of 1 to 8 holds
unfoldable pub case_refusal : List ℕ → Option Outcome
case_refusal s = refusal (case_causes s (case_of s))

-- none of 1 to 4: a header whose counts say how long the case is
unfoldable pub header_refusal : List ℕ → Option Outcome
header_refusal s = refusal (case_header_causes s (case_of s))

pub record Readable (s : List ℕ) : Type 0 where
  pub none-holds : case_refusal s ≡ none

-- for a readable case s, the refusal of a proposal t by 9 to 14
unfoldable pub proposal_refusal : List ℕ → List ℕ → Option Outcome
proposal_refusal s t = refusal (proposal_causes s t (case_of s) (plan_of s t) (prices_of s t))
