-- `flow_intuitive::examine` meets its contract: the table's rows in their order, until one fails. Assumes nothing.
use Rattle.std.proofs.Common.{◌≡◌, false, ◌≤◌, length, sym, subst, arith}
use Rattle.std.specs.Prelude.{pos}
use Rattle.std.proofs.Math.Option.{Option, none, some}
use Rattle.base_causes.specs.declared.Outcome.{Outcome}
use Rattle.base_integers.specs.Meaning.Ranges.{outside}
use Rattle.base_integers.specs.Steps.Ranges.{nat-within, is_false, not_is}
use Rattle.base_causes.specs.Meaning.Causes.{first_below}
use Rattle.base_causes.proofs.Promised.CauseLaws.{place-below, not-below}
use Rattle.rules.specs.Meaning.Layout.{zone_counts}
use Rattle.book_surplus.specs.Meaning.BookState.{first_price_outside}
use Rattle.flow_positions.specs.Meaning.Positions.{position_outside}
use Rattle.flow_intuitive.specs.Meaning.Intuitive.{price_outside}
use Rattle.flow_intuitive.specs.Steps.Answers.{Examined}
use Rattle.flow_intuitive.proofs.Steps.Answers.{From, refused-count, refused-lengths, past-81, refused-82, past-82, refused-sum, past-sum, refused-83, past-83, by-rest, examined-refused}
use Rattle.flow_intuitive.proofs.examine.Goals as goal
use Rattle.flow_intuitive.proofs.examine.Goals.{Else-count_outside, Else-prices-net_exports, In_default, In-Some-first_price_outside, In_default-first_price_outside}

-- 81
zones-pass : (c : Else-count_outside) → outside zone_counts (pos (length c.args.net_exports.now)) ≡ false
zones-pass c = sym c.if-count_outside.ensures

few : (c : Else-count_outside) → length c.args.net_exports.now ≤ 16
few c = (nat-within 1 16 _ (is_false (zones-pass c))).1

pub returns-then-count_outside : goal.returns-then-count_outside
returns-then-count_outside c =
    examined-refused c.refused.ensures (refused-count c.args.net_exports.now c.args.prices.now c.args.pairs.now _ _ (sym c.if-count_outside.ensures))

pub returns-then-prices-net_exports : goal.returns-then-prices-net_exports
returns-then-prices-net_exports c =
    examined-refused c.refused-then-prices-net_exports.ensures (refused-lengths c.args.net_exports.now c.args.prices.now c.args.pairs.now _ _ (sym c.if-count_outside.ensures) c.if-prices-net_exports.true)

from-1 : (c : Else-prices-net_exports) → From c.args.net_exports.now c.args.prices.now c.args.pairs.now c.args.n c.args.room 1
from-1 c = past-81 _ _ _ _ _ (sym c.if-count_outside.ensures) c.if-prices-net_exports.false

-- 82
pub overflow_cast-zone : goal.overflow_cast-zone
overflow_cast-zone c =
    let n = c.args.net_exports.now in
    record { fits = place-below (length n) (position_outside n) _ 4294967296 (sym c.in-Some.ensures) (omega (arith, few (goal.at.overflow_cast-zone c).Else-count_outside)) }

pub returns-in-Some : goal.returns-in-Some
returns-in-Some c =
    examined-refused c.refused-in-Some.ensures (refused-82 c.args.net_exports.now c.args.prices.now c.args.pairs.now _ _ (from-1 (goal.at.returns-in-Some c).Else-prices-net_exports) (sym c.in-Some.ensures))

from-2 : (c : In_default) → From c.args.net_exports.now c.args.prices.now c.args.pairs.now c.args.n c.args.room 2
from-2 c = past-82 _ _ _ _ _ (past-81 _ _ _ _ _ (sym c.if-count_outside.ensures) c.if-prices-net_exports.false) (sym c.in_default.ensures)

pub is_unbalanced-requires : goal.is_unbalanced-requires
is_unbalanced-requires c =
    (few (goal.at.is_unbalanced-requires c).Else-count_outside, λ z h. not_is _ (not-below _ (position_outside c.args.net_exports.now) (sym c.in_default.ensures) z h))

pub returns-then-is_unbalanced : goal.returns-then-is_unbalanced
returns-then-is_unbalanced c =
    examined-refused c.refused-then-is_unbalanced.ensures (refused-sum c.args.net_exports.now c.args.prices.now c.args.pairs.now _ _ (from-2 (goal.at.returns-then-is_unbalanced c).In_default) (sym c.if-is_unbalanced.ensures))

-- 83
price-found : (c : In-Some-first_price_outside) → first_below (length c.args.prices.now) (price_outside c.args.prices.now) ≡ some c.in-Some-first_price_outside.zone
unfolding first_price_outside
price-found c = sym c.in-Some-first_price_outside.ensures

pub overflow_cast-zone-in-Some-first_price_outside : goal.overflow_cast-zone-in-Some-first_price_outside
overflow_cast-zone-in-Some-first_price_outside c =
    let g = goal.at.overflow_cast-zone-in-Some-first_price_outside c in
    let p = c.args.prices.now in
    record { fits = place-below (length p) (price_outside p) _ 4294967296 (price-found g.In-Some-first_price_outside) (omega (arith, few g.Else-count_outside, c.if-prices-net_exports.false)) }

pub returns-in-Some-first_price_outside : goal.returns-in-Some-first_price_outside
returns-in-Some-first_price_outside c =
    let g = goal.at.returns-in-Some-first_price_outside c in
    examined-refused c.refused-in-Some-first_price_outside.ensures (refused-83 c.args.net_exports.now c.args.prices.now c.args.pairs.now _ _ (past-sum _ _ _ _ _ (from-2 g.In_default) (sym c.if-is_unbalanced.ensures)) (price-found g.In-Some-first_price_outside))

no-price : (c : In_default-first_price_outside) → first_below (length c.args.prices.now) (price_outside c.args.prices.now) ≡ none
unfolding first_price_outside
no-price c = sym c.in_default-first_price_outside.ensures

pub examine_rest-requires : goal.examine_rest-requires
examine_rest-requires c = few (goal.at.examine_rest-requires c).Else-count_outside

pub returns : goal.returns
returns c =
    let g = goal.at.returns c in
    let a = c.args in
    let rest = by-rest a.net_exports.now a.prices.now a.pairs.now a.n a.room (past-83 _ _ _ _ _ (past-sum _ _ _ _ _ (from-2 g.In_default) (sym c.if-is_unbalanced.ensures)) (no-price g.In_default-first_price_outside)) in
    subst (λ (x : Option Outcome). Examined x c.examine_rest.result) (sym rest) c.examine_rest.ensures
