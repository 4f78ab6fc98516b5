-- `proposal_file::take_header` meets its contract: each field stands where the one before it ended, and the last
-- ends at byte 13. Assumes nothing.
use Rattle.std.proofs.Common.{◌≡◌, length, sym, ap, ◌∙◌, le-ltb, Ok}
use Rattle.std.proofs.Math.Bool.{true≢false}
use Rattle.base_integers.specs.Meaning.Ranges.{outside}
use Rattle.base_limits.specs.Meaning.Limits as limits
use Rattle.base_measures.specs.Meaning.Held.{cents_in}
use Rattle.base_measures.specs.Steps.Held.{cents-outside, cents-held}
use Rattle.base_measures.specs.declared.Raw.{Raw}
use Rattle.rules.specs.Meaning.Layout.{u32_at, i32_at, proposal_version, share_in, system_in}
use Rattle.bytes_read.specs.Steps.Taking.{none-taken, mark-next, half-next, word_next, signed-next}
use Rattle.proposal_file.specs.Meaning.Answer.{header_in, taken_by}
use Rattle.proposal_file.specs.Steps.Answer.{none-outside}
use Rattle.proposal_file.proofs.take_header.Goals as goal
use Rattle.proposal_file.proofs.take_header.Goals.{After-system_price}

price-is : (c : After-system_price) → c.system_price.result ≡ cents_in limits.system_price (i32_at c.args.proposal.now 9)
price-is c =
    let t = c.args.proposal.now in
    let mark = mark-next (none-taken t c.new.ensures) c.take.ensures c.in-Some.is in
    let version = half-next mark.taken c.take-2.ensures c.in-Some-take.is in
    let share = word_next version.taken c.take-3.ensures c.in-Some-take-2.is in
    let system = signed-next share.taken c.take-4.ensures c.in-Some-take-3.is in
    c.system_price.ensures ∙ ap (λ (x : Raw). cents_in limits.system_price x.0) system.is

-- no price is refused
pub returns-in_default-system_price : goal.returns-in_default-system_price
unfolding i32_at
returns-in_default-system_price c =
    let p = price-is (goal.at.returns-in_default-system_price c).After-system_price in
    absurd (true≢false (sym (cents-outside _ _ (sym p ∙ c.in_default-system_price.is)) ∙ none-outside (u32_at c.args.proposal.now 9)))

pub returns : goal.returns
unfolding proposal_version share_in system_in
returns c =
    let t = c.args.proposal.now in
    let mark = mark-next (none-taken t c.new.ensures) c.take.ensures c.in-Some.is in
    let version = half-next mark.taken c.take-2.ensures c.in-Some-take.is in
    let share = word_next version.taken c.take-3.ensures c.in-Some-take-2.is in
    let system = signed-next share.taken c.take-4.ensures c.in-Some-take-3.is in
    let x = i32_at t 9 in
    let held = cents-held x (outside limits.system_price x) c.in-Some-system_price.system (sym (price-is (goal.at.returns c).After-system_price) ∙ c.in-Some-system_price.is) in
    (λ j. Ok (record { mark = mark.is j; version = (c.from.ensures ∙ version.is) j; share = share.is j; system = record { 0 = held.1 j }; past = system.taken.past j }))
    ∙ ap (taken_by (header_in t)) (sym (le-ltb (length t) 13 system.taken.inside))
