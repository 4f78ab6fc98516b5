-- `proposal_file::walk_shadows` meets its contract: the length is right, so no shadow price is missing.
-- Assumes nothing.
use Rattle.std.proofs.Common.{◌≡◌, ℕ, List, ◌+◌, ◌<◌, ◌≤◌, length, refl, sym, ap, ◌∙◌, arith}
use Rattle.std.specs.Prelude.{pos, ℤ}
use Rattle.base_integers.specs.Meaning.Ranges.{outside}
use Rattle.base_limits.specs.Meaning.Limits as limits
use Rattle.base_measures.specs.Steps.Held.{cents-outside, cents-held}
use Rattle.rules.specs.Meaning.Layout.{u32_at, branches_in, shadow_at, shadow_in, proposal_length}
use Rattle.base_causes.specs.Meaning.Causes.{first_below}
use Rattle.base_causes.proofs.Promised.CauseLaws.{first-later}
use Rattle.bytes_read.specs.declared.Cursor.{Cursor}
use Rattle.bytes_read.specs.Meaning.Field.{cursor}
use Rattle.bytes_read.specs.Meaning.Walk.{refused_at}
use Rattle.bytes_read.specs.Steps.Taking.{FieldsTaken, NextTaken, word_next, word-lacks}
use Rattle.bytes_read.specs.Steps.Walked.{walk-stops, walk-done}
use Rattle.case_header.specs.declared.Counts.{Counts}
use Rattle.case_header.specs.Meaning.CaseReadable.{CaseReadable}
use Rattle.proposal_file.specs.Steps.ProposalValid.{bad_shadow, shadow_cause, shadow-next, shadows-end, shadow-inside, branches-is, small}
use Rattle.proposal_file.proofs.walk_shadows.Goals as goal

pub loop-init : goal.loop-init
unfolding first_below
loop-init c = (c.requires.at_value, refl)

-- THE SHADOW PRICE OF A TURN, m, is within the file
module _ {s : List ℕ} (t : List ℕ) {k : Counts} (o : CaseReadable s k) (e : length t ≡ proposal_length s) {m : ℕ} (h : m < k.branches) where
  in-turn : m < branches_in s
  in-turn = omega (arith, branches-is o t)

  inside : (shadow_at s m + 4 ≤ length t) × (length t < 4294967296)
  inside = (omega (arith, shadow-inside s m in-turn), omega (arith, small o t))

  here : {d : Cursor} → d.at ≡ shadow_at s m → FieldsTaken t (shadow_at s m) d
  here p = record { inside = omega (arith, inside); past = ap cursor p }

-- tested as it was taken
tested : (s t : List ℕ) (m : ℕ) {n v : ℕ} {x : ℤ} {c : Cursor} → NextTaken t n v (u32_at t (shadow_at s m)) c → x ≡ pos v → bad_shadow s t m ≡ outside limits.shadow_price x
unfolding shadow_in
tested s t m f e = sym (ap (outside limits.shadow_price) (e ∙ ap pos f.is))

pub refuse-requires : goal.refuse-requires
refuse-requires c = omega (arith, c.loop.invariant.0, inside c.args.proposal.now c.args.«case».readable c.requires.proposal_len c.loop-test.true)

-- it is there
pub returns-in_default : goal.returns-in_default
returns-in_default c =
    let t = c.args.proposal.now in
    let o = c.args.«case».readable in
    let e = c.requires.proposal_len in
    absurd (omega (arith, word-lacks (here t o e c.loop-test.true c.loop.invariant.0) c.take.ensures c.in_default.is, inside t o e c.loop-test.true))

pub refuse-requires-in_default-shadow_price : goal.refuse-requires-in_default-shadow_price
refuse-requires-in_default-shadow_price c = omega (arith, c.loop.invariant.0, inside c.args.proposal.now c.args.«case».readable c.requires.proposal_len c.loop-test.true)

pub returns-in_default-shadow_price : goal.returns-in_default-shadow_price
returns-in_default-shadow_price c =
    let s = c.args.«case».bytes.now in
    let t = c.args.proposal.now in
    let o = c.args.«case».readable in
    let e = c.requires.proposal_len in
    let taken = word_next (here t o e c.loop-test.true c.loop.invariant.0) c.take.ensures c.in-Some.is in
    let test = tested s t c.loop.counter taken c.from.ensures in
    c.refuse-in_default-shadow_price.ensures ∙ ap (refused_at 14) c.loop.invariant.0
    ∙ walk-stops (shadow_cause s t) (cursor (proposal_length s)) c.loop.counter c.loop.invariant.1 (in-turn t o e c.loop-test.true)
    (test ∙ cents-outside _ _ (sym c.shadow_price.ensures ∙ c.in_default-shadow_price.is))

pub loop-preserved : goal.loop-preserved
loop-preserved c =
    let s = c.args.«case».bytes.now in
    let t = c.args.proposal.now in
    let taken = word_next (here t c.args.«case».readable c.requires.proposal_len c.loop-test.true c.loop.invariant.0) c.take.ensures c.in-Some.is in
    let test = tested s t c.loop.counter taken c.from.ensures in (
      ap (λ (d : Cursor). d.at) taken.taken.past ∙ shadow-next s c.loop.counter,
      first-later (bad_shadow s t) c.loop.counter c.loop.invariant.1 (test ∙ (cents-held _ _ c.in-Some-shadow_price.field-0 (sym c.shadow_price.ensures ∙ c.in-Some-shadow_price.is)).0),
    )

pub returns : goal.returns
returns c =
    let s = c.args.«case».bytes.now in
    let t = c.args.proposal.now in
    walk-done (shadow_cause s t) (shadow_at s) c.loop.invariant.0 c.loop.invariant.1 (omega (arith, branches-is c.args.«case».readable t)) (shadows-end s)
