-- `dump_binary64::cut_to_word` meets its contract: below 2 ^ 32 - 1 the whole part is the cut; from there to 2 ^ 32 the
-- cut is that number.
use Rattle.std.proofs.Common.{◌≡◌, Bool, sym, ap, ◌∙◌}
use Rattle.std.specs.Prelude.{Float}
use Rattle.std.specs.Float.{binary64}
use Rattle.std.specs.Float.Ieee.{lt, of_bits}
use Rattle.base_integers.specs.Steps.Ranges.{is_true}
use Rattle.dump_binary64.specs.Meaning.Value.{cut}
use Rattle.dump_binary64.specs.Meaning.Answer.{whole_by}
use Rattle.dump_binary64.proofs.Steps.Whole.{word_end, word-end-bits, word-ranged}
use Rattle.dump_binary64.proofs.Steps.WholePart.{word-most, word-most-bits, below-most, below_end, at-end}
use Rattle.dump_binary64.proofs.cut_to_word.Goals as goal

-- the tests, each with its constant as a value
most-test : {b : Bool} (p : Float) → lt p (of_bits binary64 0x41ef_ffff_ffe0_0000) ≡ b → lt p word-most ≡ b
most-test p e = ap (lt p) (sym word-most-bits) ∙ e

end_test : {b : Bool} (p : Float) → lt p (of_bits binary64 0x41f0_0000_0000_0000) ≡ b → lt p word_end ≡ b
end_test p e = ap (lt p) (sym word-end-bits) ∙ e

pub whole_part-requires-clause-ranged : goal.whole_part-requires-clause-ranged
whole_part-requires-clause-ranged c =
    let p = c.args.p in
    word-ranged p c.requires (is_true (below_end p c.requires (is_true (most-test p c.if-p.true))))

pub whole_part-requires-clause-p_bound : goal.whole_part-requires-clause-p_bound
whole_part-requires-clause-p_bound c = (below-most c.args.p c.requires (is_true (most-test c.args.p c.if-p.true))).1

pub returns-then-p : goal.returns-then-p
returns-then-p c =
    let p = c.args.p in
    (λ i. whole_by (sym (below_end p c.requires (is_true (most-test p c.if-p.true))) i) (c.whole_part.ensures i))

pub returns-then-p-2 : goal.returns-then-p-2
returns-then-p-2 c =
    let p = c.args.p in
    let e = end_test p c.if-p-2.true in
    (λ i. whole_by (sym e i) (at-end p c.requires (most-test p c.if-p.false) e i))

pub returns-else-p-2 : goal.returns-else-p-2
returns-else-p-2 c = let p = c.args.p in ap (λ (b : Bool). whole_by b (cut p)) (sym (end_test p c.if-p-2.false))
