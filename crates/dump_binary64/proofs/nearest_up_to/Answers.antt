-- `dump_binary64::nearest_up_to` meets its contract: above 2 ^ 51 the nearest is above every number of 32 bits.
use Rattle.std.proofs.Common.{◌≡◌, ℕ, ◌≤◌, Bool, sym, ap, ◌∙◌, subst, arith}
use Rattle.std.specs.Prelude.{Float, Some}
use Rattle.std.specs.Float.{binary64}
use Rattle.std.specs.Float.Ieee.{le, of_bits}
use Rattle.base_integers.specs.Steps.Ranges.{is_true}
use Rattle.dump_binary64.proofs.Steps.Whole.{halves-end, halves-end-bits, held, too_large, halves-finite}
use Rattle.dump_binary64.proofs.nearest_up_to.Goals as goal

-- the test, with its constant as a value
test : {b : Bool} (p : Float) → le p (of_bits binary64 0x4320_0000_0000_0000) ≡ b → le p halves-end ≡ b
test p e = ap (le p) (sym halves-end-bits) ∙ e

pub nearest_whole-n-requires-clause-t_2 : goal.nearest_whole-n-requires-clause-t_2
nearest_whole-n-requires-clause-t_2 c = is_true (test c.args.p c.if-p.true)

pub returns-then-n-from : goal.returns-then-n-from
returns-then-n-from c =
    let a = c.args in
    ap Some c.nearest_whole-n.ensures
    ∙ sym (held a.p a.most (halves-finite a.p c.requires (is_true (test a.p c.if-p.true))) (subst (λ (k : ℕ). k ≤ a.most) c.nearest_whole-n.ensures (subst (λ (m : ℕ). c.nearest_whole-n.result ≤ m) c.from.ensures c.if-n-from.true)))

pub returns-else-p : goal.returns-else-p
returns-else-p c = let a = c.args in sym (too_large a.p a.most (omega arith) c.requires (test a.p c.if-p.false))
