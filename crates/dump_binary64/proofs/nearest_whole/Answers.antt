-- `dump_binary64::nearest_whole` meets its contract.
use Rattle.std.proofs.Common.{◌≡◌, ℕ, ◌+◌, ◌*◌, ◌^◌, ◌≤◌, false, T, pos, sym, subst, le_trans, arith, lit≤, le→leb}
use Rattle.std.specs.Float.{binary64}
use Rattle.std.specs.Float.Ieee.{in_float, add, of_int, of_bits, to_unsigned}
use Rattle.std.specs.Float.Ieee.Exact.{HasValue}
use Rattle.dump_binary64.specs.Meaning.Value.{nearest}
use Rattle.dump_binary64.proofs.Steps.Half.{Bounded, bounded_of, ranged, whole-small, half-sum, taken-up, left_down}
use Rattle.dump_binary64.proofs.nearest_whole.Goals as goal
use Rattle.dump_binary64.proofs.nearest_whole.Goals.{After-truncating_f64_to_u64-w}

pub truncating_f64_to_u64-w-requires-clause-lower_bound : goal.truncating_f64_to_u64-w-requires-clause-lower_bound
truncating_f64_to_u64-w-requires-clause-lower_bound c = (ranged c.args.p c.requires.t c.requires.t_2).0

pub truncating_f64_to_u64-w-requires-clause-upper_bound : goal.truncating_f64_to_u64-w-requires-clause-upper_bound
truncating_f64_to_u64-w-requires-clause-upper_bound c = (ranged c.args.p c.requires.t c.requires.t_2).1

bounded : (c : After-truncating_f64_to_u64-w) → Bounded c.args.p
bounded c = bounded_of c.args.p c.requires.t c.requires.t_2

small : (c : After-truncating_f64_to_u64-w) → c.truncating_f64_to_u64-w.result ≤ 2 ^ 51
small c = subst (λ (w : ℕ). w ≤ 2 ^ 51) (sym c.truncating_f64_to_u64-w.ensures) (whole-small c.args.p (bounded c))

pub int_to_float-w : goal.int_to_float-w
unfolding in_float
int_to_float-w c = le→leb c.truncating_f64_to_u64-w.result (2 ^ 53) (le_trans (small (goal.at.int_to_float-w c).After-truncating_f64_to_u64-w) (lit≤ tt))

pub overflow_add-result : goal.overflow_add-result
overflow_add-result c = let h = small (goal.at.overflow_add-result c).After-truncating_f64_to_u64-w in record { fits = omega (arith, h) }

-- the whole part and a half, as in the test
sum : (c : After-truncating_f64_to_u64-w)
    → HasValue (add binary64 (of_int binary64 (pos c.truncating_f64_to_u64-w.result)) (of_bits binary64 0x3fe0_0000_0000_0000)) false (2 * to_unsigned 64 c.args.p + 1) 2
sum c =
    subst (λ (w : ℕ). HasValue (add binary64 (of_int binary64 (pos c.truncating_f64_to_u64-w.result)) (of_bits binary64 0x3fe0_0000_0000_0000)) false (2 * w + 1) 2) c.truncating_f64_to_u64-w.ensures
    (half-sum c.truncating_f64_to_u64-w.result (small c))

pub returns-then-p-w : goal.returns-then-p-w
returns-then-p-w c =
    let b = (goal.at.returns-then-p-w c).After-truncating_f64_to_u64-w in
    let p = c.args.p in
    subst (λ (w : ℕ). w + 1 ≡ nearest p) (sym c.truncating_f64_to_u64-w.ensures)
    (taken-up p (add binary64 (of_int binary64 (pos c.truncating_f64_to_u64-w.result)) (of_bits binary64 0x3fe0_0000_0000_0000)) (bounded b) (sum b) (subst T (sym c.if-p-w.true) tt))

pub returns-else-p-w : goal.returns-else-p-w
returns-else-p-w c =
    let b = (goal.at.returns-else-p-w c).After-truncating_f64_to_u64-w in
    let p = c.args.p in
    subst (λ (w : ℕ). w ≡ nearest p) (sym c.truncating_f64_to_u64-w.ensures)
    (left_down p (add binary64 (of_int binary64 (pos c.truncating_f64_to_u64-w.result)) (of_bits binary64 0x3fe0_0000_0000_0000)) (bounded b) (sum b) c.if-p-w.false)
