-- `dump_binary64::whole_part` meets its contract: the rounded value is the cut or one more, and the test says which.
use Rattle.std.proofs.Common.{◌≡◌, ◌^◌, ◌<◌, T, ◌∙◌, sym, subst, arith, le→leb}
use Rattle.std.specs.Prelude.{Float}
use Rattle.std.specs.Float.{binary64}
use Rattle.std.specs.Float.Ieee.{add, sub, in_float, in_unsigned, to_unsigned, of_bits}
use Rattle.std.specs.Float.Ieee.Back.{unsigned_back}
use Rattle.base_integers.specs.Steps.Ranges.{is_true}
use Rattle.dump_binary64.specs.Meaning.Value.{cut}
use Rattle.dump_binary64.proofs.Steps.Whole.{ranged-finite}
use Rattle.dump_binary64.proofs.Steps.WholePart.{NextTo, wholes-bits, rounded-whole, not-above, above-it}
use Rattle.dump_binary64.proofs.whole_part.Goals as goal
use Rattle.dump_binary64.proofs.whole_part.Goals.{Start}

-- the rounded value of the code
abbrev rounded : Float → Float
rounded p = sub binary64 (add binary64 p (of_bits binary64 0x4330_0000_0000_0000)) (of_bits binary64 0x4330_0000_0000_0000)

few : (c : Start) → cut c.args.p < 2 ^ 32
few c = omega arith

next : (c : Start) → NextTo (cut c.args.p) (rounded c.args.p)
next c =
    let p = c.args.p in
    subst (λ (z : Float). NextTo (cut p) (sub binary64 (add binary64 p z) z)) (sym wholes-bits) (rounded-whole p c.requires.t (is_true (ranged-finite p c.requires.ranged)) (few c))

-- and cast
back : (c : Start) → T (in_unsigned binary64 32 (rounded c.args.p)) × (to_unsigned 32 (rounded c.args.p) ≡ (next c).whole)
unfolding in_float
back c =
    let n = next c in
    subst (λ (z : Float). T (in_unsigned binary64 32 z) × (to_unsigned 32 z ≡ n.whole)) (sym n.is)
    (unsigned_back binary64 32 n.whole (le→leb n.whole (2 ^ 53) (omega (arith, n.upper))) (omega (arith, n.upper)))

pub float_to_int-whole : goal.float_to_int-whole
float_to_int-whole c = (back (goal.at.float_to_int-whole c).Start).0

pub overflow_sub-result : goal.overflow_sub-result
overflow_sub-result c =
    let s = (goal.at.overflow_sub-result c).Start in
    omega (arith, (back s).1, above-it c.args.p (rounded c.args.p) c.requires.t c.requires.ranged (few s) (next s) c.if-nearest-p.false)

pub returns-then-nearest-p : goal.returns-then-nearest-p
returns-then-nearest-p c =
    let s = (goal.at.returns-then-nearest-p c).Start in
    (back s).1 ∙ not-above c.args.p (rounded c.args.p) c.requires.t c.requires.ranged (few s) (next s) c.if-nearest-p.true

pub returns-else-nearest-p : goal.returns-else-nearest-p
returns-else-nearest-p c =
    let s = (goal.at.returns-else-nearest-p c).Start in
    omega (arith, (back s).1, above-it c.args.p (rounded c.args.p) c.requires.t c.requires.ranged (few s) (next s) c.if-nearest-p.false)
