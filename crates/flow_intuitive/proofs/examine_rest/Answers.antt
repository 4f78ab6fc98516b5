-- `flow_intuitive::examine_rest` meets its contract: rows 84 and 85. Assumes nothing.
use Rattle.std.proofs.Common.{◌≡◌, [], ◌∷◌, sym, ◌∙◌, arith, lt-ltb, le-ltb}
use Rattle.base_causes.specs.Meaning.Causes.{refusal, once, each}
use Rattle.base_causes.proofs.Promised.CauseLaws.{row-found, row-clear, field-fails, field-passes}
use Rattle.rules.specs.Meaning.Verdict.{◌under◌}
use Rattle.flow_pairs.specs.Meaning.Pairs.{pair_count, bad_pair}
use Rattle.flow_intuitive.specs.Steps.Answers.{rest_causes}
use Rattle.flow_intuitive.proofs.Steps.Answers.{pair-named, examined-refused}
use Rattle.flow_intuitive.proofs.examine_rest.Goals as goal
use Rattle.flow_intuitive.proofs.examine_rest.Goals.{In_default}

-- 84
pub overflow_cast-k : goal.overflow_cast-k
overflow_cast-k c = record { fits = omega (arith, pair-named c.args.zones c.args.pairs.now c.in-Some.k (sym c.in-Some.ensures)) }

pub returns-in-Some : goal.returns-in-Some
returns-in-Some c =
    let a = c.args in
    examined-refused c.refused.ensures (row-found (each 84 (pair_count a.pairs.now) (bad_pair a.zones a.pairs.now)) (once 85 (a.room under a.n) ∷ []) c.in-Some.k (sym c.in-Some.ensures))

past_pairs : (c : In_default) → refusal (rest_causes c.args.zones c.args.pairs.now c.args.n c.args.room) ≡ refusal (once 85 (c.args.room under c.args.n) ∷ [])
past_pairs c = row-clear (each 84 (pair_count c.args.pairs.now) (bad_pair c.args.zones c.args.pairs.now)) (once 85 (c.args.room under c.args.n) ∷ []) (sym c.in_default.ensures)

-- 85
pub returns-then-room-n : goal.returns-then-room-n
returns-then-room-n c =
    examined-refused c.refused-then-room-n.ensures (past_pairs (goal.at.returns-then-room-n c).In_default ∙ field-fails 85 0 [] (lt-ltb c.args.room c.args.n c.if-room-n.true))

pub returns : goal.returns
unfolding refusal
returns c = past_pairs (goal.at.returns c).In_default ∙ field-passes 85 0 [] (le-ltb c.args.room c.args.n c.if-room-n.false)
