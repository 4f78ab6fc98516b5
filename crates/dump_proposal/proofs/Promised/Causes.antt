-- The table's numbers in the order asked; a refusal is given for its own cause and no other and writes nothing; no
-- cause asked earlier holds. Assumes nothing.
use Rattle.std.specs.Prelude.{◌≡◌, List, [], ◌∷◌, ℕ, ◌<◌, length, get_or, T}
use Rattle.std.proofs.Math.Path.{refl, ap}
use Rattle.std.proofs.Math.Option.{Option, none, some}
use Rattle.std.proofs.Common.{arith}
use Rattle.base_causes.specs.declared.Outcome.{Outcome}
use Rattle.base_causes.proofs.Promised.Asked.{unnamed, at_offset, the-place, ask, Asks}
use Rattle.base_causes.specs.Meaning.Causes.{Cause, verdict, answer}
use Rattle.base_causes.proofs.Promised.CauseLaws.{empty, CausedBy, answer-caused, Answered, answered, Soonest, soonest, lacks, zero-none}
use Rattle.rules.specs.Meaning.Verdict.{case_refusal}
use Rattle.base_output.specs.Meaning.Output.{written_by, output_after}
use Rattle.dump_proposal.specs.Meaning.Dump.{number_in, dump_causes, dump_refusal, dump_outcome, proposal_bytes, dump_written, dump_output}

module _ (s d : List ℕ) (room : ℕ) where
  abbrev rows : List Cause
  rows = dump_causes s d room

  -- 56 to 60, in this order; the index of 56 is the number that refuses the case, 58 and 59 name the value
  pub dump-order : Asks rows (ask 56 (at_offset (number_in (case_refusal s))) ∷ ask 57 unnamed ∷ ask 58 the-place ∷ ask 59 the-place ∷ ask 60 unnamed ∷ [])
  unfolding dump_causes
  dump-order = (refl, (λ k. refl, (refl, (λ k. refl, (refl, (λ k. refl, (refl, (λ k. refl, (refl, (λ k. refl, tt))))))))))

  -- 0 if and only if every row passes at every place, else the first row that fails, at its first place
  pub dump-answers : Answered rows (dump_outcome s d room)
  unfolding dump_outcome dump_refusal dump_causes lacks
  dump-answers = answered rows tt

  -- a refusal has a row of its number that fails at its place, and nothing asked before fails
  pub dump-caused : 0 < (dump_outcome s d room).number → CausedBy rows (dump_outcome s d room)
  unfolding dump_outcome dump_refusal
  dump-caused h = answer-caused rows h

  -- if a cause holds, in row j at place k, it is not asked before the outcome's
  pub dump-first : (j k : ℕ) → k < (get_or rows j empty).places → T ((get_or rows j empty).fails k) → Soonest rows (dump_outcome s d room) j k
  unfolding dump_outcome dump_refusal
  dump-first j k h f = soonest rows j k h f

  -- the answer 0 has index 0, is given where no row fails, and writes the proposal
  pub dump-none : (dump_outcome s d room).number ≡ 0 → dump_refusal s d room ≡ none
  unfolding dump_outcome dump_refusal dump_causes lacks
  dump-none e = zero-none rows tt e

  pub dump-answered : (dump_outcome s d room).number ≡ 0 → dump_outcome s d room ≡ verdict 0 0
  unfolding dump_outcome
  dump-answered e = ap answer (dump-none e)

  pub dump-writes : (dump_outcome s d room).number ≡ 0 → dump_written s d room ≡ proposal_bytes s d
  unfolding dump_written
  dump-writes e = ap (λ (o : Option Outcome). written_by o (proposal_bytes s d)) (dump-none e)

-- a refusal leaves every byte unchanged
pub dump-refused : (s d out : List ℕ) → 0 < (dump_outcome s d (length out)).number → (length (dump_written s d (length out)) ≡ 0) × (dump_output s d out ≡ out)
unfolding dump_outcome dump_written dump_output
dump-refused s d out h = by (dump_refusal s d (length out)) h
  where
    by : (o : Option Outcome) → 0 < (answer o).number → (length (written_by o (proposal_bytes s d)) ≡ 0) × (output_after (written_by o (proposal_bytes s d)) out ≡ out)
    by (some x) h = (refl, refl)
    by none h = absurd (omega arith)
