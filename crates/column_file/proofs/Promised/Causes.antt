-- The numbers of both tables in the order asked; a refusal is given for its own cause and no other and writes
-- nothing; no cause asked earlier holds. Assumes nothing.
use Rattle.std.specs.Prelude.{◌≡◌, List, [], ◌∷◌, ℕ, ◌<◌, length, get_or, T}
use Rattle.std.proofs.Math.Path.{refl, ap}
use Rattle.std.proofs.Math.Option.{Option, none, some}
use Rattle.std.proofs.Common.{arith}
use Rattle.base_causes.specs.declared.Outcome.{Outcome}
use Rattle.base_causes.proofs.Promised.Asked.{unnamed, ask, Asks}
use Rattle.base_causes.specs.Meaning.Causes.{verdict, refusal, answer}
use Rattle.base_causes.proofs.Promised.CauseLaws.{empty, CausedBy, answer-caused, Answered, answered, Soonest, soonest, lacks, zero-none}
use Rattle.base_output.specs.Meaning.Output.{written_by, output_after}
use Rattle.column_file.specs.Meaning.Columns.{columned_of, restored_of, columned_causes, restored_causes, columned_outcome, columned_written, columned_output, restored_outcome, restored_written, restored_output}

-- a refusal writes nothing and leaves every byte unchanged
unwritten : (o : Option Outcome) (bytes out : List ℕ) → 0 < (answer o).number → (length (written_by o bytes) ≡ 0) × (output_after (written_by o bytes) out ≡ out)
unwritten (some x) bytes out h = (refl, refl)
unwritten none bytes out h = absurd (omega arith)

-- COLUMNING
module _ (s : List ℕ) (room : ℕ) where
  -- 71 and 72, in this order, with index 0
  pub columned-order : Asks (columned_causes s room) (ask 71 unnamed ∷ ask 72 unnamed ∷ [])
  unfolding columned_causes
  columned-order = (refl, (λ k. refl, (refl, (λ k. refl, tt))))

  -- 0 if and only if every row passes, else the first row that fails
  pub columned-answers : Answered (columned_causes s room) (columned_outcome s room)
  unfolding columned_outcome columned_causes lacks
  columned-answers = answered (columned_causes s room) tt

  -- a refusal has a row of its number that fails, and nothing asked before fails
  pub columned-caused : 0 < (columned_outcome s room).number → CausedBy (columned_causes s room) (columned_outcome s room)
  unfolding columned_outcome
  columned-caused h = answer-caused (columned_causes s room) h

  -- a cause that holds is not asked before the outcome's
  pub columned-first : (j k : ℕ) → k < (get_or (columned_causes s room) j empty).places → T ((get_or (columned_causes s room) j empty).fails k) → Soonest (columned_causes s room) (columned_outcome s room) j k
  unfolding columned_outcome
  columned-first j k h f = soonest (columned_causes s room) j k h f

  -- the answer 0 is given where no row fails, has index 0, and writes the columned file
  pub columned-none : (columned_outcome s room).number ≡ 0 → refusal (columned_causes s room) ≡ none
  unfolding columned_outcome columned_causes lacks
  columned-none e = zero-none (columned_causes s room) tt e

  pub columned-answered : (columned_outcome s room).number ≡ 0 → columned_outcome s room ≡ verdict 0 0
  unfolding columned_outcome
  columned-answered e = ap answer (columned-none e)

  pub columned-writes : (columned_outcome s room).number ≡ 0 → columned_written s room ≡ columned_of s
  unfolding columned_written
  columned-writes e = ap (λ (o : Option Outcome). written_by o (columned_of s)) (columned-none e)

pub columned-unwritten : (s out : List ℕ) → 0 < (columned_outcome s (length out)).number → (length (columned_written s (length out)) ≡ 0) × (columned_output s out ≡ out)
unfolding columned_outcome columned_written columned_output
columned-unwritten s out h = unwritten (refusal (columned_causes s (length out))) (columned_of s) out h

-- THE WAY BACK
module _ (t : List ℕ) (room : ℕ) where
  pub restored-order : Asks (restored_causes t room) (ask 71 unnamed ∷ ask 72 unnamed ∷ [])
  unfolding restored_causes
  restored-order = (refl, (λ k. refl, (refl, (λ k. refl, tt))))

  pub restored-answers : Answered (restored_causes t room) (restored_outcome t room)
  unfolding restored_outcome restored_causes lacks
  restored-answers = answered (restored_causes t room) tt

  pub restored-caused : 0 < (restored_outcome t room).number → CausedBy (restored_causes t room) (restored_outcome t room)
  unfolding restored_outcome
  restored-caused h = answer-caused (restored_causes t room) h

  pub restored-first : (j k : ℕ) → k < (get_or (restored_causes t room) j empty).places → T ((get_or (restored_causes t room) j empty).fails k) → Soonest (restored_causes t room) (restored_outcome t room) j k
  unfolding restored_outcome
  restored-first j k h f = soonest (restored_causes t room) j k h f

  pub restored-none : (restored_outcome t room).number ≡ 0 → refusal (restored_causes t room) ≡ none
  unfolding restored_outcome restored_causes lacks
  restored-none e = zero-none (restored_causes t room) tt e

  pub restored-answered : (restored_outcome t room).number ≡ 0 → restored_outcome t room ≡ verdict 0 0
  unfolding restored_outcome
  restored-answered e = ap answer (restored-none e)

  pub restored-writes : (restored_outcome t room).number ≡ 0 → restored_written t room ≡ restored_of t
  unfolding restored_written
  restored-writes e = ap (λ (o : Option Outcome). written_by o (restored_of t)) (restored-none e)

pub restored-unwritten : (t out : List ℕ) → 0 < (restored_outcome t (length out)).number → (length (restored_written t (length out)) ≡ 0) × (restored_output t out ≡ out)
unfolding restored_outcome restored_written restored_output
restored-unwritten t out h = unwritten (refusal (restored_causes t (length out))) (restored_of t) out h
