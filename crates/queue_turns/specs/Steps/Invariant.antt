-- THE INVARIANT of the queue: an area's waiting hours are from 0 to 24 and differ. So there are at most 25 of them,
-- and a post that is not refused always finds room. Assumes nothing.
use Rattle.std.specs.Prelude.{◌≡◌, refl, Bool, true, false, cond, ◌||◌, ◌⊎◌, ℕ, zero, suc, ◌+◌, ◌%◌, ◌≤◌, ◌<◌, eqb, length}
use Rattle.std.proofs.Common.{sym, ◌∙◌, subst, true≢false, inl, inr, ⊎_elim, arith, eq-eqb, ne_eqb, lt-ltb, le-ltb, length-append}
use Rattle.std.proofs.Math.Path.{ap}
use mathlib.Core.List.{List, [], ◌∷◌, ◌++◌, tail}
use Rattle.std.proofs.Math.Option.{Option, none, some, none-ne-some, some-injective}
use Rattle.std.proofs.Math.Decide.{dec_lt}
use Rattle.std.proofs.lemmas.Bool.{eqb-false}
use Rattle.base_integers.specs.Meaning.NaturalSums.{sum_nat, only}
use Rattle.base_integers.specs.Steps.NaturalSums.{sum-zero, sum_one, sum_bound, only-le}
use Rattle.base_causes.specs.declared.Outcome.{Outcome}
use Rattle.base_causes.specs.Meaning.Causes.{verdict, refusal, answer}
use Rattle.base_causes.proofs.Promised.CauseLaws.{field-passes, field-fails}
use Rattle.queue_turns.specs.Meaning.Queue.{Queue, empty, among, put, post_causes, post_number, taken, taken_unless, after_post, Pair, pair, in_turn, first_waiting, earliest_else, next, is_none, serve_causes, ServeAnswer, pair_else, answer_with, serve_answer, without, after_serve}
use Rattle.queue_turns.specs.Meaning.Runs.{Event, post, serve, step, after}

-- hours from 0 to 24, none twice
pub data Hours : List ℕ → Type 0 where
  nothing : Hours []
  also : {h : ℕ} {hours : List ℕ} → h ≤ 24 → among h hours ≡ false → Hours hours → Hours (h ∷ hours)
