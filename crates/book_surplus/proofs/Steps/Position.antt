-- The first place of a list at which a test holds, as `position` answers it. Assumes nothing.
use Rattle.std.specs.Prelude.{◌≡◌, Bool, cond, List, length, get_or, Some, None}
use Rattle.std.specs.List.{position, position_or_len}
use Rattle.std.proofs.Common.{ap, sym, ◌∙◌, arith, lt-ltb, le-ltb}
use Rattle.std.proofs.Math.Decide.{dec_lt}
use Rattle.std.proofs.lemmas.List.Sums.{fails_before_first, passes_at_first}
use Rattle.base_integers.specs.Steps.Ranges.{is_true, is_false}
use Rattle.base_causes.specs.Meaning.Causes.{first_below}
use Rattle.base_causes.specs.Meaning.Place.{place_of}
use Rattle.base_causes.proofs.Promised.CauseLaws.{first_some, first-none}

pub place_of_position : {X : Type 0} (p : X → Bool) (d : X) (xs : List X) → place_of (position p xs) ≡ first_below (length xs) (λ z. p (get_or xs z d))
place_of_position p d xs = let m = position_or_len p xs in
    elim (dec_lt m (length xs)) [
      | yes h ↦ ap (λ (b : Bool). place_of (cond b (Some m) None)) (lt-ltb m (length xs) h)
          ∙ sym (first_some (length xs) _ m (record { place_in = h; holds = is_true (passes_at_first p xs d h); none_before = λ i l. is_false (fails_before_first p xs i d l) }))
      | no g ↦ ap (λ (b : Bool). place_of (cond b (Some m) None)) (le-ltb m (length xs) (omega arith))
          ∙ sym (first-none (length xs) _ (λ i l. is_false (fails_before_first p xs i d (omega arith))))
    ]
