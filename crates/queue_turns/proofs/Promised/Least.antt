-- THE BOUNDS ARE TIGHT: one run after which an area waits for its fourth serve, and one after which an hour waits
-- for its hundredth; and 25 hours do wait in an area. The runs are literal, and computed. Assumes nothing.
use Rattle.std.specs.Prelude.{◌≡◌, refl, Bool, false, ◌&&◌, ◌||◌, List, [], ◌∷◌, ◌++◌, ℕ, zero, suc, ◌<◌, T, eqb, length, get_or, replicate}
use Rattle.std.proofs.Common.{sym, subst, arith}
use Rattle.std.proofs.Math.Option.{Option, none, some}
use Rattle.base_integers.specs.Steps.Ranges.{or_left, or_right}
use Rattle.base_causes.specs.Meaning.Causes.{refusal, first_below}
use Rattle.queue_turns.specs.Meaning.Queue.{empty, among, Pair, pair, post_causes, post_number, after_post, in_turn, first_waiting, next, after_serve}
use Rattle.queue_turns.specs.Meaning.Runs.{Event, post, serve, step, after, servings, ServedWithin, AreaServedWithin}

-- posts of an area, hours 0 to n - 1
unfoldable pub posts : ℕ → ℕ → List Event
posts a zero = []
posts a (suc n) = posts a n ++ (post a n ∷ [])

-- n hours of each area; and all hours of a long day except the last hour of the last area
abbrev pub hours_of_each : ℕ → List Event
hours_of_each n = posts 0 n ++ posts 1 n ++ posts 2 n ++ posts 3 n

abbrev pub all_but_one : List Event
all_but_one = posts 0 25 ++ posts 1 25 ++ posts 2 25 ++ posts 3 24

-- whether one of the first n serves passes a test
unfoldable any_served : ℕ → (Option Pair → Bool) → List (Option Pair) → Bool
any_served zero f l = false
any_served (suc n) f [] = false
any_served (suc n) f (s ∷ l) = f s || any_served n f l

any-served : (n k : ℕ) (f : Option Pair → Bool) (l : List (Option Pair)) → k < n → f none ≡ false → T (f (get_or l k none)) → T (any_served n f l)
unfolding any_served
any-served zero k f l h e t = absurd (none_below h)
  where
    none_below : k < 0 → ⊥
    none_below x = omega arith
any-served (suc n) k f [] h e t = absurd (subst (λ (b : Bool). T b) e t)
any-served (suc n) zero f (s ∷ l) h e t = or_left (f s) (any_served n f l) t
any-served (suc n) (suc k) f (s ∷ l) h e t = or_right (f s) (any_served n f l) (any-served n k f l (omega arith) e t)

-- FOUR SERVES ARE NEEDED: if each area has an hour waiting, none of the first three serves area 3
of_area3 : Option Pair → Bool
of_area3 none = false
of_area3 (some p) = eqb p.area 3

pub area-waits : 0 < length ((after (hours_of_each 1) empty).waiting 3)
unfolding posts after step after_post post_causes refusal first_below among
area-waits = omega arith

pub area-needs-four : (n : ℕ) → n < 4 → AreaServedWithin n 3 (replicate 4 serve) (after (hours_of_each 1) empty) → ⊥
unfolding of_area3 any_served posts after step after_post post_causes refusal first_below among servings next in_turn first_waiting after_serve
area-needs-four n l w =
    let s = w.served in
    any-served 3 s.place of_area3 (servings (replicate 4 serve) (after (hours_of_each 1) empty)) (omega (arith, s.within)) refl
    (subst (λ (o : Option Pair). T (of_area3 o)) (sym s.serving) tt)

-- ONE HUNDRED ARE NEEDED: all 99 other hours wait, hour 24 of area 3 is posted, and none of the first 99 serves it
last_hour : Option Pair → Bool
last_hour none = false
last_hour (some p) = eqb p.area 3 && eqb p.hour 24

pub hour-taken : post_number 3 24 (after all_but_one empty) ≡ 0
unfolding post_number posts after step after_post post_causes refusal first_below among
hour-taken = refl

pub hour-needs-hundred : (n : ℕ) → n < 100 → ServedWithin n (pair 3 24) (replicate 100 serve) (step (post 3 24) (after all_but_one empty)) → ⊥
unfolding last_hour any_served posts after step after_post post_causes refusal first_below among servings next in_turn first_waiting after_serve
hour-needs-hundred n l s =
    any-served 99 s.place last_hour (servings (replicate 100 serve) (step (post 3 24) (after all_but_one empty))) (omega (arith, s.within)) refl
    (subst (λ (o : Option Pair). T (last_hour o)) (sym s.serving) tt)

-- 25 HOURS WAIT: all of a long day in each area
pub twenty-five-wait : (length ((after (hours_of_each 25) empty).waiting 0) ≡ 25) × (length ((after (hours_of_each 25) empty).waiting 3) ≡ 25)
unfolding posts after step after_post post_causes refusal first_below among
twenty-five-wait = (refl, refl)
