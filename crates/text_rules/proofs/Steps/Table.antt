-- A table and its rule: one test, computed over the whole table, and the law that turns it into the rule at each
-- index. Assumes nothing.
use Rattle.std.specs.Prelude.{◌≡◌, Bool, true, false, List, [], ◌∷◌, ℕ, zero, suc, ◌+◌, ◌<◌, T, eqb, length, get_or}
use Rattle.std.proofs.Common.{ap, ◌∙◌, arith, eqb→eq}

abbrev both : Bool → Bool → Bool
both true b = b
both false b = false

both_left : (a b : Bool) → T (both a b) → T a
both_left true b t = tt
both_left false b t = t

both_right : (a b : Bool) → T (both a b) → T b
both_right true b t = t
both_right false b t = absurd t

-- THE TEST: each entry is the rule's value at its index; the first entry has the index i
abbrev pub follows : (ℕ → ℕ) → ℕ → List ℕ → Bool
follows rule i [] = true
follows rule i (x ∷ xs) = both (eqb x (rule i)) (follows rule (suc i) xs)

from : (rule : ℕ → ℕ) (i : ℕ) (xs : List ℕ) → T (follows rule i xs) → (k : ℕ) → k < length xs → get_or xs k 0 ≡ rule (i + k)
from rule i [] t k h = absurd (omega arith)
from rule i (x ∷ xs) t zero h =
    let here : i ≡ i + 0 = omega arith in
    eqb→eq x (rule i) (both_left (eqb x (rule i)) (follows rule (suc i) xs) t) ∙ ap rule here
from rule i (x ∷ xs) t (suc k) h =
    let later : suc i + k ≡ i + suc k = omega arith in
    from rule (suc i) xs (both_right (eqb x (rule i)) (follows rule (suc i) xs) t) k (omega arith) ∙ ap rule later

-- THE RULE at each index of a table that passes
pub entry : (rule : ℕ → ℕ) (xs : List ℕ) → T (follows rule 0 xs) → (k : ℕ) → k < length xs → get_or xs k 0 ≡ rule k
entry rule xs t k h =
    let first : 0 + k ≡ k = omega arith in
    from rule 0 xs t k h ∙ ap rule first
