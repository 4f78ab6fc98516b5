-- THE PARENTS, copied from a family list into an array while row 17 is asked; no walk has visited them yet.
-- Assumes nothing.
use Rattle.std.specs.Prelude.{◌≡◌, List, ℕ, ◌<◌, length}
use Rattle.rules.specs.Meaning.Families.{parent_in, parent_of}
use Rattle.family_list.specs.Steps.Walk.{held, SearchSoFar}

-- the first n entries, of 512
pub record ParentsTaken (f : List ℕ) (n : ℕ) (up : List ℕ) : Type 0 where
  pub long : length up ≡ 512
  pub entries : (j : ℕ) → j < n → held up j ≡ parent_in f j

-- THE SEARCH OVER THEM, at order i
pub record Search (f : List ℕ) (n i first : ℕ) (up : List ℕ) : Type 0 where
  pub long : length up ≡ 512
  pub found : SearchSoFar (parent_of f) n i first (held up)
