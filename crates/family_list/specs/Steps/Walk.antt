-- How the orders that lead back to themselves are found: a walk up from each order in turn, over orders that no
-- walk has visited. Entry i is the parent of order i until walk w visits i, then 512 + w. Laws over plain
-- variables. Assumes nothing.
use Rattle.std.specs.Prelude.{◌≡◌, ◌⊎◌, List, get_or}
use Rattle.std.proofs.Math.Option.{Option, some}
use Prim.Native.Nat.{ℕ, ◌+◌, ◌≤◌, ◌<◌}
use Rattle.rules.specs.Meaning.Families.{ancestor, LeadsBack}

abbrev pub held : List ℕ → ℕ → ℕ
held up j = get_or up j 0

-- AN ORDER LEADS TO ANOTHER, in one step or more
pub record LeadsTo (parent : ℕ → Option ℕ) (j k : ℕ) : Type 0 where
  pub steps : ℕ
  pub one-or-more : 1 ≤ steps
  pub there : ancestor parent steps j ≡ some k

module _ (parent : ℕ → Option ℕ) (n : ℕ) where
  -- BEFORE WALK i: the walks have visited every earlier order, and every order that a visited order leads to
  pub record Walked (i : ℕ) (v : ℕ → ℕ) : Type 0 where
    pub holds-parent : (j : ℕ) → j < n → v j < n → parent j ≡ some (v j)
    pub closed : (j k : ℕ) → j < n → n ≤ v j → parent j ≡ some k → n ≤ v k
    pub before : (j : ℕ) → j < n → j < i → n ≤ v j
    pub ahead : (j k : ℕ) → j < n → i ≤ k → k < 512 → v j ≡ 512 + k → ⊥

  -- IN WALK i, which has come to the order tip: an entry is unchanged, or the walk has visited it and it leads to
  -- tip
  pub data Now (i : ℕ) (u : ℕ → ℕ) (tip : ℕ) (v : ℕ → ℕ) (j : ℕ) : Type 0 where
    as_before : v j ≡ u j → Now i u tip v j
    been-at : v j ≡ 512 + i → u j < n → LeadsTo parent j tip → Now i u tip v j

  pub record Walking (i : ℕ) (u : ℕ → ℕ) (tip : ℕ) (v : ℕ → ℕ) : Type 0 where
    pub holds-parent : (j : ℕ) → j < n → v j < n → parent j ≡ some (v j)
    pub closed : (j k : ℕ) → j < n → n ≤ v j → parent j ≡ some k → (n ≤ v k) ⊎ (k ≡ tip)
    pub each : (j : ℕ) → j < n → Now i u tip v j
    pub start : (i ≡ tip) ⊎ (n ≤ v i)

-- THE SEARCH SO FAR: no visited order before `first` leads back to itself, and `first` does, if it is an order
pub record SearchSoFar (parent : ℕ → Option ℕ) (n i first : ℕ) (v : ℕ → ℕ) : Type 0 where
  pub walked : Walked parent n i v
  pub first-in : first ≤ n
  pub back : first < n → LeadsBack parent first
  pub none-less : (j : ℕ) → j < n → n ≤ v j → LeadsBack parent j → first ≤ j

-- A WALK THAT HAS ENDED
pub record Trail (n i : ℕ) (u : ℕ → ℕ) (tip : ℕ) (v : ℕ → ℕ) : Type 0 where
  pub tip-in : tip < n
  pub ended : n ≤ v tip
  pub walking : (parent : ℕ → Option ℕ) → Walked parent n i u → Walking parent n i u tip v
