-- FAMILIES (S-11): the list of parents that may come with a case, as bytes. Its rows ask whether a parent does not
-- exist, whether an order leads back to itself, and whether a child is accepted in a larger fraction than its
-- parent. Every test has a value on any bytes; it counts only where the rows before it passed. Assumes nothing.
use Rattle.std.specs.Prelude.{◌≡◌, Bool, false, cond, List, ℕ, zero, suc, ◌+◌, ◌*◌, ◌≤◌, ◌<◌, eqb, leb}
use Rattle.std.proofs.Math.Option.{Option, none, some}
use Rattle.base_causes.specs.Meaning.Causes.{any_below}
use Rattle.rules.specs.Meaning.Layout.{u16_at}
use Rattle.rules.specs.Meaning.Hour.{Case, Plan, AtMost}

-- FAMILY LIST, header of 5 bytes: mark LTF (3 bytes), version; then 16 bits per order, 65,535 for no parent
abbrev pub family_header : ℕ
family_header = 5

abbrev pub no_parent : ℕ
no_parent = 65535

unfoldable pub family_version : List ℕ → ℕ
family_version f = u16_at f 3

unfoldable pub parent_in : List ℕ → ℕ → ℕ
parent_in f i = u16_at f (family_header + 2 * i)

-- the length of a list for this many orders
unfoldable pub family_length : ℕ → ℕ
family_length orders = family_header + 2 * orders

-- the parent that order i names, if it names one
abbrev pub named : ℕ → Option ℕ
named v = cond (eqb v no_parent) none (some v)

unfoldable pub parent_of : List ℕ → ℕ → Option ℕ
parent_of f i = named (parent_in f i)

-- A PARENT DOES NOT EXIST: its number is not below the count of orders
abbrev pub missing : ℕ → Option ℕ → Bool
missing orders none = false
missing orders (some j) = leb orders j

-- STEPS UP: the order that k steps lead to from order i, each step to the parent
abbrev pub onward : (ℕ → Option ℕ) → Option ℕ → Option ℕ
onward parent none = none
onward parent (some j) = parent j

unfoldable pub ancestor : (ℕ → Option ℕ) → ℕ → ℕ → Option ℕ
ancestor parent zero i = some i
ancestor parent (suc steps) i = onward parent (ancestor parent steps i)

-- AN ORDER LEADS BACK TO ITSELF: one or more steps up from it end at the order itself
pub record LeadsBack (parent : ℕ → Option ℕ) (i : ℕ) : Type 0 where
  pub steps : ℕ
  pub one-or-more : 1 ≤ steps
  pub back : ancestor parent steps i ≡ some i

-- the same as a test: within as many steps as there are orders. Where every parent exists the two agree
-- (`Circle.leads-back` of `family_list`).
abbrev pub is_order : ℕ → Option ℕ → Bool
is_order i none = false
is_order i (some j) = eqb j i

unfoldable pub leads_back : ℕ → (ℕ → Option ℕ) → ℕ → Bool
leads_back orders parent i = any_below orders (λ k. is_order i (ancestor parent (suc k) i))

-- THE FRACTION in which an order is accepted: its volume over its quantity, which is positive. Two fractions are
-- compared after multiplying both by both quantities.
pub record Fraction : Type 0 where
  pub part : ℕ
  pub whole : ℕ

abbrev pub accepted : Case → Plan → ℕ → Fraction
accepted c p i = record { part = p.volume i; whole = c.quantity i }

abbrev pub fraction_rule : Fraction → Fraction → AtMost ℕ
fraction_rule a b = record { amount = a.part * b.whole; room = b.part * a.whole }
