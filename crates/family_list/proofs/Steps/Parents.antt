-- THE PARENTS, copied from a family list into an array while row 17 is asked; no walk has visited them yet.
-- Assumes nothing.
use Rattle.std.specs.Prelude.{◌≡◌, Bool, true, false, cond, List, ℕ, ◌+◌, ◌≤◌, ◌<◌, eqb, length, set, unwrap_or}
use Rattle.std.proofs.Common.{sym, ◌∙◌, arith, ne_eqb, length-set}
use Rattle.std.proofs.Math.Path.{ap}
use Rattle.std.specs.declared.option.Option as code
use Rattle.std.specs.declared.option.Option.TheVariants.{None, Some}
use Rattle.std.proofs.Math.Option.{none, some, none-ne-some, some-injective}
use Rattle.std.proofs.Math.Decide.{ℕ_discrete}
use Rattle.base_causes.proofs.Promised.CauseLaws.{no_less}
use Rattle.base_causes.specs.Meaning.Place.{place_of}
use Rattle.rules.specs.Meaning.Families.{no_parent, named, parent_in, parent_of}
use Rattle.family_list.specs.Meaning.Parents.{Exist}
use Rattle.family_list.proofs.Steps.Ancestors.{has-parent}
use Rattle.family_list.specs.Steps.Walk.{held, SearchSoFar}
use Rattle.family_list.proofs.Steps.Walk.{put-set}
use Rattle.family_list.specs.Steps.Parents.{ParentsTaken, Search}

-- A NUMBER AS AN ORDER
named_some : (v j : ℕ) → named v ≡ some j → v ≡ j
named_some v j e = by (eqb v no_parent) e
  where
    by : (b : Bool) → cond b none (some v) ≡ some j → v ≡ j
    by true e = absurd (none-ne-some j e)
    by false e = some-injective v j e

named-order : (v : ℕ) → v < no_parent → named v ≡ some v
named-order v h = ap (λ (b : Bool). cond b none (some v)) (ne_eqb v no_parent (λ e. omega arith))

-- the number of an order is its parent's, if it has one
pub parent_is : (f : List ℕ) (j k : ℕ) → parent_of f j ≡ some k → parent_in f j ≡ k
unfolding parent_of
parent_is f j k e = named_some (parent_in f j) k e

-- what the code answers of it
pub parent-found : (o : code.Option ℕ) {k : ℕ} → place_of o ≡ some k → o ≡ Some k
parent-found (Some j) e = ap Some (some-injective _ _ e)
parent-found None e = absurd (none-ne-some _ e)

pub parent-or : (o : code.Option ℕ) {k : ℕ} (d : ℕ) → place_of o ≡ some k → unwrap_or o d ≡ k
parent-or o d e = ap (λ (x : code.Option ℕ). unwrap_or x d) (parent-found o e)

-- a turn of the loop that copies them
pub take_none : (f up : List ℕ) → length up ≡ 512 → ParentsTaken f 0 up
take_none f up l = record { long = l; entries = λ j h. absurd (no_less j h) }

pub take_more : (f up : List ℕ) (n x : ℕ) → n < 512 → ParentsTaken f n up → x ≡ parent_in f n → ParentsTaken f (n + 1) (set up n x)
take_more f up n x h t e =
    let p = put-set up n x (omega (arith, t.long)) in
    record {
      long = length-set up n x ∙ t.long;
      entries = λ j l. elim (ℕ_discrete j n) [ yes q ↦ ap (held (set up n x)) q ∙ p.here ∙ e ∙ ap (parent_in f) (sym q) | no d ↦ p.others j d ∙ t.entries j (omega arith) ];
    }

-- BEFORE THE FIRST WALK
module _ (f : List ℕ) (n : ℕ) (few : n ≤ 512) (x : Exist n (parent_of f)) (up : List ℕ) (t : ParentsTaken f n up) where
  is-parent : (j : ℕ) → j < n → held up j < no_parent → parent_of f j ≡ some (held up j)
  unfolding parent_of
  is-parent j h l = ap named (sym (t.entries j h)) ∙ named-order (held up j) l

  is_held : (j k : ℕ) → j < n → parent_of f j ≡ some k → held up j ≡ k
  is_held j k h e = t.entries j h ∙ parent_is f j k e

  none_found : SearchSoFar (parent_of f) n 0 n (held up)
  none_found = record {
    walked = record {
      holds-parent = λ j h l. is-parent j h (omega arith);
      closed = λ j k h g e. absurd (omega (arith, is_held j k h e, x.exists j k h e));
      before = λ j h l. absurd (omega arith);
      ahead = λ j k h l m e. omega (arith, x.exists j (held up j) h (is-parent j h (omega arith)));
    };
    first-in = omega arith;
    back = λ l. absurd (omega arith);
    none-less = λ j h g b. let p = has-parent (parent_of f) b in absurd (omega (arith, is_held j p.0 h p.1, x.exists j p.0 h p.1));
  }

  pub none-walked : Search f n 0 n up
  none-walked = record { long = t.long; found = none_found }
