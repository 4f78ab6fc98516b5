-- AN ORDER LEADS BACK TO ITSELF: by definition, some number of steps up ends where it began. Row 18 tests this
-- within as many steps as there are orders. Assumes nothing.
use Rattle.std.specs.Prelude.{◌≡◌, ◌↔◌}
use Rattle.std.proofs.Common.{sym, ap, subst, arith, eqb→eq}
use Rattle.std.proofs.Math.Option.{Option, none, some}
use Prim.Native.Nat.{ℕ, suc, ◌<◌}
use Rattle.std.proofs.Math.Dec.{T, eqb_refl}
use Rattle.base_integers.specs.Steps.Ranges.{is_true}
use Rattle.base_causes.proofs.Promised.CauseLaws.{any_some, any_place}
use Rattle.rules.specs.Meaning.Families.{ancestor, LeadsBack, is_order, leads_back}
use Rattle.family_list.specs.Meaning.Parents.{Exist}
use Rattle.family_list.proofs.Steps.Ancestors.{short}

module _ (parent : ℕ → Option ℕ) where
  is-order : (i : ℕ) (o : Option ℕ) → T (is_order i o) → o ≡ some i
  is-order i none t = absurd t
  is-order i (some j) t = ap some (eqb→eq j i t)

  -- WHERE EVERY PARENT EXISTS the test and the definition agree for each of the n orders
  pub leads-back : {n : ℕ} → Exist n parent → {i : ℕ} → i < n → T (leads_back n parent i) ↔ LeadsBack parent i
  unfolding leads_back
  leads-back {n} x {i} h = (from, to)
    where
      from : T (leads_back n parent i) → LeadsBack parent i
      from t = let w = any_place n (λ k. is_order i (ancestor parent (suc k) i)) t in
          record { steps = suc w.0; one-or-more = omega arith; back = is-order i (ancestor parent (suc w.0) i) w.2 }

      to : LeadsBack parent i → T (leads_back n parent i)
      to b = let w = short parent x h b in is_true (any_some n (λ k. is_order i (ancestor parent (suc k) i)) w.0 w.1 (subst (λ (o : Option ℕ). T (is_order i o)) (sym w.2) (eqb_refl i)))
