-- Readable as a test, the mark, and the counts of a file: they stand before the orders, so the other arrangement
-- keeps them. Assumes nothing.
use Rattle.std.specs.Prelude.{◌≡◌, refl, Bool, true, false, not, ◌&&◌, List, ℕ, ◌+◌, ◌*◌, ◌≤◌, ◌<◌, T, eqb, get_or}
use Rattle.std.proofs.Common.{sym, ap, subst, ◌∙◌, arith, eqb→eq}
use Rattle.std.proofs.Math.Option.{Option, none, some}
use Rattle.base_causes.specs.declared.Outcome.{Outcome}
use Rattle.rules.specs.Meaning.Layout.{u8_at, u16_at, case_version, link_size, zones_in, branches_in, links_in, orders_in, branch_size, order_at, case_length}
use Rattle.rules.specs.Meaning.Verdict.{not_mark, case_refusal, Readable}
use Rattle.rules.proofs.Promised.PlainFacts.{case-facts}
use Rattle.column_file.specs.Meaning.Columns.{arranged, refuses, unreadable}
use Rattle.column_file.proofs.Steps.Transposed.{arranged-kept}

-- READABLE, as a test
pub readable_of : (s : List ℕ) → unreadable s ≡ false → Readable s
unfolding unreadable
readable_of s e = by (case_refusal s) refl e
  where
    by : (o : Option Outcome) → case_refusal s ≡ o → refuses o ≡ false → Readable s
    by (some o) q e = absurd (subst T e tt)
    by none q e = record { none-holds = q }

pub unreadable-of : (s : List ℕ) → Readable s → unreadable s ≡ false
unfolding unreadable
unreadable-of s r = ap refuses r.none-holds

-- THE MARK
both : (a b e : Bool) → T (not (not (a && b && e))) → T a × T b × T e
both true true true t = (tt, tt, tt)
both true true false t = absurd t
both true false e t = absurd t
both false b e t = absurd t

pub mark-is : (a b e : ℕ) (s : List ℕ) → T (not (not_mark a b e s)) → (get_or s 0 0 ≡ a) × (get_or s 1 0 ≡ b) × (get_or s 2 0 ≡ e)
unfolding not_mark u8_at
mark-is a b e s t =
    let w = both (eqb (get_or s 0 0) a) (eqb (get_or s 1 0) b) (eqb (get_or s 2 0) e) t in
    (eqb→eq (get_or s 0 0) a w.0, eqb→eq (get_or s 1 0) b w.1, eqb→eq (get_or s 2 0) e w.2)

pub readable-mark : (s : List ℕ) → Readable s → (get_or s 0 0 ≡ 76) × (get_or s 1 0 ≡ 84) × (get_or s 2 0 ≡ 67)
unfolding u8_at
readable-mark s r = let m = (case-facts s r).mark-is in (m.0, m.1.0, m.1.1)

-- WHERE THE ORDERS START: past the header
pub start-past : (s : List ℕ) → 14 ≤ order_at s 0
unfolding order_at
start-past s = omega arith

pub full-length : (s : List ℕ) → case_length s ≡ order_at s 0 + orders_in s * 10
unfolding order_at case_length
full-length s = omega arith

-- THE COUNTS STAY, in a file of any length
module _ (letter start rows columns : ℕ) (s : List ℕ) (h : 14 ≤ start) where
  kept : (k : ℕ) → 3 ≤ k → k < 14 → get_or (arranged letter start rows columns s) k 0 ≡ get_or s k 0
  kept k a b = arranged-kept letter start rows columns s k a (omega arith)

  pub orders-stay : orders_in (arranged letter start rows columns s) ≡ orders_in s
  unfolding orders_in u16_at
  orders-stay = λ j. kept 8 (omega arith) (omega arith) j + 256 * kept 9 (omega arith) (omega arith) j

  version-stays : case_version (arranged letter start rows columns s) ≡ case_version s
  unfolding case_version u16_at
  version-stays = λ j. kept 3 (omega arith) (omega arith) j + 256 * kept 4 (omega arith) (omega arith) j

  pub start-stays : order_at (arranged letter start rows columns s) 0 ≡ order_at s 0
  unfolding order_at zones_in branches_in links_in branch_size u8_at
  start-stays = λ j. 14 + kept 6 (omega arith) (omega arith) j * (4 + 4 * kept 5 (omega arith) (omega arith) j) + kept 7 (omega arith) (omega arith) j * link_size (version-stays j) + 0 * 10

  pub length-stays : case_length (arranged letter start rows columns s) ≡ case_length s
  length-stays = full-length (arranged letter start rows columns s) ∙ (λ j. start-stays j + orders-stay j * 10) ∙ sym (full-length s)
