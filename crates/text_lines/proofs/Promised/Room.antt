-- The text for any input fits the room that the desk gives it. Assumes nothing.
use Rattle.std.specs.Prelude.{◌≡◌, refl, Bool, true, false, cond, List, [], ◌∷◌, ◌++◌, ℕ, zero, suc, ◌+◌, ◌*◌, ◌≤◌, ◌<◌, length, T, ltb, ℤ}
use Rattle.std.proofs.Common.{sym, subst, ◌∙◌, arith, length-append, ltb→lt, SFits}
use Rattle.std.proofs.Math.Option.{Option, none, some, none-ne-some, some-injective}
use Rattle.std.specs.Int.{w64}
use Rattle.text_rules.specs.Meaning.Ascii.{ascii}
use Rattle.text_rules.proofs.Promised.Sizes.{count-at-most, amount-at-most}
use Rattle.rules.specs.Meaning.Layout.{branches_in, links_in, branch_size, case_length, proposal_length, report_room}
use Rattle.rules.specs.Meaning.Hour.{case_of, plan_of, prices_of, zone_price}
use Rattle.base_causes.specs.declared.Outcome.{Outcome}
use Rattle.base_causes.specs.Meaning.Causes.{Cause, verdict, first_below, first_field, cause_else, refusal, answer}
use Rattle.base_causes.proofs.Promised.CauseLaws.{first-is, field_below, else-refusal, refusal-append, numbers_below, number-below}
use Rattle.base_causes.proofs.Promised.Asked.{asks, name_places, index_below}
use Rattle.rules.proofs.Promised.Causes.{asked, from}
use Rattle.rules.proofs.Promised.RefusedField.{Part, Adjacent, field-inside, branch_part, link_part, order_part, shadow_part, branches-adjacent, links-adjacent, orders-adjacent, shadows-adjacent}
use Rattle.rules.specs.Meaning.Verdict.{header_refusal, case_body_causes, proposal_causes, clearing_causes, judgement_causes, outcome}
use Rattle.rules.specs.Meaning.Report.{Totals, totals_of, reports}
use Rattle.rules.proofs.Steps.Passed.{sound, case-sound}
use Rattle.rules.proofs.Promised.Fits.{fits}
use Rattle.case_header.specs.Meaning.Answer.{counts_of}
use Rattle.case_header.specs.Meaning.CaseReadable.{CountsInRange}
use Rattle.case_header.specs.Steps.CaseReadable.{branches-bound, links-bound}
use Rattle.rules.specs.Meaning.Cut.{case_part, proposal_part}
use Rattle.text_lines.proofs.Steps.Header.{header_causes, later_causes, outcome-by-header, counted}
use Rattle.rules.specs.Meaning.Lines.{verdict_line, total_line, total_lines, price_line, price_lines, hour_lines, lines_of, hour_text, desk_text}
use Rattle.text_lines.specs.Meaning.Printed.{desk_room}

-- AN OUTCOME's number has at most three digits, and its index at most five: an offset in a file (S-2) is below
-- 100,000, and in a case of version 2 (S-4) it can be above 10,000
pub record Short (o : Outcome) : Type 0 where
  pub number_in : o.number < 1000
  pub index_in : o.index < 100000

-- each of these rows refuses with such an outcome
unfoldable ShortRows : List Cause → Type 0
ShortRows [] = Unit {0}
ShortRows (r ∷ rs) = ((k : ℕ) → k < r.places → Short (verdict r.number (r.index k))) × ShortRows rs

short-refusal : (rs : List Cause) → ShortRows rs → (o : Outcome) → refusal rs ≡ some o → Short o
unfolding refusal ShortRows
short-refusal [] h o e = absurd (none-ne-some o e)
short-refusal (r ∷ rs) h o e = by (first_below r.places r.fails) refl (short-refusal rs h.1 o) e
  where
    by : (x : Option ℕ) → first_below r.places r.fails ≡ x → (refusal rs ≡ some o → Short o) → cause_else r x (refusal rs) ≡ some o → Short o
    by (some k) q ih e = subst (λ (y : Outcome). Short y) (some-injective (verdict r.number (r.index k)) o e) (h.0 k (first-is r.places r.fails k q).place_in)
    by none q ih e = ih e

-- a row tested once has a fixed index, and a row tested at fields an offset
fixed : (n i : ℕ) → T (ltb n 1000) → T (ltb i 100000) → (k : ℕ) → k < 1 → Short (verdict n i)
fixed n i h l k m = record { number_in = ltb→lt n 1000 h; index_in = ltb→lt i 100000 l }

at_offset : (n places : ℕ) (offset : ℕ → ℕ) → T (ltb n 1000) → ((k : ℕ) → k < places → offset k < 100000) → (k : ℕ) → k < places → Short (verdict n (offset k))
at_offset n places offset h l k m = record { number_in = ltb→lt n 1000 h; index_in = l k m }

-- a field within a file of so few bytes
module _ (s : List ℕ) (n : CountsInRange (counts_of s)) where
  case-bytes : case_length s < 100000
  unfolding case_length branch_size
  case-bytes = omega (arith, branches-bound (counts_of s) n (branches_in s) (omega arith), links-bound (counts_of s) n (links_in s) (omega arith), n.orders-in)

  proposal-bytes : proposal_length s < 100000
  unfolding proposal_length
  proposal-bytes = omega (arith, n.branches-in, n.links-in, n.orders-in)

in-file : (part : Part) {size : ℕ} → Adjacent part size → size < 100000 → (i : ℕ) → i < part.rows → part.offset i (first_field part.fields (part.fault i)) < 100000
in-file part a h i l = omega (arith, field-inside part a i (first_field part.fields (part.fault i)) l (field_below part.fields (part.fault i) a.some-field))

header-short : (s : List ℕ) → ShortRows (header_causes s)
unfolding ShortRows
header-short s = (fixed 1 0 tt tt, (fixed 2 0 tt tt, (fixed 3 0 tt tt, (fixed 4 5 tt tt, (fixed 4 6 tt tt, (fixed 4 7 tt tt, (fixed 4 8 tt tt, (fixed 4 10 tt tt, tt))))))))

body-short : (s : List ℕ) → CountsInRange (counts_of s) → ShortRows (case_body_causes s (case_of s))
unfolding case_of ShortRows
body-short s n = (
  fixed 5 0 tt tt,
  (
    at_offset 6 _ _ tt (in-file (branch_part s) (branches-adjacent s) (case-bytes s n)),
    (
      at_offset 7 _ _ tt (in-file (link_part s) (links-adjacent s) (case-bytes s n)),
      (at_offset 8 _ _ tt (in-file (order_part s) (orders-adjacent s) (case-bytes s n)), tt),
    ),
  ),
)

proposal-short : (s t : List ℕ) → CountsInRange (counts_of s) → ShortRows (proposal_causes s t (case_of s) (plan_of s t) (prices_of s t))
unfolding case_of proposal_causes ShortRows
proposal-short s t n = (fixed 9 0 tt tt, (fixed 10 0 tt tt, (fixed 11 0 tt tt, (fixed 12 0 tt tt, (fixed 13 0 tt tt, (at_offset 14 _ _ tt (in-file (shadow_part s t) (shadows-adjacent s t) (proposal-bytes s n)), tt))))))

-- From 15 on every index is 0 or the place, and all places together are few. No row is named, so that a new one needs
-- no line here.
judgement-short : (s t : List ℕ) → CountsInRange (counts_of s) → (o : Outcome) → refusal (judgement_causes none (case_of s) (plan_of s t) (prices_of s t)) ≡ some o → Short o
unfolding case_of clearing_causes asked from name_places numbers_below
judgement-short s t n o e =
    let rows : List Cause = judgement_causes none (case_of s) (plan_of s t) (prices_of s t) in
    record {
      number_in = subst (λ (x : Option Outcome). (answer x).number < 1000) e (number-below 1000 rows (omega arith) tt);
      index_in = omega (arith, index_below rows (from 15 asked) (asks rows (from 15 asked) refl) tt o e, n.zones-in, n.branches-in, n.links-in, n.orders-in);
    }

short-both : (qs rs : List Cause) → ((o : Outcome) → refusal qs ≡ some o → Short o) → ((o : Outcome) → refusal rs ≡ some o → Short o) → (o : Outcome) → refusal (qs ++ rs) ≡ some o → Short o
short-both qs rs f g o e = by (refusal qs) refl (sym (refusal-append qs rs) ∙ e)
  where
    by : (x : Option Outcome) → refusal qs ≡ x → else-refusal x (refusal rs) ≡ some o → Short o
    by (some y) q e = f o (q ∙ e)
    by none q e = g o e

later-short : (s t : List ℕ) → CountsInRange (counts_of s) → (o : Outcome) → refusal (later_causes s t) ≡ some o → Short o
later-short s t n = short-both _ _ (short-refusal _ (body-short s n)) (short-both _ _ (short-refusal _ (proposal-short s t n)) (judgement-short s t n))

short-answer : (x : Option Outcome) → ((o : Outcome) → x ≡ some o → Short o) → Short (answer x)
short-answer (some o) h = h o refl
short-answer none h = record { number_in = omega arith; index_in = omega arith }

pub short : (s t : List ℕ) → Short (outcome s t report_room)
unfolding header_refusal
short s t = rw (outcome-by-header s t) (by (header_refusal s) refl)
  where
    by : (x : Option Outcome) → header_refusal s ≡ x → Short (answer (else-refusal x (refusal (later_causes s t))))
    by (some o) e = short-refusal (header_causes s) (header-short s) o e
    by none e = short-answer (refusal (later_causes s t)) (later-short s t (counted s e))

-- THE LINES
verdict-room : (o : Outcome) → Short o → length (verdict_line o) ≤ 18
unfolding verdict_line
verdict-room o h = simp length-append (omega (arith, count-at-most 2 o.number h.number_in, count-at-most 4 o.index h.index_in))

total-room : (name : List ℕ) (x : ℤ) → SFits w64 x → length (total_line name x) ≤ length name + 22
unfolding total_line
total-room name x f = simp length-append (omega (arith, amount-at-most 8 x (omega arith) f))

price-room : (z : ℕ) (x : ℤ) → z < 100 → SFits w64 x → length (price_line z x) ≤ 31
unfolding price_line
price-room z x h f = simp length-append (omega (arith, count-at-most 1 z h, amount-at-most 7 x (omega arith) f))

prices-room : (n : ℕ) (price : ℕ → ℤ) → n ≤ 100 → ((z : ℕ) → z < n → SFits w64 (price z)) → length (price_lines n price) ≤ 31 * n
unfolding price_lines
prices-room zero price h f = omega arith
prices-room (suc n) price h f =
    omega (arith, length-append (price_lines n price) (price_line n (price n)), prices-room n price (omega arith) (λ z l. f z (omega arith)), price-room n (price n) (omega arith) (f n (omega arith)))

totals-room : (x : Totals) → SFits w64 x.welfare → SFits w64 x.bound → SFits w64 x.gap → SFits w64 x.rent → SFits w64 x.owed → length (total_lines x) ≤ 138
unfolding total_lines
totals-room x a b d e f = simp length-append (omega (
  arith,
  total-room (ascii "welfare ") x.welfare a,
  total-room (ascii "bound ") x.bound b,
  total-room (ascii "gap ") x.gap d,
  total-room (ascii "rent ") x.rent e,
  total-room (ascii "owed ") x.owed f,
))

-- the lines of a report
hour-lines-room : (s t : List ℕ) → T (reports (outcome s t report_room).number)
    → length (hour_lines (case_of s).zones (totals_of (case_of s) (plan_of s t) (prices_of s t)) (zone_price (case_of s) (prices_of s t))) ≤ 634
unfolding hour_lines totals_of
hour-lines-room s t r =
    let f = fits s t report_room r in
    let zones = (case-sound s (sound s t report_room r).readable).zones-in.1 in
    simp length-append (omega (
      arith,
      totals-room (totals_of (case_of s) (plan_of s t) (prices_of s t)) f.welfare-fits f.bound-fits f.gap-fits f.rent-fits f.owed-fits,
      prices-room (case_of s).zones (zone_price (case_of s) (prices_of s t)) (omega (arith, zones)) f.zonePrice-fits,
    ))

-- the first line alone
pub first-room : (s t : List ℕ) → length (verdict_line (outcome s t report_room)) ≤ desk_room
first-room s t = omega (arith, verdict-room (outcome s t report_room) (short s t))

-- ALL OF IT
pub hour-room : (s t : List ℕ) → length (hour_text s t) ≤ desk_room
unfolding hour_text lines_of
hour-room s t = by (reports (outcome s t report_room).number) refl
  where
    hour : List ℕ
    hour = hour_lines (case_of s).zones (totals_of (case_of s) (plan_of s t) (prices_of s t)) (zone_price (case_of s) (prices_of s t))

    by : (b : Bool) → reports (outcome s t report_room).number ≡ b → length (verdict_line (outcome s t report_room) ++ cond b hour []) ≤ desk_room
    by true e = omega (arith, length-append (verdict_line (outcome s t report_room)) hour, verdict-room (outcome s t report_room) (short s t), hour-lines-room s t (subst T (sym e) tt))
    by false e = omega (arith, length-append (verdict_line (outcome s t report_room)) [], verdict-room (outcome s t report_room) (short s t))

pub desk-room : (input : List ℕ) → length (desk_text input) ≤ desk_room
unfolding desk_text
desk-room input = hour-room (case_part input) (proposal_part input)
