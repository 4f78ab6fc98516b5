-- WHERE THE DESK'S INPUT IS CUT, in plain bytes and both ways. `get_or s k 0` is the byte at place k, counted from 0.
-- The numbers are the paper's own. Assumes nothing.
use Rattle.std.specs.Prelude.{◌≡◌, refl, List, [], ◌++◌, ℕ, ◌+◌, ◌*◌, ◌≤◌, ◌<◌, length, get_or}
use Rattle.std.proofs.Common.{sym, ◌∙◌, arith, length-append}
use Rattle.std.proofs.Math.Path.{ap, subst}
use Rattle.std.proofs.Math.Option.{Option, none, some}
use Rattle.std.proofs.Math.ListN.{take, drop, take-append-drop, get_or-append}
use Rattle.std.proofs.Math.Seq.{take-length, drop-length, take-append_seam, drop-append_seam}
use Rattle.std.proofs.Math.Dec.{nltb→le}
use Rattle.base_integers.specs.Steps.Ranges.{nat-within, nat-inside}
use Rattle.base_causes.specs.declared.Outcome.{Outcome}
use Rattle.base_causes.specs.Meaning.Causes.{Pass}
use Rattle.base_causes.proofs.Promised.CauseLaws.{Comes, past, none_left, row_of, is_cause, field-at-passes}
use Rattle.rules.specs.Meaning.Layout.{u8_at, u16_at, case_version, zones_in, branches_in, links_in, orders_in, tolerance_in, case_length}
use Rattle.rules.specs.Meaning.Hour.{case_of}
use Rattle.rules.specs.Meaning.Verdict.{header_refusal, case_header_causes}
use Rattle.rules.specs.Meaning.Cut.{case_end, case_part, proposal_part}
use Rattle.rules.specs.Meaning.Lines.{hour_text, desk_text}
use Rattle.rules.proofs.Steps.CaseEnd.{end_refused, end_short, end-good, SameHeader, same-refusal, same_length}
use Rattle.rules.proofs.Promised.PlainLayout.{LinkBytes, case-length-is, tolerance-bytes}
use Rattle.rules.proofs.Promised.PlainFacts.{le-nltb, marked, mark-passes, one-or-two, version-passes}

-- A GOOD HEADER: none of 1 to 4
pub record HeaderFacts (s : List ℕ) : Type 0 where
  pub header-there : 14 ≤ length s
  -- LTC
  pub mark-is : (get_or s 0 0 ≡ 76) × ((get_or s 1 0 ≡ 84) × (get_or s 2 0 ≡ 67))
  -- 1 or 2 (S-4)
  pub version-in : (1 ≤ get_or s 3 0 + 256 * get_or s 4 0) × (get_or s 3 0 + 256 * get_or s 4 0 ≤ 2)
  pub zones-in : (1 ≤ get_or s 5 0) × (get_or s 5 0 ≤ 16)
  pub branches-in : get_or s 6 0 ≤ 64
  pub links-in : get_or s 7 0 ≤ 64
  pub orders-in : get_or s 8 0 + 256 * get_or s 9 0 ≤ 512
  pub tolerance-in : get_or s 10 0 + 256 * get_or s 11 0 + 65536 * get_or s 12 0 + 16777216 * get_or s 13 0 ≤ 1000000000

module _ (s : List ℕ) where
  pub header-facts : header_refusal s ≡ none → HeaderFacts s
  unfolding header_refusal row_of is_cause case_of u8_at u16_at case_version zones_in branches_in links_in orders_in
  header-facts e = record {
    header-there = nltb→le (length s) 14 ((row 1 0).pass 0 (omega arith));
    mark-is = marked 76 84 67 s ((row 2 0).pass 0 (omega arith));
    version-in = one-or-two (case_version s) ((row 3 0).pass 0 (omega arith));
    zones-in = nat-within 1 16 (zones_in s) ((row 4 5).pass 0 (omega arith));
    branches-in = (nat-within 0 64 (branches_in s) ((row 4 6).pass 0 (omega arith))).1;
    links-in = (nat-within 0 64 (links_in s) ((row 4 7).pass 0 (omega arith))).1;
    orders-in = (nat-within 0 512 (orders_in s) ((row 4 8).pass 0 (omega arith))).1;
    tolerance-in = subst (λ (n : ℕ). n ≤ 1000000000) (tolerance-bytes s) (nat-within 0 1000000000 (tolerance_in s) ((row 4 10).pass 0 (omega arith))).1;
  }
    where
      row : (n k : ℕ) → Pass (row_of n k (case_header_causes s (case_of s)))
      row = field-at-passes (case_header_causes s (case_of s)) e

  pub facts-header : HeaderFacts s → header_refusal s ≡ none
  unfolding header_refusal case_of u8_at u16_at case_version zones_in branches_in links_in orders_in
  facts-header f =
      let rows : Comes (case_header_causes s (case_of s)) none =
      past (record { pass = λ k h. le-nltb (length s) 14 f.header-there })
      (past (record { pass = λ k h. mark-passes 76 84 67 s f.mark-is })
      (past (record { pass = λ k h. version-passes (case_version s) f.version-in })
      (past (record { pass = λ k h. nat-inside 1 16 (zones_in s) f.zones-in.0 f.zones-in.1 })
      (past (record { pass = λ k h. nat-inside 0 64 (branches_in s) (omega arith) f.branches-in })
      (past (record { pass = λ k h. nat-inside 0 64 (links_in s) (omega arith) f.links-in })
      (past (record { pass = λ k h. nat-inside 0 512 (orders_in s) (omega arith) f.orders-in })
      (past (record { pass = λ k h. nat-inside 0 1000000000 (tolerance_in s) (omega arith) (subst (λ (n : ℕ). n ≤ 1000000000) (sym (tolerance-bytes s)) f.tolerance-in) }) none_left))))))) in
      rows.is

-- THE LENGTH THAT A HEADER DEMANDS, where a link has `width` bytes: six in version 1, ten in version 2
pub record Demands (s : List ℕ) (n : ℕ) : Type 0 where
  pub width : ℕ
  pub width_is : LinkBytes s width
  pub length-is : n ≡ 14 + get_or s 6 0 * (4 + 4 * get_or s 5 0) + get_or s 7 0 * width + (get_or s 8 0 + 256 * get_or s 9 0) * 10

demanded : (s : List ℕ) (n : ℕ) → Demands s n → case_length s ≡ n
demanded s n d = case-length-is s d.width d.width_is ∙ sym d.length-is

-- AN INPUT CUT into the case s and the proposal t; the desk prints the text of these two
pub record CutInto (input s t : List ℕ) : Type 0 where
  pub case-is : case_part input ≡ s
  pub proposal-is : proposal_part input ≡ t
  pub text-is : desk_text input ≡ hour_text s t

module _ (input : List ℕ) where
  -- NOTHING IS LOST
  pub parts-joined : case_part input ++ proposal_part input ≡ input
  unfolding case_part proposal_part
  parts-joined = take-append-drop (case_end input) input

  cut_by : {s t : List ℕ} (n : ℕ) → case_end input ≡ n → take n input ≡ s → drop n input ≡ t → CutInto input s t
  unfolding desk_text case_part proposal_part
  cut_by n e a b =
      let s-is = ap (λ (k : ℕ). take k input) e ∙ a in
      let t-is = ap (λ (k : ℕ). drop k input) e ∙ b in
      record { case-is = s-is; proposal-is = t-is; text-is = λ i. hour_text (s-is i) (t-is i) }

  all-case : case_end input ≡ length input → CutInto input input []
  all-case e = cut_by (length input) e (take-length input) (drop-length input)

  -- THE HEADER IS GOOD AND THERE ARE ENOUGH BYTES: the first n are the case
  pub cut-there : HeaderFacts input → (n : ℕ) → Demands input n → n ≤ length input → CutInto input (take n input) (drop n input)
  cut-there f n d h = cut_by n (end-good input (facts-header input f) (omega (arith, demanded input n d, h)) ∙ demanded input n d) refl refl

  -- TOO FEW BYTES, or no good header: all is the case
  pub too_few : HeaderFacts input → (n : ℕ) → Demands input n → length input < n → CutInto input input []
  too_few f n d h = all-case (end_short input (facts-header input f) (omega (arith, demanded input n d, h)))

  pub bad-header : (HeaderFacts input → ⊥) → CutInto input input []
  bad-header g = all-case (by (header_refusal input) refl)
    where
      by : (x : Option Outcome) → header_refusal input ≡ x → case_end input ≡ length input
      by (some o) e = end_refused input o e
      by none e = absurd (g (header-facts input e))

-- A CASE DIRECTLY FOLLOWED BY ITS PROPOSAL is cut into the two again
module _ (s t : List ℕ) (f : HeaderFacts s) (d : Demands s (length s)) where
  same-header : SameHeader (s ++ t) s
  same-header = record {
    long = (omega (arith, f.header-there, length-append s t), f.header-there);
    same = λ k h. get_or-append s t 0 k (omega (arith, f.header-there, h));
  }

  joined_end : case_end (s ++ t) ≡ length s
  joined_end =
      let l = same_length (s ++ t) s same-header ∙ demanded s (length s) d in
      end-good (s ++ t) (same-refusal (s ++ t) s same-header ∙ facts-header s f) (omega (arith, l, length-append s t)) ∙ l

  pub joined-cut : CutInto (s ++ t) s t
  joined-cut = cut_by (s ++ t) (length s) joined_end (take-append_seam s t) (drop-append_seam s t)
