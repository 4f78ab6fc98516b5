-- A readable case and its counts: what the stages after reading require; every branch, link and order is within the
-- file. Assumes nothing.
use Rattle.std.specs.Prelude.{◌≡◌, refl, Bool, true, false, cond, List, [], ◌∷◌, ℕ, suc, ◌+◌, ◌*◌, ◌≤◌, ◌<◌, length, Ok, Err}
use Rattle.std.proofs.Common.{sym, subst, ◌∙◌, mul-le-mul, mul-le-mul_right, arith}
use Rattle.std.proofs.Math.Path.{ap}
use Rattle.std.proofs.Math.Option.{Option, none, some, some-ne-none}
use Rattle.base_integers.specs.Steps.Ranges.{nat-within}
use Rattle.rules.specs.Meaning.Layout.{case_header, contracts, contracted_size, link_size, order_size, case_length, branch_size, branch_at, link_at, order_at, zones_in, branches_in, links_in, orders_in}
use Rattle.rules.specs.Meaning.Hour.{case_of}
use Rattle.base_causes.specs.declared.Outcome.{Outcome}
use Rattle.base_causes.specs.Meaning.Causes.{Cause, refusal, once, Pass}
use Rattle.base_causes.proofs.Promised.CauseLaws.{else-refusal, refusal-append, is_cause, row_of, field-at-passes}
use Rattle.rules.specs.Meaning.Verdict.{differ, case_causes, case_refusal, header_refusal, case_header_causes}
use Rattle.rules.proofs.Steps.Passed.{case-length}
use Rattle.bytes_read.specs.declared.Cursor.{Cursor}
use Rattle.bytes_read.specs.Meaning.Field.{cursor}
use Rattle.case_header.specs.declared.Counts.{Counts}
use Rattle.case_header.specs.Meaning.Answer.{counts_of, header_by, header_answer}
use Rattle.case_header.specs.Meaning.CaseReadable.{CaseReadable, HeaderValid, LengthValid, CountsInRange, branch_start, link_start, order_start, length_of, branch_cause, link_cause, order_cause}

-- WHAT AN ANSWER IMPLIES
pub headed-of : (s : List ℕ) {k : Counts} {c : Cursor} → header_answer s ≡ Ok (k, c) → HeaderValid s k
headed-of s {k} {c} e = by (header_refusal s) refl e
  where
    by : (o : Option Outcome) → header_refusal s ≡ o → header_by (counts_of s) (cursor case_header) o ≡ Ok (k, c) → HeaderValid s k
    by (some o) q e = record { passed = cc; counts = cc }
    by none q e =
        let p : ◌≡◌ {A = Counts × Cursor} (k, c) (counts_of s, cursor case_header) = cc in
        record { passed = q; counts = ap (λ (t : Counts × Cursor). t.0) p }

pub headed-past : (s : List ℕ) {k : Counts} {c : Cursor} → header_answer s ≡ Ok (k, c) → c ≡ cursor case_header
headed-past s {k} {c} e = by (header_refusal s) e
  where
    by : (o : Option Outcome) → header_by (counts_of s) (cursor case_header) o ≡ Ok (k, c) → c ≡ cursor case_header
    by (some o) e = cc
    by none e =
        let p : ◌≡◌ {A = Counts × Cursor} (k, c) (counts_of s, cursor case_header) = cc in
        ap (λ (t : Counts × Cursor). t.1) p

pub header-refused-of : (s : List ℕ) {r : Outcome} → header_answer s ≡ Err r → header_refusal s ≡ some r
header-refused-of s {r} e = by (header_refusal s) refl e
  where
    by : (o : Option Outcome) → header_refusal s ≡ o → header_by (counts_of s) (cursor case_header) o ≡ Err r → header_refusal s ≡ some r
    by (some o) q e = q ∙ cc
    by none q e = cc

abbrev pub body_causes : List ℕ → List Cause
body_causes s = once 5 (differ (length s) (case_length s))
    ∷ branch_cause s
    ∷ link_cause s
    ∷ order_cause s
    ∷ []

-- the header's rows are asked before the others
pub header-first : (s : List ℕ) → case_refusal s ≡ else-refusal (header_refusal s) (refusal (body_causes s))
unfolding case_refusal header_refusal case_causes case_of
header-first s = refusal-append (case_header_causes s (case_of s)) (body_causes s)

none_first : (x y : Option Outcome) → else-refusal x y ≡ none → x ≡ none
none_first (some o) y e = absurd (some-ne-none o e)
none_first none y e = refl

module _ {s : List ℕ} {k : Counts} where
  pub body : HeaderValid s k → case_refusal s ≡ refusal (body_causes s)
  body h = header-first s ∙ ap (λ (x : Option Outcome). else-refusal x (refusal (body_causes s))) h.passed

  pub headed : CaseReadable s k → HeaderValid s k
  headed o = record { passed = none_first (header_refusal s) (refusal (body_causes s)) (sym (header-first s) ∙ o.readable.none-holds); counts = o.counts }

  pub whole : CaseReadable s k → LengthValid s k
  whole o = record { headed = headed o; whole = case-length s o.readable }

  -- a header field, by its offset
  header-field : HeaderValid s k → (j : ℕ) → Pass (row_of 4 j (case_header_causes s (case_of s)))
  unfolding header_refusal
  header-field h = field-at-passes (case_header_causes s (case_of s)) h.passed 4

  counts-limited : HeaderValid s k → CountsInRange (counts_of s)
  unfolding case_of row_of is_cause
  counts-limited h = record {
    zones-in = (nat-within 1 16 (zones_in s) ((header-field h 5).pass 0 (omega arith))).1;
    branches-in = (nat-within 0 64 (branches_in s) ((header-field h 6).pass 0 (omega arith))).1;
    links-in = (nat-within 0 64 (links_in s) ((header-field h 7).pass 0 (omega arith))).1;
    orders-in = (nat-within 0 512 (orders_in s) ((header-field h 8).pass 0 (omega arith))).1;
  }

  pub limited : HeaderValid s k → CountsInRange k
  limited h = subst (λ (k : Counts). CountsInRange k) (sym h.counts) (counts-limited h)

  -- WHERE A ROW STANDS
  module _ (h : HeaderValid s k) where
    pub branch-start-is : (m : ℕ) → branch_start k m ≡ branch_at s m
    unfolding branch_at branch_size
    branch-start-is m = ap (λ (k : Counts). branch_start k m) h.counts

    pub link-start-is : (l : ℕ) → link_start k l ≡ link_at s l
    unfolding link_at branch_size
    link-start-is l = ap (λ (k : Counts). link_start k l) h.counts

    pub order-start-is : (i : ℕ) → order_start k i ≡ order_at s i
    unfolding order_at branch_size
    order-start-is i = ap (λ (k : Counts). order_start k i) h.counts

    pub length-is : length_of k ≡ case_length s
    unfolding case_length branch_size
    length-is = ap length_of h.counts

  -- WITHIN THE FILE
  module _ (w : LengthValid s k) where
    demanded : length s ≡ length_of k
    demanded = w.whole ∙ sym (length-is w.headed)

    pub branch-inside : (m : ℕ) → m < k.branches → branch_start k m + (4 + 4 * k.zones) ≤ length s
    branch-inside m h = let n : suc m ≤ k.branches = h in omega (arith, demanded, mul-le-mul_right (4 + 4 * k.zones) n)

    pub link-inside : (l : ℕ) → l < k.links → link_start k l + link_size k.version ≤ length s
    link-inside l h = let n : suc l ≤ k.links = h in omega (arith, demanded, mul-le-mul_right (link_size k.version) n)

    pub order-inside : (i : ℕ) → i < k.orders → order_start k i + order_size ≤ length s
    order-inside i h = omega (arith, demanded)

-- no offset is large
pub branches-bound : (k : Counts) → CountsInRange k → (m : ℕ) → m ≤ k.branches → m * (4 + 4 * k.zones) ≤ 4352
branches-bound k h m l = let a : m ≤ 64 = omega arith in let b : 4 + 4 * k.zones ≤ 68 = omega arith in mul-le-mul a b

-- a contracted volume has at most 4 bytes
pub contracted-bound : (version : ℕ) → contracted_size version ≤ 4
unfolding contracted_size
contracted-bound version = by (contracts version)
  where
    by : (b : Bool) → cond b 4 0 ≤ 4
    by true = omega arith
    by false = omega arith

pub links-bound : (k : Counts) → CountsInRange k → (l : ℕ) → l ≤ k.links → l * link_size k.version ≤ 640
links-bound k h l m = let a : l ≤ 64 = omega arith in let b : link_size k.version ≤ 10 = omega (arith, contracted-bound k.version) in mul-le-mul a b

pub small : {s : List ℕ} {k : Counts} → LengthValid s k → length s < 4294967296
small {s} {k} w = let l = limited w.headed in omega (arith, demanded w, l, branches-bound k l k.branches (omega arith), links-bound k l k.links (omega arith))
