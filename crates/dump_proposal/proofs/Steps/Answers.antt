-- The table of a dump as the code asks it, row by row, and what the entry's answer must meet. Assumes nothing.
use Rattle.std.specs.Prelude.{◌≡◌, refl, Bool, true, false, drop}
use Rattle.std.proofs.Common.{sym, ◌∙◌, lt-ltb, le-ltb, eq-eqb, ne_eqb, of_z}
use Rattle.std.proofs.Math.Path.{ap, subst}
use Rattle.std.proofs.Math.Bool.{not}
use mathlib.Core.List.{List, [], ◌++◌, append_assoc}
use Rattle.std.proofs.Math.Option.{Option, none, some}
use Rattle.std.specs.declared.option.Option.TheVariants.{None, Some}
use Prim.Native.Nat.{ℕ, zero, suc, ◌+◌, ◌*◌, ◌≤◌, ◌<◌}
use native.Mathlib.Omega.{arith}
use Rattle.std.proofs.lemmas.Bool.{not-false}
use Rattle.std.proofs.Math.Dec.{T}
use Rattle.std.proofs.Math.ListN.{length, length-append}
use Rattle.std.proofs.Math.Seq.{sets}
use Rattle.std.specs.Int.{w64}
use Rattle.base_integers.specs.Meaning.Bytes.{bytes_of}
use Rattle.base_integers.specs.Steps.Bytes.{sets-append}
use Rattle.base_integers.specs.Steps.Ranges.{is_true, is_false, not_is}
use Rattle.base_integers.specs.declared.Bits.{Bits}
use Rattle.base_causes.specs.declared.Outcome.{Outcome}
use Rattle.base_causes.specs.Meaning.Causes.{verdict, first_below, refusal, each}
use Rattle.base_causes.proofs.Promised.CauseLaws.{first-is, first_some, first-none, not-below, row-found, row-clear, field-fails, field-passes}
use Rattle.rules.specs.Meaning.Layout.{proposal_length}
use Rattle.rules.specs.Meaning.Verdict.{case_refusal}
use Rattle.base_output.specs.declared.Written.{Written}
use Rattle.base_output.specs.Steps.Met as output
use Rattle.case_header.specs.declared.Counts.{Counts}
use Rattle.case_header.specs.Meaning.CaseReadable.{CaseReadable}
use Rattle.dump_binary64.specs.Meaning.Value.{bits_at, finite}
use Rattle.dump_values.specs.declared.OpeningFields.{OpeningFields}
use Rattle.dump_values.specs.Meaning.Answer.{field_of}
use Rattle.dump_values.specs.Meaning.Field.{kind_of, converted, fault}
use Rattle.dump_values.proofs.Promised.PlainPlaces.{after-kind}
use Rattle.dump_proposal.specs.Meaning.Dump.{value_count, dump_length, refuses, number_in, dump_causes, dump_refusal, dump_outcome, proposal_mark, fields_from, proposal_bytes, dump_written, dump_output, DumpAnswered}
use Rattle.dump_proposal.specs.Steps.Walks.{rest_of, count_of, FiniteDump, OpeningHeld, TableHolds, fault_after, table_bytes}
use Rattle.dump_proposal.proofs.Steps.Walks.{field-held, field-outside, field-number, fields-length, fields_split, table-fields}

-- THE COUNTS of a readable case are its own
module _ {s : List ℕ} {k : Counts} (o : CaseReadable s k) where
  pub count-is : count_of k ≡ value_count s
  unfolding value_count
  count-is = ap count_of o.counts

  pub length-of : 13 + 4 * rest_of k ≡ proposal_length s
  unfolding proposal_length
  length-of = ap (λ (k : Counts). 13 + 4 * rest_of k) o.counts

-- 58 and 59 at a value
abbrev pub not_finite_at : List ℕ → ℕ → Bool
not_finite_at d n = not (finite (bits_at d n))

abbrev pub out_of_field_at : List ℕ → List ℕ → ℕ → Bool
out_of_field_at s d n = fault (kind_of s n) (bits_at d n)

-- THE FIRST VALUE WITHOUT A FIELD: in the opening, or after it
module _ (s d : List ℕ) (rest : ℕ) where
  pub share-first : out_of_field_at s d 0 ≡ true → first_below (2 + rest) (out_of_field_at s d) ≡ some 0
  share-first e = first_some (2 + rest) (out_of_field_at s d) 0 (record { place_in = omega arith; holds = is_true e; none_before = λ i h. absurd (omega arith) })

  pub system-first : out_of_field_at s d 0 ≡ false → out_of_field_at s d 1 ≡ true → first_below (2 + rest) (out_of_field_at s d) ≡ some 1
  system-first z e = first_some (2 + rest) (out_of_field_at s d) 1 (record { place_in = omega arith; holds = is_true e; none_before = before })
    where
      before : (i : ℕ) → i < 1 → T (not (out_of_field_at s d i))
      before zero h = is_false z
      before (suc i) h = absurd (omega arith)

  module _ (z : out_of_field_at s d 0 ≡ false) (o : out_of_field_at s d 1 ≡ false) where
    -- below some place, given those after the opening
    clear : (m : ℕ) → ((i : ℕ) → i < m → T (not (fault_after s d i))) → (i : ℕ) → i < 2 + m → T (not (out_of_field_at s d i))
    clear m h zero l = is_false z
    clear m h (suc zero) l = is_false o
    clear m h (suc (suc i)) l = unfold kind_of in subst (λ (n : ℕ). T (not (fault (kind_of s (suc (suc i))) (bits_at d n)))) (two-more i) (h i (omega arith))
      where
        two-more : (i : ℕ) → 2 + i ≡ suc (suc i)
        two-more i = omega arith

    pub rest-first : {i : ℕ} → first_below rest (fault_after s d) ≡ some i → first_below (2 + rest) (out_of_field_at s d) ≡ some (2 + i)
    rest-first {i} e =
        let w = first-is rest (fault_after s d) i e in
        first_some (2 + rest) (out_of_field_at s d) (2 + i) (record { place_in = omega (arith, w.place_in); holds = ap-kind w.holds; none_before = clear i w.none_before })
      where
        ap-kind : T (fault_after s d i) → T (out_of_field_at s d (2 + i))
        ap-kind t = subst (λ (k : _). T (fault k (bits_at d (2 + i)))) (after-kind s i) t

    pub none_first : first_below rest (fault_after s d) ≡ none → first_below (2 + rest) (out_of_field_at s d) ≡ none
    none_first e = first-none (2 + rest) (out_of_field_at s d) (clear rest (not-below rest (fault_after s d) e))

-- ROW BY ROW
module _ (s d : List ℕ) (room : ℕ) where
  -- the rows from row n on are left
  abbrev pub RowsFrom : ℕ → Type 0
  RowsFrom n = dump_refusal s d room ≡ refusal (drop n (dump_causes s d room))

  abbrev pub RefusedBy : ℕ → ℕ → Type 0
  RefusedBy n k = dump_refusal s d room ≡ some (verdict n k)

  pub refused-56 : {o : Outcome} → case_refusal s ≡ some o → RefusedBy 56 o.number
  unfolding dump_refusal dump_causes
  refused-56 {o} e = field-fails 56 (number_in (case_refusal s)) _ (ap refuses e) ∙ ap (λ (c : Option Outcome). some (verdict 56 (number_in c))) e

  pub past-56 : case_refusal s ≡ none → RowsFrom 1
  unfolding dump_refusal dump_causes
  past-56 e = field-passes 56 (number_in (case_refusal s)) _ (ap refuses e)

  pub refused-57 : RowsFrom 1 → (length d ≡ dump_length s → ⊥) → RefusedBy 57 0
  unfolding dump_refusal dump_causes
  refused-57 p h = p ∙ field-fails 57 0 _ (ap not (ne_eqb (length d) (dump_length s) h))

  pub past-57 : RowsFrom 1 → length d ≡ dump_length s → RowsFrom 2
  unfolding dump_refusal dump_causes
  past-57 p h = p ∙ field-passes 57 0 _ (ap not (eq-eqb (length d) (dump_length s) h))

  pub refused-58 : {n : ℕ} → RowsFrom 2 → first_below (value_count s) (not_finite_at d) ≡ some n → RefusedBy 58 n
  unfolding dump_refusal dump_causes
  refused-58 {n} p e = p ∙ row-found (each 58 (value_count s) (not_finite_at d)) _ n e

  pub past-58 : RowsFrom 2 → first_below (value_count s) (not_finite_at d) ≡ none → RowsFrom 3
  unfolding dump_refusal dump_causes
  past-58 p e = p ∙ row-clear (each 58 (value_count s) (not_finite_at d)) _ e

  pub refused-59 : {n : ℕ} → RowsFrom 3 → first_below (value_count s) (out_of_field_at s d) ≡ some n → RefusedBy 59 n
  unfolding dump_refusal dump_causes
  refused-59 {n} p e = p ∙ row-found (each 59 (value_count s) (out_of_field_at s d)) _ n e

  pub past-59 : RowsFrom 3 → first_below (value_count s) (out_of_field_at s d) ≡ none → RowsFrom 4
  unfolding dump_refusal dump_causes
  past-59 p e = p ∙ row-clear (each 59 (value_count s) (out_of_field_at s d)) _ e

  pub refused-60 : RowsFrom 4 → room < proposal_length s → RefusedBy 60 0
  unfolding dump_refusal dump_causes
  refused-60 p h = p ∙ field-fails 60 0 _ (lt-ltb room (proposal_length s) h)

  pub all-passed : RowsFrom 4 → proposal_length s ≤ room → dump_refusal s d room ≡ none
  unfolding dump_refusal dump_causes refusal
  all-passed p h = p ∙ field-passes 60 0 [] (le-ltb room (proposal_length s) h)

-- THE BYTES
pub bytes-are : (s d : List ℕ) → length (proposal_bytes s d) ≡ proposal_length s
unfolding proposal_bytes proposal_length value_count
bytes-are s d = omega (arith, length-append proposal_mark (fields_from s d 0 (value_count s)), fields-length s d 0 (value_count s))

-- mark and opening, and then the rest
pub whole_run : (s d l : List ℕ) {x y : ℕ} (rest : ℕ) → 2 + rest ≡ value_count s
    → x ≡ of_z w64 (converted (kind_of s 0) (bits_at d 0)) → y ≡ of_z w64 (converted (kind_of s 1) (bits_at d 1))
    → sets (sets l 0 (proposal_mark ++ (bytes_of 4 x ++ bytes_of 4 y))) 13 (fields_from s d 2 rest) ≡ sets l 0 (proposal_bytes s d)
unfolding proposal_bytes
whole_run s d l {x} {y} rest e p q =
    let opening : proposal_mark ++ (bytes_of 4 x ++ bytes_of 4 y) ≡ proposal_mark ++ fields_from s d 0 2 = (λ i. proposal_mark ++ (bytes_of 4 (p i) ++ bytes_of 4 (q i))) ∙ (unfold fields_from in refl) in
    let size : 0 + length (proposal_mark ++ fields_from s d 0 2) ≡ 13 = omega (arith, length-append proposal_mark (fields_from s d 0 2), fields-length s d 0 2) in
    (λ i. sets (sets l 0 (opening i)) 13 (fields_from s d 2 rest))
    ∙ ap (λ (k : ℕ). sets (sets l 0 (proposal_mark ++ fields_from s d 0 2)) k (fields_from s d 2 rest)) (sym size)
    ∙ sets-append l 0 (proposal_mark ++ fields_from s d 0 2) (fields_from s d 2 rest)
    ∙ ap (sets l 0) (append_assoc proposal_mark (fields_from s d 0 2) (fields_from s d 2 rest) ∙ ap (λ (b : List ℕ). proposal_mark ++ b) (fields_split s d 2 rest ∙ ap (fields_from s d 0) e))

-- WHAT MUST BE MET by a refusal and by an answer
pub met-refusal : (s d out : List ℕ) {n k : ℕ} {r : Written} → dump_refusal s d (length out) ≡ some (verdict n k) → r ≡ record { number = n; index = k; length = 0 } → DumpAnswered s d out r out
unfolding dump_outcome dump_written dump_output
met-refusal s d out e q = let m = output.met-refusal (proposal_bytes s d) out e q in record { outcome = m.0; written = m.1.0; output = m.1.1 }

pub met-answer : (s d out : List ℕ) {after : List ℕ} {m : ℕ} → dump_refusal s d (length out) ≡ none → proposal_length s ≤ length out → m ≡ proposal_length s
    → after ≡ sets out 0 (proposal_bytes s d) → DumpAnswered s d out (record { number = 0; index = 0; length = m }) after
unfolding dump_outcome dump_written dump_output
met-answer s d out e h q b =
    let l = bytes-are s d in
    let m = output.met-answer (proposal_bytes s d) out e (omega (arith, l)) (q ∙ sym l) b in
    record { outcome = m.0; written = m.1.0; output = m.1.1 }

-- ROW BY ROW, for the counts of a readable case
module _ (s d : List ℕ) (room : ℕ) {k : Counts} where
  length-due : CaseReadable s k → 8 * count_of k ≡ dump_length s
  unfolding dump_length
  length-due o = ap (λ (n : ℕ). 8 * n) (count-is o)

  from-2 : CaseReadable s k → length d ≡ 8 * count_of k → RowsFrom s d room 2
  from-2 o h = past-57 s d room (past-56 s d room o.readable.none-holds) (h ∙ length-due o)

  module _ (f : FiniteDump s k d) where
    from-3 : RowsFrom s d room 3
    from-3 = past-58 s d room (from-2 f.opened f.long) (first-none (value_count s) (not_finite_at d) (λ n h. is_false (ap not (f.is_finite n (subst (λ (m : ℕ). n < m) (sym (count-is f.opened)) h)))))

    counted : {n : Option ℕ} → first_below (count_of k) (out_of_field_at s d) ≡ n → first_below (value_count s) (out_of_field_at s d) ≡ n
    counted e = ap (λ (m : ℕ). first_below m (out_of_field_at s d)) (sym (count-is f.opened)) ∙ e

    by-59 : {n : ℕ} → first_below (count_of k) (out_of_field_at s d) ≡ some n → RefusedBy s d room 59 n
    by-59 e = refused-59 s d room from-3 (counted e)

    -- the LTA share has no field; or it has one, and the system price has none
    pub share-refused : field_of (kind_of s 0) (bits_at d 0) ≡ None → RefusedBy s d room 59 0
    share-refused e = by-59 (share-first s d (rest_of k) (field-outside (kind_of s 0) (bits_at d 0) e))

    pub system-refused : {x : Bits} → field_of (kind_of s 0) (bits_at d 0) ≡ Some x → field_of (kind_of s 1) (bits_at d 1) ≡ None → RefusedBy s d room 59 1
    system-refused z e = by-59 (system-first s d (rest_of k) (field-held (kind_of s 0) (bits_at d 0) z) (field-outside (kind_of s 1) (bits_at d 1) e))

module _ (s d out : List ℕ) {k : Counts} where
  pub met-57 : {r : Written} → CaseReadable s k → (length d ≡ 8 * count_of k → ⊥) → r ≡ record { number = 57; index = 0; length = 0 } → DumpAnswered s d out r out
  met-57 o h q = met-refusal s d out (refused-57 s d (length out) (past-56 s d (length out) o.readable.none-holds) (λ e. h (e ∙ sym (length-due s d (length out) o)))) q

  pub met-58 : {n : ℕ} {r : Written} → CaseReadable s k → length d ≡ 8 * count_of k → first_below (count_of k) (not_finite_at d) ≡ some n
      → r ≡ record { number = 58; index = n; length = 0 } → DumpAnswered s d out r out
  met-58 o h e q = met-refusal s d out (refused-58 s d (length out) (from-2 s d (length out) o h) (ap (λ (n : ℕ). first_below n (not_finite_at d)) (sym (count-is o)) ∙ e)) q

  pub finite-dump : CaseReadable s k → length d ≡ 8 * count_of k → first_below (count_of k) (not_finite_at d) ≡ none → FiniteDump s k d
  finite-dump o h e = record { opened = o; long = h; is_finite = λ n l. not-false _ (not_is _ (not-below (count_of k) (not_finite_at d) e n l)) }

  module _ (f : FiniteDump s k d) where
    -- both have one, and another value has none
    module _ {o : OpeningFields Bits} (h : OpeningHeld s d o) where
      share-in : out_of_field_at s d 0 ≡ false
      share-in = field-held (kind_of s 0) (bits_at d 0) h.share-held

      system-in : out_of_field_at s d 1 ≡ false
      system-in = field-held (kind_of s 1) (bits_at d 1) h.system-held

      pub met-rest : {i : ℕ} {r : Written} → first_below (rest_of k) (fault_after s d) ≡ some i → r ≡ record { number = 59; index = 2 + i; length = 0 } → DumpAnswered s d out r out
      met-rest e q = met-refusal s d out (by-59 s d (length out) f (rest-first s d (rest_of k) share-in system-in e)) q

      -- every value has its field
      module _ (e : first_below (rest_of k) (fault_after s d) ≡ none) where
        from-4 : RowsFrom s d (length out) 4
        from-4 = past-59 s d (length out) (from-3 s d (length out) f) (counted s d (length out) f (none_first s d (rest_of k) share-in system-in e))

        pub met-60 : {r : Written} → length out < 13 + 4 * rest_of k → r ≡ record { number = 60; index = 0; length = 0 } → DumpAnswered s d out r out
        met-60 l q = met-refusal s d out (refused-60 s d (length out) from-4 (subst (λ (n : ℕ). length out < n) (length-of f.opened) l)) q

        -- the opening is written, and then the table
        pub met-0 : {rest : ℕ} {t begun after : List ℕ} → rest ≡ rest_of k → 13 + 4 * rest ≤ length out → TableHolds s d (rest_of k) t
            → begun ≡ sets out 0 (proposal_mark ++ (bytes_of 4 o.share.0 ++ bytes_of 4 o.system.0)) → after ≡ sets begun 13 (table_bytes rest t)
            → DumpAnswered s d out (record { number = 0; index = 0; length = 13 + 4 * rest }) after
        met-0 {rest} {t} n l held b c =
            let size : 13 + 4 * rest ≡ proposal_length s = ap (λ (m : ℕ). 13 + 4 * m) n ∙ length-of f.opened in
            let fits = subst (λ (m : ℕ). m ≤ length out) size l in
            met-answer s d out (all-passed s d (length out) from-4 fits) fits size
            (c ∙ (λ j. sets (b j) 13 (table_bytes (n j) t))
            ∙ ap (sets (sets out 0 (proposal_mark ++ (bytes_of 4 o.share.0 ++ bytes_of 4 o.system.0))) 13) (table-fields s d t held)
            ∙ whole_run s d out (rest_of k) (count-is f.opened) (field-number (kind_of s 0) (bits_at d 0) h.share-held) (field-number (kind_of s 1) (bits_at d 1) h.system-held))
