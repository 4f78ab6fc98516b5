-- The table's rows as the entry asks them, and what then must hold of the number, the length and every byte of the
-- output. Assumes nothing.
use Rattle.std.specs.Prelude.{◌≡◌, true, false, ℕ, ◌+◌, ◌≤◌, ◌<◌, length, get_or, set, take, drop, pos}
use Rattle.std.proofs.Math.Path.{sym, ap}
use Rattle.std.proofs.Common.{◌∙◌, add-one, arith, lt-ltb, le-ltb, length-take, take-suc}
use mathlib.Core.List.{List, [], ◌∷◌, ◌++◌}
use Rattle.std.proofs.Math.Option.{none, some}
use Rattle.std.proofs.lemmas.List.Edits.{sets, sets-eq}
use Rattle.std.proofs.Math.Seq.{length-sets, take-append_seam}
use Rattle.base_integers.specs.Steps.Bytes.{sets-append}
use Rattle.base_integers.specs.Meaning.Ranges.{outside}
use Rattle.base_integers.specs.Steps.Ranges.{nat-within, is_false}
use Rattle.rules.specs.Meaning.Layout.{zone_counts}
use Rattle.std.specs.Prelude.{None, Some}
use Rattle.base_causes.specs.Meaning.Place.{place_of}
use Rattle.base_causes.specs.Meaning.Causes.{verdict, refusal, each}
use Rattle.base_causes.proofs.Promised.CauseLaws.{row-found, row-clear, field-fails, field-passes}
use Rattle.base_output.specs.declared.Written.{Written}
use Rattle.base_output.specs.Steps.Met as output
use Rattle.sheet_lines.specs.Meaning.Sheet.{line_count, branch_part, sheet_causes, sheet_refusal, sheet_outcome, sheet_bytes, sheet_written, sheet_output}
use Rattle.sheet_branches.specs.Meaning.Answer.{SheetAnswered}
use Rattle.sheet_lines.specs.declared.SheetFaults.{SheetFaults}
use Rattle.sheet_lines.specs.Meaning.Lines.{malformed_at, too_fine_at, out_of_range_at, LinesRead, SheetRead}
use Rattle.sheet_lines.proofs.Steps.Lines.{lines-length}

-- the zone count passes
pub zones-within : (zones : ℕ) → outside zone_counts (pos zones) ≡ false → (1 ≤ zones) × (zones ≤ 16)
zones-within zones e = nat-within 1 16 zones (is_false e)

abbrev refused_by : ℕ → ℕ → Written
refused_by n k = record { number = n; index = k; length = 0 }

module _ (zones : ℕ) (sheet out : List ℕ) where
  abbrev room : ℕ
  room = length out

  owed : {w : Written} {after : List ℕ} → output.Met (sheet_refusal zones sheet room) (sheet_bytes zones sheet) out w after → SheetAnswered zones sheet out after w
  unfolding sheet_outcome sheet_written sheet_output
  owed m = record { outcome = m.0; length-is = m.1.0; output = m.1.1 }

  refuse : {n k : ℕ} {w : Written} → sheet_refusal zones sheet room ≡ some (verdict n k) → w ≡ refused_by n k → SheetAnswered zones sheet out out w
  refuse e q = owed (output.met-refusal (sheet_bytes zones sheet) out e q)

  -- the rest of the table once its first n rows passed
  abbrev From : ℕ → Type 0
  From n = sheet_refusal zones sheet room ≡ refusal (drop n (sheet_causes zones sheet room))

  pub answer-50 : {w : Written} → outside zone_counts (pos zones) ≡ true → w ≡ refused_by 50 0 → SheetAnswered zones sheet out out w
  unfolding sheet_refusal sheet_causes
  answer-50 e q = refuse (field-fails 50 0 _ e) q

  -- THE ROWS AFTER IT, each where those before passed, from what was read of the sheet
  module _ (z : outside zone_counts (pos zones) ≡ false) {old new : List ℕ} {s : SheetFaults} (r : SheetRead zones sheet old new s) where
    from-1 : From 1
    unfolding sheet_refusal sheet_causes
    from-1 = field-passes 50 0 _ z

    pub answer-51 : {k : ℕ} {w : Written} → s.malformed ≡ Some k → w ≡ refused_by 51 k → SheetAnswered zones sheet out out w
    unfolding sheet_refusal sheet_causes
    answer-51 {k} e q = refuse (from-1 ∙ row-found (each 51 (line_count sheet) (malformed_at zones sheet)) _ k (sym r.malformed-is ∙ ap place_of e)) q

    module _ (m : s.malformed ≡ None) where
      lines_are : LinesRead zones sheet old new s
      lines_are = r.lines-read (ap place_of m)

      from-2 : From 2
      unfolding sheet_refusal sheet_causes
      from-2 = from-1 ∙ row-clear (each 51 (line_count sheet) (malformed_at zones sheet)) _ (sym r.malformed-is ∙ ap place_of m)

      pub answer-52 : {k : ℕ} {w : Written} → s.finer ≡ Some k → w ≡ refused_by 52 k → SheetAnswered zones sheet out out w
      unfolding sheet_refusal sheet_causes
      answer-52 {k} e q = refuse (from-2 ∙ row-found (each 52 (line_count sheet) (too_fine_at zones sheet)) _ k (sym lines_are.finer-is ∙ ap place_of e)) q

      module _ (f : s.finer ≡ None) where
        from-3 : From 3
        unfolding sheet_refusal sheet_causes
        from-3 = from-2 ∙ row-clear (each 52 (line_count sheet) (too_fine_at zones sheet)) _ (sym lines_are.finer-is ∙ ap place_of f)

        pub answer-53 : {k : ℕ} {w : Written} → s.outside ≡ Some k → w ≡ refused_by 53 k → SheetAnswered zones sheet out out w
        unfolding sheet_refusal sheet_causes
        answer-53 {k} e q = refuse (from-3 ∙ row-found (each 53 (line_count sheet) (out_of_range_at zones sheet)) _ k (sym lines_are.outside-is ∙ ap place_of e)) q

        module _ (o : s.outside ≡ None) where
          from-4 : From 4
          unfolding sheet_refusal sheet_causes
          from-4 = from-3 ∙ row-clear (each 53 (line_count sheet) (out_of_range_at zones sheet)) _ (sym lines_are.outside-is ∙ ap place_of o)

          pub answer-54 : {w : Written} → 64 < s.lines → w ≡ refused_by 54 0 → SheetAnswered zones sheet out out w
          unfolding sheet_refusal sheet_causes
          answer-54 h q = refuse (from-4 ∙ field-fails 54 0 _ (lt-ltb 64 (line_count sheet) (omega (arith, lines_are.count)))) q

          module _ (l : s.lines ≤ 64) {part : ℕ} (p : part ≡ branch_part zones s.lines) where
            part-is : part ≡ branch_part zones (line_count sheet)
            part-is = p ∙ ap (branch_part zones) lines_are.count

            from-5 : From 5
            unfolding sheet_refusal sheet_causes
            from-5 = from-4 ∙ field-passes 54 0 _ (le-ltb 64 (line_count sheet) (omega (arith, lines_are.count)))

            pub answer-55 : {w : Written} → room < part → w ≡ refused_by 55 0 → SheetAnswered zones sheet out out w
            unfolding sheet_refusal sheet_causes
            answer-55 h q = refuse (from-5 ∙ field-fails 55 0 _ (lt-ltb room (branch_part zones (line_count sheet)) (omega (arith, part-is)))) q

            none-refused : part ≤ room → sheet_refusal zones sheet room ≡ none
            unfolding sheet_refusal sheet_causes refusal
            none-refused h = from-5 ∙ field-passes 55 0 [] (le-ltb room (branch_part zones (line_count sheet)) (omega (arith, part-is)))

            -- the start of the table is the branches
            abbrev bytes : List ℕ
            bytes = sheet_bytes zones sheet

            part_length : part ≡ length bytes
            unfolding sheet_bytes
            part_length = part-is ∙ sym (lines-length zones (line_count sheet) sheet)

            pub answer-0 : {after : List ℕ} → part ≤ room → part ≤ length new → after ≡ sets out 0 (take part new) → SheetAnswered zones sheet out after (record { number = 0; index = 0; length = part })
            answer-0 h i b =
                let t : new ≡ sets old 0 bytes = lines_are.bytes-are (ap place_of o) (omega (arith, lines_are.count)) in
                let inside : 0 + length bytes ≤ length old = omega (arith, part_length, ap length t, length-sets old 0 bytes) in
                let front : take part new ≡ bytes = (λ i. take (part_length i) (t i)) ∙ ap (take (length bytes)) (sets-eq bytes old 0 inside) ∙ take-append_seam bytes (drop (0 + length bytes) old) in
                owed (output.met-answer bytes out (none-refused h) (omega (arith, part_length)) part_length (b ∙ ap (sets out 0) front))

-- bytes copied over the start of an output
pub copied : (from out : List ℕ) (n : ℕ) → length from ≡ n → n ≤ length out → from ++ drop n out ≡ sets out 0 from
copied from out n e h =
    let past : n ≡ 0 + length from = omega arith in
    ap (λ (k : ℕ). from ++ drop k out) past ∙ sym (sets-eq from out 0 (omega arith))

-- one more byte copied
pub copy-next : (from l : List ℕ) (i : ℕ) → i < length from → set (sets l 0 (take i from)) i (get_or from i 0) ≡ sets l 0 (take (i + 1) from)
copy-next from l i h =
    let n : i ≡ 0 + length (take i from) = simp length-take (omega arith) in
    ap (λ (k : ℕ). set (sets l 0 (take i from)) k (get_or from i 0)) n
    ∙ sets-append l 0 (take i from) (get_or from i 0 ∷ [])
    ∙ ap (sets l 0) (sym (take-suc from i 0 h))
    ∙ ap (λ (k : ℕ). sets l 0 (take k from)) (sym (add-one i))
