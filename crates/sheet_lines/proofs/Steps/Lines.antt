-- The walk over a line's fields and over a sheet's lines: where it stands, and what it has found so far.
-- Assumes nothing.
use Rattle.std.specs.Prelude.{◌≡◌, refl, Bool, true, false, cond, ◌||◌, ℕ, zero, suc, ◌+◌, ◌*◌, ◌-◌, ◌≤◌, ◌<◌, eqb, ltb, leb, min, get_or, drop, ℤ}
use Rattle.std.proofs.Common.{sym, ◌∙◌, add-zero, mul-le-mul, add-one, arith, eq-eqb, ne_eqb, ltb-true, ltb-false, leb-true, leb-false, length-drop, length-append, drop_of_length-le, get_or-drop, drop-drop}
use Rattle.std.proofs.Math.Path.{ap}
use Rattle.std.proofs.Math.Bool.{not, or-true}
use mathlib.Core.List.{List, [], ◌∷◌, ◌++◌}
use Rattle.std.proofs.Math.Option.{Option, none, some, some-ne-none}
use Rattle.std.specs.declared.option.Option.TheVariants.{None, Some}
use Rattle.std.specs.declared.option.Option as code
use Rattle.std.specs.Option.{option_or}
use Rattle.std.specs.Bool.{then_some}
use Rattle.base_causes.specs.Meaning.Place.{place_of}
use Rattle.std.proofs.Math.ListN.{length}
use Rattle.std.proofs.lemmas.List.Edits.{sets}
use Rattle.base_integers.specs.Steps.Ranges.{is_false}
use Rattle.base_integers.specs.Meaning.Bytes.{signed32}
use Rattle.base_integers.specs.Steps.Bytes.{bytes-length, sets-append}
use Rattle.base_causes.specs.Meaning.Causes.{any_below, first_below}
use Rattle.base_causes.proofs.Promised.CauseLaws.{any_some}
use Rattle.sheet_numbers.specs.declared.TextCursor.{TextCursor}
use Rattle.sheet_numbers.specs.declared.Piece.{Piece}
use Rattle.sheet_numbers.specs.Meaning.Numeral.{has, before, after, is_number}
use Rattle.sheet_numbers.specs.Meaning.Scan.{Separator}
use Rattle.sheet_numbers.proofs.Steps.Scan.{clash}
use Rattle.sheet_numbers.specs.Meaning.Pieces.{piece_to, piece_at}
use Rattle.sheet_numbers.specs.Steps.Pieces.{before-le, Cut, cut}
use Rattle.sheet_numbers.proofs.Steps.Marks.{split-within, within_has, number-lacks}
use Rattle.sheet_lines.specs.declared.Flaws.{Flaws}
use Rattle.sheet_lines.specs.Meaning.Sheet.{lines, fields, field_of, entry_of, malformed, line_of, line_count, branch_part, entry_bytes, line_bytes}
use Rattle.sheet_lines.proofs.Steps.Entries.{comma, newline}
use Rattle.sheet_lines.proofs.Steps.Split.{fields-cut, fields-last, fields-some, lines_cut}
use Rattle.sheet_lines.specs.Steps.Lines.{no_number, line_at, mark_of, comma_missing, line_by, row_of, first_with}

-- the pieces after the first n are those of the text from a place on
pieces_more : (all rest : List (List ℕ)) (n : ℕ) (p : List ℕ) (ps : List (List ℕ)) → drop n all ≡ rest → rest ≡ p ∷ ps → drop (n + 1) all ≡ ps
pieces_more all rest n p ps e q = sym (drop-drop 1 n all) ∙ ap (drop 1) (e ∙ q)

piece-at : (all rest : List (List ℕ)) (n : ℕ) (p : List ℕ) (ps : List (List ℕ)) → drop n all ≡ rest → rest ≡ p ∷ ps → get_or all n [] ≡ p
piece-at all rest n p ps e q = ap (λ (k : ℕ). get_or all k []) (sym (add-zero n)) ∙ sym (get_or-drop n all 0 []) ∙ ap (λ (l : List (List ℕ)). get_or l 0 []) (e ∙ q)

pieces-left : (all rest : List (List ℕ)) (n : ℕ) → drop n all ≡ rest → length all - n ≡ length rest
pieces-left all rest n e = sym (length-drop n all) ∙ ap length e

module _ (zones : ℕ) (line : List ℕ) where
  pub malformed-count : (length (fields line) ≡ zones + 1 → ⊥) → malformed zones line ≡ true
  unfolding malformed
  malformed-count h = ap (λ (b : Bool). not b || any_below (zones + 1) (no_number line)) (ne_eqb (length (fields line)) (zones + 1) h)

  pub malformed-field : (j : ℕ) → j < zones + 1 → is_number (field_of line j) ≡ false → malformed zones line ≡ true
  unfolding malformed
  malformed-field j h e = ap (λ (b : Bool). not (eqb (length (fields line)) (zones + 1)) || b) (any_some (zones + 1) (no_number line) j h (is_false e)) ∙ or-true (not (eqb (length (fields line)) (zones + 1)))

  pub malformed-no : length (fields line) ≡ zones + 1 → any_below (zones + 1) (no_number line) ≡ false → malformed zones line ≡ false
  unfolding malformed
  malformed-no e n = (λ i. not (eq-eqb (length (fields line)) (zones + 1) e i) || n i)

-- neither mark is a byte of a number
pub separator : (zones j : ℕ) → Separator (mark_of zones j)
separator zones j = by (ltb j zones)
  where
    by : (b : Bool) → Separator (cond b 44 10)
    by true = comma
    by false = newline

-- FIELDS of the line at `start`, before field j, which stands at `at`. After the last of them there are as many as
-- there should be, and `at` is past the line
pub record FieldsFrom (zones : ℕ) (sheet : List ℕ) (start j at : ℕ) : Type 0 where
  pub inside : at ≤ length sheet
  pub here : j ≤ zones → drop j (fields (line_at sheet start)) ≡ fields (line_at sheet at)
  pub ends : j ≤ zones → at + length (line_at sheet at) ≡ start + length (line_at sheet start)
  pub count : zones < j → length (fields (line_at sheet start)) ≡ zones + 1
  pub past : zones < j → at ≡ (piece_at 10 sheet start).next.at

pub fields-start : (zones : ℕ) (sheet : List ℕ) (start : ℕ) → start ≤ length sheet → FieldsFrom zones sheet start 0 start
fields-start zones sheet start h = record { inside = h; here = λ l. refl; ends = λ l. refl; count = λ l. absurd (omega arith); past = λ l. absurd (omega arith) }

-- field j is this text, and the next stands at `next`
pub record FieldRead (zones : ℕ) (sheet : List ℕ) (start j : ℕ) (text : List ℕ) (next : ℕ) : Type 0 where
  pub field_is : field_of (line_at sheet start) j ≡ text
  pub onward : FieldsFrom zones sheet start (j + 1) next

module _ (zones : ℕ) (sheet : List ℕ) (start j at : ℕ) (f : FieldsFrom zones sheet start j at) (h : j ≤ zones) where
  abbrev line : List ℕ
  line = line_at sheet start

  abbrev text : List ℕ
  text = drop at sheet

  abbrev rest : List ℕ
  rest = line_at sheet at

  left : length (fields line) - j ≡ length (fields rest)
  left = pieces-left (fields line) (fields rest) j (f.here h)

  -- no comma is left in the line
  field-alone : has 44 rest ≡ false → field_of line j ≡ rest
  unfolding field_of
  field-alone e = piece-at (fields line) (fields rest) j _ _ (f.here h) (fields-last rest e)

  count-alone : has 44 rest ≡ false → length (fields line) ≡ j + 1
  count-alone e = omega (arith, left, ap length (fields-last rest e))

  -- or one is
  parted : has 44 rest ≡ true → rest ≡ before 44 text ++ 44 ∷ before 10 (after 44 text)
  parted e = split-within 44 10 refl text e

  parted-length : has 44 rest ≡ true → length rest ≡ length (before 44 text) + suc (length (before 10 (after 44 text)))
  parted-length e = ap length (parted e) ∙ length-append (before 44 text) (44 ∷ before 10 (after 44 text))

  fields-parted : has 44 rest ≡ true → fields rest ≡ before 44 text ∷ fields (before 10 (after 44 text))
  fields-parted e = ap fields (parted e) ∙ fields-cut text (before 10 (after 44 text))

  field-parted : has 44 rest ≡ true → field_of line j ≡ before 44 text
  unfolding field_of
  field-parted e = piece-at (fields line) (fields rest) j _ _ (f.here h) (fields-parted e)

  count-parted : has 44 rest ≡ true → j + 1 < length (fields line)
  count-parted e = omega (arith, left, ap length (fields-parted e), fields-some (before 10 (after 44 text)))

  -- A FIELD BEFORE THE LAST
  module _ (p : Piece) (l : j < zones) (c : Cut 44 sheet at p) where
    -- the line ends with it
    too_few : has 44 rest ≡ false → malformed zones line ≡ true
    too_few e = malformed-count zones line (λ q. omega (arith, count-alone e))

    early-no-number : is_number (before 44 text) ≡ false → malformed zones line ≡ true
    early-no-number n = by (has 44 rest) refl
      where
        by : (b : Bool) → has 44 rest ≡ b → malformed zones line ≡ true
        by true e = malformed-field zones line j (omega arith) (ap is_number (field-parted e) ∙ n)
        by false e = too_few e

    early-missing : length sheet ≤ p.end → malformed zones line ≡ true
    early-missing m = by (has 44 rest) refl
      where
        by : (b : Bool) → has 44 rest ≡ b → malformed zones line ≡ true
        by true e = absurd (omega (arith, parted-length e, before-le 10 text, c.ends, length-drop at sheet))
        by false e = too_few e

    early-read : is_number (before 44 text) ≡ true → p.end < length sheet → FieldRead zones sheet start j (before 44 text) p.next.at
    early-read n m =
        let e : has 44 rest ≡ true = within_has 44 10 refl text (number-lacks 10 newline (before 44 text) n) (omega (arith, c.ends, length-drop at sheet)) in
        record {
          field_is = field-parted e;
          onward = record {
            inside = c.next-in;
            here = λ k. pieces_more (fields line) (fields rest) j _ _ (f.here h) (fields-parted e) ∙ ap (λ (x : List ℕ). fields (before 10 x)) (sym c.rest);
            ends = λ k. omega (arith, f.ends h, c.next-is m, c.ends, parted-length e, ap (λ (x : List ℕ). length (before 10 x)) c.rest);
            count = λ k. absurd (omega arith);
            past = λ k. absurd (omega arith);
          };
        }

  -- THE LAST FIELD
  module _ (p : Piece) (l : zones ≤ j) (c : Cut 10 sheet at p) where
    last-no-number : is_number rest ≡ false → malformed zones line ≡ true
    last-no-number n = by (has 44 rest) refl
      where
        by : (b : Bool) → has 44 rest ≡ b → malformed zones line ≡ true
        by true e = malformed-count zones line (λ q. omega (arith, count-parted e))
        by false e = malformed-field zones line j (omega arith) (ap is_number (field-alone e) ∙ n)

    last-read : is_number rest ≡ true → FieldRead zones sheet start j rest p.next.at
    last-read n =
        let e : has 44 rest ≡ false = number-lacks 44 comma rest n in
        record {
          field_is = field-alone e;
          onward = record {
            inside = c.next-in;
            here = λ k. absurd (omega arith);
            ends = λ k. absurd (omega arith);
            count = λ k. omega (arith, count-alone e);
            past = λ k. ap (λ (x : Piece). x.next.at) c.is ∙ ap (λ (e : ℕ). (piece_to (length sheet) e).next.at) (f.ends h);
          };
        }

  -- EITHER, by its mark
  module _ (p : Piece) (c : Cut (mark_of zones j) sheet at p) where
    pub field-no-number : is_number (before (mark_of zones j) text) ≡ false → malformed zones line ≡ true
    field-no-number n = by (ltb j zones) refl c n
      where
        by : (b : Bool) → ltb j zones ≡ b → Cut (cond b 44 10) sheet at p → is_number (before (cond b 44 10) text) ≡ false → malformed zones line ≡ true
        by true e c n = early-no-number p (ltb-true j zones e) c n
        by false e c n = last-no-number p (ltb-false j zones e) c n

    pub field-unseparated : comma_missing zones j p.end (length sheet) ≡ true → malformed zones line ≡ true
    field-unseparated m = by (ltb j zones) refl c m
      where
        by : (b : Bool) → ltb j zones ≡ b → Cut (cond b 44 10) sheet at p → cond b (leb (length sheet) p.end) false ≡ true → malformed zones line ≡ true
        by true e c m = early-missing p (ltb-true j zones e) c (leb-true (length sheet) p.end m)
        by false e c m = absurd (clash (sym m))

    pub field-read : is_number (before (mark_of zones j) text) ≡ true → comma_missing zones j p.end (length sheet) ≡ false → FieldRead zones sheet start j (before (mark_of zones j) text) p.next.at
    field-read n m = by (ltb j zones) refl c n m
      where
        by : (b : Bool) → ltb j zones ≡ b → Cut (cond b 44 10) sheet at p → is_number (before (cond b 44 10) text) ≡ true → cond b (leb (length sheet) p.end) false ≡ false
            → FieldRead zones sheet start j (before (cond b 44 10) text) p.next.at
        by true e c n m = early-read p (ltb-true j zones e) c n (leb-false (length sheet) p.end m)
        by false e c n m = last-read p (ltb-false j zones e) c n

pub line_read : (f : Flaws) (n : TextCursor) (b : Bool) {g : Flaws} {m : TextCursor} → line_by f n b ≡ Some (g, m) → (b ≡ false) × ((g ≡ f) × (m ≡ n))
line_read f n true e = (cc, (cc, cc))
line_read f n false {g} {m} e =
    let p : ◌≡◌ {A = Flaws × TextCursor} (g, m) (f, n) = cc in
    (refl, (ap (λ (x : Flaws × TextCursor). x.0) p, ap (λ (x : Flaws × TextCursor). x.1) p))

pub line-malformed : (f : Flaws) (n : TextCursor) (b : Bool) → line_by f n b ≡ None → b ≡ true
line-malformed f n true e = refl
line-malformed f n false e = cc

-- one more of some tests
pub any-more : (j : ℕ) (f : ℕ → Bool) {a b : Bool} → a ≡ any_below j f → b ≡ f j → a || b ≡ any_below (j + 1) f
unfolding any_below
any-more j f e d = (λ i. e i || d i) ∙ ap (λ (n : ℕ). any_below n f) (sym (add-one j))

-- LINES. Before line n, which starts at `at`
pub record LinesFrom (sheet : List ℕ) (n at : ℕ) : Type 0 where
  pub inside : at ≤ length sheet
  pub fewer : n ≤ at
  pub within : n ≤ line_count sheet
  pub here : drop n (lines sheet) ≡ lines (drop at sheet)

pub lines_start : (sheet : List ℕ) → LinesFrom sheet 0 0
lines_start sheet = record { inside = omega arith; fewer = omega arith; within = omega arith; here = refl }

module _ (sheet : List ℕ) (n at : ℕ) (f : LinesFrom sheet n at) where
  pub lines-done : length sheet ≤ at → line_count sheet ≡ n
  unfolding lines
  lines-done h =
      let e : at ≡ length sheet = omega (arith, f.inside) in
      omega (arith, f.within, pieces-left (lines sheet) (lines (drop at sheet)) n f.here, none_left)
    where
      none_left : length (lines (drop at sheet)) ≡ 0
      none_left = ap (λ (l : List ℕ). length (lines l)) (drop_of_length-le sheet h)

  module _ (h : at < length sheet) where
    cut_line : lines (drop at sheet) ≡ line_at sheet at ∷ lines (after 10 (drop at sheet))
    cut_line = lines_cut (drop at sheet) (omega (arith, length-drop at sheet))

    pub line-in : n < line_count sheet
    line-in = omega (arith, pieces-left (lines sheet) (lines (drop at sheet)) n f.here, ap length cut_line)

    pub line-here : line_of sheet n ≡ line_at sheet at
    unfolding line_of
    line-here = piece-at (lines sheet) (lines (drop at sheet)) n _ _ f.here cut_line

    pub line-next : {next : ℕ} → next ≡ (piece_at 10 sheet at).next.at → (at < next) × LinesFrom sheet (n + 1) next
    line-next {next} e =
        let c = cut 10 sheet at f.inside refl in
        let on : at < next = omega (arith, c.advances h) in (
          on,
          record {
            inside = omega (arith, c.next-in);
            fewer = omega (arith, f.fewer);
            within = omega (arith, line-in);
            here = pieces_more (lines sheet) (lines (drop at sheet)) n _ _ f.here cut_line ∙ ap lines (sym (ap (λ (k : ℕ). drop k sheet) e ∙ c.rest));
          },
        )

pub row-le : (n : ℕ) → row_of n ≤ 64
row-le n = by (ltb n 64) refl
  where
    by : (b : Bool) → ltb n 64 ≡ b → cond b n 64 ≤ 64
    by true e = omega (arith, ltb-true n 64 e)
    by false e = omega arith

-- as the code has it
pub row_min : (n : ℕ) → min n 64 ≡ row_of n
row_min n = by (ltb n 64) refl
  where
    by : (b : Bool) → ltb n 64 ≡ b → min n 64 ≡ cond b n 64
    by true e = omega (arith, ltb-true n 64 e)
    by false e = omega (arith, ltb-false n 64 e)

pub first_more : (n : ℕ) (f : ℕ → Bool) {p : Option ℕ} {b : Bool} → p ≡ first_below n f → b ≡ f n → first_with p n b ≡ first_below (n + 1) f
unfolding first_below
first_more n f e d = (λ i. first_with (e i) n (d i)) ∙ same (first_below n f) ∙ ap (λ (m : ℕ). first_below m f) (sym (add-one n))
  where
    same : (o : Option ℕ) → first_with o n (f n) ≡ elim o [ some k ↦ some k | none ↦ cond (f n) (some n) none ]
    same (some k) = refl
    same none = refl

-- as the code has it
pub first_or : (p : code.Option ℕ) (n : ℕ) (b : Bool) → place_of (option_or p (then_some b n)) ≡ first_with (place_of p) n b
first_or None n true = refl
first_or None n false = refl
first_or (Some k) n b = refl

-- nothing found yet, and nothing here
pub first-none : (p : Option ℕ) (n : ℕ) (b : Bool) → first_with p n b ≡ none → (p ≡ none) × (b ≡ false)
first-none (some k) n b e = absurd (some-ne-none k e)
first-none none n true e = absurd (some-ne-none n e)
first-none none n false e = (refl, refl)

-- BYTES: how many, and one more
pub signed-length : (x : ℤ) → length (signed32 x) ≡ 4
unfolding signed32
signed-length x = bytes-length 4 _

pub entries-length : (n : ℕ) (line : List ℕ) → length (entry_bytes n line) ≡ 4 * n
unfolding entry_bytes
entries-length zero line = refl
entries-length (suc n) line = length-append (entry_bytes n line) (signed32 (entry_of line n)) ∙ omega (arith, entries-length n line, signed-length (entry_of line n))

pub lines-length : (zones m : ℕ) (sheet : List ℕ) → length (line_bytes zones m sheet) ≡ branch_part zones m
unfolding line_bytes
lines-length zones zero sheet = omega arith
lines-length zones (suc m) sheet = length-append (line_bytes zones m sheet) (entry_bytes (zones + 1) (line_of sheet m)) ∙ omega (arith, lines-length zones m sheet, entries-length (zones + 1) (line_of sheet m))

pub next-entry : (l : List ℕ) (base n : ℕ) (line : List ℕ) → sets (sets l base (entry_bytes n line)) (base + 4 * n) (signed32 (entry_of line n)) ≡ sets l base (entry_bytes (n + 1) line)
unfolding entry_bytes
next-entry l base n line =
    ap (λ (k : ℕ). sets (sets l base (entry_bytes n line)) (base + k) (signed32 (entry_of line n))) (sym (entries-length n line))
    ∙ sets-append l base (entry_bytes n line) (signed32 (entry_of line n))
    ∙ ap (λ (k : ℕ). sets l base (entry_bytes k line)) (sym (add-one n))

pub next-line : (l : List ℕ) (zones m : ℕ) (sheet : List ℕ) → sets (sets l 0 (line_bytes zones m sheet)) (branch_part zones m) (entry_bytes (zones + 1) (line_of sheet m)) ≡ sets l 0 (line_bytes zones (m + 1) sheet)
unfolding line_bytes
next-line l zones m sheet =
    let e : branch_part zones m ≡ 0 + length (line_bytes zones m sheet) = omega (arith, lines-length zones m sheet) in
    ap (λ (k : ℕ). sets (sets l 0 (line_bytes zones m sheet)) k (entry_bytes (zones + 1) (line_of sheet m))) e
    ∙ sets-append l 0 (line_bytes zones m sheet) (entry_bytes (zones + 1) (line_of sheet m))
    ∙ ap (λ (k : ℕ). sets l 0 (line_bytes zones k sheet)) (sym (add-one m))

-- the bytes of the most branches
pub part-bound : (zones n : ℕ) → zones ≤ 16 → n ≤ 65 → branch_part zones n ≤ 4420
part-bound zones n h k = mul-le-mul {n₁ = 4 * (zones + 1)} {m₁ = n} {n₂ = 68} {m₂ = 65} (omega arith) k

-- a row of the table is inside it
pub row_room : (zones n : ℕ) → zones ≤ 16 → branch_part zones (row_of n) + 4 * (zones + 1) ≤ 4420
row_room zones n h = omega (arith, part-bound zones (row_of n + 1) h (omega (arith, row-le n)))
