-- The invariants of the two walks, over a line's fields and over a sheet's lines: how each starts, what a turn
-- changes and what holds at the end. Assumes nothing.
use Rattle.std.specs.Prelude.{◌≡◌, Bool, true, cond, ◌||◌, ℕ, ◌+◌, ◌*◌, ◌≤◌, ◌<◌, drop, ℤ, Option, None, Some}
use Rattle.std.proofs.Math.Path.{refl, sym, ap}
use Rattle.std.proofs.Common.{◌∙◌, arith, lt-ltb}
use Rattle.std.proofs.Math.Bool.{false, not}
use mathlib.Core.List.{List}
use Rattle.std.proofs.Math.Option.{none, some-ne-none}
use Rattle.std.proofs.Math.ListN.{length}
use Rattle.std.proofs.Math.Seq.{sets, length-sets}
use Rattle.base_integers.specs.Meaning.Bytes.{signed32}
use Rattle.base_integers.specs.Meaning.Ranges.{outside}
use Rattle.base_causes.specs.Meaning.Causes.{any_below, first_below}
use Rattle.base_causes.specs.Meaning.Place.{place_of}
use Rattle.base_causes.proofs.Promised.CauseLaws.{any-later, first-here, first-later}
use Rattle.sheet_numbers.specs.declared.TextCursor.{TextCursor}
use Rattle.sheet_numbers.specs.declared.Piece.{Piece}
use Rattle.sheet_numbers.specs.Meaning.Numeral.{before, is_number, finer}
use Rattle.sheet_numbers.proofs.Steps.Scan.{clash}
use Rattle.sheet_numbers.specs.Steps.Pieces.{Cut}
use Rattle.sheet_lines.specs.declared.Flaws.{Flaws}
use Rattle.sheet_lines.specs.Meaning.Sheet.{decimal_count, limit, entry, field_of, entry_of, malformed, too_fine, out_of_range, line_count, branch_part, entry_bytes, line_bytes, sheet_bytes}
use Rattle.sheet_lines.proofs.Steps.Entries.{held_entry, held-outside, held-exact}
use Rattle.sheet_lines.specs.Meaning.Lines.{malformed_at, too_fine_at, out_of_range_at, SheetRead}
use Rattle.sheet_lines.specs.Steps.Lines.{line_at, mark_of, comma_missing, no_number, line_flaws, line_by, LineRead, row_of, first_with}
use Rattle.sheet_lines.proofs.Steps.Lines.{FieldsFrom, FieldRead, field-no-number, field-unseparated, field-read, malformed-no}
use Rattle.sheet_lines.proofs.Steps.Lines.{fields-start, line_read, line-malformed, any-more, LinesFrom, lines_start, lines-done, line-in, line-here, line-next, first_more, first-none, next-entry, next-line}

abbrev pub finer_field : List ℕ → ℕ → Bool
finer_field line j = finer (decimal_count j) (field_of line j)

abbrev pub outside_field : List ℕ → ℕ → Bool
outside_field line j = outside (limit j) (entry_of line j)

or_left : (a b : Bool) → a || b ≡ false → a ≡ false
or_left true b e = e
or_left false b e = refl

or_right : (a b : Bool) → a || b ≡ false → b ≡ false
or_right true b e = absurd (clash e)
or_right false b e = e

-- READING A LINE: the first j fields are numbers, f and o say whether one of them is too fine or too large, and if
-- none is too large they stand at `base`
pub record LineSoFar (zones : ℕ) (sheet : List ℕ) (start base : ℕ) (old : List ℕ) (at : ℕ) (table : List ℕ) (f o : Bool) (j : ℕ) : Type 0 where
  pub most : j ≤ zones + 1
  pub from : FieldsFrom zones sheet start j at
  pub numbers : any_below j (no_number (line_at sheet start)) ≡ false
  pub finer-is : f ≡ any_below j (finer_field (line_at sheet start))
  pub outside-is : o ≡ any_below j (outside_field (line_at sheet start))
  pub kept : length table ≡ length old
  pub bytes : o ≡ false → table ≡ sets old base (entry_bytes j (line_at sheet start))

module _ (zones : ℕ) (sheet : List ℕ) (start base : ℕ) (old : List ℕ) where
  abbrev line : List ℕ
  line = line_at sheet start

  pub line-start : start ≤ length sheet → LineSoFar zones sheet start base old start old false false 0
  unfolding any_below entry_bytes
  line-start h = record { most = omega arith; from = fields-start zones sheet start h; numbers = refl; finer-is = refl; outside-is = refl; kept = refl; bytes = λ e. refl }

  malformed-read : {table : List ℕ} → malformed zones line ≡ true → LineRead zones sheet start base old table None
  malformed-read e = record { answer-is = sym (ap (line_by _ _) e); bytes-are = λ v. absurd (clash (sym e ∙ v.wellformed)) }

  module _ (at : ℕ) (table : List ℕ) (f o : Bool) (j : ℕ) (s : LineSoFar zones sheet start base old at table f o j) where
    module _ (p : Piece) (h : j < zones + 1) (c : Cut (mark_of zones j) sheet at p) where
      abbrev text : List ℕ
      text = before (mark_of zones j) (drop at sheet)

      pub line-no-number : is_number text ≡ false → LineRead zones sheet start base old table None
      line-no-number n = malformed-read (field-no-number zones sheet start j at s.from (omega arith) p c n)

      pub line-unseparated : comma_missing zones j p.end (length sheet) ≡ true → LineRead zones sheet start base old table None
      line-unseparated m = malformed-read (field-unseparated zones sheet start j at s.from (omega arith) p c m)

      pub line-turn : {f' o' : Bool} {y : ℤ} {table' : List ℕ} → comma_missing zones j p.end (length sheet) ≡ false → is_number text ≡ true
          → f' ≡ (f || finer (decimal_count j) text) → y ≡ held_entry j text → o' ≡ (o || outside (limit j) y) → table' ≡ sets table (base + 4 * j) (signed32 y)
          → LineSoFar zones sheet start base old p.next.at table' f' o' (j + 1)
      unfolding entry_of
      line-turn {f'} {o'} {y} {table'} m n q held r w =
          let d : FieldRead zones sheet start j text p.next.at = field-read zones sheet start j at s.from (omega arith) p c n m in
          let out : outside (limit j) y ≡ outside (limit j) (entry j text) = ap (outside (limit j)) held ∙ held-outside j text in
          record {
            most = omega arith;
            from = d.onward;
            numbers = any-later (no_number line) j s.numbers (ap not (ap is_number d.field_is ∙ n));
            finer-is = q ∙ any-more j (finer_field line) s.finer-is (ap (finer (decimal_count j)) (sym d.field_is));
            outside-is = r ∙ any-more j (outside_field line) s.outside-is (out ∙ ap (λ (x : List ℕ). outside (limit j) (entry j x)) (sym d.field_is));
            kept = ap length w ∙ length-sets table (base + 4 * j) (signed32 y) ∙ s.kept;
            bytes = λ e.
                let none = sym r ∙ e in
                let exact : y ≡ entry_of line j = held ∙ held-exact j text (sym out ∙ or_right o _ none) ∙ ap (entry j) (sym d.field_is) in
                w ∙ (λ i. sets (s.bytes (or_left o _ none) i) (base + 4 * j) (signed32 (exact i))) ∙ next-entry old base j line;
          }

    pub line-end : zones + 1 ≤ j → LineRead zones sheet start base old table (Some (record { finer = f; outside = o }, record { at = at }))
    unfolding too_fine out_of_range
    line-end h =
        let all : j ≡ zones + 1 = omega (arith, s.most) in
        let n : any_below (zones + 1) (no_number line) ≡ false = ap (λ (k : ℕ). any_below k (no_number line)) (sym all) ∙ s.numbers in
        let o_is : o ≡ out_of_range zones line = s.outside-is ∙ ap (λ (k : ℕ). any_below k (outside_field line)) all in
        record {
          answer-is = (λ i. Some (record { finer = (s.finer-is ∙ ap (λ (k : ℕ). any_below k (finer_field line)) all) i; outside = o_is i }, record { at = s.from.past (omega arith) i }))
              ∙ ap (line_by (line_flaws zones line) _) (sym (malformed-no zones line (s.from.count (omega arith)) n));
          bytes-are = λ v. s.bytes (o_is ∙ v.in-range) ∙ ap (λ (k : ℕ). sets old base (entry_bytes k line)) all;
        }

-- READING A SHEET: none of the first n lines is malformed, and f and o are the first of them that is too fine or
-- too large. If none is too large, the first 64 stand at the start of the table
pub record SheetSoFar (zones : ℕ) (sheet old : List ℕ) (at : ℕ) (table : List ℕ) (f o : Option ℕ) (n : ℕ) : Type 0 where
  pub from : LinesFrom sheet n at
  pub wellformed : first_below n (malformed_at zones sheet) ≡ none
  pub finer-is : place_of f ≡ first_below n (too_fine_at zones sheet)
  pub outside-is : place_of o ≡ first_below n (out_of_range_at zones sheet)
  pub kept : length table ≡ length old
  pub bytes : place_of o ≡ none → n ≤ 64 → table ≡ sets old 0 (line_bytes zones n sheet)

pub sheet-start : (zones : ℕ) (sheet old : List ℕ) → SheetSoFar zones sheet old 0 old None None 0
unfolding first_below line_bytes
sheet-start zones sheet old = record { from = lines_start sheet; wellformed = refl; finer-is = refl; outside-is = refl; kept = refl; bytes = λ e h. refl }

module _ (zones : ℕ) (sheet old : List ℕ) (at : ℕ) (table : List ℕ) (f o : Option ℕ) (n : ℕ) (s : SheetSoFar zones sheet old at table f o n) where
  module _ {base : ℕ} {table' : List ℕ} {r : Option (Flaws × TextCursor)} (h : at < length sheet) (l : LineRead zones sheet at base table table' r) where
    this-line : malformed_at zones sheet n ≡ malformed zones (line_at sheet at)
    this-line = ap (malformed zones) (line-here sheet n at s.from h)

    pub sheet-malformed : {last : List ℕ} → r ≡ None → SheetRead zones sheet old last (record { malformed = Some n; finer = f; outside = o; lines = n })
    sheet-malformed e = record {
      malformed-is = sym (first-here (malformed_at zones sheet) n (line-in sheet n at s.from h) s.wellformed (this-line ∙ line-malformed _ _ _ (sym l.answer-is ∙ e)));
      lines-read = λ q. absurd (some-ne-none n q);
    }

    -- the next line starts past this one, and the walk goes on
    pub sheet-turn : {f' o' : Option ℕ} {g : Flaws} {next : TextCursor} → r ≡ Some (g, next) → place_of f' ≡ first_with (place_of f) n g.finer → place_of o' ≡ first_with (place_of o) n g.outside
        → base ≡ branch_part zones (row_of n) → length table' ≡ length table → (at < next.at) × SheetSoFar zones sheet old next.at table' f' o' (n + 1)
    sheet-turn {f'} {o'} {g} {next} e x y b k =
        let d = line_read _ _ _ (sym l.answer-is ∙ e) in
        let on = line-next sheet n at s.from h (ap (λ (z : TextCursor). z.at) d.1.1) in
        let here = line-here sheet n at s.from h in
        let out : g.outside ≡ out_of_range zones (line_at sheet at) = ap (λ (z : Flaws). z.outside) d.1.0 in (
          on.0,
          record {
            from = on.1;
            wellformed = first-later (malformed_at zones sheet) n s.wellformed (this-line ∙ d.0);
            finer-is = x ∙ first_more n (too_fine_at zones sheet) s.finer-is (ap (λ (z : Flaws). z.finer) d.1.0 ∙ ap (too_fine zones) (sym here));
            outside-is = y ∙ first_more n (out_of_range_at zones sheet) s.outside-is (out ∙ ap (out_of_range zones) (sym here));
            kept = k ∙ s.kept;
            bytes = λ e m.
                let none = first-none (place_of o) n g.outside (sym y ∙ e) in
                let row : base ≡ branch_part zones n = b ∙ ap (λ (c : Bool). branch_part zones (cond c n 64)) (lt-ltb n 64 (omega arith)) in
                l.bytes-are (record { wellformed = d.0; in-range = sym out ∙ none.1 })
                ∙ (λ i. sets (s.bytes none.0 (omega arith) i) (row i) (entry_bytes (zones + 1) (sym here i)))
                ∙ next-line old zones n sheet;
          },
        )

  pub sheet-end : length sheet ≤ at → SheetRead zones sheet old table (record { malformed = None; finer = f; outside = o; lines = n })
  unfolding sheet_bytes
  sheet-end h =
      let all : line_count sheet ≡ n = lines-done sheet n at s.from h in
      record {
        malformed-is = sym (ap (λ (k : ℕ). first_below k (malformed_at zones sheet)) all ∙ s.wellformed);
        lines-read = λ q. record {
          count = sym all;
          finer-is = s.finer-is ∙ ap (λ (k : ℕ). first_below k (too_fine_at zones sheet)) (sym all);
          outside-is = s.outside-is ∙ ap (λ (k : ℕ). first_below k (out_of_range_at zones sheet)) (sym all);
          bytes-are = λ e m. s.bytes e (omega (arith, all)) ∙ ap (λ (k : ℕ). sets old 0 (line_bytes zones k sheet)) (sym all);
        };
      }
