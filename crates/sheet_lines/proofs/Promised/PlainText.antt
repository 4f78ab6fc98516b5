-- A SHEET IS ITS LINES, A LINE ITS FIELDS, in plain bytes and both ways. `get_or text i 0` is the byte at place i of
-- the text, counted from 0. Byte 10 ends a line, and the last line may lack it; byte 44 stands between two fields.
-- Each sheet has its fields in exactly one way (`cells_of`, `cells_are`). Assumes nothing.
use Rattle.std.specs.Prelude.{◌≡◌, refl, ◌↔◌, ◌⊎◌, ◌≢◌, Bool, true, false, cond, List, [], ◌∷◌, ◌++◌, ℕ, zero, suc, ◌<◌, eqb, length, get_or}
use Rattle.std.proofs.Common.{sym, ap, subst, ◌∙◌, inl, inr, append_assoc, arith, eqb-true, ne_eqb, length-append}
use Rattle.std.proofs.lemmas.Bool.{eqb-false}
use Rattle.sheet_lines.specs.Meaning.Sheet.{onto, lines, fields, line_of, line_count}
use Rattle.sheet_lines.specs.Promised.PlainText.{Without, ended, joined, LastUnended, SheetText, LineText, Cells}

no_less : (i : ℕ) → i < 0 → ⊥
no_less i h = omega arith

-- the first byte, and the others
without-first : (mark b : ℕ) (t : List ℕ) → Without mark (b ∷ t) → b ≢ mark
without-first mark b t w = w 0 (omega arith)

without-rest : (mark b : ℕ) (t : List ℕ) → Without mark (b ∷ t) → Without mark t
without-rest mark b t w i h = w (suc i) (omega arith)

without_more : (mark b : ℕ) (t : List ℕ) → b ≢ mark → Without mark t → Without mark (b ∷ t)
without_more mark b t n w zero h = n
without_more mark b t n w (suc i) h = w i (omega arith)

-- a first text and others
all_more : (mark : ℕ) (t : List ℕ) (ts : List (List ℕ)) → Without mark t → ((k : ℕ) → k < length ts → Without mark (get_or ts k [])) → (k : ℕ) → k < suc (length ts) → Without mark (get_or (t ∷ ts) k [])
all_more mark t ts w ws zero h = w
all_more mark t ts w ws (suc k) h = ws k (omega arith)

-- LINES, from the text to the lines
line_first : (l rest : List ℕ) → Without 10 l → lines (l ++ 10 ∷ rest) ≡ l ∷ lines rest
unfolding lines
line_first [] rest w = refl
line_first (b ∷ l) rest w =
    ap (λ (t : Bool). cond t ([] ∷ lines (l ++ 10 ∷ rest)) (onto b (lines (l ++ 10 ∷ rest)))) (ne_eqb b 10 (without-first 10 b l w))
    ∙ ap (onto b) (line_first l rest (without-rest 10 b l w))

line-last : (l : List ℕ) → Without 10 l → 0 < length l → lines l ≡ l ∷ []
unfolding lines
line-last [] w n = absurd (omega arith)
line-last (b ∷ []) w n = ap (λ (t : Bool). cond t ([] ∷ []) ((b ∷ []) ∷ [])) (ne_eqb b 10 (without-first 10 b [] w))
line-last (b ∷ d ∷ l) w n =
    ap (λ (t : Bool). cond t ([] ∷ lines (d ∷ l)) (onto b (lines (d ∷ l)))) (ne_eqb b 10 (without-first 10 b (d ∷ l) w))
    ∙ ap (onto b) (line-last (d ∷ l) (without-rest 10 b (d ∷ l) w) (omega arith))

lines_then : (ls : List (List ℕ)) (rest : List ℕ) → ((k : ℕ) → k < length ls → Without 10 (get_or ls k [])) → lines (ended ls ++ rest) ≡ ls ++ lines rest
unfolding ended
lines_then [] rest w = refl
lines_then (l ∷ ls) rest w =
    ap lines (append_assoc l (10 ∷ ended ls) rest)
    ∙ line_first l (ended ls ++ rest) (w 0 (omega arith))
    ∙ ap (λ (x : List (List ℕ)). l ∷ x) (lines_then ls rest (λ k h. w (suc k) (omega arith)))

lines-ended : (ls : List (List ℕ)) → ((k : ℕ) → k < length ls → Without 10 (get_or ls k [])) → lines (ended ls) ≡ ls
unfolding ended lines
lines-ended [] w = refl
lines-ended (l ∷ ls) w = line_first l (ended ls) (w 0 (omega arith)) ∙ ap (λ (x : List (List ℕ)). l ∷ x) (lines-ended ls (λ k h. w (suc k) (omega arith)))

-- the front of some texts, and the last
all-front : (mark : ℕ) (front : List (List ℕ)) (last : List ℕ) → ((k : ℕ) → k < length (front ++ (last ∷ [])) → Without mark (get_or (front ++ (last ∷ [])) k []))
    → ((k : ℕ) → k < length front → Without mark (get_or front k [])) × Without mark last
all-front mark [] last w = (λ k h. absurd (no_less k h), w 0 (omega arith))
all-front mark (f ∷ front) last w = let r = all-front mark front last (λ k h. w (suc k) (omega arith)) in (all_more mark f front (w 0 (omega arith)) r.0, r.1)

text-lines : (sheet : List ℕ) (ls : List (List ℕ)) → SheetText sheet ls → lines sheet ≡ ls
text-lines sheet ls t = by t.text-is
  where
    by : (sheet ≡ ended ls) ⊎ LastUnended sheet ls → lines sheet ≡ ls
    by (inl e) = ap lines e ∙ lines-ended ls t.no-newline
    by (inr u) =
        let w = all-front 10 u.front u.last (subst (λ (x : List (List ℕ)). (k : ℕ) → k < length x → Without 10 (get_or x k [])) u.lines_are t.no-newline) in
        ap lines u.text-is ∙ lines_then u.front u.last w.0 ∙ ap (λ (x : List (List ℕ)). u.front ++ x) (line-last u.last w.1 u.not-empty) ∙ sym u.lines_are

-- and from the lines to the text: one byte more in front
newline-first : (b : ℕ) (bs : List ℕ) (ls : List (List ℕ)) → b ≡ 10 → SheetText bs ls → SheetText (b ∷ bs) ([] ∷ ls)
unfolding ended
newline-first b bs ls q t = record { no-newline = all_more 10 [] ls (λ i h. absurd (no_less i h)) t.no-newline; text-is = by t.text-is }
  where
    by : (bs ≡ ended ls) ⊎ LastUnended bs ls → (b ∷ bs ≡ ended ([] ∷ ls)) ⊎ LastUnended (b ∷ bs) ([] ∷ ls)
    by (inl e) = inl (λ i. q i ∷ e i)
    by (inr u) = inr (record {
      front = [] ∷ u.front;
      last = u.last;
      lines_are = ap (λ (x : List (List ℕ)). [] ∷ x) u.lines_are;
      text-is = (λ i. q i ∷ u.text-is i);
      not-empty = u.not-empty;
    })

byte-first : (b : ℕ) (bs : List ℕ) (ls : List (List ℕ)) → b ≢ 10 → SheetText bs ls → SheetText (b ∷ bs) (onto b ls)
unfolding ended
byte-first b bs [] n t = record { no-newline = all_more 10 (b ∷ []) [] (without_more 10 b [] n (λ i h. absurd (no_less i h))) (λ k h. absurd (no_less k h)); text-is = by t.text-is }
  where
    never : (front : List (List ℕ)) (last : List ℕ) → [] ≡ front ++ (last ∷ []) → ⊥
    never front last e = omega (arith, ap length e, length-append front (last ∷ []))

    by : (bs ≡ ended []) ⊎ LastUnended bs [] → (b ∷ bs ≡ ended ((b ∷ []) ∷ [])) ⊎ LastUnended (b ∷ bs) ((b ∷ []) ∷ [])
    by (inl e) = inr (record { front = []; last = b ∷ []; lines_are = refl; text-is = ap (λ (x : List ℕ). b ∷ x) e; not-empty = omega arith })
    by (inr u) = absurd (never u.front u.last u.lines_are)
byte-first b bs (l ∷ ls) n t = record {
  no-newline = all_more 10 (b ∷ l) ls (without_more 10 b l n (t.no-newline 0 (omega arith))) (λ k h. t.no-newline (suc k) (omega arith));
  text-is = by t.text-is;
}
  where
    unended : (front : List (List ℕ)) (last : List ℕ) → l ∷ ls ≡ front ++ (last ∷ []) → bs ≡ ended front ++ last → 0 < length last → LastUnended (b ∷ bs) ((b ∷ l) ∷ ls)
    unended [] last e q h = record { front = []; last = b ∷ last; lines_are = ap (onto b) e; text-is = ap (λ (x : List ℕ). b ∷ x) q; not-empty = omega arith }
    unended (f ∷ fs) last e q h = record { front = (b ∷ f) ∷ fs; last = last; lines_are = ap (onto b) e; text-is = ap (λ (x : List ℕ). b ∷ x) q; not-empty = h }

    by : (bs ≡ ended (l ∷ ls)) ⊎ LastUnended bs (l ∷ ls) → (b ∷ bs ≡ ended ((b ∷ l) ∷ ls)) ⊎ LastUnended (b ∷ bs) ((b ∷ l) ∷ ls)
    by (inl e) = inl (ap (λ (x : List ℕ). b ∷ x) e)
    by (inr u) = inr (unended u.front u.last u.lines_are u.text-is u.not-empty)

lines-text : (sheet : List ℕ) → SheetText sheet (lines sheet)
unfolding lines ended
lines-text [] = record { no-newline = λ k h. absurd (no_less k h); text-is = inl refl }
lines-text (b ∷ bs) = by (eqb b 10) refl (lines-text bs)
  where
    by : (t : Bool) → eqb b 10 ≡ t → SheetText bs (lines bs) → SheetText (b ∷ bs) (cond t ([] ∷ lines bs) (onto b (lines bs)))
    by true e t = newline-first b bs (lines bs) (eqb-true b 10 e) t
    by false e t = byte-first b bs (lines bs) (eqb-false b 10 e) t

-- THE THEOREM on lines
pub lines-bytes : (sheet : List ℕ) (ls : List (List ℕ)) → (lines sheet ≡ ls) ↔ SheetText sheet ls
lines-bytes sheet ls = (λ e. subst (SheetText sheet) e (lines-text sheet), text-lines sheet ls)

-- FIELDS, from the text to the fields
field-first : (f rest : List ℕ) → Without 44 f → fields (f ++ 44 ∷ rest) ≡ f ∷ fields rest
unfolding fields
field-first [] rest w = refl
field-first (b ∷ f) rest w =
    ap (λ (t : Bool). cond t ([] ∷ fields (f ++ 44 ∷ rest)) (onto b (fields (f ++ 44 ∷ rest)))) (ne_eqb b 44 (without-first 44 b f w))
    ∙ ap (onto b) (field-first f rest (without-rest 44 b f w))

field-last : (f : List ℕ) → Without 44 f → fields f ≡ f ∷ []
unfolding fields
field-last [] w = refl
field-last (b ∷ f) w = ap (λ (t : Bool). cond t ([] ∷ fields f) (onto b (fields f))) (ne_eqb b 44 (without-first 44 b f w)) ∙ ap (onto b) (field-last f (without-rest 44 b f w))

fields-joined : (fs : List (List ℕ)) → 0 < length fs → ((j : ℕ) → j < length fs → Without 44 (get_or fs j [])) → fields (joined fs) ≡ fs
unfolding joined
fields-joined [] h w = absurd (omega arith)
fields-joined (f ∷ []) h w = field-last f (w 0 (omega arith))
fields-joined (f ∷ g ∷ gs) h w = field-first f (joined (g ∷ gs)) (w 0 (omega arith)) ∙ ap (λ (x : List (List ℕ)). f ∷ x) (fields-joined (g ∷ gs) (omega arith) (λ j l. w (suc j) (omega arith)))

-- and from the fields to the text
comma-first : (b : ℕ) (bs : List ℕ) (fs : List (List ℕ)) → b ≡ 44 → LineText bs fs → LineText (b ∷ bs) ([] ∷ fs)
unfolding joined
comma-first b bs [] q t = absurd (no_less 0 t.some-field)
comma-first b bs (f ∷ fs) q t = record { some-field = omega arith; no-comma = all_more 44 [] (f ∷ fs) (λ i h. absurd (no_less i h)) t.no-comma; text-is = (λ i. q i ∷ t.text-is i) }

other-first : (b : ℕ) (bs : List ℕ) (fs : List (List ℕ)) → b ≢ 44 → LineText bs fs → LineText (b ∷ bs) (onto b fs)
unfolding joined
other-first b bs [] n t = absurd (no_less 0 t.some-field)
other-first b bs (f ∷ fs) n t = record {
  some-field = omega arith;
  no-comma = all_more 44 (b ∷ f) fs (without_more 44 b f n (t.no-comma 0 (omega arith))) (λ j h. t.no-comma (suc j) (omega arith));
  text-is = ap (λ (x : List ℕ). b ∷ x) t.text-is ∙ longer fs;
}
  where
    longer : (fs : List (List ℕ)) → b ∷ joined (f ∷ fs) ≡ joined ((b ∷ f) ∷ fs)
    longer [] = refl
    longer (g ∷ gs) = refl

fields-text : (line : List ℕ) → LineText line (fields line)
unfolding fields joined
fields-text [] = record { some-field = omega arith; no-comma = all_more 44 [] [] (λ i h. absurd (no_less i h)) (λ j h. absurd (no_less j h)); text-is = refl }
fields-text (b ∷ bs) = by (eqb b 44) refl (fields-text bs)
  where
    by : (t : Bool) → eqb b 44 ≡ t → LineText bs (fields bs) → LineText (b ∷ bs) (cond t ([] ∷ fields bs) (onto b (fields bs)))
    by true e t = comma-first b bs (fields bs) (eqb-true b 44 e) t
    by false e t = other-first b bs (fields bs) (eqb-false b 44 e) t

-- THE THEOREM on fields
pub fields-bytes : (line : List ℕ) (fs : List (List ℕ)) → (fields line ≡ fs) ↔ LineText line fs
fields-bytes line fs = (λ e. subst (LineText line) e (fields-text line), λ t. ap fields t.text-is ∙ fields-joined fs t.some-field t.no-comma)

-- A SHEET AS ROWS OF FIELDS: every sheet is, and in one way
fields_of : List (List ℕ) → List (List (List ℕ))
fields_of [] = []
fields_of (l ∷ ls) = fields l ∷ fields_of ls

pub cells_of : (sheet : List ℕ) → (rows : List (List (List ℕ))) × Cells sheet rows
unfolding fields_of
cells_of sheet = (fields_of (lines sheet), record { lines = lines sheet; sheet-is = lines-text sheet; count = many (lines sheet); line-is = each (lines sheet) })
  where
    many : (ls : List (List ℕ)) → length (fields_of ls) ≡ length ls
    many [] = refl
    many (l ∷ ls) = ap suc (many ls)

    each : (ls : List (List ℕ)) (k : ℕ) → k < length (fields_of ls) → LineText (get_or ls k []) (get_or (fields_of ls) k [])
    each [] k h = absurd (no_less k h)
    each (l ∷ ls) zero h = fields-text l
    each (l ∷ ls) (suc k) h = each ls k (omega arith)

pub cells_are : (sheet : List ℕ) (rows : List (List (List ℕ))) → Cells sheet rows → (length rows ≡ line_count sheet) × ((k : ℕ) → k < length rows → get_or rows k [] ≡ fields (line_of sheet k))
unfolding line_of
cells_are sheet rows c =
    let e = text-lines sheet c.lines c.sheet-is in
    (c.count ∙ ap length (sym e), λ k h. sym ((fields-bytes (get_or c.lines k []) (get_or rows k [])).1 (c.line-is k h)) ∙ ap (λ (ls : List (List ℕ)). fields (get_or ls k [])) (sym e))

-- an empty sheet has no line
pub empty-sheet : (rows : List (List (List ℕ))) → Cells [] rows → length rows ≡ 0
unfolding lines
empty-sheet rows c = (cells_are [] rows c).0
