-- A number as one walk from the left finds it: the leading digits of a text, then perhaps a point and digits, then
-- the mark or the end of the text. Assumes nothing.
use Rattle.std.specs.Prelude.{◌≡◌, Bool, not, ◌&&◌, ◌||◌, ℕ, suc, ◌+◌, ◌≤◌, ◌<◌, T, get_or}
use Rattle.std.proofs.Math.Path.{refl, sym, ap}
use Rattle.std.proofs.Common.{◌∙◌, subst, arith, length-append, drop_of_length-le, drop-cons}
use Rattle.std.proofs.Math.Bool.{true, false, cond}
use denote.Bor.{Bor}
use Rattle.std.specs.Char.{is_ascii_digit}
use Rattle.std.specs.Option.{is_some, IfSome, MatchOption, option_eq}
use Rattle.std.specs.declared.option.Option as code
use Rattle.std.specs.declared.option.Option.TheVariants.{None, Some}
use mathlib.Core.List.{List, [], ◌∷◌, ◌++◌, append-nil}
use Rattle.std.proofs.lemmas.List.{get_or_default}
use borrow.Author.Tests.{eqb-true, ltb-true, ltb-false}
use Rattle.std.proofs.Math.Dec.{eqb, ltb}
use Rattle.std.proofs.Math.ListN.{length, drop}
use Rattle.std.proofs.Math.Seq.{drop-append_seam}
use Rattle.sheet_numbers.specs.Meaning.Numeral.{is_digit, only_digits, digits, starts, has, before, after, negative, unsigned, whole, decimals, is_number}
use Rattle.sheet_numbers.specs.Meaning.Scan.{Separator}
use Rattle.sheet_numbers.specs.Steps.Scan.{leading, sign_length, stops}

pub clash : true ≡ false → ⊥
clash q = subst (λ (t : Bool). T t) q tt

-- at a place of a text, and past its end
module _ (mark : ℕ) (s : List ℕ) (i : ℕ) where
  pub starts-here : i < length s → starts mark (drop i s) ≡ eqb (get_or s i 0) mark
  unfolding starts
  starts-here h = ap (starts mark) (drop-cons s i 0 h)

  pub starts-end : length s ≤ i → starts mark (drop i s) ≡ false
  unfolding starts
  starts-end h = ap (starts mark) (drop_of_length-le s h)

  pub stops-here : i < length s → stops mark (drop i s) ≡ eqb (get_or s i 0) mark
  unfolding stops
  stops-here h = ap (stops mark) (drop-cons s i 0 h)

  pub stops_end : length s ≤ i → stops mark (drop i s) ≡ true
  unfolding stops
  stops_end h = ap (stops mark) (drop_of_length-le s h)

-- a digit by the library's test
pub as_digit : (b : ℕ) {r : Bool} → r ≡ is_ascii_digit b → is_digit b ≡ r
unfolding is_digit
as_digit b e = sym e

-- the byte that a look-up gives at a place, if it gives one
module _ (mark : ℕ) (s : List ℕ) (i : ℕ) where
  looked-up : (x : ℕ) → x ≡ get_or s i x → i < length s → x ≡ get_or s i 0
  looked-up x e h = e ∙ get_or_default s i x 0 h

  pub starts-got : (o : code.Option (Bor ℕ)) → is_some o ≡ ltb i (length s) → IfSome o (λ x. x.now ≡ get_or s i x.now) → (m : Bor ℕ) → m.now ≡ mark → option_eq (λ (x y : Bor ℕ). eqb x.now y.now) o (Some m) ≡ starts mark (drop i s)
  starts-got None e h m p = sym (starts-end mark s i (ltb-false i (length s) (sym e)))
  starts-got (Some x) e h m p =
      let l = ltb-true i (length s) (sym e) in
      (λ j. eqb (looked-up x.now h l j) (p j)) ∙ sym (starts-here mark s i l)

  pub stops-got : (o : code.Option (Bor ℕ)) → is_some o ≡ ltb i (length s) → IfSome o (λ x. x.now ≡ get_or s i x.now) → {r : Bool} → MatchOption o (r ≡ true) (λ x. r ≡ eqb x.now mark) → r ≡ stops mark (drop i s)
  stops-got None e h t = t ∙ sym (stops_end mark s i (ltb-false i (length s) (sym e)))
  stops-got (Some x) e h t =
      let l = ltb-true i (length s) (sym e) in
      t ∙ ap (λ (n : ℕ). eqb n mark) (looked-up x.now h l) ∙ sym (stops-here mark s i l)

pub sign-length : (t : List ℕ) → length t ≡ sign_length t + length (unsigned t)
unfolding unsigned negative starts
sign-length [] = refl
sign-length (b ∷ t) = by (eqb b 45)
  where
    by : (c : Bool) → length (b ∷ t) ≡ cond c 1 0 + length (drop (cond c 1 0) (b ∷ t))
    by true = omega arith
    by false = omega arith

abbrev pub rest : List ℕ → List ℕ
rest t = drop (length (leading t)) t

pub lead-split : (t : List ℕ) → leading t ++ rest t ≡ t
unfolding leading
lead-split [] = refl
lead-split (b ∷ t) = by (is_digit b) (lead-split t)
  where
    by : (c : Bool) → leading t ++ rest t ≡ t → cond c (b ∷ leading t) [] ++ drop (length (cond c (b ∷ leading t) [])) (b ∷ t) ≡ b ∷ t
    by true e = ap (λ (l : List ℕ). b ∷ l) e
    by false e = refl

-- no digit follows them
unfoldable pub opens : List ℕ → Bool
opens [] = false
opens (b ∷ bs) = is_digit b

pub rest-opens : (t : List ℕ) → opens (rest t) ≡ false
unfolding leading opens
rest-opens [] = refl
rest-opens (b ∷ t) = by (is_digit b) refl (rest-opens t)
  where
    by : (c : Bool) → is_digit b ≡ c → opens (rest t) ≡ false → opens (drop (length (cond c (b ∷ leading t) [])) (b ∷ t)) ≡ false
    by true q e = e
    by false q e = q

-- where a walk stands: a digit, another byte, the end
pub lead-digit : (s : List ℕ) (i : ℕ) → i < length s → is_digit (get_or s i 0) ≡ true → leading (drop i s) ≡ get_or s i 0 ∷ leading (drop (i + 1) s)
unfolding leading
lead-digit s i h e =
    ap leading (drop-cons s i 0 h) ∙ ap (λ (c : Bool). cond c (get_or s i 0 ∷ leading (drop (suc i) s)) []) e ∙ ap (λ (k : ℕ). get_or s i 0 ∷ leading (drop k s)) next
  where
    next : suc i ≡ i + 1
    next = omega arith

pub lead-other : (s : List ℕ) (i : ℕ) → i < length s → is_digit (get_or s i 0) ≡ false → leading (drop i s) ≡ []
unfolding leading
lead-other s i h e = ap leading (drop-cons s i 0 h) ∙ ap (λ (c : Bool). cond c (get_or s i 0 ∷ leading (drop (suc i) s)) []) e

pub lead-end : (s : List ℕ) (i : ℕ) → length s ≤ i → leading (drop i s) ≡ []
unfolding leading
lead-end s i h = ap leading (drop_of_length-le s h)

-- DIGITS BEFORE A TEXT leave its marks unchanged
module _ (l : List ℕ) where
  pub only_then : (t : List ℕ) → only_digits (leading t ++ l) ≡ only_digits l
  unfolding leading only_digits
  only_then [] = refl
  only_then (b ∷ t) = by (is_digit b) refl (only_then t)
    where
      by : (c : Bool) → is_digit b ≡ c → only_digits (leading t ++ l) ≡ only_digits l → only_digits (cond c (b ∷ leading t) [] ++ l) ≡ only_digits l
      by true q e = (λ i. q i && e i)
      by false q e = refl

  module _ (mark : ℕ) (m : is_digit mark ≡ false) where
    -- a digit is no mark
    not-mark : (b : ℕ) → is_digit b ≡ true → (c : Bool) → eqb b mark ≡ c → c ≡ false
    not-mark b q true e = absurd (clash (sym q ∙ ap is_digit (eqb-true b mark e) ∙ m))
    not-mark b q false e = refl

    pub before-then : (t : List ℕ) → before mark (leading t ++ l) ≡ leading t ++ before mark l
    unfolding leading before
    before-then [] = refl
    before-then (b ∷ t) = by (is_digit b) refl (before-then t)
      where
        by : (c : Bool) → is_digit b ≡ c → before mark (leading t ++ l) ≡ leading t ++ before mark l → before mark (cond c (b ∷ leading t) [] ++ l) ≡ cond c (b ∷ leading t) [] ++ before mark l
        by true q e = ap (λ (x : Bool). cond x [] (b ∷ before mark (leading t ++ l))) (not-mark b q (eqb b mark) refl) ∙ ap (λ (x : List ℕ). b ∷ x) e
        by false q e = refl

    pub after_then : (t : List ℕ) → after mark (leading t ++ l) ≡ after mark l
    unfolding leading after
    after_then [] = refl
    after_then (b ∷ t) = by (is_digit b) refl (after_then t)
      where
        by : (c : Bool) → is_digit b ≡ c → after mark (leading t ++ l) ≡ after mark l → after mark (cond c (b ∷ leading t) [] ++ l) ≡ after mark l
        by true q e = ap (λ (x : Bool). cond x (leading t ++ l) (after mark (leading t ++ l))) (not-mark b q (eqb b mark) refl) ∙ e
        by false q e = refl

    pub has-then : (t : List ℕ) → has mark (leading t ++ l) ≡ has mark l
    unfolding leading has
    has-then [] = refl
    has-then (b ∷ t) = by (is_digit b) refl (has-then t)
      where
        by : (c : Bool) → is_digit b ≡ c → has mark (leading t ++ l) ≡ has mark l → has mark (cond c (b ∷ leading t) [] ++ l) ≡ has mark l
        by true q e = ap (λ (x : Bool). x || has mark (leading t ++ l)) (not-mark b q (eqb b mark) refl) ∙ e
        by false q e = refl

-- WHETHER DIGITS AND A TEXT AFTER THEM ARE DIGITS
no_byte : (l : List ℕ) → length l ≡ 0 → l ≡ []
no_byte [] e = refl
no_byte (b ∷ l) e = absurd (omega arith)

digits-some : (l : List ℕ) → 0 < length l → digits l ≡ only_digits l
unfolding digits
digits-some [] h = absurd (omega arith)
digits-some (b ∷ l) h = refl

digits-then : (t l : List ℕ) → 0 < length (leading t) → digits (leading t ++ l) ≡ only_digits l
digits-then t l h = digits-some (leading t ++ l) (omega (arith, length-append (leading t) l)) ∙ only_then l t

digits-other : (l : List ℕ) → opens l ≡ false → digits l ≡ false
unfolding digits only_digits opens
digits-other [] e = refl
digits-other (b ∷ l) e = ap (λ (c : Bool). c && only_digits l) e

opens_before : (mark : ℕ) (l : List ℕ) → opens l ≡ false → opens (before mark l) ≡ false
unfolding opens before
opens_before mark [] e = refl
opens_before mark (b ∷ l) e = by (eqb b mark)
  where
    by : (c : Bool) → opens (cond c [] (b ∷ before mark l)) ≡ false
    by true = refl
    by false = e

-- WHERE DIGITS STOP: at the mark or the end, at another byte, at a point
stop-none : (mark : ℕ) (l : List ℕ) → stops mark l ≡ true → before mark l ≡ []
unfolding stops before
stop-none mark [] e = refl
stop-none mark (b ∷ l) e = ap (λ (c : Bool). cond c [] (b ∷ before mark l)) e

stop-other : (mark : ℕ) (l : List ℕ) → stops mark l ≡ false → opens l ≡ false → only_digits (before mark l) ≡ false
unfolding stops before opens only_digits
stop-other mark [] e o = absurd (clash e)
stop-other mark (b ∷ l) e o = ap (λ (c : Bool). only_digits (cond c [] (b ∷ before mark l))) e ∙ ap (λ (c : Bool). c && only_digits (before mark l)) o

-- the digits of a text up to a mark
module _ (mark : ℕ) (m : is_digit mark ≡ false) (t : List ℕ) where
  up_to : before mark t ≡ leading t ++ before mark (rest t)
  up_to = ap (before mark) (sym (lead-split t)) ∙ before-then (rest t) mark m t

  none-there : length (leading t) ≡ 0 → digits (before mark t) ≡ false
  none-there e = digits-other (before mark t) (opens_before mark t (subst (λ (l : List ℕ). opens (drop (length l) t) ≡ false) (no_byte (leading t) e) (rest-opens t)))

  all_there : stops mark (rest t) ≡ true → before mark t ≡ leading t
  all_there e = up_to ∙ ap (λ (l : List ℕ). leading t ++ l) (stop-none mark (rest t) e) ∙ append-nil (leading t)

  digits-there : 0 < length (leading t) → stops mark (rest t) ≡ true → digits (before mark t) ≡ true
  unfolding only_digits
  digits-there h e = ap digits up_to ∙ digits-then t (before mark (rest t)) h ∙ ap only_digits (stop-none mark (rest t) e)

  other-there : 0 < length (leading t) → stops mark (rest t) ≡ false → digits (before mark t) ≡ false
  other-there h e = ap digits up_to ∙ digits-then t (before mark (rest t)) h ∙ stop-other mark (rest t) e (rest-opens t)

-- A TEXT UP TO A MARK has the same leading digits
module _ (mark : ℕ) (m : is_digit mark ≡ false) where
  lead-before : (t : List ℕ) → leading (before mark t) ≡ leading t
  unfolding leading before
  lead-before [] = refl
  lead-before (b ∷ t) = by (is_digit b) refl (lead-before t)
    where
      at_mark : (c : Bool) → is_digit b ≡ false → leading (cond c [] (b ∷ before mark t)) ≡ []
      at_mark true q = refl
      at_mark false q = ap (λ (x : Bool). cond x (b ∷ leading (before mark t)) []) q

      by : (c : Bool) → is_digit b ≡ c → leading (before mark t) ≡ leading t → leading (before mark (b ∷ t)) ≡ cond c (b ∷ leading t) []
      by true q e = ap (λ (x : Bool). leading (cond x [] (b ∷ before mark t))) (not-mark [] mark m b q (eqb b mark) refl)
          ∙ ap (λ (x : Bool). cond x (b ∷ leading (before mark t)) []) q
          ∙ ap (λ (l : List ℕ). b ∷ l) e
      by false q e = at_mark (eqb b mark) q

  rest-before : (t : List ℕ) → rest (before mark t) ≡ before mark (rest t)
  rest-before t = (λ i. drop (length (lead-before t i)) (up_to mark m t i)) ∙ drop-append_seam (leading t) (before mark (rest t))

-- A NUMBER BY ITS PARTS, in a text up to a mark
module _ (mark : ℕ) (sep : Separator mark) where
  pub sign-before : (t : List ℕ) → negative (before mark t) ≡ negative t
  unfolding negative starts before
  sign-before [] = refl
  sign-before (b ∷ t) = by (eqb b mark) refl
    where
      by : (c : Bool) → eqb b mark ≡ c → starts 45 (cond c [] (b ∷ before mark t)) ≡ eqb b 45
      by true q = sym (ap (λ (x : ℕ). eqb x 45) (eqb-true b mark q) ∙ sep.no_sign)
      by false q = refl

  unsigned-before : (t : List ℕ) → unsigned (before mark t) ≡ before mark (unsigned t)
  unfolding unsigned negative starts before
  unsigned-before [] = refl
  unsigned-before (b ∷ t) = by (eqb b mark) refl (eqb b 45) refl
    where
      by : (c : Bool) → eqb b mark ≡ c → (s : Bool) → eqb b 45 ≡ s → unsigned (cond c [] (b ∷ before mark t)) ≡ before mark (drop (cond s 1 0) (b ∷ t))
      by true q true r = absurd (clash (sym r ∙ ap (λ (x : ℕ). eqb x 45) (eqb-true b mark q) ∙ sep.no_sign))
      by true q false r = sym (ap (λ (c : Bool). cond c [] (b ∷ before mark t)) q)
      by false q true r = ap (λ (c : Bool). drop (cond c 1 0) (b ∷ before mark t)) r
      by false q false r = ap (λ (c : Bool). drop (cond c 1 0) (b ∷ before mark t)) r ∙ sym (ap (λ (c : Bool). cond c [] (b ∷ before mark t)) q)

  point-before : (l : List ℕ) → starts 46 l ≡ true → before mark l ≡ 46 ∷ before mark (drop 1 l)
  unfolding starts before
  point-before [] e = absurd (clash (sym e))
  point-before (b ∷ l) e = let q = eqb-true b 46 e in
      ap (λ (c : Bool). cond c [] (b ∷ before mark l)) (other (eqb b mark) refl q) ∙ ap (λ (x : ℕ). x ∷ before mark l) q
    where
      other : (c : Bool) → eqb b mark ≡ c → b ≡ 46 → c ≡ false
      other true r q = absurd (clash (sym (ap (λ (x : ℕ). eqb x 46) (sym (eqb-true b mark r) ∙ q)) ∙ sep.no-point))
      other false r q = refl

  neither-before : (l : List ℕ) → stops mark l ≡ false → starts 46 l ≡ false → stops 46 (before mark l) ≡ false
  unfolding stops starts before
  neither-before [] e p = absurd (clash e)
  neither-before (b ∷ l) e p = ap (λ (c : Bool). stops 46 (cond c [] (b ∷ before mark l))) e ∙ p

  module _ (t : List ℕ) where
    abbrev pub text : List ℕ
    text = before mark t

    abbrev u : List ℕ
    u = unsigned t

    abbrev g : List ℕ
    g = before mark u

    abbrev v : List ℕ
    v = drop 1 (rest u)

    text-length : length text ≡ sign_length t + length g
    text-length = sign-length text ∙ (λ i. cond (sign-before t i) 1 0 + length (unsigned-before t i))

    whole_of : whole text ≡ before 46 g
    unfolding whole
    whole_of = ap (before 46) (unsigned-before t)

    rest-of : rest g ≡ before mark (rest u)
    rest-of = rest-before mark sep.no_digit u

    lead-of : leading g ≡ leading u
    lead-of = lead-before mark sep.no_digit u

    not-digits : digits (before 46 g) ≡ false → is_number text ≡ false
    unfolding is_number
    not-digits e = ap (λ (c : Bool). c && (not (has 46 (unsigned text)) || digits (decimals text))) (ap digits whole_of ∙ e)

    -- no digit; or digits, and then neither a point nor the mark
    pub no-digits : length (leading u) ≡ 0 → is_number text ≡ false
    unfolding is_digit
    no-digits e = not-digits (none-there 46 refl g (ap length lead-of ∙ e))

    pub no-mark : 0 < length (leading u) → stops mark (rest u) ≡ false → starts 46 (rest u) ≡ false → is_number text ≡ false
    unfolding is_digit
    no-mark h e p = not-digits (other-there 46 refl g (omega (arith, ap length lead-of)) (ap (stops 46) rest-of ∙ neither-before (rest u) e p))

    -- digits alone
    module _ (h : 0 < length (leading u)) (e : stops mark (rest u) ≡ true) where
      none_after : before mark (rest u) ≡ []
      none_after = stop-none mark (rest u) e

      alone : g ≡ leading u
      alone = all_there mark sep.no_digit u e

      pub alone-whole : whole text ≡ leading u
      unfolding is_digit stops
      alone-whole = whole_of ∙ all_there 46 refl g (ap (stops 46) (rest-of ∙ none_after)) ∙ lead-of

      pub alone-decimals : decimals text ≡ []
      unfolding decimals is_digit after
      alone-decimals = ap (after 46) (unsigned-before t ∙ up_to mark sep.no_digit u) ∙ after_then (before mark (rest u)) 46 refl u ∙ ap (after 46) none_after

      pub alone-number : is_number text ≡ true
      unfolding is_number is_digit stops has
      alone-number = (λ i. (ap digits whole_of ∙ digits-there 46 refl g (omega (arith, ap length lead-of)) (ap (stops 46) (rest-of ∙ none_after))) i
          && (not ((ap (has 46) (unsigned-before t ∙ up_to mark sep.no_digit u) ∙ has-then (before mark (rest u)) 46 refl u ∙ ap (has 46) none_after) i) || digits (decimals text)))

      pub alone-length : length text ≡ sign_length t + length (leading u)
      alone-length = text-length ∙ ap (λ (l : List ℕ). sign_length t + length l) alone

    -- digits, a point, and what follows up to the mark
    module _ (h : 0 < length (leading u)) (p : starts 46 (rest u) ≡ true) where
      pointed : before mark (rest u) ≡ 46 ∷ before mark v
      pointed = point-before (rest u) p

      spelled : unsigned text ≡ leading u ++ 46 ∷ before mark v
      spelled = unsigned-before t ∙ up_to mark sep.no_digit u ∙ ap (λ (l : List ℕ). leading u ++ l) pointed

      pub point-whole : whole text ≡ leading u
      unfolding is_digit stops
      point-whole = whole_of ∙ all_there 46 refl g (ap (stops 46) (rest-of ∙ pointed)) ∙ lead-of

      pub point-decimals : decimals text ≡ before mark v
      unfolding decimals is_digit after
      point-decimals = ap (after 46) spelled ∙ after_then (46 ∷ before mark v) 46 refl u

      point-number : is_number text ≡ digits (before mark v)
      unfolding is_number is_digit stops has
      point-number = (λ i. (ap digits whole_of ∙ digits-there 46 refl g (omega (arith, ap length lead-of)) (ap (stops 46) (rest-of ∙ pointed))) i
          && (not ((ap (has 46) spelled ∙ has-then (46 ∷ before mark v) 46 refl u) i) || digits (point-decimals i)))

      pub point-no-digits : length (leading v) ≡ 0 → is_number text ≡ false
      point-no-digits e = point-number ∙ none-there mark sep.no_digit v e

      pub point-no-mark : 0 < length (leading v) → stops mark (rest v) ≡ false → is_number text ≡ false
      point-no-mark l e = point-number ∙ other-there mark sep.no_digit v l e

      module _ (l : 0 < length (leading v)) (e : stops mark (rest v) ≡ true) where
        pub point-is-number : is_number text ≡ true
        point-is-number = point-number ∙ digits-there mark sep.no_digit v l e

        pub point-all : decimals text ≡ leading v
        point-all = point-decimals ∙ all_there mark sep.no_digit v e

        pub point-length : length text ≡ sign_length t + (length (leading u) + (1 + length (leading v)))
        point-length =
            text-length
            ∙ ap (λ (x : List ℕ). sign_length t + length x) (up_to mark sep.no_digit u ∙ ap (λ (x : List ℕ). leading u ++ x) (pointed ∙ ap (λ (x : List ℕ). 46 ∷ x) (all_there mark sep.no_digit v e)))
            ∙ ap (λ (n : ℕ). sign_length t + n) (length-append (leading u) (46 ∷ leading v) ∙ omega arith)
