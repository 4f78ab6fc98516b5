-- The report's parts as runs of stores. Assumes nothing.
use Rattle.std.specs.Prelude.{◌≡◌, List, ◌++◌, ℕ, ◌+◌, ◌≤◌, length, drop, ℤ}
use Rattle.std.proofs.Common.{sym, ap, ◌∙◌, add-one, arith}
use Rattle.std.proofs.lemmas.List.Edits.{sets, sets-eq}
use Rattle.base_integers.specs.Meaning.Bytes.{bytes_of, signed64}
use Rattle.base_integers.specs.Steps.Bytes.{sets-append}
use Rattle.rules.specs.Meaning.Layout.{welfare_at, prices_at, zone_price_at}
use Rattle.rules.specs.Meaning.Report as rules
use Rattle.rules.proofs.Promised.Reported.{prices-length}

-- one price more
pub next-price : (l : List ℕ) (z : ℕ) (price : ℕ → ℤ) → sets (sets l prices_at (rules.price_bytes z price)) (zone_price_at z) (signed64 (price z)) ≡ sets l prices_at (rules.price_bytes (z + 1) price)
unfolding rules.price_bytes
next-price l z price =
    ap (λ (k : ℕ). sets (sets l prices_at (rules.price_bytes z price)) (prices_at + k) (signed64 (price z))) (sym (prices-length z price))
    ∙ sets-append l prices_at (rules.price_bytes z price) (signed64 (price z))
    ∙ ap (λ (n : ℕ). sets l prices_at (rules.price_bytes n price)) (sym (add-one z))

-- the three parts in one run, which is the report
pub report-run : (l : List ℕ) (number zones : ℕ) (totals : rules.Totals) (price : ℕ → ℤ) → zone_price_at zones ≤ length l
    → sets (sets (sets l 0 (rules.header_bytes number zones)) welfare_at (rules.total_bytes totals)) prices_at (rules.price_bytes zones price)
    ≡ rules.report_text number zones totals price ++ drop (zone_price_at zones) l
unfolding rules.report_text rules.header_bytes rules.total_bytes signed64 bytes_of
report-run l number zones totals price h =
    let e : 0 + length (rules.report_text number zones totals price) ≡ zone_price_at zones = omega (arith, prices-length zones price) in
    sets-append l 0 (rules.header_bytes number zones ++ rules.total_bytes totals) (rules.price_bytes zones price)
    ∙ sets-eq (rules.report_text number zones totals price) l 0 (omega (arith, prices-length zones price))
    ∙ ap (λ (k : ℕ). rules.report_text number zones totals price ++ drop k l) e
