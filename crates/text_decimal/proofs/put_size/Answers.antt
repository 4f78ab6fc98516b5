-- `put_size`: whole part, point and decimals, each where the one before ends. Assumes nothing.
use Rattle.std.specs.Prelude.{[], ◌∷◌, ℕ, ◌+◌, ◌/◌, ◌^◌, ◌≤◌, length}
use Rattle.std.proofs.Common.{ap, append_assoc, arith, length-set}
use Rattle.text_rules.specs.Meaning.Put.{Put}
use Rattle.text_rules.specs.Meaning.Text.{last_digits, count_text, size_text}
use Rattle.text_rules.proofs.Promised.Sizes.{size-length}
use Rattle.text_rules.proofs.Steps.Put.{put_as, put-length, put_then, put_byte}
use Rattle.text_decimal.proofs.put_size.Goals as goal
use Rattle.text_decimal.proofs.put_size.Goals.{After-put_count-point}
use Rattle.text_decimal.proofs.put_size.Given.{Over}

whole-put : (g : Over) (c : After-put_count-point g) → Put c.args.out.now c.args.at (count_text (c.args.n / 10 ^ g.row.DECIMALS)) c.put_count-point.new.out c.put_count-point.result
whole-put g c = put_as (ap count_text c.whole-whole.ensures) c.put_count-point.ensures

-- room for the point and the decimals
room : (g : Over) (c : After-put_count-point g) → c.put_count-point.result + 1 + g.row.DECIMALS ≤ length c.put_count-point.new.out
room g c = omega (arith, put-length (whole-put g c), (whole-put g c).position, size-length g.row.DECIMALS c.args.n, c.requires.n_in_bounds)

pub put_count-point-requires : goal.put_count-point-requires
put_count-point-requires g c = omega (arith, ap (λ (n : ℕ). length (count_text n)) c.whole-whole.ensures, size-length g.row.DECIMALS c.args.n, c.requires.n_in_bounds)

pub bounds-out-point : goal.bounds-out-point
bounds-out-point g c = omega (arith, room g (goal.at.bounds-out-point g c).After-put_count-point)

pub overflow_add-point : goal.overflow_add-point
overflow_add-point g c = let d = (goal.at.overflow_add-point g c).After-put_count-point in omega (arith, room g d, put-length (whole-put g d))

pub put_last-requires : goal.put_last-requires
put_last-requires g c = simp length-set (omega (arith, room g (goal.at.put_last-requires g c).After-put_count-point))

pub returns : goal.returns
unfolding size_text
returns g c =
    let a = c.args in
    put_as (append_assoc (count_text (a.n / 10 ^ g.row.DECIMALS)) (46 ∷ []) (last_digits g.row.DECIMALS a.n))
    (put_then (put_then (whole-put g (goal.at.returns g c).After-put_count-point) (put_byte c.put_count-point.new.out c.put_count-point.result 46)) c.put_last.ensures)
