-- `put_count`: a count is all its digits. Assumes nothing.
use Rattle.std.specs.Prelude.{ℕ}
use Rattle.std.proofs.Common.{ap, arith}
use Rattle.text_rules.specs.Meaning.Text.{last_digits, count_text}
use Rattle.text_rules.proofs.Promised.Value.{count-length}
use Rattle.text_rules.proofs.Steps.Put.{put_as}
use Rattle.text_decimal.proofs.put_count.Goals as goal

pub put_last-requires : goal.put_last-requires
put_last-requires c = omega (arith, count-length c.args.n, c.count_places.ensures)

pub returns : goal.returns
unfolding count_text
returns c = put_as (ap (λ (k : ℕ). last_digits k c.args.n) c.count_places.ensures) c.put_last.ensures
