-- `Arrangement::put_row`: no byte yet, and one byte more. Assumes nothing.
use Rattle.std.proofs.Common.{ℕ, ◌+◌, ◌*◌, get_or, refl, ◌∙◌}
use Rattle.std.proofs.Math.ListN.{set}
use Rattle.column_file.proofs.Steps.Listed.{store-more}
use Rattle.column_file.specs.Meaning.Columns.{listed}
use Rattle.column_file.specs.Steps.Stored.{every}
use Rattle.column_file.proofs.Arrangement.put_row.Goals as goal

pub loop-j-init : goal.loop-j-init
unfolding every listed
loop-j-init c = refl

pub loop-j-preserved : goal.loop-j-preserved
unfolding every
loop-j-preserved c =
    let a = c.args in
    let l = c.loop-j in
    let at = a.self.start + a.i * a.self.columns in
    let f : ℕ → ℕ = λ j. get_or a.source.now (a.self.start + a.i + j * a.self.rows) 0 in
    (λ i. set (l.invariant i) (at + l.j) (f l.j)) ∙ store-more a.out.now at l.j f
