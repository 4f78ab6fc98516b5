-- `column_file::copy` meets its contract: no byte yet, and one byte more. Assumes nothing.
use Rattle.std.proofs.Common.{◌≡◌, ℕ, ◌+◌, ◌*◌, get_or, refl, ◌∙◌, arith}
use Rattle.std.proofs.Math.ListN.{set}
use Rattle.column_file.proofs.Steps.Listed.{store-more}
use Rattle.column_file.specs.Meaning.Columns.{listed}
use Rattle.column_file.specs.Steps.Stored.{every}
use Rattle.column_file.proofs.copy.Goals as goal

pub loop-j-init : goal.loop-j-init
unfolding every listed
loop-j-init c = refl

pub loop-j-preserved : goal.loop-j-preserved
unfolding every
loop-j-preserved c =
    let a = c.args in
    let l = c.loop-j in
    let f : ℕ → ℕ = λ j. get_or a.source.now (a.at + j * 1) 0 in
    let same : a.at + l.j ≡ a.at + l.j * 1 = omega arith in
    (λ i. set (l.invariant i) (a.at + l.j) (get_or a.source.now (same i) 0)) ∙ store-more a.out.now a.at l.j f
