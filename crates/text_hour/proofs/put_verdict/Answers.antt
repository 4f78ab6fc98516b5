-- `text_hour::put_verdict` meets its contract: name and number, index and newline, each where the one before ends.
-- Assumes nothing.
use Rattle.std.proofs.Common.{ℕ, ◌++◌, length, ap, arith, length-append}
use Rattle.text_rules.specs.Meaning.Ascii.{ascii}
use Rattle.text_rules.specs.Meaning.Text.{count_text}
use Rattle.text_rules.specs.Meaning.Put.{Put}
use Rattle.text_rules.proofs.Steps.Put.{put_as, put-length, put_then}
use Rattle.rules.specs.Meaning.Lines.{verdict_line}
use Rattle.text_hour.proofs.put_verdict.Goals as goal
use Rattle.text_hour.proofs.put_verdict.Goals.{After-put_named-index, After-put_count-end}

-- the name and the number, and the index, each as the verdict has it
named : (c : After-put_named-index) → Put c.args.out.now c.args.at (ascii "verdict " ++ count_text c.args.v.number ++ ascii " ") c.put_named-index.new.out c.put_named-index.result
named c = put_as (ap (λ (n : ℕ). ascii "verdict " ++ count_text n ++ ascii " ") c.from.ensures) c.put_named-index.ensures

indexed : (c : After-put_count-end) → Put c.put_named-index.new.out c.put_named-index.result (count_text c.args.v.index) c.put_count-end.new.out c.put_count-end.result
indexed c = put_as (ap count_text c.from-2.ensures) c.put_count-end.ensures

pub put_named-index-requires : goal.put_named-index-requires
unfolding verdict_line
put_named-index-requires c =
    simp length-append (omega (arith, simp length-append at c.requires, ap (λ (n : ℕ). length (count_text n)) c.from.ensures))

pub put_count-end-requires : goal.put_count-end-requires
unfolding verdict_line
put_count-end-requires c =
    let number = named (goal.at.put_count-end-requires c).After-put_named-index in
    omega (arith, simp length-append at c.requires, simp length-append at number.position, put-length number, ap (λ (n : ℕ). length (count_text n)) c.from-2.ensures)

pub put_text-requires : goal.put_text-requires
unfolding verdict_line
put_text-requires c =
    let number = named (goal.at.put_text-requires c).After-put_named-index in
    let index = indexed (goal.at.put_text-requires c).After-put_count-end in
    omega (arith, simp length-append at c.requires, simp length-append at number.position, put-length number, index.position, put-length index)

pub returns : goal.returns
unfolding verdict_line
returns c =
    put_then (put_then (named (goal.at.returns c).After-put_named-index) (indexed (goal.at.returns c).After-put_count-end)) c.put_text.ensures
