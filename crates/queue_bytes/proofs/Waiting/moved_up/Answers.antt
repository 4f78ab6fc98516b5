-- `Waiting::moved_up`: the cells from 1 on are the first 24. Assumes nothing.
use Rattle.std.proofs.Common.{length, ap, ◌∙◌, List, ℕ, ◌-◌, ◌++◌, ◌∷◌, [], drop, arith, take_all, length-drop}
use Rattle.queue_bytes.proofs.Waiting.moved_up.Goals as goal

pub returns : goal.returns
returns c =
    let cells = c.args.self.cells in
    ap (λ (x : List ℕ). x ++ (0 ∷ [])) (c.copy_from_slice.ensures.after ∙ take_all (length cells - 1) (drop 1 cells) (omega (arith, length-drop 1 cells)))
