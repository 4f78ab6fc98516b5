-- `DeskQueue::with_cells`: what is copied over a part of the bytes is pasted there. Assumes nothing.
use Rattle.std.proofs.Common.{◌≡◌, ◌+◌, ◌*◌, ◌-◌, length, sym, arith, rules}
use Rattle.std.proofs.lemmas.Slice.{put_mid-paste}
use Rattle.queue_bytes.proofs.DeskQueue.with_cells.Goals as goal

pub returns : goal.returns
returns c =
    let a = c.args in
    let n : length a.cells ≡ 25 = search rules in
    put_mid-paste (25 * a.area) (25 * a.area + 25 - 25 * a.area) a.self.bytes c.copy_from_slice.new.self a.cells 25 c.copy_from_slice.ensures.after (omega arith) (sym n)
