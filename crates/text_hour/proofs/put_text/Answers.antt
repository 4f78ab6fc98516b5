-- `text_hour::put_text` meets its contract: the copied part is the text. Assumes nothing.
use Rattle.std.proofs.Common.{◌+◌, ◌-◌, length, refl, ap, ◌∙◌, arith}
use borrow.Rule.Slice.PartMut.{put_mid}
use Rattle.bytes_write.specs.Steps.Halves.{copied}
use Rattle.text_hour.proofs.put_text.Goals as goal

pub returns : goal.returns
returns c =
    let a = c.args in
    let n = length a.text.now in
    record {
      bytes = ap (put_mid a.at (a.at + n - a.at) a.out.now) c.copy_from_slice.ensures.after ∙ copied a.out.now a.text.now a.at (a.at + n - a.at) (omega arith) (omega arith);
      position = refl;
    }
