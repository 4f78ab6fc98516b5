-- `put`: the copied part is the run of the low bytes. Assumes nothing.
use Rattle.std.specs.Prelude.{◌≡◌, ◌+◌, ◌-◌, take}
use Rattle.std.proofs.Common.{ap, ◌∙◌, arith}
use borrow.Rule.Slice.PartMut.{put_mid}
use Rattle.base_integers.specs.Meaning.Bytes.{bytes_of}
use Rattle.base_integers.specs.Steps.Bytes.{bytes-length}
use Rattle.bytes_write.specs.Steps.Halves.{copied, low-bytes}
use Rattle.bytes_write.proofs.put.Goals as goal

pub returns : goal.returns
returns g c =
    let n = g.row.N in
    let low : c.copy_from_slice.new.self ≡ bytes_of n c.args.x.0 =
    c.copy_from_slice.ensures.after ∙ ap (take n) c.to_le_bytes.ensures ∙ low-bytes n c.args.x.0 c.requires.width in
    ap (put_mid c.args.at (c.args.at + n - c.args.at) c.args.out.now) low
    ∙ copied c.args.out.now (bytes_of n c.args.x.0) c.args.at (c.args.at + n - c.args.at) (omega (arith, bytes-length n c.args.x.0)) (omega arith)
