use Rattle.std.proofs.Common.{arith}
use Rattle.io_edges.proofs.FileLemmas.{read_whole}
use Rattle.io_edges.proofs.dir_store.read_bytes.Goals as goal

pub returns : goal.returns
returns g c =
    let e = rw c.take.ensures.inner at c.in_ok-read_to_end.ensures.bytes in
    rw c.from_vec.ensures
    (read_whole (g.R.Read.remaining c.args.file) c.take.result.limit c.new-bytes.result.items c.read_to_end.new.buf.items
    c.take.ensures.limit c.new-bytes.ensures.items e (omega arith))
