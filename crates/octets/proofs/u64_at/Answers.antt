-- `octets::u64_at` meets its contract: the bytes are the chunk that begins at `at`. Assumes nothing.
use Rattle.octets.proofs.Chunks.{be_8}
use Rattle.octets.proofs.u64_at.Goals as goal

pub returns : goal.returns
returns c =
    let a = c.args in
    rw c.from_be_bytes.ensures (be_8 a.at a.s.now _ c.requires c.in-Some.ensures.cases)
