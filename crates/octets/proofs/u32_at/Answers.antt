-- `octets::u32_at` meets its contract, as `u64_at` does. Assumes nothing.
use mathlib.Core.Path.{◌∙◌}
use Rattle.octets.proofs.Chunks.{be_4}
use Rattle.octets.proofs.u32_at.Goals as goal

pub returns : goal.returns
returns c =
    let a = c.args in
    c.from.ensures ∙ c.from_be_bytes.ensures ∙ be_4 a.at a.s.now _ c.requires c.in-Some.ensures.cases
