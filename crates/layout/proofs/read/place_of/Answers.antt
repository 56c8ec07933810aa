use Rattle.std.proofs.Common.{◌≡◌, ap₂, arith}
use Rattle.model.specs.Bytes.{le32}
use Rattle.model.specs.Layouts.{place}
use Rattle.layout.proofs.read.place_of.Goals as goal

pub returns : goal.returns
returns c =
    let start : c.from_le_bytes.result ≡ le32 c.args.bytes.now 0 = omega arith in
    let count : c.from_le_bytes-2.result ≡ le32 c.args.bytes.now 4 = omega arith in
    ap₂ place start count
