-- `writes::Pen::packet` meets its contract: a part after the other. Assumes nothing.
use mathlib.Core.Path.{sym, ap}
use Prim.Native.Nat.{ℕ, ◌^◌}
use Rattle.std.proofs.lemmas.Nat.{one_shl}
use Rattle.writes.specs.Parts.{packet_pairs}
use Rattle.writes.proofs.Written.{writes_then, writes_as}
use Rattle.writes.proofs.Pen.packet.Goals as goal

pub returns-clause-puts : goal.returns-clause-puts
returns-clause-puts c = let pen = c.args.self.now in
    let packet = c.args.packet in
    let raised = sym (one_shl packet.hold 8 packet.in_a_byte) in
    writes_as _ (packet_pairs (2 ^ packet.hold) packet.first packet.count)
    (ap (λ (hold : ℕ). packet_pairs hold packet.first packet.count pen.image.now pen.bytes.now) raised)
    (writes_then _ _ (writes_then _ _ c.put.ensures (rw (c.from.ensures, c.from-2.ensures) at c.row.ensures.puts)) c.put-2.ensures)
