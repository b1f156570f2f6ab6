-- `plan::Wanted::with_wiring` meets its contract. Assumes nothing.
use mathlib.Core.Path.{◌≡◌, refl, ap, ◌∙◌}
use mathlib.Core.List.{List, [], ◌∷◌, map}
use Prim.Native.Nat.{ℕ, ◌*◌}
use Rattle.wiring.specs.Wiring.{wires_of}
use Rattle.chip.specs.Machine.{◌gets◌}
use Rattle.writes.specs.Rows.{from}
use Rattle.plan.specs.Places.{places}
use Rattle.plan.specs.Wanted.{placed_at, laid_bytes, stores}
use Rattle.plan.proofs.Stored.{more}
use Rattle.plan.proofs.Made.{wiring_made}
use Rattle.plan.proofs.Wanted.with_wiring.Goals as goal

pub returns : goal.returns
returns c p = let out : List ℕ = c.args.self.now.bytes in
    let r = c.args.accepted.request in
    let e = c.wires.ensures.value in
    let bytes : List ℕ = map (λ a. placed_at a (places r p)) (from 0x30 5) in
    let five : c.laid.new.self.bytes ≡ stores out (laid_bytes 0x30 bytes) = rw (c.sync_bytes.ensures p) at c.laid.ensures in
    rw e (more out (laid_bytes 0x30 bytes) (0x48 gets ((wires_of r.wiring).justification * 8) ∷ []) five refl ∙ ap (stores out) (wiring_made r p))
