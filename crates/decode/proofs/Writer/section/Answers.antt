-- `decode::Writer::section` meets its contract. Assumes nothing.
use mathlib.Core.Path.{refl}
use mathlib.Core.List.{List}
use Prim.Native.Nat.{ℕ, suc}
use native.Mathlib.Numerals.{add-one}
use native.Mathlib.Omega.{arith}
use lib.ListN.{length, set, length-set}
use Rattle.plan.proofs.Stored.{body_laid}
use Rattle.decode.proofs.Emitted.{same_length}
use Rattle.decode.proofs.Writer.section.Goals as goal

pub returns : goal.returns
returns c = let body : List ℕ = c.args.body.now in
    let d : List ℕ = c.args.self.now.buffer.now in
    let at : ℕ = c.args.self.now.place in
    record {
      same_buffer = refl;
      same_room = same_length d body at
          (rw (c.copy.ensures, add-one) (body_laid (set d at (length body)) body (suc at) _ refl (simp length-set (omega (arith, c.requires.has_room)))));
      place = omega arith;
      stored = rw (c.copy.ensures, add-one) (body_laid (set d at (length body)) body (suc at) _ refl (simp length-set (omega (arith, c.requires.has_room))));
    }
