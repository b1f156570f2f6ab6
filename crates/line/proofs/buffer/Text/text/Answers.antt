-- `line::Text::text` meets its contract. Assumes nothing.
use mathlib.Core.Path.{◌≡◌, refl}
use Prim.Native.Nat.{◌+◌, ◌-◌}
use native.Mathlib.Omega.{arith}
use mathlib.Core.List.{append_assoc}
use lib.ListN.{length}
use borrow.Author.Rules.{rules}
use lib.Seq.{sets-eq, drop-drop}
use Rattle.line.proofs.buffer.Text.text.Goals as goal

pub returns : goal.returns
returns c =
    let a = c.args.self.now in
    let xs = c.args.letters.now in
    let l : length a.bytes ≡ 80 = search rules in
    let k : a.count + length xs - a.count ≡ length xs = omega arith in
    record { count = refl; stored = rw (c.copy_from_slice.ensures.after, sets-eq xs a.bytes a.count (omega arith), append_assoc, k, drop-drop) refl }
