-- `matrix::Matrix::of` meets its contract. Assumes nothing.
use mathlib.Core.Path.{◌≡◌}
use native.Mathlib.Omega.{arith}
use Prim.Native.Nat.{◌-◌}
use lib.ListN.{length, take, drop, length-drop}
use lib.Seq.{take_all}
use borrow.Author.Tests.{eq-eqb}
use Rattle.matrix.specs.Matrix.{fields}
use Rattle.matrix.proofs.Pairs.{sized, mode_small, fields_small}
use Rattle.matrix.proofs.Matrix.of.Goals as goal

pub returns : goal.returns
returns c = let body = c.args.body.now in
    let ok = c.requires in
    let l : length (drop 1 body) ≡ 24 = rw (length-drop 1 body, sized body ok) in
    let all : take (length body - 1) (drop 1 body) ≡ drop 1 body = take_all (length body - 1) (drop 1 body) (omega (arith, sized body ok)) in
    let read : c.twelve.result ≡ fields (drop 1 body) = simp (c.twelve.ensures, all, eq-eqb _ _ l) in
    record { value = simp read; small = (mode_small body ok, λ i. rw read (fields_small _ i)) }
