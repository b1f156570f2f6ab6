-- What the code tests of a list is what the contracts say: the holds, the bytes in use, and one test after another.
-- Assumes nothing.
use mathlib.Core.Path.{◌≡◌, refl, sym, ap, ◌∙◌}
use mathlib.Core.Bool.{Bool, true, false, not, ◌&&◌, ◌||◌}
use mathlib.Core.List.{List}
use Prim.Native.Nat.{ℕ}
use lib.Dec.{eqb}
use native.Mathlib.Omega.{arith}
use lib.ListN.{length, drop, length-drop}
use lib.Seq.{length-take-le}
use borrow.Author.Tests.{eq-eqb, eqb-true, not-true, not-false}
use Rattle.lists.proofs.Both.{both_left, both_right, neither_left, neither_right}
use Rattle.matrix.specs.Matrix.{fields}
use Rattle.matrix.specs.Read.{twelve_of}
use Rattle.chip.specs.declared.Chip.{Chip}
use Rattle.chip.specs.Machine.{Group, avi, audio, matrix, packets, converter, up, holds_of, registers_of, in_use, coefficients}
use Rattle.chip.specs.Groups.{covers}
use Rattle.cut.specs.Run.{InUse}
use Rattle.vendor.specs.Found.{packet_moving, matrix_moving, may_move, one_of, is_whole}

-- tests in a row, each as the code asks for it to fail: one that passes leaves the rest
pub passed : {r a : Bool} (b : Bool) → r ≡ a → not r ≡ false → b ≡ (a && b)
passed {r} b e f = rw (← e, not-false r f)

-- where no register of a group is written and no packet hold changes, all groups are kept
pub still : (old new : InUse) (a held : ℕ) (image : List ℕ) (waiting : Bool) {r : Bool}
    → r ≡ (not (covers avi a || (covers audio a || covers matrix a)) && eqb held (holds_of packets image)) → r ≡ true
    → true ≡ is_whole old new a held image waiting
still old new a held image waiting e f =
    let n : Bool = covers avi a || (covers audio a || covers matrix a) in
    let o : n ≡ false = not-true n (both_left (not n) _ (sym e ∙ f)) in
    let m : (covers audio a || covers matrix a) ≡ false = neither_right (covers avi a) _ o in
    let p : held ≡ holds_of packets image = eqb-true _ _ (both_right (not n) _ (sym e ∙ f)) in
    sym (λ j. kept (packet avi p (neither_left (covers avi a) _ o) j) (packet audio p (neither_left (covers audio a) _ m) j)
    (unread (matrix_moving waiting image).after (neither_right (covers audio a) _ m) j))
  where
    kept : Bool → Bool → Bool → Bool
    kept x y z =
        one_of x old.avi new.avi (registers_of avi image) && (one_of y old.audio new.audio (registers_of audio image) &&
        one_of z old.matrix new.matrix (fields (registers_of matrix image)))

    unread : (u : Bool) {c : Bool} → c ≡ false → (not u && c) ≡ false
    unread true e = refl
    unread false e = e

    packet : (g : Group) → held ≡ holds_of packets image → covers g a ≡ false → may_move (packet_moving g held image) a ≡ false
    packet g p o = rw (p, o) (quiet (up g (holds_of packets image)))
      where
        quiet : (u : Bool) → (not u && (u || false)) ≡ false
        quiet true = refl
        quiet false = refl

-- the fields of 24 bytes
pub twelve_fields : (bytes : List ℕ) {twelve : List ℕ} → length bytes ≡ 24 → twelve ≡ twelve_of bytes → twelve ≡ fields bytes
twelve_fields bytes h e = rw (e, eq-eqb _ _ h)

-- the coefficients' registers
pub matrix_long : (image : List ℕ) → length image ≡ 256 → length (registers_of matrix image) ≡ 24
matrix_long image h = length-take-le 24 (drop 24 image) (simp length-drop (omega arith))

pub twelve_used : (s : Chip) {bytes twelve : List ℕ} → bytes ≡ in_use converter matrix s → length bytes ≡ 24 → twelve ≡ twelve_of bytes → twelve ≡ coefficients s
unfolding coefficients
twelve_used s {bytes} b h e = twelve_fields bytes h e ∙ ap fields b
