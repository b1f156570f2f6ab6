-- The last step at a register: what the finished image has there. Assumes nothing.
use mathlib.Core.Path.{◌≡◌, refl}
use mathlib.Core.Bool.{Bool, true, false, cond}
use mathlib.Core.List.{List, [], ◌∷◌}
use Prim.Native.Nat.{ℕ, zero, suc, ◌<◌}
use native.Mathlib.Omega.{arith}
use lib.Dec.{eqb}
use lib.ListN.{get_or, take}
use borrow.Author.Tests.{eqb-true}
use Rattle.bits.proofs.Below.{at_below}
use Rattle.registers.specs.Classes.{class_at}
use Rattle.chip.specs.Machine.{Write}
use Rattle.writes.specs.Steps.{Step, ◌raising◌, middle, steps}
use Rattle.writes.specs.List.{written, is_written, left_up, finished}

-- the last step at register a, counted from 1, or o
abbrev pub last : ℕ → List Step → ℕ → ℕ
last a [] o = o
last a (i ∷ is) o = last a is (cond (eqb a i.register) (suc i.raised) o)

-- the byte that it stands for: 0 is none
abbrev pub read : (Step → Write) → ℕ → ℕ → ℕ → ℕ
read f a zero d = d
read f a (suc x) d = (f (a raising x)).value

pub last_zero : (a : ℕ) (is : List Step) (o : ℕ) → last a is o ≡ 0 → o ≡ 0
last_zero a [] o e = e
last_zero a (i ∷ is) o e = go (eqb a i.register) (last_zero a is (cond (eqb a i.register) (suc i.raised) o) e)
  where
    go : (r : Bool) → cond r (suc i.raised) o ≡ 0 → o ≡ 0
    go true z = absurd (omega arith)
    go false z = z

-- a list that does not write a has no part that does
pub last_none : (a : ℕ) (is : List Step) (o k : ℕ) → last a is o ≡ 0 → last a (take k is) o ≡ 0
last_none a is o zero e = last_zero a is o e
last_none a [] o (suc k) e = e
last_none a (i ∷ is) o (suc k) e = last_none a is _ k e

-- the step that the finished image has at a register: its holds down and the picture open
pub final : ℕ → ℕ
final a = cond (is_written a) (suc (left_up a)) 0

-- in both orders it is the last
ends : Bool → ℕ → Bool
ends b a = eqb (last a (steps (middle b)) 0) (final a)

pub last_step : (b : Bool) (a : ℕ) → a < 256 → last a (steps (middle b)) 0 ≡ final a
unfolding final ends middle is_written class_at
last_step true a h = eqb-true _ _ (at_below (ends true) 256 a refl h)
last_step false a h = eqb-true _ _ (at_below (ends false) 256 a refl h)

pub read_final : (want : ℕ → ℕ) (image : List ℕ) (a : ℕ) → read (written want image) a (final a) (get_or image a 0) ≡ finished want image a
unfolding final finished
read_final want image a = go (is_written a)
  where
    go : (t : Bool) → read (written want image) a (cond t (suc (left_up a)) 0) (get_or image a 0)
        ≡ cond t (written want image (a raising left_up a)).value (get_or image a 0)
    go true = refl
    go false = refl

pub final_none : (a : ℕ) → is_written a ≡ false → final a ≡ 0
unfolding final
final_none a t = rw t

-- whether a step is meant
abbrev pub some : ℕ → Bool
some zero = false
some (suc x) = true

pub final_some : (a : ℕ) → some (final a) ≡ is_written a
unfolding final
final_some a = go (is_written a)
  where
    go : (t : Bool) → some (cond t (suc (left_up a)) 0) ≡ t
    go true = refl
    go false = refl
