-- Tests over all choices of bytes, and over every byte. Assumes nothing.
use mathlib.Core.Path.{◌≡◌, sym, ap, ◌∙◌}
use mathlib.Core.Bool.{Bool, true, beq}
use mathlib.Core.List.{List, [], ◌∷◌}
use Prim.Native.Nat.{ℕ, ◌<◌}
use native.Mathlib.Omega.{arith}
use lib.ListN.{length}
use Rattle.lists.specs.Among.{among}
use Rattle.lists.specs.Find.{every}
use Rattle.lists.proofs.Among.{stands}
use Rattle.lists.proofs.Find.{every_at}
use Rattle.lists.proofs.Both.{both_left, both_right, beq_true}
use Rattle.bits.proofs.Below.{below, at_below}
use Rattle.promises.specs.EachByte.{in_theirs}

-- two tests that are alike at every number below 256
pub alike : (f g : ℕ → Bool) → below (λ n. beq (f n) (g n)) 256 ≡ true → (n : ℕ) → n < 256 → f n ≡ g n
alike f g t n h = beq_true (f n) (g n) (at_below (λ n. beq (f n) (g n)) 256 n t h)

-- a test that passes at every number of a list
pub each_of : (f : ℕ → Bool) (l : List ℕ) (n : ℕ) → every f l ≡ true → among n l ≡ true → f n ≡ true
each_of f l n t a = let s = stands n l a in ap f (sym s.there) ∙ every_at f l s.place 0 t s.within

-- a test at every choice of bytes from their rows, and what it says of one choice
abbrev pub choices : List (List ℕ) → (List ℕ → Bool) → Bool
choices [] f = f []
choices (row ∷ rows) f = every (λ byte. choices rows (λ bytes. f (byte ∷ bytes))) row

pub chosen : (rows : List (List ℕ)) (f : List ℕ → Bool) (bytes : List ℕ) → length bytes ≡ length rows → choices rows f ≡ true
    → in_theirs rows bytes ≡ true → f bytes ≡ true
chosen [] f [] l t i = t
chosen [] f (byte ∷ bytes) l t i = absurd (omega arith)
chosen (row ∷ rows) f [] l t i = absurd (omega arith)
chosen (row ∷ rows) f (byte ∷ bytes) l t i =
    chosen rows (λ bytes. f (byte ∷ bytes)) bytes (omega arith)
    (each_of (λ byte. choices rows (λ bytes. f (byte ∷ bytes))) row byte t (both_left (among byte row) (in_theirs rows bytes) i))
    (both_right (among byte row) (in_theirs rows bytes) i)
