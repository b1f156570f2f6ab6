-- An array made by calls that depend on the index alone. Assumes nothing.
use mathlib.Core.Path.{◌≡◌, ◌∙◌, subst}
use mathlib.Core.List.{List}
use Prim.Native.Nat.{ℕ, zero, suc, ◌+◌, ◌<◌}
use native.Mathlib.Omega.{arith}
use lib.ListN.{get_or}
use denote.Param.Members.{Mut, Called}
use Rattle.std.specs.Array.{IsFromFnResult, IsFromFnResultFrom}

-- each call gives what h gives, and leaves the closure as it was
module _ {F B : Type 0} (g : Mut F (ℕ × Unit {0}) B) (h : ℕ → B) (f : F) (step : (i : ℕ) (y : B) (q : F) → Called g f (i, tt) y q → (y ≡ h i) × (q ≡ f)) where
  each : (ys : List B) (d : B) (i n : ℕ) → IsFromFnResultFrom g f ys i n → (j : ℕ) → j < n → get_or ys (i + j) d ≡ h (i + j)
  each ys d i zero made j l = absurd (omega (arith, l))
  each ys d i (suc n) made zero l =
      let e : i + 0 ≡ i = omega arith in
      rw e (made.2.1 d ∙ (step i made.1 made.0 made.3).0)
  each ys d i (suc n) made (suc j) l =
      let e : i + suc j ≡ i + 1 + j = omega arith in
      rw e (each ys d (i + 1) n (subst (λ p. IsFromFnResultFrom g p ys (i + 1) n) (step i made.1 made.0 made.3).1 made.4) j (omega arith))

  pub made : (ys : List B) (n : ℕ) (d : B) → IsFromFnResult g f ys n → (i : ℕ) → i < n → get_or ys i d ≡ h i
  made ys n d all i l =
      let e : 0 + i ≡ i = omega arith in
      subst (λ j. get_or ys j d ≡ h j) e (each ys d 0 n all.each i l)
