-- What the tests of a sound decide, and what they say of each field of one that is accepted. Assumes nothing.
use mathlib.Core.Path.{◌≡◌, refl, sym, ap}
use mathlib.Core.Logic.{◌≢◌, ◌⊎◌, inl, inr, ⊎_elim}
use mathlib.Core.Bool.{Bool, true, false, false≢true}
use Prim.Native.Nat.{ℕ}
use native.Mathlib.Omega.{arith}
use lib.Dec.{eqb}
use borrow.Author.Tests.{eqb-true, eqb-false}
use Rattle.lists.proofs.Decides.{Decides, equal, less, opposite, either, together, at_most}
use Rattle.sound.specs.declared.Sound.{Sound}
use Rattle.sound.specs.declared.Sound.TheVariants.{Off, On}
use Rattle.sound.specs.Sound.{SoundOutside}
use Rattle.sound.specs.Tests.{is_on, sound_outside}
use Rattle.sound.specs.Fits.{SoundFits}
use Rattle.sound.specs.Theorems.{SoundRange}

pub is_on_lem : (s : Sound) → Decides (is_on s) (s ≢ Off)
is_on_lem Off = record { passes = λ t. absurd (false≢true t); fails = λ f h. h refl }
is_on_lem (On rate channels coherent) = record { passes = λ t e. false≢true (sym (ap is_on e)); fails = λ f h. false≢true (sym f) }

pub is_outside : (s : Sound) → Decides (sound_outside s) (SoundOutside s)
is_outside Off = record { passes = λ t. absurd (false≢true t); fails = λ f h. h }
is_outside (On rate channels coherent) =
    either (less 6 rate) (either (together (opposite (equal channels 2)) (opposite (equal channels 8))) (less 1 coherent))

-- not neither of two is one of them
one_of : (k m n : ℕ) → ((k ≢ m) × (k ≢ n) → ⊥) → (k ≡ m) ⊎ (k ≡ n)
one_of k m n h = go (eqb k m) refl (eqb k n) refl
  where
    go : (a : Bool) → eqb k m ≡ a → (b : Bool) → eqb k n ≡ b → (k ≡ m) ⊎ (k ≡ n)
    go true e b f = inl (eqb-true k m e)
    go false e true f = inr (eqb-true k n f)
    go false e false f = absurd (h (eqb-false k m e, eqb-false k n f))

fits : (s : Sound) → (SoundOutside s → ⊥) → SoundFits s
fits Off h = tt
fits (On rate channels coherent) h =
    (at_most 6 rate (λ o. h (inl o)), one_of channels 2 8 (λ o. h (inr (inl o))), at_most 1 coherent (λ o. h (inr (inr o))))

inside : (s : Sound) → SoundFits s → SoundOutside s → ⊥
inside Off f h = h
inside (On rate channels coherent) f (inl h) = omega (arith, f.0)
inside (On rate channels coherent) f (inr (inl h)) = ⊎_elim h.0 h.1 f.1
inside (On rate channels coherent) f (inr (inr h)) = omega (arith, f.2)

pub in_range_lem : SoundRange
in_range_lem s = (inside s, fits s)
