-- A body and what it asks for say the same. Assumes nothing.
use mathlib.Core.Path.{◌≡◌, refl}
use mathlib.Core.Logic.{inl, inr}
use mathlib.Core.List.{List, [], ◌∷◌}
use Prim.Native.Nat.{ℕ}
use native.Mathlib.Omega.{arith}
use Rattle.sound.specs.declared.Sound.{Sound}
use Rattle.sound.specs.declared.Sound.TheVariants.{Off, On}
use Rattle.sound.specs.Sound.{sound_of, audio_body}
use Rattle.sound.specs.Theorems.{AudioCounted, SoundBody}

counted : (s : Sound) → AudioCounted (audio_body s)
counted Off = inl refl
counted (On rate channels coherent) = inr refl

back : (s : Sound) → sound_of (audio_body s) ≡ s
back Off = refl
back (On rate channels coherent) = refl

whole : (body : List ℕ) → AudioCounted body → audio_body (sound_of body) ≡ body
whole [] h = refl
whole (x ∷ []) (inl e) = absurd (omega arith)
whole (x ∷ []) (inr e) = absurd (omega arith)
whole (x ∷ y ∷ []) (inl e) = absurd (omega arith)
whole (x ∷ y ∷ []) (inr e) = absurd (omega arith)
whole (x ∷ y ∷ z ∷ []) h = refl
whole (x ∷ y ∷ z ∷ w ∷ body) (inl e) = absurd (omega arith)
whole (x ∷ y ∷ z ∷ w ∷ body) (inr e) = absurd (omega arith)

pub bodies : SoundBody
bodies = record { counted = counted; back = back; whole = whole }
