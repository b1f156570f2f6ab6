-- A body and what it says, there and back. Assumes nothing.
use mathlib.Core.Path.{◌≡◌, refl}
use mathlib.Core.Logic.{inl, inr}
use mathlib.Core.List.{List, [], ◌∷◌}
use Prim.Native.Nat.{ℕ, ◌+◌, ◌*◌, ◌/◌, ◌%◌, ◌<◌}
use native.Mathlib.Omega.{arith}
use lib.ListN.{length, get_or}
use Rattle.lists.proofs.Place.{by_place_lem}
use Rattle.wiring.specs.declared.Wiring.{Wiring}
use Rattle.wiring.specs.declared.Wiring.TheVariants.{Board, Four, Twelve}
use Rattle.wiring.specs.Wiring.{wiring_in, wiring_body, count_of}
use Rattle.wiring.specs.Theorems.{WiringCounted, WiringBody}

sized : (w : Wiring) → length (wiring_body w) ≡ count_of w
sized Board = refl
sized (Four i d s j) = refl
sized (Twelve i d s j a b c e) = refl

counted : (w : Wiring) → WiringCounted (wiring_body w)
counted Board = inl refl
counted (Four i d s j) = inr (inl refl)
counted (Twelve i d s j a b c e) = inr (inr refl)

joined : (n : ℕ) → n / 256 * 256 + n % 256 ≡ n
joined n = omega arith

back : (w : Wiring) → wiring_in (wiring_body w) ≡ w
back Board = refl
back (Four i d s j) = refl
back (Twelve i d s j a b c e) = rw (joined a, joined b, joined c, joined e)

none : (body : List ℕ) → length body ≡ 0 → body ≡ []
none [] e = refl
none (x ∷ body) e = absurd (omega arith)

-- two bytes of a word
high : (x y : ℕ) → y < 256 → (x * 256 + y) / 256 ≡ x
high x y h = omega arith

low : (x y : ℕ) → y < 256 → (x * 256 + y) % 256 ≡ y
low x y h = omega arith

whole : (body : List ℕ) → ((i : ℕ) → get_or body i 0 < 256) → WiringCounted body → wiring_body (wiring_in body) ≡ body
whole body bytes (inl e) = rw (none body e)
whole body bytes (inr (inl e)) = rw e (by_place_lem 4 body e)
whole body bytes (inr (inr e)) =
    rw (
      e,
      high (get_or body 4 0) (get_or body 5 0) (bytes 5),
      low (get_or body 4 0) (get_or body 5 0) (bytes 5),
      high (get_or body 6 0) (get_or body 7 0) (bytes 7),
      low (get_or body 6 0) (get_or body 7 0) (bytes 7),
      high (get_or body 8 0) (get_or body 9 0) (bytes 9),
      low (get_or body 8 0) (get_or body 9 0) (bytes 9),
      high (get_or body 10 0) (get_or body 11 0) (bytes 11),
      low (get_or body 10 0) (get_or body 11 0) (bytes 11),
    )
    (by_place_lem 12 body e)

pub bodies : WiringBody
bodies = record { sized = sized; counted = counted; back = back; whole = whole }
