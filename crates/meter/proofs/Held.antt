-- A value that is handed out where a test passes, and none where it fails. Assumes nothing.
use Rattle.std.proofs.Common.{◌≡◌, Bool, true, false, cond, Option, Some, None, refl, sym, ap}
use mathlib.Core.Bool.{false≢true}

abbrev held_or : {A : Type 0} → A → Option A → A
held_or d None = d
held_or d (Some x) = x

abbrev is_held : {A : Type 0} → Option A → Bool
is_held None = false
is_held (Some x) = true

pub some : {A : Type 0} (b : Bool) (x y : A) → cond b (Some x) None ≡ Some y → (b ≡ true) × (x ≡ y)
some true x y e = (refl, ap (held_or x) e)
some false x y e = absurd (false≢true (ap is_held e))

pub none : {A : Type 0} (b : Bool) (x : A) → cond b (Some x) None ≡ None → b ≡ false
none true x e = absurd (false≢true (sym (ap is_held e)))
none false x e = refl
