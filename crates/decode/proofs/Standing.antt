-- Where a request stands in an image, every row of the table shows its number, and the named bits of a register are those wanted. Assumes
-- nothing.
use mathlib.Core.Path.{◌≡◌, sym, ap, ◌∙◌, subst}
use mathlib.Core.Bool.{Bool, true, false}
use mathlib.Core.List.{List}
use Prim.Native.Nat.{ℕ, ◌/◌, ◌%◌, ◌^◌, ◌<◌}
use lib.ListN.{get_or}
use Rattle.request.specs.declared.Request.{Request}
use Rattle.request.specs.Read.{pair_for}
use Rattle.request.specs.Fits.{Fits}
use Rattle.plan.specs.Places.{places, Shows, Each}
use Rattle.plan.specs.Wanted.{wanted}
use Rattle.plan.proofs.Shown.{shown}
use Rattle.writes.specs.List.{byte, is_written}
use Rattle.writes.proofs.Named as left
use Rattle.writes.proofs.Named.{is_field, last, byte_small, field}
use Rattle.decode.specs.Ends.{Stands}

-- bits s to s + k - 1 of a register are named, and no step decides them
abbrev pub clear : ℕ → ℕ → ℕ → Bool
clear = is_field false

pub is_written_lem : (a s k : ℕ) → clear a s k ≡ true → is_written a ≡ true
is_written_lem = left.is_written_lem false

module _ (r : Request) (image : List ℕ) (st : Stands r image) where
  pub each_shows : Fits r → Each (Shows image) (places r (pair_for r))
  each_shows f = shown r f image image (λ a h. sym (st a h))

  pub there : (a : ℕ) → a < 256 → is_written a ≡ true → byte a (get_or image a 0) (last (wanted r) image a) ≡ get_or image a 0
  there a h w = sym (left.left (wanted r) image a w) ∙ st a h

  pub small_byte : (a : ℕ) → a < 256 → is_written a ≡ true → get_or image a 0 < 256
  small_byte a h w = subst (λ (x : ℕ). x < 256) (there a h w) (byte_small a _ _)

  pub reads : (a s k : ℕ) → a < 256 → clear a s k ≡ true → get_or image a 0 / 2 ^ s % 2 ^ k ≡ wanted r a / 2 ^ s % 2 ^ k
  reads a s k h t = ap (λ (x : ℕ). x / 2 ^ s % 2 ^ k) (sym (st a h)) ∙ field (wanted r) image a false s k t
