-- What is in use at the end beside the data bytes: versions and lengths, enable and mode. Assumes nothing.
use mathlib.Core.Path.{◌≡◌, refl, ◌∙◌}
use mathlib.Core.List.{List}
use Prim.Native.Nat.{ℕ, ◌+◌, ◌*◌, ◌<◌}
use native.Mathlib.Omega.{arith}
use lib.Dec.{lit<}
use lib.ListN.{get_or, drop}
use lib.Seq.{get_or-take, get_or-drop}
use Rattle.bits.specs.Merge.{bit}
use Rattle.bits.proofs.Laws.{bit_code, two_bits_code}
use Rattle.request.specs.declared.Request.{Request}
use Rattle.request.specs.Read.{pair_for}
use Rattle.request.specs.Fits.{Fits}
use Rattle.chip.specs.Machine.{Group, avi, audio, registers_of}
use Rattle.plan.specs.Places.{places, Shows}
use Rattle.plan.proofs.Shown.{Picked, picked}
use Rattle.decode.specs.Ends.{Stands}
use Rattle.decode.proofs.Standing.{each_shows}
use Rattle.promises.specs.AnyCut.{Headed}

-- a register of a group, by its place
at_place : (g : Group) (image : List ℕ) (i : ℕ) → i < g.count → get_or (registers_of g image) i 0 ≡ get_or image (g.first + i) 0
at_place g image i h = get_or-take {A = ℕ} g.count (drop g.first image) i 0 h ∙ get_or-drop g.first image i 0

module _ (r : Request) (image : List ℕ) (g : Fits r) (st : Stands r image) where
  at : Picked (Shows image) (places r (pair_for r))
  at = picked (Shows image) (places r (pair_for r)) (each_shows r image st g)

  pub avi_head : Headed 0x02 0x0D (registers_of avi image)
  avi_head = (rw (at_place avi image 0 (lit< tt)) (omega (arith, at 0x52 2 refl)), rw (at_place avi image 1 (lit< tt)) (omega (arith, at 0x53 4 refl)))

  pub audio_head : Headed 0x01 0x0A (registers_of audio image)
  audio_head = (rw (at_place audio image 0 (lit< tt)) (omega (arith, at 0x70 2 refl)), rw (at_place audio image 1 (lit< tt)) (omega (arith, at 0x71 4 refl)))

  pub enable_in : bit 7 (get_or image 0x18 0) ≡ r.matrix.on
  enable_in = bit_code 7 (get_or image 0x18 0) ∙ at 0x18 7 refl

  pub mode_in_lem : bit 5 (get_or image 0x18 0) + 2 * bit 6 (get_or image 0x18 0) ≡ r.matrix.mode
  mode_in_lem = two_bits_code 5 (get_or image 0x18 0) ∙ at 0x18 6 refl
