-- What is extracted of an image in which a request stands is that request: each row shows its number. Assumes nothing.
use mathlib.Core.Path.{◌≡◌, refl, sym, ap, ◌∙◌}
use mathlib.Core.Logic.{inl, inr, ⊎_elim}
use mathlib.Core.List.{List}
use Prim.Native.Nat.{ℕ, ◌+◌, ◌*◌, ◌≤◌}
use native.Mathlib.Omega.{arith}
use lib.Dec.{eqb}
use lib.ListN.{length, get_or}
use borrow.Author.Tests.{eqb-true, eq-eqb, ne_eqb}
use Rattle.bits.proofs.Below.{at_below}
use Rattle.wiring.specs.declared.Wires.{Wires}
use Rattle.wiring.specs.Wiring.{wires_of}
use Rattle.wiring.specs.Named.{wiring_named}
use Rattle.wiring.proofs.Fits.{its_name}
use Rattle.video.specs.Video.{depth, answered}
use Rattle.video.proofs.Fits.{depth_fits}
use Rattle.frames.specs.Named.{video_named}
use Rattle.frames.proofs.Named.{named}
use Rattle.sound.proofs.Rates as rates
use Rattle.sound.specs.declared.Sound.{Sound}
use Rattle.sound.specs.declared.Sound.TheVariants.{Off, On}
use Rattle.request.specs.declared.Request.{Request}
use Rattle.request.specs.Bytes.{answered_as}
use Rattle.request.specs.Read.{pair_for}
use Rattle.request.specs.ThereAndBack.{Shaped}
use Rattle.sound.specs.Fits.{SoundFits}
use Rattle.request.specs.Fits.{Fits}
use Rattle.plan.specs.Places.{places, Shows, with_sound, manual_cts, rate_code_of, depth_numbers, in_cc}
use Rattle.plan.proofs.Shown.{Picked, picked}
use Rattle.decode.specs.Ends.{Stands}
use Rattle.decode.specs.Extract.{bits_at, depth_of, wires_in, sound_in, matrix_in, data_in, extract}
use Rattle.decode.proofs.Standing.{each_shows}
use Rattle.decode.proofs.Groups.{avi_data, matrix_in_lem}

-- the code of a depth reads back
depth_back : (n : ℕ) → n ≤ 2 → depth_of (get_or depth_numbers n 0) ≡ n
depth_back n h = eqb-true _ _ (at_below (λ n. eqb (depth_of (get_or depth_numbers n 0)) n) 3 n refl (omega arith))

module _ (r : Request) (image : List ℕ) (long : length image ≡ 256) (g : Fits r) (st : Stands r image) where
  at : Picked (Shows image) (places r (pair_for r))
  at = picked (Shows image) (places r (pair_for r)) (each_shows r image st g)

  wires : wires_in image ≡ wires_of r.wiring
  wires =
      let n : Wires = wires_of r.wiring in
      let a : bits_at 0x30 7 0 image * 4 + bits_at 0x31 7 6 image ≡ n.hplacement = rw (at 0x30 7 refl, at 0x31 7 refl) (omega arith) in
      let b : bits_at 0x31 5 0 image * 16 + bits_at 0x32 7 4 image ≡ n.hduration = rw (at 0x31 5 refl, at 0x32 7 refl) (omega arith) in
      let c : bits_at 0x32 3 0 image * 64 + bits_at 0x33 7 2 image ≡ n.vplacement = rw (at 0x32 3 refl, at 0x33 7 refl) (omega arith) in
      let d : bits_at 0x33 1 0 image * 256 + bits_at 0x34 7 0 image ≡ n.vduration = rw (at 0x33 1 refl, at 0x34 7 refl) (omega arith) in
      let input : bits_at 0x15 3 0 image ≡ n.input = at 0x15 3 refl in
      let depth : bits_at 0x16 5 4 image ≡ n.depth = at 0x16 5 refl in
      let style : bits_at 0x16 3 2 image ≡ n.style = at 0x16 3 refl in
      let justification : bits_at 0x48 4 3 image ≡ n.justification = at 0x48 4 refl in
      λ i. record {
        input = input i;
        depth = depth i;
        style = style i;
        justification = justification i;
        hplacement = a i;
        hduration = b i;
        vplacement = c i;
        vduration = d i;
      }

  wired : wiring_named (wires_in image) ≡ r.wiring
  wired = ap wiring_named wires ∙ its_name r.wiring g.wiring

  video : video_named (bits_at 0xAF 1 1 image) (depth_of (bits_at 0x4C 3 0 image)) (data_in image) ≡ answered r.video
  video =
      let link : bits_at 0xAF 1 1 image ≡ r.video.link = at 0xAF 1 refl in
      let deep : bits_at 0x4C 3 0 image ≡ get_or depth_numbers (depth r.video) 0 = at 0x4C 3 refl in
      let back = depth_back (depth r.video) (depth_fits r.video g.video) in
      rw (link, deep, back, avi_data r image long g st) (named r.video g.video)

  heard : (s : Sound) → SoundFits s → bits_at 0x44 5 5 image ≡ with_sound s → bits_at 0x15 7 4 image ≡ rate_code_of s → bits_at 0x73 2 0 image ≡ in_cc s
      → bits_at 0x0A 7 7 image ≡ manual_cts s → sound_in image ≡ s
  heard Off k p q c h = rw (eq-eqb (bits_at 0x44 5 5 image) 0 p)
  heard (On x y z) k p q c h =
      let back = (rates.table).back x (omega (arith, k.0)) in
      let count : bits_at 0x73 2 0 image + 1 ≡ y = ⊎_elim (λ e. omega arith) (λ e. omega arith) k.1 in
      rw (ne_eqb (bits_at 0x44 5 5 image) 0 (omega arith), q, back, count, h)

  converted : Shaped r.matrix → matrix_in image ≡ r.matrix
  converted (inl e) =
      let off : bits_at 0x18 7 7 image ≡ 0 = at 0x18 7 refl ∙ rw e in
      rw (eq-eqb (bits_at 0x18 7 7 image) 0 off) (sym e)
  converted (inr f) =
      let on : bits_at 0x18 7 7 image ≡ r.matrix.on = at 0x18 7 refl in
      let mode : bits_at 0x18 6 5 image ≡ r.matrix.mode = at 0x18 6 refl in
      let o : r.matrix.on ≡ 1 = f.on in
      rw (ne_eqb (bits_at 0x18 7 7 image) 0 (omega arith), mode, matrix_in_lem r image long g st, ← o)

  pub extracted : extract image ≡ answered_as r
  unfolding extract
  extracted = rw (wired, video, heard r.sound g.sound (at 0x44 5 refl) (at 0x15 7 refl) (at 0x73 2 refl) (at 0x0A 7 refl), converted g.matrix)
