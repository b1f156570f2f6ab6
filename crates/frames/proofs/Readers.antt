-- A packet of E, shown to a reader that knows only D, and to one that knows E. Assumes nothing.
use Rattle.std.proofs.Common.{◌≡◌, ℕ, ◌+◌, ◌*◌, ◌/◌, ◌%◌, sym, ◌∙◌, inl, inr, arith}
use Rattle.video.specs.declared.Mode.{Mode}
use Rattle.video.specs.declared.Video.{Video}
use Rattle.video.specs.Modes.{mode_of}
use Rattle.video.specs.Video.{ycc_quantisation, content_type, EditionOutside, ShownOutside, VideoOutside, AskedUnderD, VideoCombined}
use Rattle.video.specs.Fits.{VideoFits}
use Rattle.video.proofs.Fits.{vic_small, encoding_fits}
use Rattle.frames.specs.Frames.{colorimetry, quantisation, repeats, avi_header, avi_payload, avi_frame}
use Rattle.frames.specs.Editions.{ByD, read_by_d, read_by_e, avi_packet, under_d, BothEditions}
use Rattle.frames.proofs.Small.{Small, mode_small, colour_small, quantisation_small, fifth, fields}
use Rattle.frames.proofs.Sealed.{holds}

-- what the readers find in the packet of a video
abbrev found : Video → ByD
found v =
    record {
      y = v.encoding;
      a = 1;
      c = colorimetry (mode_of v.vic) v.encoding;
      m = (mode_of v.vic).aspect;
      r = 8;
      ec = 0;
      q = quantisation v;
      vic = v.vic;
      pr = repeats v;
    }

module _ (v : Video) (f : VideoFits v) where
  abbrev mode : Mode
  mode = mode_of v.vic

  small : Small mode
  small = mode_small v.vic

  abbrev first : ℕ
  first = v.encoding * 32 + 16

  abbrev second : ℕ
  second = colorimetry mode v.encoding * 64 + mode.aspect * 16 + 8

  abbrev third : ℕ
  third = quantisation v * 4

  by_d : read_by_d (avi_packet v) ≡ found v
  unfolding avi_frame
  by_d =
      let colour = colour_small mode v.encoding small in
      let y : first / 32 % 4 ≡ v.encoding = omega (arith, encoding_fits v f) in
      let c : second / 64 % 4 ≡ colorimetry mode v.encoding = omega (arith, colour, small.aspect) in
      let a : first / 16 % 2 ≡ 1 = omega (arith, encoding_fits v f) in
      let m : second / 16 % 4 ≡ mode.aspect = omega (arith, colour, small.aspect) in
      let r : second / 1 % 16 ≡ 8 = omega (arith, colour, small.aspect) in
      let ec : third / 16 % 8 ≡ 0 = omega (arith, quantisation_small v) in
      let q : third / 4 % 4 ≡ quantisation v = omega (arith, quantisation_small v) in
      let vic : v.vic / 1 % 128 ≡ v.vic = omega (arith, vic_small v f) in
      let pr : fifth v / 1 % 16 ≡ repeats v = omega (arith, (fields v).pr) in
      λ i. record { y = y i; a = a i; c = c i; m = m i; r = r i; ec = ec i; q = q i; vic = vic i; pr = pr i }

  by_e : read_by_e (avi_packet v) ≡ record { known = found v; yq = ycc_quantisation v; cn = content_type v }
  unfolding avi_frame
  by_e =
      let yq : fifth v / 64 % 4 ≡ ycc_quantisation v = (fields v).yq in
      let cn : fifth v / 16 % 4 ≡ content_type v = (fields v).cn in
      λ i. record { known = by_d i; yq = yq i; cn = cn i }

  under_fits : VideoFits (under_d v)
  under_fits = record { offered = f.offered; inside = inside; apart = apart }
    where
      edition : EditionOutside (under_d v) → ⊥
      edition (inl e) = omega (arith, e)
      edition (inr (inl q)) = omega (arith, q)
      edition (inr (inr h)) = omega (arith, h)

      shown : ShownOutside (under_d v) → ShownOutside v
      shown (inl e) = inl e
      shown (inr (inl g)) = inr (inl g)
      shown (inr (inr (inl p))) = inr (inr (inl p))
      shown (inr (inr (inr h))) = absurd (edition h)

      inside : VideoOutside (under_d v) → ⊥
      inside (inl l) = f.inside (inl l)
      inside (inr (inl d)) = f.inside (inr (inl d))
      inside (inr (inr s)) = f.inside (inr (inr (shown s)))

      under : AskedUnderD (under_d v) → ⊥
      under (e, inl q) = q (omega arith)
      under (e, inr t) = t (omega arith)

      apart : VideoCombined (under_d v) → ⊥
      apart (inl l) = f.apart (inl l)
      apart (inr (inl d)) = f.apart (inr (inl d))
      apart (inr (inr (inl g))) = f.apart (inr (inr (inl g)))
      apart (inr (inr (inr u))) = under u

pub editions : BothEditions
unfolding avi_frame
editions v f =
    record {
      same = by_d v f ∙ sym (by_d (under_d v) (under_fits v f));
      fits = under_fits v f;
      asked = by_e v f;
      summed = holds.zero avi_header (avi_payload v);
    }
