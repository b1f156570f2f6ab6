-- The worked example is accepted: what is read of it computes once, and of an image only its length and its holds count. Assumes nothing.
use mathlib.Core.Path.{◌≡◌, refl}
use mathlib.Core.Bool.{true}
use mathlib.Core.List.{List}
use Prim.Native.Nat.{ℕ}
use lib.Dec.{eqb}
use lib.ListN.{length}
use Rattle.ratio.specs.Terms.{euclid, divisor_of}
use Rattle.wiring.specs.Kinds.{kind_of}
use Rattle.wiring.specs.Tests.{wiring_outside}
use Rattle.video.specs.Modes.{mode_of}
use Rattle.video.specs.Tests.{shown_outside, video_outside, shown_combined, video_combined}
use Rattle.clock.specs.Clocks.{tmds}
use Rattle.clock.specs.Answers.{clock_of}
use Rattle.clock.specs.Pairs.{reference, recommended_of}
use Rattle.clock.specs.Found.{nearest_k, nearest_in, nearest_of, exactly, coherent_of, pair_of}
use Rattle.blanking.specs.Found.{highest_of, beyond}
use Rattle.request.specs.Sections.{walk, walked}
use Rattle.request.specs.Read.{outside, combined, judged, read_of, pair_for}
use Rattle.writes.specs.List.{ready}
use Rattle.promises.specs.Worked.{example, zeros}
use Rattle.promises.specs.Example.{IsAccepted, Example}
use Rattle.promises.proofs.AnyCut.{accepted}

read : (read_of example).refusal ≡ 0
unfolding euclid divisor_of walk walked kind_of wiring_outside video_outside shown_outside video_combined shown_combined outside combined judged read_of mode_of tmds clock_of highest_of beyond
read = refl

paired : eqb (pair_for (read_of example).request).refusal 0 ≡ true
unfolding euclid divisor_of mode_of tmds clock_of highest_of beyond reference recommended_of nearest_k nearest_in nearest_of exactly coherent_of pair_of walk walked kind_of wiring_outside video_outside shown_outside video_combined shown_combined outside combined judged read_of pair_for
paired = refl

on : (image : List ℕ) → length image ≡ 256 → ready image ≡ true → IsAccepted image
on image whole clear =
    accepted example image zeros (record { read = read; whole = whole; clear = clear; paired = paired; long = refl })

pub worked : Example
worked = record {
  on_zeros = on zeros refl refl;
  with_avi = (refl, on _ refl refl);
  with_audio = (refl, on _ refl refl);
  with_matrix = (refl, on _ refl refl);
}
