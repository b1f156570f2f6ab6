-- What is known of an accepted request, by the tests that it passed. Assumes nothing.
use mathlib.Core.Path.{◌≡◌, refl, sym, subst}
use mathlib.Core.Logic.{inl, inr}
use mathlib.Core.Bool.{Bool, true, false, false≢true, cond, not, ◌&&◌}
use mathlib.Core.List.{List}
use Prim.Native.Nat.{ℕ, ◌<◌, ◌≤◌}
use native.Mathlib.Omega.{arith}
use lib.Dec.{eqb, lit≤}
use lib.ListN.{length, get_or, drop, length-drop}
use Rattle.lists.proofs.Both.{neither_right}
use Rattle.wiring.specs.declared.Wiring.{Wiring}
use Rattle.wiring.specs.Kinds.{rgb_in}
use Rattle.wiring.specs.Wiring.{wiring_in, wires_of}
use Rattle.wiring.proofs.Fits as wiring
use Rattle.video.specs.declared.Video.{Video}
use Rattle.video.specs.Video.{video_in}
use Rattle.video.proofs.Fits.{is_outside, is_combined, is_pixel_outside, pixel_inside}
use Rattle.sound.specs.declared.Sound.{Sound}
use Rattle.sound.specs.Sound.{sound_of}
use Rattle.sound.specs.Tests.{is_on}
use Rattle.sound.specs.Fits.{SoundFits}
use Rattle.sound.proofs.Fits as sound
use Rattle.blanking.proofs.Rule.{is_too_much}
use Rattle.clock.proofs.Offered.{number_is}
use Rattle.matrix.specs.declared.Matrix.{Matrix}
use Rattle.matrix.specs.Matrix.{matrix_of, no_matrix}
use Rattle.matrix.specs.Tests.{is_allowed}
use Rattle.matrix.proofs.Pairs.{sized, mode_small, fields_small, none_small, length_fields}
use Rattle.request.specs.Numbered.{Checked}
use Rattle.request.specs.Sections.{Bodies, walked, bodies_in}
use Rattle.request.specs.Request.{present, rgb_out, request_in}
use Rattle.request.specs.Read.{converts_in, combined, read_of}
use Rattle.request.specs.ThereAndBack.{Filled, Shaped}
use Rattle.request.specs.Fits.{Fits}
use Rattle.request.proofs.Inside.{bodies_inside}
use Rattle.request.proofs.Ordered.{Judged, passed}

filled : (body : List ℕ) → is_allowed body ≡ true → Filled (matrix_of body)
filled body s =
    let l : length (drop 1 body) ≡ 24 = rw (length-drop 1 body, sized body s) in
    record {
      on = refl;
      mode = omega (arith, mode_small body s);
      twelve = rw (length_fields (drop 1 body), l);
      small = fields_small (drop 1 body);
    }

matrix_fits : (m : List ℕ) (b s : Bool) → is_allowed m ≡ s → (b && not s) ≡ false
    → Shaped (cond b (matrix_of m) no_matrix) × ((cond b (matrix_of m) no_matrix).mode ≤ 2)
matrix_fits m false s e f = (inl refl, lit≤ tt)
matrix_fits m true true e f = (inr (filled m e), mode_small m e)
matrix_fits m true false e f = absurd (false≢true (sym f))

in_range_lem : (b : Bodies) (c : Checked) → Judged b c → Fits (request_in b)
unfolding combined
in_range_lem b c j =
    let w : Wiring = wiring_in b.wiring in
    let v : Video = video_in b.video in
    let s : Sound = sound_of b.audio in
    let m : List ℕ = b.matrix in
    let i = bodies_inside b j.inside in
    let its_sound : SoundFits s = (sound.in_range_lem s).1 ((sound.is_outside s).fails i.sound) in
    let f = matrix_fits m (present m) (is_allowed m) refl i.matrix in
    let past-matrix = neither_right (converts_in (rgb_in (wires_of w).input) (rgb_out v) && eqb (length m) 0) _ j.apart in
    record {
      wiring = (wiring.is_outside w).fails i.wiring;
      video = record {
        offered = j.mode;
        inside = (is_outside v).fails i.video;
        apart = (is_combined v).fails (neither_right (eqb v.link 0 && is_on s) _ past-matrix);
      };
      clock = rw (number_is v, j.mode, pixel_inside v i.video, j.within);
      sound = its_sound;
      room = (is_too_much v s j.mode ((is_pixel_outside v).fails (pixel_inside v i.video)) its_sound).fails j.room;
      matrix = f.0;
      mode = f.1;
    }

pub fits : (input : List ℕ) → (read_of input).refusal ≡ 0 → Fits (read_of input).request
unfolding read_of
fits input z = let j = passed (walked input) z in subst Fits (sym j.request) (in_range_lem (bodies_in (walked input)) _ j)

-- a matrix that is none or filled: its enable is one bit, and each coefficient has 13
pub on_small : (m : Matrix) → Shaped m → m.on ≤ 1
on_small m (inl e) = rw e (lit≤ tt)
on_small m (inr f) = omega (arith, f.on)

pub twelve_there : (m : Matrix) → Shaped m → length m.coefficients ≡ 12
twelve_there m (inl e) = rw e
twelve_there m (inr f) = f.twelve

pub coefficients_small : (m : Matrix) → Shaped m → (i : ℕ) → get_or m.coefficients i 0 < 8192
coefficients_small m (inl e) i = rw e (none_small i)
coefficients_small m (inr f) i = f.small i
