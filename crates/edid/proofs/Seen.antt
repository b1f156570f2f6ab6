-- The overview says of a wish what the chooser asks; and a wish in its place is the same request, but for VIC and family. Assumes nothing.
use mathlib.Core.Path.{◌≡◌, refl, sym, ap, subst, ◌∙◌}
use mathlib.Core.Logic.{◌≢◌, ⊎_elim}
use mathlib.Core.Bool.{Bool, true, false, cond}
use mathlib.Core.List.{List, [], ◌∷◌}
use Prim.Native.Nat.{ℕ, zero, suc, ◌-◌, ◌<◌, ◌≤◌}
use native.Mathlib.Omega.{arith}
use lib.Dec.{ltb}
use lib.ListN.{length}
use borrow.Author.Tests.{ltb-true, ltb-false}
use Rattle.bits.specs.Merge.{bit}
use Rattle.video.specs.declared.Video.{Video}
use Rattle.video.specs.Modes.{mode_of}
use Rattle.video.specs.Video.{video_in}
use Rattle.video.proofs.Fits as video
use Rattle.sound.specs.declared.Sound.{Sound}
use Rattle.sound.specs.declared.Sound.TheVariants.{Off, On}
use Rattle.sound.specs.Fits.{SoundFits}
use Rattle.matrix.specs.Matrix.{Bytes}
use Rattle.request.specs.declared.Request.{Request}
use Rattle.request.specs.Sections.{Bodies, Walk, ends, not_allowed, whole, walked, by_name, in_turn}
use Rattle.request.specs.Request.{request_in, request_of}
use Rattle.request.specs.Bytes.{on_video, with_video}
use Rattle.request.specs.Read.{read_of, ncts_of}
use Rattle.request.specs.Fits as requests
use Rattle.request.proofs.Fits as fitting
use Rattle.request.proofs.Opened.{request_walks}
use Rattle.edid.specs.declared.Ask.TheVariants.{Vic, Pcm}
use Rattle.edid.specs.Screen.{screen_tells}
use Rattle.edid.specs.Wish.{Wish, wished, placed_in, in_place, SoundCovered, WishFits}
use Rattle.edid.specs.Found.{monitor_of, vic_in}
use Rattle.edid.specs.Theorems.{wished_video, InPlace, vic_bit, SoundBit, SeenToFit, Chooses}
use Rattle.edid.proofs.Placed.{sectioned}
use Rattle.edid.proofs.Rows.{as_long, not_whole, unplaced}
use Rattle.edid.proofs.Answers.{overview}
use Rattle.edid.proofs.Choosing.{read_none, said, accepts, choose_given, nothing_beside, first_fit, put_there, inside, accepted_there}

-- a wish in its place: the walk finds the sections again
module _ (w : Wish) (input : List ℕ) (bodies : List (List ℕ)) (rest : List ℕ) (e : walked input ≡ whole bodies rest) where
  abbrev b : Bodies
  b = by_name bodies

  long_enough : (v : List ℕ) → length v ≡ 7 → length (wished w v) ≡ 7
  long_enough [] h = absurd (omega arith)
  long_enough (x ∷ []) h = absurd (omega arith)
  long_enough (x ∷ y ∷ v) h = h

  again : walked (in_place w input) ≡ whole (in_turn (with_video (wished w b.video) b)) rest
  unfolding in_place
  again =
      let s = sectioned input bodies rest e in
      let made : in_place w input ≡ placed_in w input (whole bodies rest) = ap (placed_in w input) e in
      ((request_walks (in_place w input)).whole (with_video (wished w b.video) b) rest).1
      (record {
        wiring_counted = s.wiring_counted;
        video_counted = long_enough b.video s.video_counted;
        audio_counted = s.audio_counted;
        matrix_counted = s.matrix_counted;
        made = made;
      })

  video_wished : (v : List ℕ) → length v ≡ 7 → video_in (wished w v) ≡ wished_video w (video_in v)
  video_wished [] h = absurd (omega arith)
  video_wished (x ∷ []) h = absurd (omega arith)
  video_wished (x ∷ y ∷ v) h = refl

  pub request_there : request_of (walked (in_place w input)) ≡ on_video (wished_video w) (request_of (walked input))
  request_there =
      let s = sectioned input bodies rest e in
      ap request_of again
      ∙ ap (λ (v : Video). record { wiring = (request_in b).wiring; video = v; sound = (request_in b).sound; matrix = (request_in b).matrix }) (video_wished b.video s.video_counted)
      ∙ ap (λ (k : Walk). on_video (wished_video w) (request_of k)) (sym e)

pub in_place_lem : (w : Wish) (input : List ℕ) → InPlace w input
in_place_lem w input = record { request = request_there w input; length = as_long w input }

-- the VIC of a request that is accepted with a wish is the wish's
one_set : (b : Bool) → ◌≡◌ {A = ℕ} (cond b 1 0) 1 → b ≡ true
one_set b e = grind arith

module _ (e input : List ℕ) (w : Wish) (m : (monitor_of e).refusal ≡ 0) (z : (ncts_of (in_place w input)).refusal ≡ 0) where
  abbrev i : List ℕ
  i = in_place w input

  known : requests.Fits (request_of (walked (in_place w input)))
  known = subst requests.Fits (said i z) (fitting.fits i (read_none i z))

  whole_walk : vic_in (walked input) ≢ 0
  whole_walk n = not_whole input n (subst (λ (l : List ℕ). (read_of l).refusal ≡ 0) (unplaced w input n) (read_none i z))

  vic_is : (request_of (walked (in_place w input))).video.vic ≡ w.vic
  vic_is = go (walked input) refl whole_walk
    where
      go : (k : Walk) → walked input ≡ k → vic_in k ≢ 0 → (request_of (walked (in_place w input))).video.vic ≡ w.vic
      go ends q h = absurd (h refl)
      go not_allowed q h = absurd (h refl)
      go (whole bodies rest) q h = ap (λ (r : Request). r.video.vic) (request_there w input bodies rest q)

  small : w.vic < 64
  small = subst (λ (n : ℕ). n < 64) vic_is (video.vic_small (request_of (walked i)).video known.video)

  some_vic : 1 ≤ w.vic
  unfolding mode_of
  some_vic = go w.vic refl
    where
      go : (n : ℕ) → w.vic ≡ n → 1 ≤ n
      go zero q = absurd (unlisted q)
        where
          unlisted : w.vic ≡ 0 → ⊥
          unlisted q = video.is_listed (request_of (walked i)).video known.video (ap (λ (n : ℕ). (mode_of n).families) (vic_is ∙ q))
      go (suc n) q = omega arith

  bit_of_vic : vic_bit (monitor_of e) w.vic ≡ cond (screen_tells e (Vic w.vic)) 1 0
  bit_of_vic = go (ltb w.vic 32) refl
    where
      go : (b : Bool) → ltb w.vic 32 ≡ b → cond b (bit w.vic (monitor_of e).vics_low) (bit (w.vic - 32) (monitor_of e).vics_high) ≡ cond (screen_tells e (Vic w.vic)) 1 0
      go true t = (overview e).low m w.vic some_vic (ltb-true w.vic 32 t)
      go false t = (overview e).high m w.vic (ltb-false w.vic 32 t) small

  sound_bit : (s : Sound) → SoundFits s → (SoundBit (monitor_of e) s → SoundCovered e s) × (SoundCovered e s → SoundBit (monitor_of e) s)
  sound_bit Off f = ((λ _. tt), (λ _. tt))
  sound_bit (On rate channels coherent) f = ⊎_elim two eight f.1
    where
      two : channels ≡ 2 → (SoundBit (monitor_of e) (On rate channels coherent) → SoundCovered e (On rate channels coherent)) × (SoundCovered e (On rate channels coherent) → SoundBit (monitor_of e) (On rate channels coherent))
      two q =
          let o = (overview e).two m rate (omega (arith, f.0)) in
          rw q ((λ h. one_set (screen_tells e (Pcm rate 2)) (sym o ∙ h)), (λ h. o ∙ rw h))

      eight : channels ≡ 8 → (SoundBit (monitor_of e) (On rate channels coherent) → SoundCovered e (On rate channels coherent)) × (SoundCovered e (On rate channels coherent) → SoundBit (monitor_of e) (On rate channels coherent))
      eight q =
          let o = (overview e).eight m rate (omega (arith, f.0)) in
          rw q ((λ h. one_set (screen_tells e (Pcm rate 8)) (sym o ∙ h)), (λ h. o ∙ rw h))

pub seen : (e input : List ℕ) → Bytes input → (w : Wish) → w.vic < 256 → w.family < 256 → (monitor_of e).refusal ≡ 0
    → (WishFits e input w → SeenToFit (monitor_of e) input w) × (SeenToFit (monitor_of e) input w → WishFits e input w)
seen e input f w v k m = (
  (λ h.
      let z = (accepts e input f w v k).1 h.permitted in
      record {
        listed = bit_of_vic e input w m z ∙ rw h.listed;
        accepted = z;
        covered = (sound_bit e input w m z (request_of (walked (in_place w input))).sound (known e input w m z).sound).1 h.covered;
      }),
  (λ h.
      let z = h.accepted in
      record {
        listed = one_set (screen_tells e (Vic w.vic)) (sym (bit_of_vic e input w m z) ∙ h.listed);
        covered = (sound_bit e input w m z (request_of (walked (in_place w input))).sound (known e input w m z).sound).0 h.covered;
        permitted = (accepts e input f w v k).0 z;
      }),
)

pub chooses : (e input wishes : List ℕ) → Chooses e input wishes
chooses e input wishes =
    record {
      given = choose_given e input wishes;
      nothing = nothing_beside e input wishes;
      first = λ f g z. first_fit e input wishes z f g;
      put = put_there e input wishes;
      within = inside e input wishes;
      accepted = accepted_there e input wishes;
      seen = seen e input;
    }
