-- The rows of a request, tested in order, stage by stage. Assumes nothing.
--     fields_given, limits_given    the fields' stage and the limits'
--     asks_given, read_given        the calls
--     Asked, Judged                 what is known where rows 4 to 6, and the limits too, let a request pass
use mathlib.Core.Path.{◌≡◌, refl, sym, ap, subst, ◌∙◌}
use mathlib.Core.Logic.{◌≢◌}
use mathlib.Core.Bool.{Bool, true, false, false≢true, cond}
use mathlib.Core.List.{List}
use Prim.Native.Nat.{ℕ}
use borrow.Author.Tests.{not-false}
use lib.Dec.{eqb}
use lib.ListN.{length}
use Rattle.refusals.specs.Rows.{Given}
use Rattle.refusals.specs.Tests.{lowest}
use Rattle.lists.proofs.Decides.{Decides, failing, itself, equal, opposite, either, together, restated}
use Rattle.matrix.specs.Matrix.{Allowed, Bytes}
use Rattle.matrix.specs.Tests.{is_allowed}
use Rattle.matrix.proofs.Numbers.{numbers}
use Rattle.refusals.proofs.Tests.{lowest_given, answer_given, in_stages, none_in_stages, none_at, answer_none, numbered}
use Rattle.wiring.specs.Kinds.{rgb_in}
use Rattle.wiring.specs.Wiring.{wiring_in, wires_of}
use Rattle.wiring.proofs.Fits as wiring
use Rattle.video.specs.declared.Video.{Video}
use Rattle.video.specs.Video.{video_in, PixelOutside}
use Rattle.video.specs.Tests.{pixel_outside}
use Rattle.video.specs.Modes.{offered}
use Rattle.video.proofs.Fits as video
use Rattle.sound.specs.declared.Sound.{Sound}
use Rattle.sound.specs.Sound.{sound_of}
use Rattle.sound.specs.Fits.{SoundFits}
use Rattle.sound.proofs.Fits as sound
use Rattle.clock.specs.Clocks.{tmds, AboveLimit}
use Rattle.clock.specs.Answers.{above_limit, clock_of}
use Rattle.clock.proofs.Offered.{number_is}
use Rattle.clock.proofs.Rows.{is_above}
use Rattle.blanking.specs.Table.{TooMuch}
use Rattle.blanking.specs.Found.{too_much}
use Rattle.blanking.proofs.Rule.{is_too_much}
use Rattle.request.specs.declared.Request.{Request}
use Rattle.request.specs.Numbered.{Checked, emptied}
use Rattle.request.specs.Sections.{Bodies, Walk, ends, not_allowed, whole, bodies_in, rest_of}
use Rattle.request.specs.Request.{Present, present, Outside, rgb_out, Combined, request_in, request_of}
use Rattle.request.specs.Request.{bytes_rows, fields_rows, limits_rows, ask_rules, read_rules}
use Rattle.request.specs.Read.{converts_in, outside, combined, is_ends, is_not_allowed, bytes_tests, fields_tests, limits_tests}
use Rattle.request.specs.Read.{judged, checked, limit_of, limited}
use Rattle.request.proofs.Inside.{bodies_inside}

-- what the tests of rows 1 and 2 decide
ends_decided : (w : Walk) → Decides (is_ends w) (w ≡ ends)
ends_decided ends = record { passes = λ t. refl; fails = λ f. absurd (false≢true (sym f)) }
ends_decided not_allowed = record { passes = λ t. absurd (false≢true t); fails = λ f e. false≢true (ap is_ends e) }
ends_decided (whole bodies rest) = record { passes = λ t. absurd (false≢true t); fails = λ f e. false≢true (ap is_ends e) }

refused_decided : (w : Walk) → Decides (is_not_allowed w) (w ≡ not_allowed)
refused_decided ends = record { passes = λ t. absurd (false≢true t); fails = λ f e. false≢true (ap is_not_allowed e) }
refused_decided not_allowed = record { passes = λ t. refl; fails = λ f. absurd (false≢true (sym f)) }
refused_decided (whole bodies rest) = record { passes = λ t. absurd (false≢true t); fails = λ f e. false≢true (ap is_not_allowed e) }

-- what the tests of rows 3, 5 and 6 decide
pub full : (l : List ℕ) → Decides (present l) (Present l)
full l = opposite (equal (length l) 0)

pub is_outside : (b : Bodies) → Bytes b.matrix → Decides (outside b) (Outside b)
unfolding outside
is_outside b bytes =
    let m : List ℕ = b.matrix in
    let allowed : Decides (is_allowed m) (Allowed m) = restated (numbers m bytes).rule.0 (numbers m bytes).rule.1 (itself (is_allowed m)) in
    either (wiring.is_outside (wiring_in b.wiring))
    (either (video.is_outside (video_in b.video)) (either (sound.is_outside (sound_of b.audio)) (together (full m) (opposite allowed))))

-- two answers are different
differ : (a b : Bool) → Decides (converts_in a b) (a ≢ b)
differ true true = record { passes = λ t. absurd (false≢true t); fails = λ f n. n refl }
differ true false = record { passes = λ t e. false≢true (sym e); fails = λ f n. false≢true (sym f) }
differ false true = record { passes = λ t e. false≢true e; fails = λ f n. false≢true (sym f) }
differ false false = record { passes = λ t. absurd (false≢true t); fails = λ f n. n refl }

is_combined : (b : Bodies) → Decides (combined b) (Combined b)
unfolding combined
is_combined b =
    let v : Video = video_in b.video in
    either (together (differ (rgb_in (wires_of (wiring_in b.wiring)).input) (rgb_out v)) (equal (length b.matrix) 0))
    (either (together (equal v.link 0) (sound.is_on_lem (sound_of b.audio))) (video.is_combined v))

abbrev number_of : Checked → ℕ
number_of c = c.refusal

-- ---- each stage: its tests decide its rows one by one

bytes_given : (w : Walk) → Given (bytes_rows w) (lowest (bytes_tests w))
bytes_given w =
    lowest_given (bytes_tests w) (bytes_rows w) refl (refl, ends_decided w, λ _. (refl, refused_decided w, λ _. (refl, full (rest_of w), λ _. tt)))

pub fields_given : (b : Bodies) → Bytes b.matrix → Given (fields_rows b) (judged b).refusal
unfolding judged
fields_given b bytes =
    answer_given emptied _ number_of (fields_rows b) (lowest (fields_tests b)) refl (λ _. refl)
    (lowest_given (fields_tests b) (fields_rows b) refl
    (refl, failing (offered (video_in b.video)), λ _. (refl, is_outside b bytes, λ _. (refl, is_combined b, λ _. tt))))

-- past the fields the mode is offered and each field in range, and so the clock's own number is 17 or none
pub limit_is : (v : Video) → offered v ≡ true → pixel_outside v ≡ false → eqb (clock_of v).refusal 17 ≡ above_limit (tmds v)
limit_is v o p = rw (number_is v, o, p) (go (above_limit (tmds v)))
  where
    go : (a : Bool) → eqb (cond a 17 0) 17 ≡ a
    go true = refl
    go false = refl

-- what the fields let pass
pub record Asked (b : Bodies) (c : Checked) : Type 0 where
  pub request : c.request ≡ request_in b
  pub mode : offered (video_in b.video) ≡ true
  pub inside : outside b ≡ false
  pub apart : combined b ≡ false

pub asked : (b : Bodies) → (judged b).refusal ≡ 0 → Asked b (judged b)
unfolding judged
asked b z =
    let n : lowest (fields_tests b) ≡ 0 = (none_in_stages emptied _ number_of (lowest (fields_tests b)) refl z).0 in
    record {
      request = ap (λ (c : Checked). c.request) (answer_none emptied _ (lowest (fields_tests b)) n);
      mode = not-false (offered (video_in b.video)) (none_at (fields_tests b) 0 n);
      inside = none_at (fields_tests b) 1 n;
      apart = none_at (fields_tests b) 2 n;
    }

pub limit_there : (b : Bodies) → (judged b).refusal ≡ 0 → let v : Video = video_in b.video in eqb (clock_of v).refusal 17 ≡ above_limit (tmds v)
limit_there b z =
    let j = asked b z in
    let v : Video = video_in b.video in
    limit_is v j.mode (video.pixel_inside v (bodies_inside b j.inside).video)

-- and row 20, where the other fields are in range
pub pixel_there : (b : Bodies) → (judged b).refusal ≡ 0 → PixelOutside (video_in b.video) → ⊥
pixel_there b z h =
    let v : Video = video_in b.video in
    (video.is_outside v).fails (bodies_inside b (asked b z).inside).video (video.outside_too v h)

pub sound_there : (b : Bodies) → (judged b).refusal ≡ 0 → SoundFits (sound_of b.audio)
sound_there b z =
    let s : Sound = sound_of b.audio in
    (sound.in_range_lem s).1 ((sound.is_outside s).fails (bodies_inside b (asked b z).inside).sound)

pub room_there : (b : Bodies) → (judged b).refusal ≡ 0
    → Decides (too_much (video_in b.video) (sound_of b.audio)) (TooMuch (video_in b.video) (sound_of b.audio))
room_there b z = is_too_much (video_in b.video) (sound_of b.audio) (asked b z).mode (pixel_there b z) (sound_there b z)

pub limits_given : (b : Bodies) → (judged b).refusal ≡ 0
    → Given (limits_rows (request_in b).video (request_in b).sound) (limit_of (video_in b.video) (sound_of b.audio))
limits_given b z =
    let v : Video = video_in b.video in
    let s : Sound = sound_of b.audio in
    lowest_given (limits_tests v s) (limits_rows v s) refl
    (refl, subst (λ (t : Bool). Decides t (AboveLimit (tmds v))) (sym (limit_there b z)) (is_above v), λ _. (refl, room_there b z, λ _. tt))

-- ---- the calls: stages, one after the other

pub asks_given : (w : Walk) → Bytes (bodies_in w).matrix → Given (ask_rules w) (checked w).refusal
asks_given w bytes =
    in_stages emptied (judged (bodies_in w)) number_of (bytes_rows w) (fields_rows (bodies_in w)) (lowest (bytes_tests w)) refl refl (bytes_given w)
    (λ _. fields_given (bodies_in w) bytes)

-- a walk that rows 1 to 6 let pass
pub alone : (w : Walk) → (checked w).refusal ≡ 0 → (lowest (bytes_tests w) ≡ 0) × ((judged (bodies_in w)).refusal ≡ 0)
alone w = none_in_stages emptied _ number_of (lowest (bytes_tests w)) refl

pub asked_there : (w : Walk) → (checked w).refusal ≡ 0 → Asked (bodies_in w) (checked w)
asked_there w z =
    let p = alone w z in
    let e : checked w ≡ judged (bodies_in w) = answer_none emptied _ (lowest (bytes_tests w)) p.0 in
    rw e (asked (bodies_in w) p.1)

pub read_given : (w : Walk) → Bytes (bodies_in w).matrix → Given (read_rules w) (limited (checked w)).refusal
read_given w bytes =
    in_stages (λ (n : ℕ). n) (limit_of (checked w).request.video (checked w).request.sound) (λ (n : ℕ). n) (ask_rules w)
    (limits_rows (request_of w).video (request_of w).sound) (checked w).refusal refl refl
    (asks_given w bytes)
    (λ z. rw (asked_there w z).request (limits_given (bodies_in w) (alone w z).1))

-- where neither the fields nor the limits refuse
pub both : (c : Checked) → (limited c).refusal ≡ 0 → (c.refusal ≡ 0) × (limit_of c.request.video c.request.sound ≡ 0)
both c = none_in_stages (λ (n : ℕ). n) (limit_of c.request.video c.request.sound) (λ (n : ℕ). n) c.refusal refl

pub record Judged (b : Bodies) (c : Checked) : Type 0 where
  pub request : c.request ≡ request_in b
  pub mode : offered (video_in b.video) ≡ true
  pub inside : outside b ≡ false
  pub apart : combined b ≡ false
  pub within : above_limit (tmds (video_in b.video)) ≡ false
  pub room : too_much (video_in b.video) (sound_of b.audio) ≡ false

within_limits : (b : Bodies) → (judged b).refusal ≡ 0 → limit_of (video_in b.video) (sound_of b.audio) ≡ 0
    → (above_limit (tmds (video_in b.video)) ≡ false) × (too_much (video_in b.video) (sound_of b.audio) ≡ false)
within_limits b z l =
    let tests = limits_tests (video_in b.video) (sound_of b.audio) in
    (sym (limit_there b z) ∙ none_at tests 0 l, none_at tests 1 l)

pub accepted : (b : Bodies) → (limited (judged b)).refusal ≡ 0 → Judged b (limited (judged b))
accepted b z =
    let p = both (judged b) z in
    let j = asked b p.0 in
    let l = within_limits b p.0 (ap (λ (r : Request). limit_of r.video r.sound) (sym j.request) ∙ p.1) in
    record {
      request = j.request;
      mode = j.mode;
      inside = j.inside;
      apart = j.apart;
      within = l.0;
      room = l.1;
    }

-- and back: where neither stage refuses, and so where no row applies
pub passing : (b : Bodies) → (judged b).refusal ≡ 0 → limit_of (video_in b.video) (sound_of b.audio) ≡ 0 → (limited (judged b)).refusal ≡ 0
passing b z l =
    numbered (λ (n : ℕ). n) (limit_of (judged b).request.video (judged b).request.sound) (λ (n : ℕ). n) (judged b).refusal
    (λ _. ap (λ (r : Request). limit_of r.video r.sound) (asked b z).request ∙ l) refl
    ∙ z

-- a walk that no row refuses: its request is what its bodies say, in a mode that is offered, with each field in range
pub passed : (w : Walk) → (limited (checked w)).refusal ≡ 0 → Judged (bodies_in w) (limited (checked w))
passed w z =
    let p = both (checked w) z in
    let e : checked w ≡ judged (bodies_in w) = answer_none emptied _ (lowest (bytes_tests w)) (alone w p.0).0 in
    rw e (accepted (bodies_in w) (ap (λ (c : Checked). (limited c).refusal) (sym e) ∙ z))
