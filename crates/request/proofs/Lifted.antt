-- Row 20 is never lifted by more channels or a higher rate. Assumes nothing.
use mathlib.Core.Path.{◌≡◌, refl, sym, ap, ◌∙◌, subst₂}
use mathlib.Core.Bool.{Bool, true, false, cond}
use mathlib.Core.List.{List, [], ◌∷◌}
use Prim.Native.Nat.{ℕ, ◌≤◌}
use native.Mathlib.Omega.{arith}
use lib.Dec.{eqb, leb, lit≤}
use borrow.Author.Tests.{eqb-true, leb-true}
use Rattle.lists.specs.Find.{every}
use Rattle.lists.proofs.Both.{both_left, both_right}
use Rattle.lists.proofs.Decides.{confirmed, refuted}
use Rattle.refusals.specs.Rows.{number}
use Rattle.refusals.specs.Tests.{Test, lowest, answer}
use Rattle.video.specs.declared.Video.{Video}
use Rattle.video.specs.Video.{video_in}
use Rattle.sound.specs.declared.Sound.{Sound}
use Rattle.sound.specs.Sound.{sound_of}
use Rattle.clock.specs.Answers.{clock_of}
use Rattle.clock.proofs.Rows.{is_above}
use Rattle.blanking.specs.Table.{TooMuch}
use Rattle.blanking.specs.Found.{too_much}
use Rattle.blanking.specs.Theorems.{SameMode, NoLess}
use Rattle.blanking.proofs.Rule.{lifts, slow}
use Rattle.request.specs.declared.Request.{Request}
use Rattle.request.specs.Numbered.{Checked, emptied}
use Rattle.request.specs.Sections.{Bodies, Walk, bodies_in, walked}
use Rattle.request.specs.Request.{request_in}
use Rattle.request.specs.Read.{bytes_tests, fields_tests, judged, checked, limit_of, limited, read_of}
use Rattle.request.specs.Lifted.{NeverLifted}
use Rattle.request.proofs.Ordered.{limit_there, pixel_there, sound_there, room_there, alone, asked_there}

-- ---- rows 1 to 6 give no number above 6

lowest_small : (ts : List Test) → every (λ t. leb (number t.row) 6) ts ≡ true → lowest ts ≤ 6
lowest_small [] e = lit≤ tt
lowest_small (t ∷ ts) e = go t.found (leb-true _ _ (both_left _ _ e)) (lowest_small ts (both_right (leb (number t.row) 6) _ e))
  where
    go : (b : Bool) → number t.row ≤ 6 → lowest ts ≤ 6 → cond b (number t.row) (lowest ts) ≤ 6
    go true h k = h
    go false h k = k

small : (n : ℕ) (c : Checked) → n ≤ 6 → c.refusal ≤ 6 → (answer n emptied c).refusal ≤ 6
small n c h k = go (eqb n 0)
  where
    go : (b : Bool) → (cond b c (emptied n)).refusal ≤ 6
    go true = k
    go false = h

ask_small : (w : Walk) → (checked w).refusal ≤ 6
unfolding judged
ask_small w =
    let b : Bodies = bodies_in w in
    small (lowest (bytes_tests w)) (judged b) (lowest_small (bytes_tests w) refl)
    (small (lowest (fields_tests b)) (record { refusal = 0; request = request_in b }) (lowest_small (fields_tests b) refl) (lit≤ tt))

-- ---- so 20 is the limits' own, and says that the sound is too much

of_limits : (w : Walk) → (limited (checked w)).refusal ≡ 20 → ((checked w).refusal ≡ 0) × (limit_of (checked w).request.video (checked w).request.sound ≡ 20)
of_limits w e = go (eqb (checked w).refusal 0) refl e
  where
    go : (b : Bool) → eqb (checked w).refusal 0 ≡ b
        → cond b (limit_of (checked w).request.video (checked w).request.sound) (checked w).refusal ≡ 20
        → ((checked w).refusal ≡ 0) × (limit_of (checked w).request.video (checked w).request.sound ≡ 20)
    go true z e = (eqb-true _ _ z, e)
    go false z e = absurd (omega (arith, ask_small w, e))

of_room : (a t : Bool) → ◌≡◌ {A = ℕ} (cond a 17 (cond t 20 0)) 20 → t ≡ true
of_room true t e = absurd (omega (arith, e))
of_room false true e = refl
of_room false false e = absurd (omega (arith, e))

module _ (w o : Walk) (e : (limited (checked w)).refusal ≡ 20) (z : (checked o).refusal ≡ 0) where
  abbrev b : Bodies
  b = bodies_in w

  abbrev c : Bodies
  c = bodies_in o

  -- what the two ask for
  asks : (checked w).refusal ≡ 0
  asks = (of_limits w e).0

  first : (checked w).request ≡ request_in b
  first = (asked_there w asks).request

  second : (checked o).request ≡ request_in c
  second = (asked_there o z).request

  too_much_there : TooMuch (video_in b.video) (sound_of b.audio)
  too_much_there =
      (room_there b (alone w asks).1).passes
      (of_room (eqb (clock_of (video_in b.video)).refusal 17) _ (ap (λ (r : Request). limit_of r.video r.sound) (sym first) ∙ (of_limits w e).1))

  module _ (m : SameMode (checked w).request.video (checked o).request.video) (n : NoLess (checked w).request.sound (checked o).request.sound) where
    too_much_too : TooMuch (video_in c.video) (sound_of c.audio)
    too_much_too =
        lifts (video_in b.video) (video_in c.video) (sound_of b.audio) (sound_of c.audio)
        (subst₂ (λ (x y : Request). SameMode x.video y.video) first second m)
        (subst₂ (λ (x y : Request). NoLess x.sound y.sound) first second n) too_much_there

    lifted : (limited (checked o)).refusal ≡ 20
    lifted =
        let v : Video = video_in c.video in
        let s : Sound = sound_of c.audio in
        let j = (alone o z).1 in
        let t : too_much v s ≡ true = confirmed (room_there c j) too_much_too in
        let above = refuted (is_above v) (slow v s (asked_there o z).mode (pixel_there c j) (sound_there c j) too_much_too) in
        rw (z, second, limit_there c j, above, t)

pub never_lifted : (input other : List ℕ) → NeverLifted input other
unfolding read_of
never_lifted input other e z m n = lifted (walked input) (walked other) e z m n
