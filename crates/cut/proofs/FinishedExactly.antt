-- A run is finished exactly if a Vsync comes after the write that lowers the hold and before the last. Assumes nothing.
use mathlib.Core.Path.{◌≡◌, refl, sym, ap, ◌∙◌}
use mathlib.Core.Logic.{◌↔◌}
use mathlib.Core.Bool.{false≢true, true, not, ◌&&◌}
use mathlib.Core.List.{List, [], ◌∷◌, ◌++◌}
use Prim.Native.Nat.{ℕ, zero, suc, ◌+◌, ◌<◌, suc-le-suc}
use native.Mathlib.Nat.{not-suc-le-zero, le_of_suc-le-suc, zero-lt-suc, le_refl}
use native.Mathlib.Omega.{arith}
use lib.Dec.{eqb}
use lib.ListN.{length, take, drop, length-append}
use lib.Seq.{take-append-le, take-length}
use Rattle.lists.proofs.Both.{both_left, both_right}
use Rattle.chip.specs.Machine.{Write}
use Rattle.cut.specs.Run.{Event, vsync, event, writes_of, writes_by}
use Rattle.cut.specs.Vsync.{leaves_hold, FinishedRun}
use Rattle.cut.specs.Room.{VsyncBetween}
use Rattle.cut.proofs.VsyncsLeave.{writes_append}

split_at : (es : List Event) (k : ℕ) → k < length es → es ≡ take k es ++ event es k ∷ drop (suc k) es
split_at [] k h = absurd (not-suc-le-zero h)
split_at (e ∷ es) zero h = refl
split_at (e ∷ es) (suc k) h = ap (λ (l : List Event). e ∷ l) (split_at es k (le_of_suc-le-suc h))

event_at : (es : List Event) (e : Event) (fs : List Event) → event (es ++ e ∷ fs) (length es) ≡ e
event_at [] e fs = refl
event_at (x ∷ es) e fs = event_at es e fs

ending : (xs ys : List Write) → leaves_hold (xs ++ ys) ≡ true → leaves_hold ys ≡ true
ending [] ys t = t
ending (x ∷ xs) ys t = ending xs ys (both_right (not (eqb x.address 0x1A)) _ t)

tail : {xs ys : List Write} → xs ≡ ys → drop 1 xs ≡ drop 1 ys
tail = ap (λ (l : List Write). drop 1 l)

-- where a list is split in two ways, and the second part of the second way leaves the hold, the write to it is in the first part
passed : (front : List Write) (low : Write) (back before after : List Write) → front ++ low ∷ back ≡ before ++ after → low.address ≡ 0x1A
    → leaves_hold after ≡ true → length front < length before
passed [] low back [] after e h t =
    let n : (not (eqb low.address 0x1A) && leaves_hold back) ≡ true = ap leaves_hold e ∙ t in
    absurd (false≢true (ap (λ (a : ℕ). not (eqb a 0x1A)) (sym h) ∙ both_left (not (eqb low.address 0x1A)) _ n))
passed [] low back (b ∷ before) after e h t = zero-lt-suc _
passed (f ∷ front) low back [] after e h t =
    let n : (not (eqb f.address 0x1A) && leaves_hold (front ++ low ∷ back)) ≡ true = ap leaves_hold e ∙ t in
    absurd (not-suc-le-zero (passed front low back [] (front ++ low ∷ back) refl h (both_right (not (eqb f.address 0x1A)) _ n)))
passed (f ∷ front) low back (b ∷ before) after e h t = suc-le-suc (passed front low back before after (tail e) h t)

-- and the other way round
left : (front : List Write) (low : Write) (back before after : List Write) → front ++ low ∷ back ≡ before ++ after
    → length front < length before → leaves_hold back ≡ true → leaves_hold after ≡ true
left [] low back [] after e h t = absurd (not-suc-le-zero h)
left [] low back (b ∷ before) after e h t = ending before after (ap leaves_hold (sym (tail e)) ∙ t)
left (f ∷ front) low back [] after e h t = absurd (not-suc-le-zero h)
left (f ∷ front) low back (b ∷ before) after e h t = left front low back before after (tail e) (le_of_suc-le-suc h) t

module _ (front : List Write) (low : Write) (back ws : List Write) (s : ws ≡ front ++ low ∷ back) (h : low.address ≡ 0x1A)
    (t : leaves_hold back ≡ true) (es : List Event) (e : writes_of es ≡ ws) where
  -- the writes before a Vsync and those after it
  parts : (before after : List Event) → es ≡ before ++ vsync ∷ after → front ++ low ∷ back ≡ writes_of before ++ writes_of after
  parts before after w = sym s ∙ sym e ∙ ap writes_of w ∙ writes_append before (vsync ∷ after)

  counts : (before after : List Event) → es ≡ before ++ vsync ∷ after → length ws ≡ length (writes_of before) + length (writes_of after)
  counts before after w = ap length (s ∙ parts before after w) ∙ length-append (writes_of before) (writes_of after)

  there : FinishedRun ws es → VsyncBetween (length front) (length ws) es
  there f =
      let at : take (length f.before) es ≡ f.before =
      ap (λ (l : List Event). take (length f.before) l) f.waits
      ∙ take-append-le (length f.before) f.before (vsync ∷ f.after) (le_refl (length f.before)) ∙ take-length f.before in
      let n : writes_by es (length f.before) ≡ length (writes_of f.before) = ap (λ (l : List Event). length (writes_of l)) at in
      let all : length es ≡ length f.before + suc (length f.after) = ap length f.waits ∙ length-append f.before (vsync ∷ f.after) in
      let m : length ws ≡ length (writes_of f.before) + length (writes_of f.after) = counts f.before f.after f.waits in
      let u : 0 < length (writes_of f.after) = f.unopened in
      record {
        place = length f.before;
        within = omega (arith, all);
        turns = ap (λ (l : List Event). event l (length f.before)) f.waits ∙ event_at f.before vsync f.after;
        after = rw n (passed front low back (writes_of f.before) (writes_of f.after) (parts f.before f.after f.waits) h f.lowered);
        before = omega (arith, n, m, u);
      }

  back_again : VsyncBetween (length front) (length ws) es → FinishedRun ws es
  back_again p =
      let before : List Event = take p.place es in
      let after : List Event = drop (suc p.place) es in
      let w : es ≡ before ++ vsync ∷ after =
      split_at es p.place p.within ∙ ap (λ (v : Event). before ++ v ∷ after) p.turns in
      let m : length ws ≡ writes_by es p.place + length (writes_of after) = counts before after w in
      let b : writes_by es p.place < length ws = p.before in
      record {
        runs = e;
        before = before;
        after = after;
        waits = w;
        lowered = left front low back (writes_of before) (writes_of after) (parts before after w) p.after t;
        unopened = omega (arith, m, b);
      }

  pub between : FinishedRun ws es ↔ VsyncBetween (length front) (length ws) es
  between = (there, back_again)
