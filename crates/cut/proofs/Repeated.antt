-- A write that was taken, sent again, is taken and changes nothing; so a run whose events are repeated goes through the same states.
-- Assumes nothing.
use mathlib.Core.Path.{◌≡◌, refl, sym, ap, ◌∙◌}
use mathlib.Core.Bool.{Bool, true, false, false≢true, not, ◌&&◌, ◌||◌}
use mathlib.Core.List.{List, [], ◌∷◌, ◌++◌}
use Prim.Native.Nat.{ℕ, zero, suc, ◌-◌, ◌<◌, suc-le-suc}
use native.Mathlib.Nat.{not-suc-le-zero, le_of_suc-le-suc, zero-lt-suc}
use native.Mathlib.Omega.{arith}
use lib.ListN.{length, get_or, set, replicate}
use lib.Seq.{take-nil}
use Rattle.lists.specs.Find.{every}
use Rattle.bits.specs.Merge.{merge}
use Rattle.bits.proofs.Laws.{merge_left}
use Rattle.registers.specs.Classes.{read_only}
use Rattle.chip.specs.declared.Chip.{Chip}
use Rattle.chip.specs.Numbered.{Wrote}
use Rattle.chip.specs.Machine.{Group, matrix, packets, converter, up, holds_of, held}
use Rattle.chip.specs.Write.{lent_as, put, stored, image_after, two, refuses, write_of, vsync_of}
use Rattle.chip.proofs.Writes.{written_as, allowed, stepped}
use Rattle.cut.specs.Run.{Event, write, vsync, happens, run, cut, event}
use Rattle.cut.specs.Retried.{retried, begun, Retried}

-- a byte that was stored is stored again as it is
merge_set : (l : List ℕ) (a m v : ℕ) → merge 8 m (get_or (set l a (merge 8 m (get_or l a 0) v)) a 0) v ≡ merge 8 m (get_or l a 0) v
merge_set [] a m v = refl
merge_set (x ∷ xs) zero m v = merge_left 8 m x v v
merge_set (x ∷ xs) (suc a) m v = merge_set xs a m v

set_set : (l : List ℕ) (a x : ℕ) → set (set l a x) a x ≡ set l a x
set_set [] a x = refl
set_set (y ∷ ys) zero x = refl
set_set (y ∷ ys) (suc a) x = ap (λ (l : List ℕ). y ∷ l) (set_set ys a x)

-- where the holds stay none of them rises
none_rises : (n : ℕ) (gs : List Group) → every (λ g. not (up g n && not (up g n))) gs ≡ true
none_rises n [] = refl
none_rises n (g ∷ gs) = go (up g n) (none_rises n gs)
  where
    go : (u : Bool) {more : Bool} → more ≡ true → (not (u && not u) && more) ≡ true
    go true h = h
    go false h = h

sized_after : (s : Chip) (a v : ℕ) → length s.image ≡ 256 → length (write_of s a v).chip.image ≡ 256
sized_after s a v z = (stepped s a v z).sized ∙ z

abbrev taking : ℕ → List ℕ → List ℕ → List ℕ → Bool → Wrote
taking n image packet coefficients waiting = record { refusal = n; chip = lent_as image packet coefficients waiting }

module _ (s : Chip) (a v : ℕ) (z : length s.image ≡ 256) (taken : (write_of s a v).refusal ≡ 0) where
  abbrev t : Chip
  t = (write_of s a v).chip

  left : t.image ≡ image_after s a v
  left = (stepped s a v z).after taken

  stays : image_after t a v ≡ t.image
  unfolding stored
  stays = rw left (ap (set (image_after s a v) a) (merge_set s.image a (read_only a) v) ∙ set_set s.image a _)

  let_in : refuses t a v ≡ false
  unfolding refuses
  let_in = rw (stays, left) (twice (two (holds_of packets s.image)) (two (holds_of packets (image_after s a v))) (allowed s a v taken))
    where
      twice : (x y : Bool) → (x || y) ≡ false → (y || y) ≡ false
      twice true y e = absurd (false≢true (sym e))
      twice false false e = refl
      twice false true e = absurd (false≢true (sym e))

  image_stays : (write_of t a v).chip.image ≡ t.image
  unfolding put
  image_stays = ap (λ (w : Wrote). w.chip.image) (written_as t a v false let_in) ∙ stays

  packet_stays : (write_of t a v).chip.packet ≡ t.packet
  packet_stays = (stepped t a v (sized_after s a v z)).packet (rw image_stays (none_rises (holds_of packets t.image) packets.groups))

  coefficients_stay : (write_of t a v).chip.coefficients ≡ t.coefficients
  coefficients_stay =
      (stepped t a v (sized_after s a v z)).coefficients (rw image_stays (none_rises (holds_of converter t.image) converter.groups))

  mark_stays : (write_of t a v).chip.waiting ≡ t.waiting
  mark_stays = (stepped t a v (sized_after s a v z)).waits (ap (λ (image : List ℕ). up matrix (holds_of converter image)) image_stays)

  pub sent_again : write_of t a v ≡ record { refusal = 0; chip = t }
  sent_again =
      let w : Wrote = write_of t a v in
      let c : Chip = w.chip in
      ap (λ (x : Wrote). taking x.refusal c.image c.packet c.coefficients c.waiting) (written_as t a v false let_in)
      ∙ ap (λ (l : List ℕ). taking 0 l c.packet c.coefficients c.waiting) image_stays
      ∙ ap (λ (l : List ℕ). taking 0 t.image l c.coefficients c.waiting) packet_stays
      ∙ ap (λ (l : List ℕ). taking 0 t.image t.packet l c.waiting) coefficients_stay
      ∙ ap (λ (b : Bool). taking 0 t.image t.packet t.coefficients b) mark_stays

-- a Vsync twice is a Vsync
pub turned_again : (s : Chip) → vsync_of (vsync_of s) ≡ vsync_of s
unfolding vsync_of
turned_again s = ap (λ (b : Bool). lent_as s.image s.packet s.coefficients b) (go (held s) s.waiting)
  where
    go : (h w : Bool) → (h && (h && w)) ≡ (h && w)
    go true w = refl
    go false w = refl

pub vsync_image : (s : Chip) → (vsync_of s).image ≡ s.image
unfolding vsync_of
vsync_image s = refl

-- ---- a list of events

abbrev Whole : Chip → Type 0
Whole s = length s.image ≡ 256

-- none is refused where it happens
abbrev pub Taken : List Event → Chip → Type 0
Taken es s = (k : ℕ) → k < length es → (happens (event es k) (cut es s k)).refusal ≡ 0

pub sized_happens : (e : Event) (s : Chip) → Whole s → Whole (happens e s).chip
sized_happens (write w) s z = sized_after s w.address w.value z
sized_happens vsync s z = ap length (vsync_image s) ∙ z

again : (e : Event) (s : Chip) → Whole s → (happens e s).refusal ≡ 0
    → happens e (happens e s).chip ≡ record { refusal = 0; chip = (happens e s).chip }
again (write w) s z h = sent_again s w.address w.value z h
again vsync s z h = ap (λ (t : Chip). record { refusal = 0; chip = t }) (turned_again s)

-- an event that changes nothing, any number of times before the others
module _ (e : Event) (t : Chip) (idle : happens e t ≡ record { refusal = 0; chip = t }) where
  idle_run : (m : ℕ) (es : List Event) → run (replicate m e ++ es) t ≡ run es t
  idle_run zero es = refl
  idle_run (suc m) es = ap (λ (w : Wrote). run (replicate m e ++ es) w.chip) idle ∙ idle_run m es

  idle_cut : (m : ℕ) (es : List Event) (k : ℕ) → cut (replicate m e ++ es) t k ≡ cut es t (k - m)
  idle_cut zero es k = let e : k ≡ k - 0 = omega arith in ap (cut es t) e
  idle_cut (suc m) es zero = let e : 0 ≡ 0 - suc m = omega arith in ap (cut es t) e
  idle_cut (suc m) es (suc k) =
      let d : k - m ≡ suc k - suc m = omega arith in
      ap (λ (w : Wrote). cut (replicate m e ++ es) w.chip k) idle ∙ idle_cut m es k ∙ ap (cut es t) d

  idle_taken : (m : ℕ) (es : List Event) → Taken es t → Taken (replicate m e ++ es) t
  idle_taken zero es h k l = h k l
  idle_taken (suc m) es h zero l = ap (λ (w : Wrote). w.refusal) idle
  idle_taken (suc m) es h (suc k) l =
      ap (λ (w : Wrote). (happens (event (replicate m e ++ es) k) (cut (replicate m e ++ es) w.chip k)).refusal) idle
      ∙ idle_taken m es h k (le_of_suc-le-suc l)

pub retries : (es : List Event) (s : Chip) → Whole s → Taken es s → (n : ℕ → ℕ) → Retried n es s
retries [] s z h n =
    record { cuts = λ k. ap (λ (es : List Event). run es s) (take-nil k); taken = λ k l. absurd (not-suc-le-zero l); ends = refl }
retries (e ∷ es) s z h n =
    let more : ℕ → ℕ = λ k. n (suc k) in
    let t : Chip = (happens e s).chip in
    let now : (happens e s).refusal ≡ 0 = h 0 (zero-lt-suc _) in
    let idle : happens e t ≡ record { refusal = 0; chip = t } = again e s z now in
    let rest : Retried more es t = retries es t (sized_happens e s z) (λ k l. h (suc k) (suc-le-suc l)) more in
    record {
      cuts = cuts e es s n idle rest;
      taken = taken e es s n now idle rest;
      ends = idle_run e t idle (n 0) (retried more es) ∙ rest.ends;
    }
  where
    cuts : (e : Event) (es : List Event) (s : Chip) (n : ℕ → ℕ)
        → happens e (happens e s).chip ≡ record { refusal = 0; chip = (happens e s).chip }
        → Retried (λ k. n (suc k)) es (happens e s).chip → (k : ℕ) → cut (retried n (e ∷ es)) s k ≡ cut (e ∷ es) s (begun n (e ∷ es) k)
    cuts e es s n idle rest zero = refl
    cuts e es s n idle rest (suc k) = idle_cut e (happens e s).chip idle (n 0) (retried (λ k. n (suc k)) es) k ∙ rest.cuts (k - n 0)

    taken : (e : Event) (es : List Event) (s : Chip) (n : ℕ → ℕ) → (happens e s).refusal ≡ 0
        → happens e (happens e s).chip ≡ record { refusal = 0; chip = (happens e s).chip }
        → Retried (λ k. n (suc k)) es (happens e s).chip → Taken (retried n (e ∷ es)) s
    taken e es s n now idle rest zero l = now
    taken e es s n now idle rest (suc k) l =
        idle_taken e (happens e s).chip idle (n 0) (retried (λ k. n (suc k)) es) rest.taken k (le_of_suc-le-suc l)

-- once an event is sent, one of the list has begun
pub some_begun : (n : ℕ → ℕ) (es : List Event) (k : ℕ) → 0 < k → begun n es k < length es → 0 < begun n es k
some_begun n [] k lo hi = absurd (not-suc-le-zero hi)
some_begun n (e ∷ es) zero lo hi = lo
some_begun n (e ∷ es) (suc k) lo hi = zero-lt-suc _
