-- A list whose events are fair and taken, whoever made it, cut anywhere: the registers are near those of its start, so planning there ends as
-- planning at the start does. Assumes nothing.
use mathlib.Core.Path.{◌≡◌, refl, sym, ap, subst, ◌∙◌}
use mathlib.Core.Logic.{inl}
use mathlib.Core.Bool.{Bool, true, false, false≢true, not, ◌&&◌, ◌||◌}
use mathlib.Core.List.{List, [], ◌∷◌}
use Prim.Native.Nat.{ℕ, zero, suc, suc-le-suc}
use native.Mathlib.Nat.{zero-lt-suc}
use lib.Dec.{eqb, lit<}
use lib.ListN.{length, get_or}
use Rattle.lists.proofs.Both.{neither_right}
use Rattle.bits.specs.Merge.{merge, bit}
use Rattle.bits.proofs.Laws.{merge_left}
use Rattle.bits.proofs.Truth.{zeros, var, by, law}
use Rattle.map.specs.Map as reg
use Rattle.registers.specs.Classes.{class_at, read_only, free}
use Rattle.chip.specs.declared.Chip.{Chip}
use Rattle.chip.specs.Machine.{Write, avi, audio, gc, packets, up, holds_of}
use Rattle.chip.specs.Write.{put, stored, two, refuses, write_of, vsync_of}
use Rattle.chip.proofs.Writes.{written_as, allowed}
use Rattle.writes.specs.List.{write_list, ready}
use Rattle.cut.specs.Run.{Event, write, vsync, happens, cut, Fair}
use Rattle.cut.specs.Mended.{Mended}
use Rattle.cut.proofs.BytesKept.{Kept, Agree, agree_self, agree_trans, at_set}
use Rattle.cut.proofs.FairRunLeaves.{after_write, Fairly, later, keeps, leaves}
use Rattle.cut.proofs.Repeated.{Taken, sized_happens, vsync_image}
use Rattle.cut.proofs.NoneRefused.{neat_two}
use Rattle.cut.proofs.AtEveryCut.{Ready, Near}
use Rattle.cut.proofs.DemandOfWriteList.{ends_same}

-- a fair byte keeps the read-only and the free bits that stood there
mixed : (f r x y : ℕ) → merge 8 f (merge 8 r x y) 0 ≡ merge 8 r (merge 8 f x 0) (merge 8 f y 0)
mixed f r x y = law (by (var 0) (by (var 1) (var 2) (var 3)) zeros) (by (var 1) (by (var 0) (var 2) zeros) (by (var 0) (var 3) zeros)) 8
    (f ∷ r ∷ x ∷ y ∷ []) refl

twice : (f r x : ℕ) → merge 8 r (merge 8 f x 0) (merge 8 f x 0) ≡ merge 8 f x 0
twice f r x = law (by (var 1) (by (var 0) (var 2) zeros) (by (var 0) (var 2) zeros)) (by (var 0) (var 2) zeros) 8 (f ∷ r ∷ x ∷ []) refl

fair_kept : (w : Write) (s : Chip) → Fair s.image w
    → Kept w.address (stored w.address w.value s.image) (get_or s.image w.address 0)
unfolding stored
fair_kept w s h =
    let a : ℕ = w.address in
    let x : ℕ = get_or s.image a 0 in
    record {
      reads = merge_left 8 (read_only a) x w.value 0;
      frees = mixed (free a) (read_only a) x w.value ∙ ap (λ (n : ℕ). merge 8 (read_only a) (merge 8 (free a) x 0) n) h.its_free
          ∙ twice (free a) (read_only a) x;
    }

agree_fair : (w : Write) (s : Chip) → Fair s.image w → Agree (write_of s w.address w.value).chip.image s.image
unfolding Agree
agree_fair w s h a =
    after_write (λ image. Kept a (get_or image a 0) (get_or s.image a 0)) s w.address w.value (record { reads = refl; frees = refl })
    (at_set (λ (x : ℕ). Kept a x (get_or s.image a 0)) s.image w.address a (stored w.address w.value s.image)
    (λ e. subst (λ (b : ℕ). Kept b (stored w.address w.value s.image) (get_or s.image b 0)) (sym e) (fair_kept w s h))
    (record { reads = refl; frees = refl }))

-- no two packet holds are up after a write that is taken
pub lone : (s : Chip) (a v : ℕ) → (write_of s a v).refusal ≡ 0 → two (holds_of packets (write_of s a v).chip.image) ≡ false
unfolding put refuses
lone s a v e = rw (written_as s a v false (allowed s a v e)) (neither_right (two (holds_of packets s.image)) _ (allowed s a v e))

-- the rest of a list, from the state after its first event
next_taken : (e : Event) (es : List Event) (s : Chip) → Taken (e ∷ es) s → Taken es (happens e s).chip
next_taken e es s t k h = t (suc k) (suc-le-suc h)

pub single : (es : List Event) (s : Chip) → Taken es s → two (holds_of packets s.image) ≡ false → (k : ℕ)
    → two (holds_of packets (cut es s k).image) ≡ false
single es s t o zero = o
single [] s t o (suc k) = o
single (write w ∷ es) s t o (suc k) =
    single es (happens (write w) s).chip (next_taken (write w) es s t) (lone s w.address w.value (t 0 (zero-lt-suc _))) k
single (vsync ∷ es) s t o (suc k) =
    single es (vsync_of s) (next_taken vsync es s t) (ap (λ (image : List ℕ). two (holds_of packets image)) (vsync_image s) ∙ o) k

pub sized : (es : List Event) (s : Chip) → length s.image ≡ 256 → (k : ℕ) → length (cut es s k).image ≡ 256
sized es s z zero = z
sized [] s z (suc k) = z
sized (e ∷ es) s z (suc k) = sized es (happens e s).chip (sized_happens e s z) k

agrees : (es : List Event) (s : Chip) → Fairly es s → (k : ℕ) → Agree (cut es s k).image s.image
agrees es s f zero = agree_self s.image
agrees [] s f (suc k) = agree_self s.image
agrees (write w ∷ es) s f (suc k) =
    agree_trans _ _ _ (agrees es (happens (write w) s).chip (later (write w) es s f) k) (agree_fair w s (f 0 (zero-lt-suc _)))
agrees (vsync ∷ es) s f (suc k) =
    subst (λ (image : List ℕ). Agree (cut es (vsync_of s) k).image image) (vsync_image s) (agrees es (vsync_of s) (later vsync es s f) k)

-- the GC hold is a free bit
gc_free : bit 4 (free reg.infoframe_update) ≡ 1
unfolding class_at
gc_free = refl

module _ (es : List Event) (s : Chip) (r : Ready s.image) (f : Fairly es s) (t : Taken es s) (k : ℕ) where
  abbrev n : ℕ
  n = holds_of packets (cut es s k).image

  pub gc_down : up gc (holds_of packets (cut es s k).image) ≡ false
  gc_down =
      ap (λ (b : ℕ). eqb b 1) (keeps es s f reg.infoframe_update 4 k (lit< tt) (inl gc_free))
      ∙ not_up (up gc (holds_of packets s.image)) _ r.holds
    where
      not_up : (a b : Bool) → (not a && b) ≡ true → a ≡ false
      not_up true b e = absurd (false≢true e)
      not_up false b e = refl

  pub neat_cut : ready (cut es s k).image ≡ true
  neat_cut = go (up avi n) (up audio n) (up gc n) gc_down (single es s t (neat_two (holds_of packets s.image) r.holds) k)
    where
      go : (a b c : Bool) → c ≡ false → ((a && b) || ((a && c) || (b && c))) ≡ false → (not c && not (a && b)) ≡ true
      go a b true e q = absurd (false≢true (sym e))
      go true true false e q = absurd (false≢true (sym q))
      go true false false e q = refl
      go false b false e q = refl

  pub near : Near s (cut es s k)
  near = record {
    ready = record { whole = sized es s r.whole k; holds = neat_cut };
    kept = agrees es s f k;
    rest = λ a h u. leaves es s f a k u;
  }

pub mended : (want : ℕ → ℕ) (es : List Event) (s : Chip) → length s.image ≡ 256 → ready s.image ≡ true → Fairly es s → Taken es s
    → Mended (write_list want) es s
mended want es s whole clear f t =
    let r : Ready s.image = record { whole = whole; holds = clear } in
    record {
      whole = λ k. (near es s r f t k).ready.whole;
      ready = λ k. (near es s r f t k).ready.holds;
      again = λ k fs gs a b. ends_same want s whole clear (cut es s k) (near es s r f t k) fs gs a b;
    }
