-- No write of a list is refused: from holds of which no two are up, a list whose walk keeps them so is stored write by write. Assumes
-- nothing.
use mathlib.Core.Path.{◌≡◌, refl, sym, ap, ◌∙◌}
use mathlib.Core.Logic.{⊎_elim}
use mathlib.Core.Bool.{false≢true, Bool, true, false, not, ◌&&◌, ◌||◌}
use mathlib.Core.List.{List, [], ◌∷◌, map}
use Prim.Native.Nat.{ℕ, zero, suc, ◌<◌}
use native.Mathlib.Nat.{not-suc-le-zero, le_of_suc-le-suc}
use lib.ListN.{length, get_or, set, take}
use Rattle.chip.specs.declared.Chip.{Chip}
use Rattle.chip.specs.Numbered.{Wrote}
use Rattle.chip.specs.Machine.{Write, ◌gets◌, avi, audio, gc, packets, up, holds_of}
use Rattle.chip.specs.Write.{put, stored, image_after, two, refuses, write_of}
use Rattle.chip.proofs.Writes.{written_as}
use Rattle.writes.specs.Steps.{Step}
use Rattle.writes.specs.List.{written}
use Rattle.cut.specs.Run.{run}
use Rattle.cut.specs.Room.{sent}
use Rattle.cut.proofs.MovesOnlyAt.{View, first, nexts, walk, walk_map, acts}
use Rattle.cut.proofs.GroupStays.{store, only, status, next, avi_same, audio_same, gc_same, Whole, size_store, gc_shown}
use Rattle.cut.proofs.BytesKept.{clean, Seen, Agree, written_stored, agree_store}

-- holds on which planning is not refused, as `ready` has them
abbrev pub neat : ℕ → Bool
neat n = not (up gc n) && not (up avi n && up audio n)

pub neat_only : (n : ℕ) → neat (only packets.groups n) ≡ neat n
neat_only n = rw (avi_same n, audio_same n, gc_same n)

pub neat_two : (n : ℕ) → neat n ≡ true → two n ≡ false
neat_two n = go (up avi n) (up audio n) (up gc n)
  where
    go : (a b c : Bool) → (not c && not (a && b)) ≡ true → ((a && b) || ((a && c) || (b && c))) ≡ false
    go a b true t = absurd (false≢true t)
    go true true false t = absurd (false≢true t)
    go true false false t = refl
    go false true false t = refl
    go false false false t = refl

-- a view that is quiet where the holds stay so
abbrev pub tidy : View Write
tidy = record { next = next packets; quiet = λ n w. neat (next packets n w) }

pub neat_at : (n : ℕ) (ws : List Write) (k : ℕ) → neat n ≡ true → walk tidy false n ws ≡ true → neat (nexts tidy n (take k ws)) ≡ true
neat_at n ws zero h t = h
neat_at n [] (suc k) h t = h
neat_at n (w ∷ ws) (suc k) h t =
    ⊎_elim (λ q. neat_at (next packets n w) ws k q.0 q.1) (λ q. absurd (false≢true q.0)) (first tidy false n w ws t)

pub tidy_seen : (want : ℕ → ℕ) (image : List ℕ) → Seen want image packets → (n : ℕ) (is : List Step)
    → walk tidy false n (map (written want image) is) ≡ walk tidy false n (map clean is)
unfolding Seen
tidy_seen want image see n is = walk_map tidy (written want image) clean see (λ n i. ap neat (see n i)) false n is

-- a write that the machine stores as it is, and that leaves the holds so
module _ (w : Write) (s : Chip) (z : Whole s) (e : stored w.address w.value s.image ≡ w.value) where
  later : status packets (image_after s w.address w.value) ≡ next packets (status packets s.image) w
  unfolding put
  later = ap (λ (b : ℕ). status packets (set s.image w.address b)) e ∙ gc_shown.tracks w s z

  module _ (n : neat (status packets s.image) ≡ true) (n' : neat (next packets (status packets s.image) w) ≡ true) where
    takes : refuses s w.address w.value ≡ false
    unfolding refuses
    takes =
        let after : List ℕ = image_after s w.address w.value in
        let b : two (holds_of packets s.image)
        ≡ false = neat_two (holds_of packets s.image) (sym (neat_only (holds_of packets s.image)) ∙ n) in
        let a : two (holds_of packets after)
        ≡ false = neat_two (holds_of packets after) (sym (neat_only (holds_of packets after)) ∙ ap neat later ∙ n') in
        rw (b, a)

    took : write_of s w.address w.value ≡ record { refusal = 0; chip = store w s }
    took = written_as s w.address w.value false takes ∙ rw e

module _ (want : ℕ → ℕ) (image₀ : List ℕ) where
  abbrev f : Step → Write
  f = written want image₀

  -- a state from which the steps' writes are all taken
  pub record Fit (s : Chip) (is : List Step) : Type 0 where
    pub agree : Agree s.image image₀
    pub sized : Whole s
    pub holds : neat (status packets s.image) ≡ true
    pub walks : walk tidy false (status packets s.image) (map f is) ≡ true

  next_neat : (i : Step) (is : List Step) (s : Chip) → Fit s (i ∷ is)
      → (neat (next packets (status packets s.image) (f i)) ≡ true)
      × (walk tidy false (next packets (status packets s.image) (f i)) (map f is) ≡ true)
  next_neat i is s fit =
      ⊎_elim (λ q. q) (λ q. absurd (false≢true q.0)) (first tidy false (status packets s.image) (f i) (map f is) fit.walks)

  pub head_taken : (i : Step) (is : List Step) (s : Chip) → Fit s (i ∷ is)
      → write_of s (f i).address (f i).value ≡ record { refusal = 0; chip = store (f i) s }
  head_taken i is s fit = took (f i) s fit.sized (written_stored want image₀ i s fit.agree) fit.holds (next_neat i is s fit).0

  pub tail_fit : (i : Step) (is : List Step) (s : Chip) → Fit s (i ∷ is) → Fit (store (f i) s) is
  tail_fit i is s fit = record {
    agree = agree_store want image₀ i s fit.agree;
    sized = size_store (f i) s fit.sized;
    holds = rw (gc_shown.tracks (f i) s fit.sized) (next_neat i is s fit).0;
    walks = rw (gc_shown.tracks (f i) s fit.sized) (next_neat i is s fit).1;
  }

  -- at every cut the machine's state is that of plain stores
  pub run_acts : (is : List Step) (s : Chip) (k : ℕ) → Fit s is → run (take k (sent (map f is))) s ≡ acts store (take k (map f is)) s
  run_acts is s zero fit = refl
  run_acts [] s (suc k) fit = refl
  run_acts (i ∷ is) s (suc k) fit =
      ap (λ (w : Wrote). run (take k (sent (map f is))) w.chip) (head_taken i is s fit)
      ∙ run_acts is (store (f i) s) k (tail_fit i is s fit)

  pub run_all : (is : List Step) (s : Chip) → Fit s is → run (sent (map f is)) s ≡ acts store (map f is) s
  run_all [] s fit = refl
  run_all (i ∷ is) s fit = ap (λ (w : Wrote). run (sent (map f is)) w.chip) (head_taken i is s fit)
      ∙ run_all is (store (f i) s) (tail_fit i is s fit)

  pub taken_at : (is : List Step) (s : Chip) (k : ℕ) → Fit s is → k < length (map f is)
      → (write_of (acts store (take k (map f is)) s) (get_or (map f is) k (0 gets 0)).address (get_or (map f is) k (0 gets 0)).value).refusal
      ≡ 0
  taken_at [] s k fit h = absurd (not-suc-le-zero h)
  taken_at (i ∷ is) s zero fit h = ap (λ (w : Wrote). w.refusal) (head_taken i is s fit)
  taken_at (i ∷ is) s (suc k) fit h = taken_at is (store (f i) s) k (tail_fit i is s fit) (le_of_suc-le-suc h)
