-- Runs of events: parts of them, and what good ones leave. Assumes nothing.
use mathlib.Core.Path.{◌≡◌, refl, ap, ◌∙◌}
use mathlib.Core.Bool.{true}
use mathlib.Core.List.{List, [], ◌∷◌, ◌++◌}
use Prim.Native.Nat.{ℕ, zero, suc, ◌≤◌, suc-le-suc}
use native.Mathlib.Nat.{not-suc-le-zero, le_of_suc-le-suc, zero-lt-suc}
use lib.ListN.{length, take}
use Rattle.chip.specs.declared.Chip.{Chip}
use Rattle.chip.specs.Machine.{Write}
use Rattle.writes.specs.List.{ready}
use Rattle.cut.specs.Run.{Event, write, vsync, happens, run, cut, writes_of, writes_by, IsFair}
use Rattle.cut.specs.Vsync.{waited}
use Rattle.cut.specs.AnyRun.{Good}
use Rattle.chains.specs.Theorems.{Kept}
use Rattle.chains.specs.Below.{Below}

-- ---- parts of a run

pub run_append : (es fs : List Event) (s : Chip) → run (es ++ fs) s ≡ run fs (run es s)
run_append [] fs s = refl
run_append (e ∷ es) fs s = run_append es fs (happens e s).chip

pub writes_append : (es fs : List Event) → writes_of (es ++ fs) ≡ writes_of es ++ writes_of fs
writes_append [] fs = refl
writes_append (write w ∷ es) fs = ap (λ (l : List Write). w ∷ l) (writes_append es fs)
writes_append (vsync ∷ es) fs = writes_append es fs

pub all_writes : (es : List Event) (k : ℕ) → length (writes_of es) ≤ writes_by es k → writes_of (take k es) ≡ writes_of es
all_writes [] zero h = refl
all_writes [] (suc k) h = refl
all_writes (write w ∷ es) zero h = absurd (not-suc-le-zero h)
all_writes (write w ∷ es) (suc k) h = ap (λ (l : List Write). w ∷ l) (all_writes es k (le_of_suc-le-suc h))
all_writes (vsync ∷ es) zero h = all_writes es zero h
all_writes (vsync ∷ es) (suc k) h = all_writes es k h

pub waited_writes : (ws : List Write) → writes_of (waited ws) ≡ ws
waited_writes [] = refl
waited_writes (w ∷ []) = refl
waited_writes (w ∷ v ∷ ws) = ap (λ (l : List Write). w ∷ l) (waited_writes (v ∷ ws))

-- ---- good events

first : (e : Event) (es : List Event) (s : Chip) → IsFair e s × ((happens e s).refusal ≡ 0) → Good es (happens e s).chip → Good (e ∷ es) s
first e es s p g zero h = p
first e es s p g (suc k) h = g k (le_of_suc-le-suc h)

later : (e : Event) (es : List Event) (s : Chip) → Good (e ∷ es) s → Good es (happens e s).chip
later e es s g k h = g (suc k) (suc-le-suc h)

pub good_append : (es fs : List Event) (s : Chip) → Good es s → Good fs (run es s) → Good (es ++ fs) s
good_append [] fs s g h = h
good_append (e ∷ es) fs s g h = first e (es ++ fs) s (g 0 (zero-lt-suc _)) (good_append es fs (happens e s).chip (later e es s g) h)

pub good_take : (k : ℕ) (es : List Event) (s : Chip) → Good es s → Good (take k es) s
good_take zero es s g = λ i h. absurd (not-suc-le-zero h)
good_take (suc k) [] s g = g
good_take (suc k) (e ∷ es) s g = first e (take k es) s (g 0 (zero-lt-suc _)) (good_take k es (happens e s).chip (later e es s g))

-- ---- an image on which planning is not refused by 7 or 8, and a state near another

pub record Ready (image : List ℕ) : Type 0 where
  pub whole : length image ≡ 256
  pub holds : ready image ≡ true

pub record Near (s u : Chip) : Type 0 where
  pub ready : Ready u.image
  pub kept : Kept s u

pub near_self : (s : Chip) → Ready s.image → Near s s
near_self s r = record { ready = r; kept = record { bits = λ a j h f. refl; unwritten = λ a h w. refl } }

pub near_trans : (s u v : Chip) → Near s u → Near u v → Near s v
near_trans s u v n m = record {
  ready = m.ready;
  kept = record {
    bits = λ a j h f. m.kept.bits a j h f ∙ n.kept.bits a j h f;
    unwritten = λ a h w. m.kept.unwritten a h w ∙ n.kept.unwritten a h w;
  };
}

-- a cut of good events leaves a state near
pub near_cut : Below → (es : List Event) (s : Chip) (k : ℕ) → Ready s.image → Good es s → Near s (cut es s k)
near_cut b es s k r g =
    let u = b.fair es s (λ i h. (g i h).0) in
    let m = b.mended (λ _. 0) es s r.whole r.holds (λ i h. (g i h).0) (λ i h. (g i h).1) in
    record {
      ready = record { whole = m.whole k; holds = m.ready k };
      kept = record { bits = λ a j. u.bits a j k; unwritten = λ a h. u.unwritten a k };
    }
