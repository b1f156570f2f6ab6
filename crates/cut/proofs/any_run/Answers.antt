-- `cut::any_run` meets its contract, which is the theorem. Assumes nothing.
use mathlib.Core.Path.{◌≡◌, refl, sym, ap, subst, ◌∙◌}
use mathlib.Core.Bool.{Bool, true, false, not, ◌&&◌}
use mathlib.Core.List.{List, [], ◌∷◌}
use Prim.Native.Nat.{ℕ, zero, suc, suc-le-suc}
use native.Mathlib.Nat.{not-suc-le-zero, le_of_suc-le-suc, zero-lt-suc, suc-ne-zero}
use lib.ListN.{length, get_or, drop}
use Rattle.chip.specs.declared.Chip.{Chip}
use Rattle.chip.specs.Machine.{Write, held}
use Rattle.chip.specs.Write.{vsync_of}
use Rattle.cut.specs.Run.{Event, write, vsync, happens, run, writes_of, Fair, IsFair}
use Rattle.cut.specs.Vsync.{change_waits, FinishedRun}
use Rattle.cut.specs.AnyRun.{Good}
use Rattle.cut.proofs.VsyncsLeave.{Alike, alike_self, alike_write, alike_vsync, before_first}
use Rattle.cut.proofs.ClausesOfRuns.{nothing_waits}
use Rattle.cut.proofs.any_run.Goals as goal

first : (e : Event) (es : List Event) (s : Chip) → IsFair e s × ((happens e s).refusal ≡ 0) → Good es (happens e s).chip → Good (e ∷ es) s
first e es s p g zero h = p
first e es s p g (suc k) h = g k (le_of_suc-le-suc h)

later : (e : Event) (es : List Event) (s : Chip) → Good (e ∷ es) s → Good es (happens e s).chip
later e es s g k h = g (suc k) (suc-le-suc h)

-- from states with the same registers and the same packets
anywhere : (es fs : List Event) (s t : Chip) → Alike s t → writes_of fs ≡ writes_of es → Good es s → Good fs t
anywhere es [] s t a e g = λ k h. absurd (not-suc-le-zero h)
anywhere es (vsync ∷ fs) s t a e g =
    let v : Alike (vsync_of t) t = alike_vsync t t (alike_self t) in
    first vsync fs t (tt, refl)
    (anywhere es fs s (vsync_of t) (record { image = a.image ∙ sym v.image; packet = a.packet ∙ sym v.packet }) e g)
anywhere [] (write w ∷ fs) s t a e g = absurd (suc-ne-zero _ (ap length e))
anywhere (vsync ∷ es) (write w ∷ fs) s t a e g = anywhere es (write w ∷ fs) (vsync_of s) t (alike_vsync s t a) e (later vsync es s g)
anywhere (write w ∷ es) (write v ∷ fs) s t a e g =
    let x = alike_write w.address w.value s t a in
    let p = g 0 (zero-lt-suc _) in
    subst (λ (y : Write). Good (write y ∷ fs) t) (sym (ap (λ (l : List Write). get_or l 0 w) e))
    (first (write w) fs t (subst (λ (i : List ℕ). Fair i w) a.image p.0, sym x.refusal ∙ p.1)
    (anywhere es fs (happens (write w) s).chip (happens (write w) t).chip x.after (ap (λ (l : List Write). drop 1 l) e)
    (later (write w) es s g)))

idle : (es : List Event) (s : Chip) → length s.image ≡ 256 → (ws : List Write) → FinishedRun ws es → change_waits (run es s) ≡ false
idle es s z ws f = go (held (run es s)) refl
  where
    go : (h : Bool) → held (run es s) ≡ h → (not h && (run es s).waiting) ≡ false
    go true q = refl
    go false q = nothing_waits ws es s z f q

pub returns : goal.returns
returns c = λ es s. record { before = before_first es s; anywhere = λ g fs e. anywhere es fs s s (alike_self s) e g; idle = idle es s }
