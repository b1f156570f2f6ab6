-- The list with nothing left out meets demand 3: its walks compute, from each of the holds that planning starts from. Assumes nothing.
use mathlib.Core.Path.{◌≡◌, refl, sym, ap, subst, ◌∙◌}
use mathlib.Core.Bool.{Bool, true, false, cond}
use mathlib.Core.List.{List, ◌∷◌, ◌++◌}
use Prim.Native.Nat.{ℕ, ◌+◌, ◌*◌, ◌-◌}
use native.Mathlib.Omega.{arith}
use lib.Dec.{eqb}
use lib.ListN.{length, get_or}
use borrow.Author.Tests.{eqb-true, eqb-false}
use Rattle.lists.specs.Find.{every}
use Rattle.bits.specs.Merge.{bit}
use Rattle.map.specs.Map as reg
use Rattle.chip.specs.declared.Chip.{Chip}
use Rattle.chip.specs.Machine.{audio, packets, converter, up, holds_of}
use Rattle.writes.specs.Rows.{table14, others}
use Rattle.writes.specs.Steps.{◌raising◌, each, span, avi_steps, audio_steps, middle}
use Rattle.writes.specs.List.{middle_of, full_list, written, ready}
use Rattle.cut.specs.Demand.{Demand3}
use Rattle.cut.proofs.EntriesFair.{full_fair}
use Rattle.cut.proofs.GroupStays.{only, status, audio_same}
use Rattle.cut.proofs.NoneRefused.{neat, neat_only}
use Rattle.cut.proofs.AtEveryCut.{Ready, neat_elim, Walked, Lowers, not_hold, Good}
use Rattle.cut.proofs.DemandOfGoodLists.{demand3}
use Rattle.writes.proofs.Last.{read, last_step, read_final, final_none}

two_elim : (P : ℕ → Type 0) → P 0 → P 32 → (q : ℕ) → P (only converter.groups q)
two_elim P p0 p32 q = go (eqb (bit 5 q) 0) refl
  where
    go : (r : Bool) → eqb (bit 5 q) 0 ≡ r → P (32 * bit 5 q + 0)
    go true e = subst (λ (b : ℕ). P (32 * b + 0)) (sym (eqb-true _ _ e)) p0
    go false e = let h : (bit 5 q ≡ 0)
        → ⊥ = eqb-false _ _ e in let z : bit 5 q ≡ 1 = omega arith in subst (λ (b : ℕ). P (32 * b + 0)) (sym z) p32

-- each `search` computes all nine walks from one pair of starting holds
walked_from : (p q : ℕ) → neat (only packets.groups p) ≡ true
    → Walked (only packets.groups p) (only converter.groups q) (middle (up audio (only packets.groups p)))
unfolding middle
walked_from p q = neat_elim (λ (n : ℕ). Walked n (only converter.groups q) (middle (up audio n)))
    (two_elim (λ (m : ℕ). Walked 0 m (middle (up audio 0))) (search) (search) q)
    (two_elim (λ (m : ℕ). Walked 32 m (middle (up audio 32))) (search) (search) q)
    (two_elim (λ (m : ℕ). Walked 64 m (middle (up audio 64))) (search) (search) q) p

-- the step that lowers the coefficient hold
pub lowers_at : (b : Bool) → Lowers (middle b)
unfolding middle
lowers_at b = record {
  front = each table14 ++ reg.coefficient_update raising reg.coefficient_update_mask ∷ span reg.csc 2 ++
      reg.coefficient_update raising reg.coefficient_update_mask ∷ span (reg.coefficient_update + 1) (reg.csc_count - 3);
  back = cond b (audio_steps ++ avi_steps) (avi_steps ++ audio_steps) ++ each others;
  split = refl;
  raised = refl;
  risen = refl;
  lowered = go b;
}
  where
    go : (b : Bool) → every not_hold (cond b (audio_steps ++ avi_steps) (avi_steps ++ audio_steps) ++ each others) ≡ true
    go true = refl
    go false = refl

pub planned_good : (want : ℕ → ℕ) (image : List ℕ) → Ready image → Good want image (middle_of want image)
planned_good want image r = record {
  lowers = lowers_at (up audio (holds_of packets image));
  walked = subst (λ (b : Bool). Walked (status packets image) (status converter image) (middle b)) (audio_same (holds_of packets image))
      (walked_from (holds_of packets image) (holds_of converter image) (neat_only (holds_of packets image) ∙ r.holds));
  finishes = λ a h. ap (λ (o : ℕ). read (written want image) a o (get_or image a 0)) (last_step (up audio (holds_of packets image)) a h)
      ∙ read_final want image a;
  rests = λ a h t. last_step (up audio (holds_of packets image)) a h ∙ final_none a t;
}

pub full_holds : (want : ℕ → ℕ) (s : Chip) → length s.image ≡ 256 → ready s.image ≡ true → Demand3 (full_list want) want s
full_holds want s whole ready = demand3 middle_of planned_good full_fair want s (record { whole = whole; holds = ready })
