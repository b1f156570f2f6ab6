-- What a written byte carries, by the class table's rule: laws of merges, each a truth table; so each entry of the list. Assumes nothing.
use mathlib.Core.Path.{◌≡◌, refl, ◌∙◌}
use mathlib.Core.Bool.{Bool, true, false, ◌&&◌}
use mathlib.Core.List.{List, [], ◌∷◌, map}
use Prim.Native.Nat.{ℕ, zero, suc, ◌<◌}
use native.Mathlib.Nat.{not-suc-le-zero, le_of_suc-le-suc}
use lib.Dec.{eqb, ltb}
use lib.ListN.{length, get_or}
use borrow.Author.Tests.{eqb-true, ltb-true}
use Rattle.lists.specs.Find.{every}
use Rattle.lists.proofs.Both.{both_left, both_right}
use Rattle.bits.specs.Merge.{merge, bit, under}
use Rattle.bits.proofs.Below.{at_below}
use Rattle.bits.proofs.Laws.{merge_bit}
use Rattle.bits.proofs.Truth.{E, zeros, var, by, num, table, law_if}
use Rattle.registers.specs.Classes.{class_at, named}
use Rattle.registers.proofs.Whole.{rule}
use Rattle.registers.proofs.Apart.{row, rules, holds, by_rule}
use Rattle.chip.specs.Machine.{Write, ◌gets◌, audio, packets, up, holds_of}
use Rattle.writes.specs.Rows.{hold_mask}
use Rattle.writes.specs.Steps.{Step, middle, steps}
use Rattle.writes.specs.List.{byte, decided, written}
use Rattle.writes.specs.Carried.{Carrying, requested, Entries}

-- a bit under a mask
pub masked : (m j x : ℕ) → j < 8 → bit j m ≡ 1 → bit j (merge 8 m x 0) ≡ bit j x
masked m j x h t = merge_bit 8 j m x 0 h ∙ rw t

-- `var 0` to `var 4` are the address's class; `var 5` is the old byte, `var 6` the wanted one
abbrev whole : E → E
whole wanted = by (var 0) (var 5) (by (var 3) (var 5) (by (var 2) wanted (var 4)))

abbrev part : E → E → E
part m x = by m x zeros

pub carried : (a : ℕ) → a < 256 → (old wanted : ℕ) → Carrying a old (named a) wanted (byte a old wanted)
unfolding byte
carried a h old wanted =
    let ρ : List ℕ = old ∷ wanted ∷ [] in
    record {
      its_mandated = by_rule (part (var 1) (whole (var 6))) (part (var 1) (var 4)) a ρ refl h;
      its_free = by_rule (part (var 3) (whole (var 6))) (part (var 3) (var 5)) a ρ refl h;
      its_read_only = by_rule (part (var 0) (whole (var 6))) (part (var 0) (var 5)) a ρ refl h;
      its_named = by_rule (part (var 2) (whole (var 6))) (part (var 2) (var 6)) a ρ refl h;
    }

-- ---- an entry: `var 7` are the bits that its step decides, `var 8` the step's

abbrev merged : E
merged = whole (by (var 7) (var 8) (var 6))

-- what a step decides is named
pub decided_named : (a : ℕ) → a < 256 → merge 8 (named a) 0 (decided a) ≡ 0
unfolding class_at decided merge
decided_named a h = eqb-true _ _ (at_below (λ a. eqb (merge 8 (named a) 0 (decided a)) 0) 256 a refl h)

module _ (a : ℕ) (h : a < 256) (old wanted x : ℕ) where
  abbrev ρ : List ℕ
  ρ = old ∷ wanted ∷ decided a ∷ x ∷ []

  asked_law : (e f : E) → table 9 (by (var 2) zeros (var 7) ∷ rules) e f ≡ true → num 8 e (row (class_at a) ρ) ≡ num 8 f (row (class_at a) ρ)
  asked_law e f t =
      law_if (by (var 2) zeros (var 7) ∷ rules) e f 8 (row (class_at a) ρ) t (decided_named a h, holds (class_at a) ρ (rule a h))

  entry_named : under (requested a) (byte a old (merge 8 (decided a) x wanted)) ≡ under (requested a) wanted
  unfolding byte decided
  entry_named = asked_law (part (by (var 7) zeros (var 2)) merged) (part (by (var 7) zeros (var 2)) (var 6)) refl

  entry_decided : under (decided a) (byte a old (merge 8 (decided a) x wanted)) ≡ under (decided a) x
  unfolding byte
  entry_decided = asked_law (part (var 7) merged) (part (var 7) (var 8)) refl

-- what holds of every step: its register, and that it says no more than it decides
abbrev pub fits : Step → Bool
fits i = ltb i.register 256 && eqb (under (decided i.register) i.raised) i.raised

pub every_step : (b : Bool) → every fits (steps (middle b)) ≡ true
unfolding middle decided merge
every_step true = refl
every_step false = refl

module _ (want : ℕ → ℕ) (image : List ℕ) where
  -- what a write holds is what its step raises, for those are the bits that steps decide
  pub held : (i : Step) → fits i ≡ true → under (hold_mask i.register) (written want image i).value ≡ i.raised
  unfolding written decided
  held i t =
      entry_decided i.register (ltb-true _ _ (both_left (ltb i.register 256) _ t)) _ _ i.raised
      ∙ eqb-true _ _ (both_right (ltb i.register 256) _ t)

  entry : (i : Step) → fits i ≡ true
      → Carrying i.register (get_or image i.register 0) (requested i.register) (want i.register) (written want image i).value
  unfolding written decided
  entry i t =
      let a : ℕ = i.register in
      let h : a < 256 = ltb-true _ _ (both_left (ltb a 256) _ t) in
      let c = carried a h (get_or image a 0) (merge 8 (decided a) i.raised (want a)) in
      record { its_mandated = c.its_mandated; its_free = c.its_free; its_read_only = c.its_read_only; its_named = entry_named a h _ _ i.raised }

  each_entry : (is : List Step) → every fits is ≡ true → (k : ℕ) → k < length (map (written want image) is)
      → let w : Write = get_or (map (written want image) is) k (0 gets 0) in
      Carrying w.address (get_or image w.address 0) (requested w.address) (want w.address) w.value
  unfolding written
  each_entry [] t k h = absurd (not-suc-le-zero h)
  each_entry (i ∷ is) t zero h = entry i (both_left (fits i) (every fits is) t)
  each_entry (i ∷ is) t (suc k) h = each_entry is (both_right (fits i) (every fits is) t) k (le_of_suc-le-suc h)

  pub entries : Entries want image
  entries = each_entry (steps (middle (up audio (holds_of packets image)))) (every_step (up audio (holds_of packets image)))
