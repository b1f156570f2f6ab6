-- What the columns of the code give: the byte of each step, and the finished image. Assumes nothing.
use mathlib.Core.Path.{◌≡◌, refl, sym, ◌∙◌, subst}
use mathlib.Core.Bool.{Bool, true, false, cond, ◌&&◌}
use mathlib.Core.List.{List, [], ◌∷◌}
use Prim.Native.Nat.{ℕ, ◌<◌}
use native.Mathlib.Omega.{arith}
use lib.Dec.{eqb, ltb, lit<}
use lib.ListN.{get_or, length, set}
use lib.Seq.{get_or-set_same, get_or-set_other}
use borrow.Author.Tests.{eqb-true, eqb-false, ltb-true}
use Rattle.lists.proofs.Both.{both_left, both_right}
use Rattle.bits.specs.Merge.{merge}
use Rattle.bits.proofs.Below.{at_below}
use Rattle.bits.proofs.Truth.{E, zeros, var, by, law, law_if}
use Rattle.map.specs.Map as reg
use Rattle.registers.specs.Classes.{class_at, read_only, free, named, bits}
use Rattle.registers.proofs.Whole.{rule}
use Rattle.registers.proofs.Apart.{row, rules, holds}
use Rattle.writes.specs.Steps.{Step}
use Rattle.writes.specs.List.{byte, decided, is_written, left_up, written, finished}
use Rattle.writes.specs.Columns.{open_bits, held_bits, closed}
use Rattle.writes.proofs.Carries.{decided_named}

-- ---- the steps

-- a step writes a register, and raises no bit but those that steps decide
abbrev pub proper : Step → Bool
proper i = ltb i.register 256 && (is_written i.register && eqb (merge 8 (decided i.register) 0 i.raised) 0)

pub record Proper (i : Step) : Type 0 where
  pub small : i.register < 256
  pub writes : is_written i.register ≡ true
  pub raises : merge 8 (decided i.register) 0 i.raised ≡ 0

pub is_proper : (i : Step) → proper i ≡ true → Proper i
is_proper i t =
    let u : (is_written i.register && eqb (merge 8 (decided i.register) 0 i.raised) 0) ≡ true =
    both_right (ltb i.register 256) _ t in
    record {
      small = ltb-true _ _ (both_left (ltb i.register 256) _ t);
      writes = both_left (is_written i.register) _ u;
      raises = eqb-true _ _ (both_right (is_written i.register) _ u);
    }

-- ---- the registers

-- what steps decide is named (`decided_named`), and so is what they leave up
left_decided : (a : ℕ) → a < 256 → merge 8 (decided a) 0 (left_up a) ≡ 0
unfolding decided merge
left_decided a h = eqb-true _ 0 (at_below (λ a. eqb (merge 8 (decided a) 0 (left_up a)) 0) 256 a refl h)

left_none : (a : ℕ) → a < 256 → is_written a ≡ false → left_up a ≡ 0
unfolding is_written class_at
left_none a h e = eqb-true _ 0 (rw e at (at_below (λ a. cond (is_written a) true (eqb (left_up a) 0)) 256 a refl h))

-- "the law of the three columns": `var 5` is what steps decide, `var 6` what this one raises, `var 7` the old byte, `var 8` the wanted one
three : (a x old wanted : ℕ) → a < 256 → merge 8 (decided a) 0 x ≡ 0
    → byte a old (merge 8 (decided a) x wanted)
    ≡ merge 8 x x (merge 8 (merge 8 (read_only a) (read_only a) (free a)) old
    (merge 8 (merge 8 (decided a) 0 (named a)) wanted (merge 8 (named a) 0 (bits a))))
unfolding byte
three a x old wanted h e =
    let ρ : List ℕ = decided a ∷ x ∷ old ∷ wanted ∷ [] in
    law_if (by (var 5) zeros (var 6) ∷ by (var 2) zeros (var 5) ∷ rules)
    (by (var 0) (var 7) (by (var 3) (var 7) (by (var 2) (by (var 5) (var 6) (var 8)) (var 4))))
    (by (var 6) (var 6) (by (by (var 0) (var 0) (var 3)) (var 7) (by (by (var 5) zeros (var 2)) (var 8) (by (var 2) zeros (var 4)))))
    8 (row (class_at a) ρ) refl (e, (decided_named a h, holds (class_at a) ρ (rule a h)))

-- all bits kept
all_kept : (x y : ℕ) → x < 256 → merge 8 255 x y ≡ x
unfolding merge
all_kept x y h = omega arith

-- no bit raised
pub none_raised : (m x y : ℕ) → merge 8 0 0 (merge 8 m x y) ≡ merge 8 m x y
none_raised m x y = law (by zeros zeros (by (var 0) (var 1) (var 2))) (by (var 0) (var 1) (var 2)) 8 (m ∷ x ∷ y ∷ []) refl

-- a byte as the code has it, by two columns
abbrev kept : E
kept = by (var 0) (var 0) (var 1)

abbrev asked : E
asked = by (var 5) zeros (var 2)

abbrev mandated : E
mandated = by (var 2) zeros (var 6)

pub by_columns : (want : ℕ → ℕ) (image : List ℕ) (a : ℕ)
    → merge 8 (open_bits a) (merge 8 (held_bits a) (get_or image a 0) (want a)) (held_bits a) ≡ closed want image a
unfolding closed
by_columns want image a = go (is_written a) refl
  where
    go : (t : Bool) → is_written a ≡ t → merge 8 (open_bits a) (merge 8 (held_bits a) (get_or image a 0) (want a)) (held_bits a) ≡ closed want image a
    go true e =
        rw e (law (by (by kept kept asked) (by (by kept kept mandated) (var 3) (var 4)) (by kept kept mandated))
        (by kept (var 3) (by asked (var 4) mandated)) 8 (read_only a ∷ free a ∷ named a ∷ get_or image a 0 ∷ want a ∷ decided a ∷ bits a ∷ []) refl)
    go false e =
        rw e (law (by (by (var 0) (var 0) zeros) (by (by (var 0) (var 0) zeros) (var 1) (var 2)) (by (var 0) (var 0) zeros))
        (by (var 0) (var 1) (by zeros (var 2) zeros)) 8 (255 ∷ get_or image a 0 ∷ want a ∷ []) refl)

module _ (want : ℕ → ℕ) (image : List ℕ) where
  -- a step's byte is the closed one with the step's bits raised
  pub raised_written : (i : Step) → Proper i
      → merge 8 i.raised i.raised (closed want image i.register) ≡ (written want image i).value
  unfolding closed written
  raised_written i p = rw p.writes (sym (three i.register i.raised _ _ p.small p.raises))

  -- and so is the finished one; a register that is not written stays
  pub raised_finished : (a : ℕ) → a < 256 → get_or image a 0 < 256
      → merge 8 (left_up a) (left_up a) (closed want image a) ≡ finished want image a
  unfolding closed finished written
  raised_finished a h small = go (is_written a) refl
    where
      go : (t : Bool) → is_written a ≡ t → merge 8 (left_up a) (left_up a) (closed want image a) ≡ finished want image a
      go true e = rw e (sym (three a (left_up a) _ _ h (left_decided a h)))
      go false e = rw (e, left_none a h e) (none_raised 255 _ _ ∙ all_kept _ _ small)

  unraised : (a : ℕ) → eqb a reg.av_mute ≡ false → closed want image a ≡ merge 8 (left_up a) (left_up a) (closed want image a)
  unfolding closed
  unraised a t = rw t (sym (none_raised _ _ _))

  -- the closed image with the picture opened is the finished one
  pub opened_finished : (bytes : List ℕ) (v : ℕ) → length bytes ≡ 256 → ((a : ℕ) → a < 256 → get_or bytes a 0 ≡ closed want image a)
      → v ≡ merge 8 reg.clear_av_mute_mask reg.clear_av_mute_mask (get_or bytes reg.av_mute 0) → ((a : ℕ) → a < 256 → get_or image a 0 < 256)
      → (a : ℕ) → a < 256 → get_or (set bytes reg.av_mute v) a 0 ≡ finished want image a
  opened_finished bytes v l each e small a h = go (eqb a reg.av_mute) refl
    where
      go : (t : Bool) → eqb a reg.av_mute ≡ t → get_or (set bytes reg.av_mute v) a 0 ≡ finished want image a
      go true t =
          let q : a ≡ reg.av_mute = eqb-true a reg.av_mute t in
          subst (λ (x : ℕ). get_or (set bytes reg.av_mute v) x 0 ≡ finished want image x) (sym q)
          (get_or-set_same bytes reg.av_mute v 0 (rw l (lit< tt)) ∙ e
          ∙ rw (each reg.av_mute (lit< tt)) (raised_finished reg.av_mute (lit< tt) (small reg.av_mute (lit< tt))))
      go false t =
          get_or-set_other bytes reg.av_mute a v 0 (eqb-false a reg.av_mute t) ∙ each a h ∙ unraised a t ∙ raised_finished a h (small a h)
