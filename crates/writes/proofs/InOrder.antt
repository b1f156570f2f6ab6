-- The write list's registers, their order and their holds, computed for both orders of the packets. Assumes nothing.
use mathlib.Core.Path.{◌≡◌, refl, sym, ap, ap₂, ◌∙◌}
use mathlib.Core.Bool.{Bool, true, false, not, ◌||◌, cond, beq}
use mathlib.Core.List.{List, [], ◌∷◌, map}
use Prim.Native.Nat.{ℕ, suc, ◌<◌, ◌≤◌}
use lib.Dec.{eqb, ltb, lit≤}
use lib.ListN.{length}
use Rattle.lists.specs.Among.{among}
use Rattle.lists.specs.Find.{every}
use Rattle.lists.proofs.Both.{both_left, both_right, beq_true}
use Rattle.bits.proofs.Below.{at_below}
use Rattle.registers.specs.Rows.{table14_bits}
use Rattle.registers.specs.Classes.{class_at, named}
use Rattle.chip.specs.Machine.{Write, audio, packets, up, holds_of}
use Rattle.writes.specs.Rows.{from, list_rows, Touched}
use Rattle.writes.specs.Steps.{Step, middle, steps}
use Rattle.writes.specs.List.{written, is_written, full_list}
use Rattle.writes.specs.Order.{addresses, row_of_write, Order}
use Rattle.writes.proofs.Last.{last, some, last_step, final_some}
use Rattle.writes.proofs.Carries.{fits, every_step, held}

abbrev places : List Step → List ℕ
places = map (λ i. i.register)

-- a register that a list writes has a last step
among_last : (a : ℕ) (is : List Step) (o : ℕ) → (among a (places is) || some o) ≡ some (last a is o)
among_last a [] o = refl
among_last a (i ∷ is) o = go (eqb a i.register) (among_last a is (cond (eqb a i.register) (suc i.raised) o))
  where
    top : (x : Bool) → (x || true) ≡ true
    top true = refl
    top false = refl

    go : (r : Bool) → (among a (places is) || some (cond r (suc i.raised) o)) ≡ some (last a is (cond r (suc i.raised) o))
        → ((r || among a (places is)) || some o) ≡ some (last a is (cond r (suc i.raised) o))
    go true h = sym (top (among a (places is))) ∙ h
    go false h = h

-- the registers of the rows, by one test over all 256 addresses
abbrev spoken : ℕ → Bool
spoken a = not (eqb (named a) 0) || among a (from 0x52 16) || among a (from 0x70 13) || among a (map (λ f. f.address) table14_bits)

pub touched : Touched
unfolding is_written class_at
touched a h = beq_true (is_written a) (spoken a) (at_below (λ a. beq (is_written a) (spoken a)) 256 a refl h)

module _ (want : ℕ → ℕ) (image : List ℕ) where
  abbrev list_of : Bool → List Write
  list_of b = map (written want image) (steps (middle b))

  pub inside : (b : Bool) → every (λ a. ltb a 256) (addresses (list_of b)) ≡ true
  unfolding middle written
  inside true = refl
  inside false = refl

  in_place_lem : (is : List Step) → addresses (map (written want image) is) ≡ places is
  unfolding written
  in_place_lem [] = refl
  in_place_lem (i ∷ is) = ap (λ (l : List ℕ). i.register ∷ l) (in_place_lem is)

  all_rows : (is : List Step) → every fits is ≡ true → map row_of_write (map (written want image) is) ≡ map (λ (i : Step). (i.register, i.raised)) is
  unfolding written
  all_rows [] t = refl
  all_rows (i ∷ is) t =
      ap₂ (λ (n : ℕ) (rows : List (ℕ × ℕ)). (i.register, n) ∷ rows) (held want image i (both_left (fits i) (every fits is) t))
      (all_rows is (both_right (fits i) (every fits is) t))

  row_by_row : (b : Bool) → map (λ (i : Step). (i.register, i.raised)) (steps (middle b)) ≡ list_rows b
  unfolding middle
  row_by_row true = refl
  row_by_row false = refl

  exactly : (b : Bool) (a : ℕ) → a < 256 → among a (addresses (list_of b)) ≡ is_written a
  exactly b a h =
      ap (among a) (in_place_lem (steps (middle b))) ∙ none (among a (places (steps (middle b)))) ∙ among_last a (steps (middle b)) 0
      ∙ ap some (last_step b a h) ∙ final_some a
    where
      none : (x : Bool) → x ≡ (x || false)
      none true = refl
      none false = refl

  -- the registers of the full list, whichever packet goes first
  pub is_listed : (a : ℕ) → a < 256 → among a (addresses (full_list want image)) ≡ is_written a
  is_listed = exactly (up audio (holds_of packets image))

  pub count_128 : (b : Bool) → length (list_of b) ≤ 128
  unfolding middle
  count_128 true = lit≤ tt
  count_128 false = lit≤ tt

  pub in_order : Order want image
  in_order =
      let b : Bool = up audio (holds_of packets image) in
      record { rows = all_rows (steps (middle b)) (every_step b) ∙ row_by_row b }
