-- What is left out of the full list, and how many writes are left: each register but the three is written once, so that the writes that stay
-- are those of the registers that differ. Assumes nothing.
use mathlib.Core.Path.{◌≡◌, refl, sym, ap, ap₂, ◌∙◌}
use mathlib.Core.Bool.{Bool, true, false, false≢true, cond, not, ◌&&◌, ◌||◌}
use mathlib.Core.List.{List, [], ◌∷◌, map}
use Prim.Native.Nat.{ℕ, ◌+◌, ◌/◌, ◌%◌, ◌^◌, ◌<◌, ◌≤◌}
use native.Mathlib.Omega.{arith}
use lib.Dec.{eqb, ltb}
use lib.ListN.{length, get_or, length-map}
use borrow.Author.Tests.{eqb-true, eqb-false, eq-eqb, ne_eqb, ltb-true, not-false}
use Rattle.lists.specs.Among.{among}
use Rattle.lists.specs.Find.{every}
use Rattle.lists.specs.Those.{those}
use Rattle.lists.proofs.Both.{both_left, both_right, neither_left, neither_right}
use Rattle.lists.proofs.Those.{those_append, those_map, those_both, those_same, those_same_if, in_two, no_more}
use Rattle.bits.specs.Merge.{merge, bit}
use Rattle.bits.proofs.Below.{at_below}
use Rattle.bits.proofs.Laws.{merge_right, merge_bit, merge_small, bit_code}
use Rattle.bits.proofs.Fields.{low_same}
use Rattle.map.specs.Map as reg
use Rattle.registers.specs.Classes.{class_at, read_only}
use Rattle.chip.specs.Machine.{Write, audio, packets, up, holds_of}
use Rattle.writes.specs.Steps.{Step, ◌raising◌, from, steps, middle}
use Rattle.writes.specs.List.{byte, written, middle_of, full_list, already_there, the_three, stays, write_list, is_written}
use Rattle.writes.specs.List.{finished, finished_image}
use Rattle.writes.specs.Fewer.{Equals, LeftOut, to_three, differs, differing, Fewer}
use Rattle.writes.specs.Order.{addresses}
use Rattle.writes.proofs.Image.{image_at}
use Rattle.writes.proofs.InOrder.{count_128}
use Rattle.writes.proofs.Counted.{times, as_many, none_in_run}

-- ---- exactly if

-- numbers below 256 with the same bits
pub same_byte : (x y : ℕ) → x < 256 → y < 256 → ((j : ℕ) → j < 8 → bit j x ≡ bit j y) → x ≡ y
same_byte x y h k e = let s : x % 256 ≡ y % 256 = low_same 8 x y e in omega (arith, s)

module _ (image : List ℕ) (w : Write) where
  abbrev old : ℕ
  old = get_or image w.address 0

  abbrev kept : ℕ
  kept = merge 8 (read_only w.address) old w.value

  -- a bit of the byte as it would be stored
  read_bit : (j : ℕ) → j < 8 → bit j (read_only w.address) ≡ 1 → bit j kept ≡ bit j old
  read_bit j h e = merge_bit 8 j (read_only w.address) old w.value h ∙ rw e

  other_bit : (j : ℕ) → j < 8 → bit j (read_only w.address) ≡ 0 → bit j kept ≡ bit j w.value
  other_bit j h e = merge_bit 8 j (read_only w.address) old w.value h ∙ rw e

  equal_bits : Equals image w → (j : ℕ) → j < 8 → bit j kept ≡ bit j old
  equal_bits e j h = go (eqb (bit j (read_only w.address)) 0) refl
    where
      go : (r : Bool) → eqb (bit j (read_only w.address)) 0 ≡ r → bit j kept ≡ bit j old
      go true t = let z = eqb-true _ 0 t in other_bit j h z ∙ sym (e j h z)
      go false t =
          let c : bit j (read_only w.address) ≡ read_only w.address / 2 ^ j % 2 = bit_code j (read_only w.address) in
          let n : (bit j (read_only w.address) ≡ 0) → ⊥ = eqb-false _ 0 t in
          read_bit j h (omega (arith, c, n))

  there : old < 256 → Equals image w → already_there image w ≡ true
  unfolding already_there
  there small e = eq-eqb kept old (same_byte kept old (merge_small 8 _ _ _) small (equal_bits e))

  equals : already_there image w ≡ true → Equals image w
  unfolding already_there
  equals t j h z = ap (bit j) (sym (eqb-true kept old t)) ∙ other_bit j h z

  is_left_lem : stays image w ≡ false → LeftOut image w
  is_left_lem t =
      let a : among w.address the_three ≡ false = neither_left _ (not (already_there image w)) t in
      let u : not (already_there image w) ≡ false = neither_right (among w.address the_three) _ t in
      let b = neither_right (eqb w.address reg.av_mute) _ a in
      let c = neither_right (eqb w.address reg.infoframe_update) _ b in
      record {
        equals = equals (not-false (already_there image w) u);
        not_mute = eqb-false _ _ (neither_left (eqb w.address reg.av_mute) _ a);
        not_packets = eqb-false _ _ (neither_left (eqb w.address reg.infoframe_update) _ b);
        not_coefficients = eqb-false _ _ (neither_left (eqb w.address reg.coefficient_update) _ c);
      }

  left : old < 256 → LeftOut image w → stays image w ≡ false
  left small l = rw (ne_eqb _ _ l.not_mute, ne_eqb _ _ l.not_packets, ne_eqb _ _ l.not_coefficients, there small l.equals)

-- ---- of the steps

-- elsewhere than in the three registers a step raises nothing
abbrev pub plain : Step → Bool
plain i = ltb i.register 256 && (is_written i.register && (among i.register the_three || eqb i.raised 0))

pub every_plain : (b : Bool) → every plain (steps (middle b)) ≡ true
unfolding middle is_written class_at
every_plain true = refl
every_plain false = refl

pub raises_none : (i : Step) → plain i ≡ true → among i.register the_three ≡ false → i.raised ≡ 0
raises_none i t n = eqb-true _ 0 (rw n at (both_right (is_written i.register) _ (both_right (ltb i.register 256) _ t)))

abbrev registers : Bool → List ℕ
registers b = map (λ i. i.register) (steps (middle b))

inside : (b : Bool) → every (λ a. ltb a 256) (registers b) ≡ true
unfolding middle
inside true = refl
inside false = refl

-- each of the others is written once
abbrev singly : Bool → ℕ → Bool
singly b a = cond (is_written a && not (among a the_three)) (eqb (times a (registers b)) 1) true

all_singly : (b : Bool) (a : ℕ) → a < 256 → singly b a ≡ true
unfolding middle is_written class_at
all_singly true a h = at_below (singly true) 256 a refl h
all_singly false a h = at_below (singly false) 256 a refl h

module _ (want : ℕ → ℕ) (image : List ℕ) where
  abbrev f : Step → Write
  f = written want image

  -- a written byte has the image's read-only bits already, so that they are no part of what is compared
  pub there_bytes : (i : Step) → already_there image (f i) ≡ eqb (f i).value (get_or image i.register 0)
  unfolding already_there written byte
  there_bytes i = ap (λ (n : ℕ). eqb n (get_or image i.register 0)) (merge_right 8 (read_only i.register) (get_or image i.register 0) _ _)

  finished_plain : (i : Step) → plain i ≡ true → among i.register the_three ≡ false
      → get_or (finished_image want image) i.register 0 ≡ (f i).value
  unfolding finished written
  finished_plain i t n =
      let a : ℕ = i.register in
      let u = both_right (ltb a 256) _ t in
      let m : eqb a reg.av_mute ≡ false = neither_left _ _ n in
      image_at want image a (ltb-true a 256 (both_left _ _ t)) ∙ rw (both_left (is_written a) _ u, raises_none i t n, m)

  -- a write that stays, other than to the three, is one to a register that differs
  moved : (i : Step) → plain i ≡ true
      → (not (to_three (f i)) && not (already_there image (f i))) ≡ differs image (finished_image want image) i.register
  unfolding written
  moved i t = go (among i.register the_three) refl
    where
      go : (c : Bool) → among i.register the_three ≡ c
          → (not c && not (already_there image (f i))) ≡ (not c && not (eqb (get_or (finished_image want image) i.register 0) (get_or image i.register 0)))
      go true e = refl
      go false e = rw (finished_plain i t e, there_bytes i)

  abbrev b : Bool
  b = up audio (holds_of packets image)

  abbrev is : List Step
  is = steps (middle b)

  -- a register that no list writes stays
  is_written_lem : (a : ℕ) → a < 256 → not (eqb (get_or (finished_image want image) a 0) (get_or image a 0)) ≡ true → is_written a ≡ true
  unfolding finished
  is_written_lem a h m = go (is_written a) refl
    where
      go : (t : Bool) → is_written a ≡ t → t ≡ true
      go true e = refl
      go false e =
          let q : eqb (get_or (finished_image want image) a 0) (get_or image a 0) ≡ true = eq-eqb _ _ (image_at want image a h ∙ rw e) in
          absurd (false≢true (sym (ap not q) ∙ m))

  counted : length (those (λ w. not (to_three w) && not (already_there image w)) (full_list want image))
      ≡ length (those (differs image (finished_image want image)) (from 0 256))
  counted =
      let other : Write → Bool = λ w. not (to_three w) && not (already_there image w) in
      let differ : ℕ → Bool = differs image (finished_image want image) in
      ap length (those_map f other is) ∙ length-map (those (λ i. other (f i)) is) f
      ∙ ap length (those_same_if plain (λ i. other (f i)) (λ i. differ i.register) is (every_plain b) moved)
      ∙ sym (ap length (those_map (λ (i : Step). i.register) differ is) ∙ length-map (those (λ i. differ i.register) is) (λ (i : Step). i.register))
      ∙ as_many differ 256 (registers b) (inside b) once
    where
      once : (a : ℕ) → a < 256 → differs image (finished_image want image) a ≡ true → times a (registers b) ≡ 1
      once a h d =
          let n : not (among a the_three) ≡ true = both_left (not (among a the_three)) _ d in
          let m : not (eqb (get_or (finished_image want image) a 0) (get_or image a 0)) ≡ true = both_right (not (among a the_three)) _ d in
          let e : (is_written a && not (among a the_three)) ≡ true = rw (is_written_lem a h m, n) in
          eqb-true _ 1 (rw e at (all_singly b a h))

  nine : (b : Bool) → addresses (those to_three (map f (steps (middle b)))) ≡ 0x4B ∷ 0x1A ∷ 0x1A ∷ 0x1A ∷ 0x4A ∷ 0x4A ∷ 0x4A ∷ 0x4A ∷ 0x4B ∷ []
  unfolding middle written
  nine true = refl
  nine false = refl

  still : (w : Write) → (stays image w && to_three w) ≡ to_three w
  still w = go (to_three w) (not (already_there image w))
    where
      go : (t u : Bool) → ((t || u) && t) ≡ t
      go true u = refl
      go false true = refl
      go false false = refl

  pub bounded : length (write_list want image) ≤ 128
  bounded = let n = no_more (stays image) (full_list want image) in let m = count_128 want image b in omega (arith, n, m)

  same_three : those to_three (write_list want image) ≡ those to_three (full_list want image)
  same_three = those_both to_three (stays image) (full_list want image) ∙ those_same _ to_three (full_list want image) still

  -- there are nine of them
  pub nine_of_three : length (those to_three (write_list want image)) ≡ 9
  nine_of_three = sym (length-map (those to_three (write_list want image)) (λ (w : Write). w.address)) ∙ ap length (ap addresses same_three ∙ nine b)

  pub fewer : Fewer want image
  fewer = record {
    exactly = λ w small. (is_left_lem image w, left image w small);
    list = refl;
    three = same_three;
    nine = ap addresses same_three ∙ nine b;
    count = in_two to_three (λ w. not (already_there image w)) (full_list want image)
        ∙ ap₂ (λ (m n : ℕ). m + n) counted (ap length (sym same_three));
    bound = bounded;
  }

  -- where the finished image stands already no register differs
  pub none_differ : ((a : ℕ) → a < 256 → finished want image a ≡ get_or image a 0) → differing image (finished_image want image) ≡ 0
  none_differ same = ap length (none_in_run (differs image (finished_image want image)) 0 256 (λ a lo hi. go a (omega (arith, hi))))
    where
      go : (a : ℕ) → a < 256 → differs image (finished_image want image) a ≡ false
      go a h = rw (eq-eqb (get_or (finished_image want image) a 0) (get_or image a 0) (image_at want image a h ∙ same a h)) (last (not (among a the_three)))
        where
          last : (b : Bool) → (b && false) ≡ false
          last true = refl
          last false = refl

  -- ---- the list by its steps

  -- the steps between mute and open that stay; mute and open do
  abbrev pub left_steps : List Step
  left_steps = those (λ i. stays image (f i)) (middle_of want image)

  pub steps_left : (ms : List Step) → those (λ i. stays image (f i)) (steps ms) ≡ steps (those (λ i. stays image (f i)) ms)
  unfolding written
  steps_left ms =
      ap (λ (l : List Step). reg.av_mute raising reg.set_av_mute_mask ∷ l)
      (those_append (λ i. stays image (f i)) ms (reg.av_mute raising reg.clear_av_mute_mask ∷ []))

  pub by_steps : write_list want image ≡ map f (steps left_steps)
  by_steps = those_map f (stays image) (steps (middle_of want image)) ∙ ap (map f) (steps_left (middle_of want image))
