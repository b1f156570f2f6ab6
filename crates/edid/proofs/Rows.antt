-- How the answer for a request and wishes is found: by the tests of rows 21 to 24; that no wish fits where the request has no place for one; and
-- the first that fits. Assumes nothing.
use mathlib.Core.Path.{◌≡◌, refl, sym, ap, subst, ◌∙◌}
use mathlib.Core.Logic.{◌≢◌}
use mathlib.Core.Bool.{Bool, true, false, cond, not, ◌&&◌, ◌||◌}
use mathlib.Core.List.{List, [], ◌∷◌, flat_map}
use Prim.Native.Nat.{ℕ, ◌/◌, ◌%◌, ◌<◌, ◌≤◌}
use native.Mathlib.Omega.{arith}
use Rattle.std.proofs.lemmas.Bool.Decides.{nat_tests}
use lib.Dec.{eqb, ltb}
use lib.ListN.{length, length-set}
use borrow.Author.Tests.{ltb-true, lt-ltb, le-ltb, eqb-true, eqb-false, eq-eqb, ne_eqb}
use Rattle.std.specs.Prelude.{Some, None}
use Rattle.lists.specs.Find.{some}
use Rattle.request.specs.Sections.{Walk, ends, not_allowed, whole, walked, longest, largest}
use Rattle.request.specs.Read.{read_of, checked, limited}
use Rattle.request.specs.Lengths.{lengths}
use Rattle.request.proofs.Counted.{at_most}
use Rattle.request.proofs.Cut as cut
use Rattle.edid.specs.Screen.{extension, collection, tells}
use Rattle.edid.specs.declared.Ask.TheVariants.{Vic}
use Rattle.edid.specs.Wish.{Wish, wishes_in, placed_in, in_place}
use Rattle.edid.specs.Found.{is_edid, wrong_sum, bad_block, edid_refusal, is_fitting, first_at, vic_in, vic_at, wrong_wishes, no_choice, choose_of}
use Rattle.edid.specs.Code.{first_in}
use Rattle.edid.proofs.Some.{no_more}
use Rattle.edid.proofs.Placed.{placed}
use Rattle.edid.proofs.Shown.{not_read}

-- the numbers, by what the tests found: a right EDID, wrong wishes, a wrong sum, a bad block, no wish
abbrev given : Bool → Bool → Bool → Bool → Bool → ℕ
given a w s b n = cond (not a || w) 21 (cond s 22 (cond b 23 (cond n 24 0)))

abbrev alone : Bool → Bool → Bool → ℕ
alone a s b = cond (not a) 21 (cond s 22 (cond b 23 0))

by_wishes : (a s b n : Bool) → given a true s b n ≡ 21
by_wishes a s b n = grind arith

by_edid : (a s b n : Bool) → alone a s b ≢ 0 → given a false s b n ≡ alone a s b
by_edid a s b n h = grind arith

by_fit : (a s b n : Bool) → alone a s b ≡ 0 → given a false s b n ≡ cond n 24 0
by_fit a s b n h = grind arith

module _ (edid input wishes : List ℕ) where
  abbrev test : Wish → Bool
  test = is_fitting (collection (extension edid)) input

  abbrev none : Bool
  none = not (some test (wishes_in wishes))

  pub refused_wishes : wrong_wishes wishes ≡ true → choose_of edid input wishes ≡ no_choice 21
  unfolding choose_of
  refused_wishes w = rw (w, by_wishes (is_edid edid) (wrong_sum edid) (bad_block edid) none)

  module _ (w : wrong_wishes wishes ≡ false) where
    pub refused_edid : edid_refusal edid ≢ 0 → choose_of edid input wishes ≡ no_choice (edid_refusal edid)
    unfolding choose_of edid_refusal
    refused_edid h = rw (w, by_edid (is_edid edid) (wrong_sum edid) (bad_block edid) none h) (go (edid_refusal edid) h)
      where
        go : (n : ℕ) → n ≢ 0 → cond (eqb n 0) (record { refusal = 0; place = first_at test (wishes_in wishes); at = vic_at input }) (no_choice n) ≡ no_choice n
        go n h = rw (ne_eqb n 0 h)

    module _ (z : edid_refusal edid ≡ 0) where
      pub refused_all : some test (wishes_in wishes) ≡ false → choose_of edid input wishes ≡ no_choice 24
      unfolding choose_of edid_refusal
      refused_all f = rw (w, by_fit (is_edid edid) (wrong_sum edid) (bad_block edid) none z, f)

      pub taken : some test (wishes_in wishes) ≡ true → choose_of edid input wishes ≡ record { refusal = 0; place = first_at test (wishes_in wishes); at = vic_at input }
      unfolding choose_of edid_refusal
      taken f = rw (w, by_fit (is_edid edid) (wrong_sum edid) (bad_block edid) none z, f)

-- where no entry passes
pub some_none : {A : Type 0} (test : A → Bool) → ((x : A) → test x ≡ false) → (xs : List A) → some test xs ≡ false
some_none test h [] = refl
some_none test h (x ∷ xs) = rw (h x) (some_none test h xs)

-- the first place, and how many there are
module _ {A : Type 0} (test : A → Bool) where
  first_none : (xs : List A) → first_at test xs ≡ length xs → some test xs ≡ false
  first_none [] e = refl
  first_none (x ∷ xs) e = let m = first_none xs in grind arith

  first_some : (xs : List A) → first_at test xs ≢ length xs → some test xs ≡ true
  first_some [] h = absurd (h refl)
  first_some (x ∷ xs) h = let m = first_some xs in grind arith

  -- what a search says, where it finds none and where it finds one
  pub found_none : (xs : List A) → first_in test xs ≡ None → some test xs ≡ false
  found_none xs e = let m = first_none xs in grind (arith, nat_tests)

  pub found_some : (xs : List A) (place : ℕ) → first_in test xs ≡ Some place → (some test xs ≡ true) × (place ≡ first_at test xs)
  found_some xs place e = let m = first_some xs in (grind (arith, nat_tests), grind (arith, nat_tests))

-- the wishes, by their length
pub right_wishes : (wishes : List ℕ) → length wishes % 2 ≡ 0 → length wishes ≤ 32 → wrong_wishes wishes ≡ false
right_wishes wishes e h = rw (eq-eqb (length wishes % 2) 0 e, le-ltb 32 (length wishes) h)

pub odd_wishes : (wishes : List ℕ) → length wishes % 2 ≢ 0 → wrong_wishes wishes ≡ true
odd_wishes wishes n = rw (ne_eqb (length wishes % 2) 0 n)

pub many_wishes : (wishes : List ℕ) → length wishes % 2 ≡ 0 → 32 < length wishes → wrong_wishes wishes ≡ true
many_wishes wishes e h = rw (eq-eqb (length wishes % 2) 0 e, lt-ltb 32 (length wishes) h)

pub half : (l : List ℕ) → length (wishes_in l) ≡ length l / 2
half [] = refl
half (a ∷ []) = refl
half (a ∷ b ∷ l) = omega (arith, half l)

-- a wish that a search finds is one of them
pub within : (test : Wish → Bool) (wishes : List ℕ) (place : ℕ) → first_in test (wishes_in wishes) ≡ Some place → place ≤ length wishes
within test wishes place e = let p = (found_some test (wishes_in wishes) place e).1 in omega (arith, p, no_more test (wishes_in wishes), half wishes)

-- an input with no place for a wish stays as it is, and is refused
pub unplaced : (w : Wish) (input : List ℕ) → vic_in (walked input) ≡ 0 → in_place w input ≡ input
unfolding in_place
unplaced w input z = go (walked input) z
  where
    go : (k : Walk) → vic_in k ≡ 0 → placed_in w input k ≡ input
    go ends z = refl
    go not_allowed z = refl
    go (whole bodies rest) z = absurd (omega (arith, z))

pub not_whole : (input : List ℕ) → vic_in (walked input) ≡ 0 → (read_of input).refusal ≢ 0
unfolding read_of
not_whole input z = go (walked input) z
  where
    go : (k : Walk) → vic_in k ≡ 0 → (limited (checked k)).refusal ≢ 0
    go ends z = omega arith
    go not_allowed z = omega arith
    go (whole bodies rest) z = absurd (omega (arith, z))

-- with a wish in its place an input is as long as it was
pub as_long : (w : Wish) (input : List ℕ) → length (in_place w input) ≡ length input
as_long w input = go (eqb (vic_in (walked input)) 0) refl
  where
    go : (b : Bool) → eqb (vic_in (walked input)) 0 ≡ b → length (in_place w input) ≡ length input
    go true e = ap length (unplaced w input (eqb-true _ _ e))
    go false e = ap length (sym (placed input (eqb-false _ _ e) w)) ∙ simp length-set

-- where there is no place for a wish, none fits
module _ (bytes input : List ℕ) (z : vic_at input ≡ 0) (w : Wish) where
  too_long : longest < length input → (read_of (in_place w input)).refusal ≢ 0
  unfolding flat_map
  too_long h a =
      let m = at_most (length (in_place w input)) lengths ((cut.lengths (in_place w input)).accepted a) in
      let l : largest lengths ≡ 51 = refl in
      omega (arith, m, l, as_long w input)

  nowhere : (read_of (in_place w input)).refusal ≢ 0
  nowhere = go (ltb longest (length input)) refl
    where
      go : (b : Bool) → ltb longest (length input) ≡ b → (read_of (in_place w input)).refusal ≢ 0
      go true e a = too_long (ltb-true _ _ e) a
      go false e a =
          let n : vic_in (walked input) ≡ 0 = sym (rw e) ∙ z in
          not_whole input n (subst (λ (l : List ℕ). (read_of l).refusal ≡ 0) (unplaced w input n) a)

  pub no_fit : is_fitting bytes input w ≡ false
  unfolding is_fitting
  no_fit = rw (not_read (in_place w input) bytes nowhere) (go (tells bytes (Vic w.vic)))
    where
      go : (b : Bool) → (b && false) ≡ false
      go true = refl
      go false = refl
