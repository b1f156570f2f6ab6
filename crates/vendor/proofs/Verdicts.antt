-- The verdict by the tests as the code makes them, and what each of these finds. Assumes nothing.
use mathlib.Core.Path.{◌≡◌, refl, sym, ap, ap₂, ◌∙◌}
use mathlib.Core.Bool.{Bool, true, false, false≢true, not}
use native.Mathlib.Omega.{arith}
use mathlib.Core.List.{List}
use Prim.Native.Nat.{ℕ, zero, suc, ◌%◌, ◌≤◌, ◌<◌}
use lib.Dec.{eqb, ltb}
use lib.ListN.{length}
use borrow.Author.Tests.{eq-eqb, ne_eqb}
use Rattle.request.specs.Sections.{longest}
use Rattle.chip.specs.declared.Chip.{Chip}
use Rattle.chip.specs.Machine.{Write}
use Rattle.views.specs.Entry.{is_sized}
use Rattle.writes.specs.List.{pairs_of, ready}
use Rattle.std.specs.Prelude.{Result, Ok, Err, is_ok}
use Rattle.refusals.specs.declared.Refusal.{Refusal}
use Rattle.refusals.specs.Numbered.{refusal_number}
use Rattle.refusals.proofs.Told.{refusal_some}
use Rattle.decode.specs.Numbered.{decoded_told}
use Rattle.decode.specs.Decode.{some_ends, decode_of}
use Rattle.decode.proofs.Answers.{number_given, accepted, none}
use Rattle.cut.specs.Run.{InUse, all_in_use}
use Rattle.cut.specs.Vsync.{waited}
use Rattle.cut.proofs.ClausesOfRuns.{sized_run}
use Rattle.vendor.specs.Vendor.{shortened, end_of}
use Rattle.vendor.specs.Found.{first_fault, place_of, wrong_length, Untold, vet_refusal, vet_of}

-- ---- the verdict, return by return

module _ (s : Chip) (list : List ℕ) where
  abbrev bad : Bool
  bad = ltb (place_of (pairs_of list) s) (length (pairs_of list))

  abbrev ends : Bool
  ends = some_ends (end_of (shortened (pairs_of list) s) s).image

  pub wrong_size : not (is_sized s) ≡ true → record { refusal = 7; place = 0 } ≡ vet_of s list
  unfolding vet_of vet_refusal
  wrong_size a = rw a

  module _ (a : not (is_sized s) ≡ false) where
    pub holds_up_lem : not (ready s.image) ≡ true → record { refusal = 8; place = 0 } ≡ vet_of s list
    unfolding vet_of vet_refusal
    holds_up_lem b = rw (a, b)

    module _ (b : not (ready s.image) ≡ false) where
      pub wrong_length_lem : wrong_length list ≡ true → record { refusal = 14; place = 0 } ≡ vet_of s list
      unfolding vet_of vet_refusal
      wrong_length_lem c = rw (a, b, c)

  module _ (u : Untold s list) where
    pub bad_pair_lem : (place : ℕ) → place ≡ place_of (pairs_of list) s → bad ≡ true → record { refusal = 15; place = place } ≡ vet_of s list
    unfolding vet_of vet_refusal
    bad_pair_lem place p d = ap (λ (n : ℕ). record { refusal = 15; place = n }) p ∙ rw (u.sized, u.fit, u.whole, d)

    module _ (d : bad ≡ false) where
      pub bad_end_lem : ends ≡ false → record { refusal = 16; place = 0 } ≡ vet_of s list
      unfolding vet_of vet_refusal
      bad_end_lem e = rw (u.sized, u.fit, u.whole, d, e)

      pub passed : ends ≡ true → record { refusal = 0; place = 0 } ≡ vet_of s list
      unfolding vet_of vet_refusal
      passed e = rw (u.sized, u.fit, u.whole, d, e)

pub odd : (n : ℕ) → not (eqb (n % 2) 0) ≡ eqb (n % 2) 1
odd n = go (n % 2) (omega arith)
  where
    go : (m : ℕ) → m < 2 → not (eqb m 0) ≡ eqb m 1
    go zero h = refl
    go (suc zero) h = refl
    go (suc (suc m)) h = absurd (omega arith)

-- ---- what the code finds

-- of bytes that are some pairs: the place, whether it is one, and whether the end decodes
module _ (bytes : List ℕ) (ws : List Write) (e : pairs_of bytes ≡ ws) (s end : Chip) (f : end ≡ end_of (shortened ws s) s) where
  pub placed : (old new : InUse) (place : ℕ) → old ≡ all_in_use s → new ≡ all_in_use end → place ≡ first_fault old new (shortened ws s) s
      → place ≡ place_of (pairs_of bytes) s
  placed old new place o n p =
      p ∙ ap₂ (λ (x y : InUse). first_fault x y (shortened ws s) s) o (n ∙ ap all_in_use f) ∙ ap (λ (ws : List Write). place_of ws s) (sym e)

  pub place_test : (place n : ℕ) → place ≡ place_of (pairs_of bytes) s → length ws ≡ n
      → ltb (place_of (pairs_of bytes) s) (length (pairs_of bytes)) ≡ ltb place n
  place_test place n p l = ap₂ ltb (sym p) (ap length e ∙ l)

  pub end_test : some_ends (end_of (shortened (pairs_of bytes) s) s).image ≡ some_ends end.image
  end_test = ap (λ (ws : List Write). some_ends (end_of (shortened ws s) s).image) e ∙ ap (λ (t : Chip). some_ends t.image) (sym f)

-- a run keeps the length of the image
pub ends_whole : (ws : List Write) (s : Chip) → length s.image ≡ 256 → length (end_of ws s).image ≡ 256
ends_whole ws s z = sized_run (waited ws) s z

-- whether a request ends in an image, by decoding it
pub answered : (r : Result ℕ Refusal) → is_ok r ≡ eqb (decoded_told r).refusal 0
answered (Ok count) = refl
answered (Err e) = sym (ne_eqb (refusal_number e) 0 (refusal_some e))

pub decoded : (image buffer : List ℕ) → length image ≡ 256 → longest ≤ length buffer → eqb (decode_of image buffer).refusal 0 ≡ some_ends image
decoded image buffer whole room = go (some_ends image) refl
  where
    go : (b : Bool) → some_ends image ≡ b → eqb (decode_of image buffer).refusal 0 ≡ b
    go true e = eq-eqb _ 0 (number_given image buffer ∙ none image buffer whole room e)
    go false e = ne_eqb _ 0 (λ z. false≢true (sym e ∙ (accepted image buffer (sym (number_given image buffer) ∙ z)).1))
