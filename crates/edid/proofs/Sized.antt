-- The lengths of an EDID and of its extension, by the tests of rows 21 to 23. Assumes nothing.
use mathlib.Core.Path.{◌≡◌, refl, sym, ap, ◌∙◌}
use mathlib.Core.Logic.{◌≢◌}
use mathlib.Core.Bool.{true, false, false≢true}
use mathlib.Core.List.{List, [], ◌∷◌}
use Prim.Native.Nat.{ℕ, ◌<◌, ◌-◌, ◌%◌}
use native.Mathlib.Omega.{arith}
use Rattle.std.proofs.lemmas.Bool.Decides.{nat_tests}
use lib.ListN.{length, length-drop}
use borrow.Author.Tests.{eq-eqb, ne_eqb}
use Rattle.std.specs.Prelude.{Result, Ok, Err, MatchResult}
use Rattle.edid.specs.declared.Collection.{Collection}
use Rattle.refusals.specs.declared.Refusal.{Refusal}
use Rattle.refusals.specs.declared.Refusal.TheVariants.{EdidBlock}
use Rattle.refusals.specs.Numbered.{refusal_number}
use Rattle.frames.specs.Frames.{total}
use Rattle.edid.specs.Screen.{base, extension, collection, cut_up, data_blocks}
use Rattle.edid.specs.Found.{is_past, is_edid, bad_extension, wrong_sum, edid_refusal}

module _ (e : List ℕ) where
  pub extended : is_edid e ≡ true → length (extension e) ≢ 0 → length (extension e) ≡ 128
  extended t n = grind (arith, nat_tests, length-drop 128 e)

  -- an extension that is shorter than a block is not there
  pub missing : is_edid e ≡ true → length (extension e) < 128 → length (extension e) ≡ 0
  missing t h = grind (arith, nat_tests, length-drop 128 e)

-- no extension has no data blocks
none_there : (ext : List ℕ) → length ext ≡ 0 → [] ≡ collection ext
none_there [] h = refl
none_there (a ∷ ext) h = absurd (omega (arith, h))

-- the sums of the two blocks
module _ (e : List ℕ) where
  pub first_wrong : total (base e) % 256 ≢ 0 → wrong_sum e ≡ true
  first_wrong n = rw (ne_eqb (total (base e) % 256) 0 n)

  pub second_wrong : total (base e) % 256 ≡ 0 → total (extension e) % 256 ≢ 0 → wrong_sum e ≡ true
  second_wrong z n = rw (eq-eqb (total (base e) % 256) 0 z, ne_eqb (total (extension e) % 256) 0 n)

  pub sums_right : total (base e) % 256 ≡ 0 → total (extension e) % 256 ≡ 0 → wrong_sum e ≡ false
  sums_right z y = rw (eq-eqb (total (base e) % 256) 0 z, eq-eqb (total (extension e) % 256) 0 y)

-- which row refuses an EDID, by what the tests find
module _ (e : List ℕ) where
  pub wrong_length : is_edid e ≡ false → edid_refusal e ≡ 21
  unfolding edid_refusal
  wrong_length f = rw f

  module _ (t : is_edid e ≡ true) where
    pub wrong_total : wrong_sum e ≡ true → edid_refusal e ≡ 22
    unfolding edid_refusal
    wrong_total s = rw (t, s)

    module _ (s : wrong_sum e ≡ false) where
      alone : length (extension e) ≡ 0 → edid_refusal e ≡ 0
      unfolding edid_refusal
      alone z = rw (t, s, eq-eqb (length (extension e)) 0 z)

      -- no extension, and so no data blocks
      pub as_none : length (extension e) ≡ 0 → (r : Result Collection Refusal)
          → MatchResult r (λ c. (is_past (data_blocks []) ≡ false) × (c.bytes.now ≡ [])) (λ x. (is_past (data_blocks []) ≡ true) × (x ≡ EdidBlock))
          → MatchResult r (λ c. (edid_refusal e ≡ 0) × (c.bytes.now ≡ collection (extension e))) (λ x. (edid_refusal e ≢ 0) × (refusal_number x ≡ edid_refusal e))
      unfolding cut_up
      as_none z (Ok c) m = (alone z, m.1 ∙ none_there (extension e) z)
      as_none z (Err x) m = absurd (false≢true m.0)

      module _ (n : length (extension e) ≢ 0) where
        pub spoiled : bad_extension (extension e) ≡ true → edid_refusal e ≡ 23
        unfolding edid_refusal
        spoiled b = rw (t, s, ne_eqb (length (extension e)) 0 n, b)

        pub unspoiled : bad_extension (extension e) ≡ false → edid_refusal e ≡ 0
        unfolding edid_refusal
        unspoiled b = rw (t, s, ne_eqb (length (extension e)) 0 n, b)

      -- an extension that is there, as its blocks are read
      pub as_read : (ext : List ℕ) → ext ≡ extension e → length ext ≡ 128 → (r : Result Collection Refusal)
          → MatchResult r (λ c. (bad_extension ext ≡ false) × (c.bytes.now ≡ collection ext)) (λ x. (bad_extension ext ≡ true) × (x ≡ EdidBlock))
          → MatchResult r (λ c. (edid_refusal e ≡ 0) × (c.bytes.now ≡ collection (extension e))) (λ x. (edid_refusal e ≢ 0) × (refusal_number x ≡ edid_refusal e))
      as_read ext q l (Ok c) m = (unspoiled (omega (arith, l, ap length q)) (rw q at m.0), rw q at m.1)
      as_read ext q l (Err x) m =
          let k : edid_refusal e ≡ 23 = spoiled (omega (arith, l, ap length q)) (rw q at m.0) in
          (omega (arith, k), ap refusal_number m.1 ∙ sym k)
