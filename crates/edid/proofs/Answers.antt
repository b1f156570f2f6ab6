-- The overview and the choice, as their rows and bits say. Assumes nothing.
use mathlib.Core.Path.{◌≡◌, refl, sym, ap, subst, ◌∙◌}
use mathlib.Core.Logic.{◌⊎◌, inl, inr, ⊎_elim}
use mathlib.Core.Bool.{Bool, true, false, cond, not, true≢false, false≢true, ◌||◌}
use mathlib.Core.List.{List}
use Prim.Native.Nat.{ℕ, zero, suc, ◌+◌, ◌-◌, ◌*◌, ◌/◌, ◌%◌, ◌<◌, ◌≤◌}
use native.Mathlib.Omega.{arith}
use lib.Dec.{eqb, leb}
use lib.ListN.{length, take}
use borrow.Author.Tests.{leb-true, leb-false}
use Rattle.lists.specs.Same.{same_list}
use Rattle.lists.proofs.Decides.{Decides, equal, less, opposite, either, together, one_fails, restated}
use Rattle.lists.proofs.Compared.{same_decides}
use Rattle.bits.specs.Merge.{bit}
use Rattle.refusals.proofs.Tests.{numbered, answer_none}
use Rattle.frames.specs.Frames.{total}
use Rattle.edid.specs.Numbered.{Monitor}
use Rattle.edid.specs.declared.Ask.TheVariants.{Vic, Pcm}
use Rattle.edid.specs.Screen.{header, base, extension, tag_of, offset_of, collection, Blocks, past_end, blocks, data_blocks, WrongEdid, WrongSum, BadExtension, BadBlock, edid_rules, tells, screen_tells}
use Rattle.edid.specs.Found.{is_past, is_edid_length, is_edid, wrong_sum, bad_extension, bad_block, edid_tests, edid_refusal, ask_at, word_in, no_monitor, overview_of, monitor_of}
use Rattle.edid.specs.Theorems.{Overview}
use Rattle.edid.specs.Order.{GivenFirst}
use Rattle.edid.proofs.Order.{lowest_first}
use Rattle.edid.proofs.Words.{no_bit, each_bit, past}

at_most : (m n : ℕ) → Decides (leb m n) (m ≤ n)
at_most m n = record { passes = leb-true m n; fails = λ f h. omega (arith, leb-false m n f) }

-- row 21
not_either : (a b : Bool) {P Q : Type 0} → Decides a P → Decides b Q → Decides (not (a || b)) ((P → ⊥) × (Q → ⊥))
not_either a b d e = restated (λ n. ((λ p. n (inl p)), (λ q. n (inr q)))) (λ n. ⊎_elim n.0 n.1) (opposite (either d e))

pub wrong_length_lem : (e : List ℕ) → Decides (not (is_edid e)) (WrongEdid e)
wrong_length_lem e =
    one_fails (is_edid_length e) (same_list (take (length header) e) header) (not_either (eqb (length e) 128) (eqb (length e) 256) (equal (length e) 128) (equal (length e) 256))
    (opposite (same_decides (take 8 e) header))

-- row 22
pub wrong_sum_lem : (e : List ℕ) → Decides (wrong_sum e) (WrongSum e)
wrong_sum_lem e =
    one_fails (eqb (total (base e) % 256) 0) (eqb (total (extension e) % 256) 0) (opposite (equal (total (base e) % 256) 0)) (opposite (equal (total (extension e) % 256) 0))

-- row 23
is_past_lem : (bs : Blocks) → Decides (is_past bs) (bs ≡ past_end)
is_past_lem past_end = record { passes = λ _. refl; fails = λ f _. absurd (true≢false f) }
is_past_lem (blocks bs) = record { passes = λ t. absurd (false≢true t); fails = λ _ p. absurd (false≢true (ap is_past p)) }

bad_extension_lem : (x : List ℕ) → Decides (bad_extension x) (BadExtension x)
bad_extension_lem x =
    restated (⊎_elim (⊎_elim inl (⊎_elim (λ p. inr (inl p)) (λ q. inr (inr (inl q))))) (λ r. inr (inr (inr r))))
    (⊎_elim (λ a. inl (inl a)) (⊎_elim (λ p. inl (inr (inl p))) (⊎_elim (λ q. inl (inr (inr q))) inr)))
    (either (either (opposite (equal (tag_of x) 2)) (either (together (at_most 1 (offset_of x)) (at_most (offset_of x) 3)) (less 127 (offset_of x)))) (is_past_lem (data_blocks (collection x))))

pub bad_block_lem : (e : List ℕ) → Decides (bad_block e) (BadBlock e)
bad_block_lem e = together (opposite (equal (length (extension e)) 0)) (bad_extension_lem (extension e))

edid_given : (e : List ℕ) → GivenFirst (edid_rules e) (edid_refusal e)
unfolding edid_refusal
edid_given e = lowest_first (edid_tests e) (edid_rules e) refl ((refl, wrong_length_lem e, λ _. (refl, wrong_sum_lem e, λ _. (refl, bad_block_lem e, λ _. tt))))

module _ (e : List ℕ) where
  refusal_is : (monitor_of e).refusal ≡ edid_refusal e
  unfolding monitor_of
  refusal_is = numbered no_monitor (overview_of (collection (extension e))) (λ (m : Monitor). m.refusal) (edid_refusal e) (λ _. refl) refl

  -- either zeros, or the overview's words
  kind : (monitor_of e ≡ overview_of (collection (extension e))) ⊎ (monitor_of e ≡ no_monitor (edid_refusal e))
  unfolding monitor_of
  kind = go (eqb (edid_refusal e) 0)
    where
      go : (b : Bool) → let x : Monitor = cond b (overview_of (collection (extension e))) (no_monitor (edid_refusal e)) in (x ≡ overview_of (collection (extension e))) ⊎ (x ≡ no_monitor (edid_refusal e))
      go true = inl refl
      go false = inr refl

  shown : (monitor_of e).refusal ≡ 0 → monitor_of e ≡ overview_of (collection (extension e))
  unfolding monitor_of
  shown z = answer_none no_monitor (overview_of (collection (extension e))) (edid_refusal e) (sym refusal_is ∙ z)

-- a word that is doubled
double : (j w : ℕ) → bit (suc j) (2 * w) ≡ bit j w
double j w = let e : 2 * w / 2 ≡ w = omega arith in rw e

even : (w : ℕ) → bit 0 (2 * w) ≡ 0
even w = omega arith

module _ (e : List ℕ) where
  abbrev bytes : List ℕ
  bytes = collection (extension e)

  in_low : (monitor_of e).refusal ≡ 0 → (v : ℕ) → 1 ≤ v → v < 32 → bit v (monitor_of e).vics_low ≡ cond (screen_tells e (Vic v)) 1 0
  in_low z zero h k = absurd (omega arith)
  in_low z (suc j) h k =
      ap (λ (m : Monitor). bit (suc j) m.vics_low) (shown e z) ∙ double j (word_in bytes 0 1 31) ∙ each_bit (λ n. tells bytes (ask_at 0 n)) 1 31 j (omega arith)
      ∙ ap (λ (n : ℕ). cond (screen_tells e (Vic n)) 1 0) (let p : 1 + j ≡ suc j = omega arith in p)

  in_high : (monitor_of e).refusal ≡ 0 → (v : ℕ) → 32 ≤ v → v < 64 → bit (v - 32) (monitor_of e).vics_high ≡ cond (screen_tells e (Vic v)) 1 0
  in_high z v h k =
      let p : 32 + (v - 32) ≡ v = omega arith in
      ap (λ (m : Monitor). bit (v - 32) m.vics_high) (shown e z) ∙ each_bit (λ n. tells bytes (ask_at 0 n)) 32 32 (v - 32) (omega arith)
      ∙ ap (λ (n : ℕ). cond (screen_tells e (Vic n)) 1 0) p

  in_two : (monitor_of e).refusal ≡ 0 → (r : ℕ) → r < 7 → bit r (monitor_of e).rates_2 ≡ cond (screen_tells e (Pcm r 2)) 1 0
  in_two z r h = let p : 0 + r ≡ r = omega arith in ap (λ (m : Monitor). bit r m.rates_2) (shown e z) ∙ each_bit (λ n. tells bytes (ask_at 2 n)) 0 7 r h ∙ ap (λ (n : ℕ). cond (screen_tells e (Pcm n 2)) 1 0) p

  in_eight : (monitor_of e).refusal ≡ 0 → (r : ℕ) → r < 7 → bit r (monitor_of e).rates_8 ≡ cond (screen_tells e (Pcm r 8)) 1 0
  in_eight z r h = let p : 0 + r ≡ r = omega arith in ap (λ (m : Monitor). bit r m.rates_8) (shown e z) ∙ each_bit (λ n. tells bytes (ask_at 8 n)) 0 7 r h ∙ ap (λ (n : ℕ). cond (screen_tells e (Pcm n 8)) 1 0) p

  -- of a number read off the overview: zero where it is so in both kinds of answer
  both : (f : Monitor → ℕ) → f (overview_of (collection (extension e))) ≡ 0 → f (no_monitor (edid_refusal e)) ≡ 0 → f (monitor_of e) ≡ 0
  both f a b = ⊎_elim (λ k. ap f k ∙ a) (λ k. ap f k ∙ b) (kind e)

  above_low : (k : ℕ) → 32 ≤ k → bit k (2 * word_in bytes 0 1 31) ≡ 0
  above_low zero h = absurd (omega arith)
  above_low (suc j) h = double j (word_in bytes 0 1 31) ∙ past (λ n. tells bytes (ask_at 0 n)) 1 31 j (omega arith)

  pub overview : Overview e
  overview =
      record {
        given = subst (GivenFirst (edid_rules e)) (sym (refusal_is e)) (edid_given e);
        nothing = λ h. ⊎_elim (λ k. absurd (h (ap (λ (m : Monitor). m.refusal) k))) (λ k. k ∙ ap no_monitor (sym (refusal_is e))) (kind e);
        low = in_low;
        high = in_high;
        two = in_two;
        eight = in_eight;
        zero = both (λ m. bit 0 m.vics_low) (even (word_in bytes 0 1 31)) refl;
        above = λ k h. (both (λ m. bit k m.vics_low) (above_low k h) (no_bit k), both (λ m. bit k m.vics_high) (past (λ n. tells bytes (ask_at 0 n)) 32 32 k h) (no_bit k));
        rates = λ k h. (both (λ m. bit k m.rates_2) (past (λ n. tells bytes (ask_at 2 n)) 0 7 k h) (no_bit k), both (λ m. bit k m.rates_8) (past (λ n. tells bytes (ask_at 8 n)) 0 7 k h) (no_bit k));
      }
