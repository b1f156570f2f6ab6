-- The preview's refusals: what its tests say, and that the one given is the earliest that applies.
-- Assumes nothing.
use mathlib.Core.Path.{◌≡◌, refl, ap, ◌∙◌}
use mathlib.Core.Logic.{◌⊎◌, ◌≢◌, inl, inr}
use mathlib.Core.Bool.{false, ◌||◌}
use mathlib.Core.List.{List}
use Prim.Native.Nat.{ℕ, ◌<◌, ◌≤◌}
use lib.Dec.{ltb}
use borrow.Author.Tests.{ltb-false}
use Rattle.lists.proofs.Both.{neither_left, neither_right}
use Rattle.lists.proofs.Decides.{itself, less, opposite, either, restated}
use Rattle.refusals.specs.Tests.{lowest}
use Rattle.refusals.proofs.Tests.{Decided, lowest_given, numbered, answer_some}
use Rattle.matrix.specs.Matrix.{Bytes}
use Rattle.matrix.specs.Tests.{is_allowed}
use Rattle.matrix.specs.Preview.{above, preview_tests, no_pixel, preview_of, preview_rules, PreviewRefusals}
use Rattle.matrix.proofs.Numbers.{numbers}

pub codes : (a b c : ℕ) → above a b c ≡ false → (a ≤ 4095) × (b ≤ 4095) × (c ≤ 4095)
codes a b c e =
    let ab = neither_left (ltb 4095 a || ltb 4095 b) (ltb 4095 c) e in
    (ltb-false _ _ (neither_left (ltb 4095 a) (ltb 4095 b) ab), ltb-false _ _ (neither_right (ltb 4095 a) (ltb 4095 b) ab), ltb-false _ _ (neither_right (ltb 4095 a || ltb 4095 b) (ltb 4095 c) e))

decided : (body : List ℕ) → Bytes body → (a b c : ℕ) → Decided (preview_tests body a b c) (preview_rules body a b c)
decided body bytes a b c =
    let allowed = restated (numbers body bytes).rule.0 (numbers body bytes).rule.1 (itself (is_allowed body)) in
    (refl, opposite allowed, λ _. (refl, restated right left (either (either (less 4095 a) (less 4095 b)) (less 4095 c)), λ _. tt))
  where
    right : ((4095 < a) ⊎ (4095 < b)) ⊎ (4095 < c) → (4095 < a) ⊎ (4095 < b) ⊎ (4095 < c)
    right (inl (inl h)) = inl h
    right (inl (inr h)) = inr (inl h)
    right (inr h) = inr (inr h)

    left : (4095 < a) ⊎ (4095 < b) ⊎ (4095 < c) → ((4095 < a) ⊎ (4095 < b)) ⊎ (4095 < c)
    left (inl h) = inl (inl h)
    left (inr (inl h)) = inl (inr h)
    left (inr (inr h)) = inr h

module _ (body : List ℕ) (a b c : ℕ) where
  number_given : (preview_of body a b c).refusal ≡ lowest (preview_tests body a b c)
  unfolding preview_of
  number_given = numbered no_pixel _ (λ p. p.refusal) (lowest (preview_tests body a b c)) (λ _. refl) refl

  zeros : lowest (preview_tests body a b c) ≢ 0 → preview_of body a b c ≡ no_pixel (lowest (preview_tests body a b c))
  unfolding preview_of
  zeros h = answer_some no_pixel _ (lowest (preview_tests body a b c)) h

pub refusals : (body : List ℕ) → Bytes body → (a b c : ℕ) → PreviewRefusals body a b c
refusals body bytes a b c =
    record {
      given = rw (number_given body a b c) (lowest_given (preview_tests body a b c) (preview_rules body a b c) refl (decided body bytes a b c));
      zeros = λ h. let z = zeros body a b c (λ z. h (number_given body a b c ∙ z)) in (ap (λ p. p.a) z, ap (λ p. p.b) z, ap (λ p. p.c) z);
    }
