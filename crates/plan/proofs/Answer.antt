-- What planning answers for a request that was read, row by row, and for an input. Assumes nothing.
use mathlib.Core.Path.{◌≡◌, refl, ap, subst, ◌∙◌}
use mathlib.Core.Logic.{◌≢◌}
use mathlib.Core.Bool.{true, false}
use mathlib.Core.List.{List}
use Prim.Native.Nat.{ℕ, ◌<◌, ◌≤◌}
use lib.ListN.{length, get_or}
use borrow.Author.Tests.{eq-eqb, ne_eqb, lt-ltb, le-ltb}
use Rattle.refusals.specs.declared.Refusal.{Refusal}
use Rattle.refusals.specs.Numbered.{refusal_number}
use Rattle.request.specs.declared.Request.{Request}
use Rattle.request.specs.Read.{read_of, pair_for}
use Rattle.request.proofs.Numbers.{read_refuses, read_gives}
use Rattle.writes.specs.List.{ready, Lists}
use Rattle.plan.specs.Numbered.{Planned}
use Rattle.plan.specs.Wanted.{wanted}
use Rattle.plan.specs.Plan.{nothing, later_refusal, plan_with, buffer_with, PlansWith, plan_of, plan_buffer}

module _ (r : Request) (image buffer : List ℕ) where
  -- rows 7 to 10, by the tests on the way
  pub seven : length image ≢ 256 → later_refusal r image buffer ≡ 7
  unfolding later_refusal
  seven h = simp (ne_eqb _ _ h)

  module _ (l : length image ≡ 256) where
    pub eight : ready image ≡ false → later_refusal r image buffer ≡ 8
    unfolding later_refusal
    eight h = simp (eq-eqb _ _ l, h)

    module _ (h : ready image ≡ true) where
      pub nine : (pair_for r).refusal ≢ 0 → later_refusal r image buffer ≡ 9
      unfolding later_refusal
      nine p = simp (eq-eqb _ _ l, h, ne_eqb _ _ p)

      pub ten : (pair_for r).refusal ≡ 0 → length buffer < 256 → later_refusal r image buffer ≡ 10
      unfolding later_refusal
      ten p b = simp (eq-eqb _ _ l, h, eq-eqb _ _ p, lt-ltb _ _ b)

      none : (pair_for r).refusal ≡ 0 → 256 ≤ length buffer → later_refusal r image buffer ≡ 0
      unfolding later_refusal
      none p b = simp (eq-eqb _ _ l, h, eq-eqb _ _ p, le-ltb _ _ b)

      -- no row applies: the list is that of the wanted bytes
      pub accepts : (pair_for r).refusal ≡ 0 → 256 ≤ length buffer → (bytes : List ℕ) {left : List ℕ} {count : ℕ}
          → ((a : ℕ) → get_or bytes a 0 ≡ wanted r a)
          → Lists (λ a. get_or bytes a 0) image buffer count left
          → (record { refusal = 0; count = count } ≡ plan_with r image buffer) × (left ≡ buffer_with r image buffer)
      unfolding plan_with buffer_with
      accepts p b bytes {left = left} {count = count} e w =
          let x : Lists (wanted r) image buffer count left = subst (λ (want : ℕ → ℕ). Lists want image buffer count left) (λ j a. e a j) w in
          let v = simp (eq-eqb _ _ l, le-ltb _ _ b) at x in
          rw (none p b) (ap (λ (n : ℕ). record { refusal = 0; count = n }) v.0, v.1)

  -- a refusal has its number and count 0, and leaves the buffer alone
  pub refuses : (n : ℕ) {answer : Planned} → answer ≡ nothing n → later_refusal r image buffer ≡ n → n ≢ 0
      → (answer ≡ plan_with r image buffer) × (buffer ≡ buffer_with r image buffer)
  unfolding plan_with buffer_with
  refuses n a e z = simp (e, ne_eqb n 0 z) (a, refl)

-- a request that is refused as it is read, and one that is not
module _ (input image buffer : List ℕ) where
  pub unread : (e : Refusal) (r : Request) {answer : Planned} → answer ≡ nothing (refusal_number e) → record { refusal = refusal_number e; request = r } ≡ read_of input
      → (answer ≡ plan_of input image buffer) × (buffer ≡ plan_buffer input image buffer)
  unfolding plan_of plan_buffer
  unread e r a h = (
    a ∙ read_refuses nothing (λ r. plan_with r image buffer) input e r h,
    read_refuses (λ _. buffer) (λ r. buffer_with r image buffer) input e r h,
  )

  pub reads : (r : Request) {answer : Planned} {left : List ℕ} → PlansWith r image buffer answer left → record { refusal = 0; request = r } ≡ read_of input
      → (answer ≡ plan_of input image buffer) × (left ≡ plan_buffer input image buffer)
  unfolding plan_of plan_buffer
  reads r w h = (
    w.0 ∙ read_gives nothing (λ r. plan_with r image buffer) input r h,
    w.1 ∙ read_gives (λ _. buffer) (λ r. buffer_with r image buffer) input r h,
  )
