-- The rows of planning, tested in order: those of the request by its own theorem, and then rows 7 to 10. Assumes nothing.
use mathlib.Core.Path.{◌≡◌, refl, subst}
use mathlib.Core.Logic.{◌≢◌}
use mathlib.Core.Bool.{Bool, true, false, cond, not, ◌&&◌, ◌||◌}
use mathlib.Core.List.{List}
use Prim.Native.Nat.{ℕ}
use lib.Dec.{eqb}
use lib.ListN.{length, drop}
use Rattle.lists.proofs.Decides.{Decides, itself, equal, less, opposite, either, together}
use Rattle.refusals.specs.Rows.{Condition, Given}
use Rattle.refusals.specs.Tests.{Test, lowest}
use Rattle.matrix.specs.Matrix.{Bytes}
use Rattle.request.specs.Sections.{walked}
use Rattle.request.specs.Request.{read_rules}
use Rattle.request.specs.Read.{read_of}
use Rattle.request.proofs.Coherent.{rows, pair_given}
use Rattle.chip.specs.Machine.{Write, up, avi, audio, gc, packets, holds_of}
use Rattle.writes.specs.List.{write_list, fronted, ready}
use Rattle.refusals.proofs.Tests.{Decided, lowest_given, answer_given, in_stages, sole}
use Rattle.plan.specs.Numbered.{Planned}
use Rattle.plan.specs.Wanted.{wanted}
use Rattle.plan.specs.Plan.{nothing, later_tests, later_refusal, plan_with, buffer_with, plan_of, plan_buffer}
use Rattle.plan.specs.Rules.{HoldsUp, plan_rules, PlanRefusals}

-- row 8
one_of : (a b : Bool) → (a || b) ≡ not (not a && not b)
one_of true b = refl
one_of false true = refl
one_of false false = refl

pub holds_up_lem : (image : List ℕ) → Decides (not (ready image)) (HoldsUp image)
holds_up_lem image =
    let n : ℕ = holds_of packets image in
    subst (λ (b : Bool). Decides b (HoldsUp image)) (one_of (up gc n) (up avi n && up audio n))
    (either (itself (up gc n)) (together (itself (up avi n)) (itself (up audio n))))

abbrev number : Planned → ℕ
number p = p.refusal

module _ (input : List ℕ) (bytes : Bytes input) (image buffer : List ℕ) where
  abbrev rules : List Condition
  rules = plan_rules input image buffer

  -- those after the request's own
  abbrev later_rules : List Condition
  later_rules = drop (length (read_rules (walked input))) rules

  abbrev later : List Test
  later = later_tests (read_of input).request image buffer

  decided : (read_of input).refusal ≡ 0 → Decided later later_rules
  decided z = (
    refl,
    opposite (equal (length image) 256),
    λ _. (refl, holds_up_lem image, λ _. (refl, sole _ _ (pair_given input bytes z), λ _. (refl, less (length buffer) 256, λ _. tt))),
  )

  given : Given rules (plan_of input image buffer).refusal
  unfolding plan_of plan_with later_refusal
  given =
      in_stages nothing (plan_with (read_of input).request image buffer) number (read_rules (walked input)) later_rules (read_of input).refusal refl refl
      ((rows input).read bytes)
      (λ z. answer_given nothing _ number later_rules (lowest later) refl (λ _. refl) (lowest_given later later_rules refl (decided z)))

  -- beside a refusal the count is 0 and the buffer as it was
  aside : (plan_of input image buffer).refusal ≢ 0 → ((plan_of input image buffer).count ≡ 0) × (plan_buffer input image buffer ≡ buffer)
  unfolding plan_of plan_buffer plan_with buffer_with later_refusal
  aside = go (eqb (read_of input).refusal 0) (eqb (lowest later) 0)
    where
      list : List Write
      list = write_list (wanted (read_of input).request) image

      go : (a b : Bool)
          → let p : Planned = cond a (cond b (record { refusal = 0; count = length list }) (nothing (lowest later))) (nothing (read_of input).refusal) in
          p.refusal ≢ 0 → (p.count ≡ 0) × (cond a (cond b (fronted list buffer) buffer) buffer ≡ buffer)
      go true true h = absurd (h refl)
      go true false h = (refl, refl)
      go false b h = (refl, refl)

  pub refusals : PlanRefusals input image buffer
  refusals = record { given = given; count = λ h. (aside h).0; kept = λ h. (aside h).1 }
