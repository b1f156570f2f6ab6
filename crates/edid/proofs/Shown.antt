-- When a request is accepted and its sound covered, by what reading and the pair answer. Assumes nothing.
use mathlib.Core.Path.{◌≡◌, sym, ap, ◌∙◌}
use mathlib.Core.Logic.{◌≢◌}
use mathlib.Core.Bool.{false}
use mathlib.Core.List.{List}
use Prim.Native.Nat.{ℕ}
use borrow.Author.Tests.{eq-eqb, ne_eqb}
use Rattle.refusals.specs.declared.Refusal.{Refusal}
use Rattle.refusals.specs.Numbered.{refusal_number}
use Rattle.clock.specs.Numbered.{Pair}
use Rattle.clock.specs.Answers.{no_pair}
use Rattle.request.specs.declared.Request.{Request}
use Rattle.request.specs.Numbered.{Checked}
use Rattle.request.specs.Read.{read_of, pair_for, ncts_of}
use Rattle.refusals.proofs.Told.{refusal_some}
use Rattle.request.proofs.Numbers.{read_refuses, read_gives}
use Rattle.edid.specs.Found.{is_shown}

module _ (bytes input : List ℕ) (z : (read_of input).refusal ≡ 0) where
  pub no_pair_lem : (pair_for (read_of input).request).refusal ≢ 0 → is_shown bytes input ≡ false
  unfolding ncts_of
  no_pair_lem h = simp (eq-eqb (read_of input).refusal 0 z, ne_eqb (pair_for (read_of input).request).refusal 0 h)

module _ (input : List ℕ) where
  pub not_read : (bytes : List ℕ) → (read_of input).refusal ≢ 0 → is_shown bytes input ≡ false
  unfolding ncts_of
  not_read bytes h = simp (ne_eqb (read_of input).refusal 0 h)

  pub refused : (e : Refusal) (r : Request) → record { refusal = refusal_number e; request = r } ≡ read_of input → (ncts_of input).refusal ≢ 0
  unfolding ncts_of
  refused e r h z = refusal_some e (ap (λ (p : Pair). p.refusal) (read_refuses no_pair pair_for input e r h) ∙ z)

  module _ (r : Request) (h : record { refusal = 0; request = r } ≡ read_of input) where
    pub unpaired : (e : Refusal) → no_pair (refusal_number e) ≡ pair_for r → (ncts_of input).refusal ≢ 0
    unfolding ncts_of
    unpaired e p z = refusal_some e (ap (λ (q : Pair). q.refusal) (p ∙ read_gives no_pair pair_for input r h) ∙ z)

    pub paired : (pair : Pair) → pair.refusal ≡ 0 → pair ≡ pair_for r → ((ncts_of input).refusal ≡ 0) × (r.sound ≡ (read_of input).request.sound)
    unfolding ncts_of
    paired pair z p = (sym (ap (λ (q : Pair). q.refusal) (p ∙ read_gives no_pair pair_for input r h)) ∙ z, ap (λ (k : Checked). k.request.sound) h)
