-- `views::view::mute_of` meets its contract. Assumes nothing.
use mathlib.Core.Path.{ap, ◌∙◌}
use Prim.Native.Nat.{ℕ}
use Rattle.std.proofs.lemmas.Result.{err_from_is_err_and}
use Rattle.views.specs.Numbered.{Mute}
use Rattle.views.specs.View.{no_mute, mute_of}
use Rattle.refusals.proofs.Told.{by_refusal, by_none}
use Rattle.views.proofs.view.mute_of.Goals as goal

pub returns-in_err-lent_refusal : goal.returns-in_err-lent_refusal
unfolding mute_of
returns-in_err-lent_refusal c =
    let p = err_from_is_err_and c.from_residual.result c.from_residual.ensures.1 in
    rw (p.1, p.2) (by_refusal no_mute _ _ _ c.in_err-lent_refusal.ensures)

pub returns : goal.returns
unfolding mute_of
returns c = ap shown c.mute_bits.ensures ∙ by_none no_mute _ _ c.in_ok-lent_refusal.ensures
  where
    shown : ℕ → Mute
    shown bits = record { refusal = 0; mute = bits }
