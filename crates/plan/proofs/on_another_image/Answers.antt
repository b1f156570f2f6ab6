-- `plan::on_another_image` meets its contract. Assumes nothing.
use mathlib.Core.Path.{refl, ap}
use mathlib.Core.Logic.{◌≢◌}
use mathlib.Core.Bool.{not}
use mathlib.Core.List.{List, ◌∷◌, ◌++◌}
use Prim.Native.Nat.{ℕ}
use lib.ListN.{length}
use Rattle.refusals.specs.Rows.{image_length, holds_up, Condition, ◌when◌}
use Rattle.refusals.proofs.Tests.{without}
use Rattle.request.specs.Sections.{walked}
use Rattle.request.specs.Request.{request_of, read_rules, pair_rows}
use Rattle.plan.specs.Numbered.{Planned}
use Rattle.plan.specs.Plan.{plan_of}
use Rattle.plan.specs.Rules.{HoldsUp, buffer_rows}
use Rattle.plan.proofs.Fine.{fine, accepts}
use Rattle.plan.proofs.Ordered.{holds_up_lem, refusals}
use Rattle.plan.specs.Another.{AnyOther}
use Rattle.plan.proofs.on_another_image.Goals as goal

on-another : AnyOther
on-another input room image whole clear =
    let rest : List Condition = pair_rows (request_of (walked input)) ++ buffer_rows 256 room in
    let n : ℕ = (plan_of input image room).refusal in
    record {
      accepted = λ other z. let f = fine input other room z in
          ap (λ (p : Planned). p.refusal)
          (accepts input image room (record { read = f.read; whole = whole; clear = clear; paired = f.paired; long = f.long }));
      refused = λ b.
          without (read_rules (walked input)) (holds_up when HoldsUp image) rest n
          (without (read_rules (walked input)) (image_length when (length image ≢ 256)) (holds_up when HoldsUp image ∷ rest) n
          (refusals input b image room).given refl (λ x. x whole)) refl ((holds_up_lem image).fails (ap not clear));
    }

pub returns : goal.returns
returns c = on-another
