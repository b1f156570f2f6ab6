-- `meter::all_finite` meets its contract. Assumes nothing.
use Rattle.std.proofs.Common.{◌≡◌, ◌&&◌, List, [], ◌∷◌, refl, ap, ◌∙◌, rules, tests}
use Rattle.std.specs.List.{list_all}
use Rattle.std.proofs.lemmas.Iterator.{YieldsList-from_slice}
use Rattle.std.proofs.lemmas.Iterator.Search.{all_from_yields_List}
use lib.Ieee.{Float}
use lib.Ieee.Scale.{finite}
use Rattle.lists.specs.Find.{every}
use Rattle.meter.proofs.all_finite.Goals as goal

each : (xs : List Float) → list_all finite xs ≡ every finite xs
each [] = refl
each (x ∷ xs) = ap (λ b. finite x && b) (each xs)

pub returns : goal.returns
returns c =
    let numbers = c.args.numbers in
    let all = c.all.ensures.ran in
    all_from_yields_List finite _ _ c.all.result all (YieldsList-from_slice {s = c.iter.result} numbers cc) (λ x b q k. search (rules, tests)) ∙ each numbers
