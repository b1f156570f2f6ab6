-- `chip::fill_packet` meets its contract: the first group whose hold rises fills the buffer. Assumes nothing.
use mathlib.Core.Path.{◌≡◌, refl, sym, ap, ◌∙◌}
use mathlib.Core.Bool.{Bool, true, false, cond, not, ◌&&◌}
use mathlib.Core.List.{List, [], ◌∷◌, ◌++◌}
use Prim.Native.Nat.{ℕ}
use lib.ListN.{drop}
use borrow.Author.Rules.{rules}
use denote.Ref.{Bor}
use Rattle.std.specs.Prelude.{Option, Some, None}
use Rattle.std.specs.List.{find}
use Rattle.std.specs.Option.{option_map}
use Rattle.std.proofs.Common.{map}
use Rattle.std.proofs.lemmas.Bool.Decides.{nat_tests}
use Rattle.std.proofs.lemmas.Iterator.{YieldsList-from_slice}
use Rattle.std.proofs.lemmas.Iterator.Search.{find_from_yields_List}
use Rattle.chip.specs.declared.group.Group.{Group}
use Rattle.chip.specs.Machine.{up, registers_of}
use Rattle.chip.specs.Write.{filled}
use Rattle.chip.specs.Groups.{group_of}
use Rattle.chip.proofs.fill_packet.Goals as goal

abbrev rising : ℕ → ℕ → Group → Bool
rising old new g = up (group_of g) new && not (up (group_of g) old)

-- what some groups fill, by the first of them whose hold rises
abbrev filled_by : Option Group → List ℕ → List ℕ → List ℕ
filled_by None image bytes = bytes
filled_by (Some g) image bytes = registers_of (group_of g) image ++ drop g.count bytes

by_first : (gs : List Group) (old new : ℕ) (image bytes : List ℕ)
    → filled_by (find (rising old new) gs) image bytes ≡ filled (map group_of gs) old new image bytes
by_first [] old new image bytes = refl
by_first (g ∷ gs) old new image bytes = go (rising old new g) (by_first gs old new image bytes)
  where
    go : (b : Bool) → filled_by (find (rising old new) gs) image bytes ≡ filled (map group_of gs) old new image bytes
        → filled_by (cond b (Some g) (find (rising old new) gs)) image bytes
        ≡ cond b (registers_of (group_of g) image ++ drop g.count bytes) (filled (map group_of gs) old new image bytes)
    go true e = refl
    go false e = e

by_found : {rest gs : List Group} → rest ≡ gs → (old new : ℕ) {r : Option Group} (image bytes : List ℕ) → r ≡ find (rising old new) gs
    → filled_by r image bytes ≡ filled (map group_of gs) old new image bytes
by_found {rest} {gs} is old new image bytes e = ap (λ (o : Option Group). filled_by o image bytes) e ∙ by_first gs old new image bytes

pub returns-in-Some : goal.returns-in-Some
returns-in-Some c = let a = c.args in
    let e = find_from_yields_List (rising a.old a.new) _ _ c.find.result c.find.ensures.ran (YieldsList-from_slice _ c.iter.ensures.rest) (λ x b q k. search (rules, nat_tests)) in
    c.fill.ensures ∙ by_found c.iter.ensures.rest a.old a.new a.image.now a.packet.now (ap (option_map (λ (g : Bor Group). g.now)) (sym c.in-Some.is) ∙ e)

pub returns-in_default : goal.returns-in_default
returns-in_default c = let a = c.args in
    let e = find_from_yields_List (rising a.old a.new) _ _ c.find.result c.find.ensures.ran (YieldsList-from_slice _ c.iter.ensures.rest) (λ x b q k. search (rules, nat_tests)) in
    by_found c.iter.ensures.rest a.old a.new a.image.now a.packet.now (ap (option_map (λ (g : Bor Group). g.now)) (sym c.in_default.is) ∙ e)
