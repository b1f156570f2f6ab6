-- `edid::choose` meets its contract: by the tests of rows 21 to 24. Assumes nothing.
use mathlib.Core.Path.{◌≡◌, sym, ap, ◌∙◌}
use mathlib.Core.Logic.{⊎_elim}
use mathlib.Core.List.{List}
use Prim.Native.Nat.{ℕ}
use native.Mathlib.Omega.{arith}
use borrow.Author.Rules.{rules}
use Rattle.std.specs.Prelude.{Option, Err, None, Some}
use Rattle.refusals.specs.declared.Refusal.TheVariants.{NoWishFits}
use Rattle.edid.specs.Screen.{extension, collection}
use Rattle.edid.specs.Wish.{wishes_in}
use Rattle.edid.specs.Found.{is_fitting, vic_at}
use Rattle.edid.specs.Code.{first_in}
use Rattle.edid.proofs.Placed.{room, short}
use Rattle.edid.proofs.Rows.{refused_wishes, refused_edid, refused_all, taken, some_none, no_fit, found_none, found_some, within, right_wishes, odd_wishes, many_wishes}
use Rattle.edid.proofs.choose.Goals as goal

pub returns-then-wishes-ne0 : goal.returns-then-wishes-ne0
returns-then-wishes-ne0 c = let a = c.args in
    sym (refused_wishes a.edid.now a.request.now a.wishes.now (⊎_elim (odd_wishes a.wishes.now) (λ p. many_wishes a.wishes.now p.0 p.1) c.then-wishes-ne0.either))

pub returns-in_err-screen : goal.returns-in_err-screen
returns-in_err-screen c = let a = c.args in
    let w = right_wishes a.wishes.now c.if-wishes-ne0.false c.if-wishes-gt-WISHES.false in
    let m = rw c.in_err-screen.was at c.read.ensures in
    let r : c.from_residual.result ≡ Err c.in_err-screen.field-0.0 = search rules in
    rw (r, m.1) (sym (refused_edid a.edid.now a.request.now a.wishes.now w m.0))

pub returns-in_err-template : goal.returns-in_err-template
returns-in_err-template c = let a = c.args in
    let w = right_wishes a.wishes.now c.if-wishes-ne0.false c.if-wishes-gt-WISHES.false in
    let m = rw c.in_ok-screen.was at c.read.ensures in
    let z : vic_at a.request.now ≡ 0 = search rules in
    let r : c.from_residual-in_err-template.result ≡ Err NoWishFits = search rules in
    rw r
    (sym (refused_all a.edid.now a.request.now a.wishes.now w m.0
    (some_none (is_fitting (collection (extension a.edid.now)) a.request.now) (no_fit (collection (extension a.edid.now)) a.request.now z) (wishes_in a.wishes.now))))

-- the place that the search found, by the screen that was read and the request as it came
module _ (edid request wishes bytes held : List ℕ) (place : Option ℕ) (b : bytes ≡ collection (extension edid)) (q : held ≡ request) where
  searched : place ≡ first_in (is_fitting bytes held) (wishes_in wishes) → first_in (is_fitting (collection (extension edid)) request) (wishes_in wishes) ≡ place
  searched f = sym (f ∙ ap (λ (l : List ℕ). first_in (is_fitting l held) (wishes_in wishes)) b ∙ ap (λ (r : List ℕ). first_in (is_fitting (collection (extension edid)) r) (wishes_in wishes)) q)

pub returns-in_err-place : goal.returns-in_err-place
returns-in_err-place c = let a = c.args in
    let w = right_wishes a.wishes.now c.if-wishes-ne0.false c.if-wishes-gt-WISHES.false in
    let m = rw c.in_ok-screen.was at c.read.ensures in
    let n : c.first_wish.result ≡ None = search rules in
    let f = searched a.edid.now a.request.now a.wishes.now _ _ _ m.1 (search rules) c.first_wish.ensures ∙ n in
    let r : c.from_residual-in_err-place.result ≡ Err NoWishFits = search rules in
    rw r (sym (refused_all a.edid.now a.request.now a.wishes.now w m.0 (found_none (is_fitting (collection (extension a.edid.now)) a.request.now) (wishes_in a.wishes.now) f)))

pub overflow_cast-result : goal.overflow_cast-result
overflow_cast-result c = let a = c.args in
    let s : c.first_wish.result ≡ Some c.in_ok-place.place = search rules in
    omega (arith, within (is_fitting c.in_ok-screen.screen.bytes.now c.in_ok-template.template.request.now) a.wishes.now c.in_ok-place.place (sym c.first_wish.ensures ∙ s))

pub overflow_cast-result-2 : goal.overflow_cast-result-2
overflow_cast-result-2 c = let t = c.in_ok-template.template in omega (arith, room t.request.now t.at t.there.0 t.there.1, short t.request.now t.at t.there.0 t.there.1)

pub returns : goal.returns
returns c = let a = c.args in
    let w = right_wishes a.wishes.now c.if-wishes-ne0.false c.if-wishes-gt-WISHES.false in
    let m = rw c.in_ok-screen.was at c.read.ensures in
    let t = c.in_ok-template.template in
    let q : t.request.now ≡ a.request.now = search rules in
    let s : c.first_wish.result ≡ Some c.in_ok-place.place = search rules in
    let f = searched a.edid.now a.request.now a.wishes.now _ _ _ m.1 q c.first_wish.ensures ∙ s in
    let p = found_some (is_fitting (collection (extension a.edid.now)) a.request.now) (wishes_in a.wishes.now) c.in_ok-place.place f in
    rw (p.1, sym (rw q at t.there.0)) (sym (taken a.edid.now a.request.now a.wishes.now w m.0 p.0))
