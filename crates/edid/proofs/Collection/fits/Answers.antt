-- `edid::Collection::fits` meets its contract: the wish is put into a copy of the request. Assumes nothing.
use mathlib.Core.Path.{◌≡◌, sym, ap, ◌∙◌}
use mathlib.Core.List.{List}
use Prim.Native.Nat.{ℕ, ◌+◌, ◌<◌, ◌≤◌}
use native.Mathlib.Omega.{arith}
use lib.ListN.{length, set, length-set}
use Rattle.edid.specs.declared.Template.{Template}
use Rattle.edid.specs.Wish.{Wish, in_place}
use Rattle.edid.specs.Found.{is_shown, is_fitting}
use Rattle.edid.specs.Code.{wish_of}
use Rattle.edid.proofs.Placed.{copied, short, room, in_place_lem}
use Rattle.edid.proofs.Collection.fits.Goals as goal

-- the request is short, and the wish goes inside it
module _ (t : Template) where
  small : length t.request.now ≤ 51
  small = short t.request.now t.at t.there.0 t.there.1

  inside : t.at + 1 < length t.request.now
  inside = room t.request.now t.at t.there.0 t.there.1

  laid : (w : Wish) → set (set t.request.now t.at w.vic) (t.at + 1) w.family ≡ in_place w t.request.now
  laid = in_place_lem t.request.now t.at t.there.0 t.there.1

pub returns-then-not-is_told : goal.returns-then-not-is_told
unfolding is_fitting
returns-then-not-is_told c = rw (sym c.is_told.ensures ∙ c.if-not-is_told.true)

pub bounds-with-at : goal.bounds-with-at
bounds-with-at c = let t = c.args.template.now in omega (arith, ap length (c.copy.ensures ∙ copied t.request.now _ (small t)), inside t)

pub overflow_add-with : goal.overflow_add-with
overflow_add-with c = let t = c.args.template.now in omega (arith, inside t, small t)

pub bounds-with-at-2 : goal.bounds-with-at-2
bounds-with-at-2 c = let t = c.args.template.now in simp length-set (omega (arith, ap length (c.copy.ensures ∙ copied t.request.now _ (small t)), inside t))

pub returns : goal.returns
unfolding is_fitting
returns c = let a = c.args in
    let t = a.template.now in
    let w = wish_of a.wish in
    c.is_shown.ensures
    ∙ ap (is_shown a.self.now.bytes.now) (ap (λ (l : List ℕ). set (set l t.at w.vic) (t.at + 1) w.family) (c.copy.ensures ∙ copied t.request.now _ (small t)) ∙ laid t w)
    ∙ rw (sym c.is_told.ensures ∙ c.if-not-is_told.false)
