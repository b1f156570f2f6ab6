-- A request that stands in an image, part by part. Assumes nothing.
use mathlib.Core.Path.{◌≡◌, refl, sym}
use mathlib.Core.Logic.{◌≢◌}
use mathlib.Core.Bool.{Bool, true, false, false≢true, ◌&&◌}
use mathlib.Core.List.{List}
use Prim.Native.Nat.{ℕ}
use lib.Dec.{eqb}
use lib.ListN.{length}
use borrow.Author.Tests.{eqb-true, eq-eqb}
use Rattle.lists.proofs.Both.{both_left, both_right}
use Rattle.std.specs.Prelude.{Result, Ok, Err}
use Rattle.std.specs.Result.{is_err}
use Rattle.refusals.specs.declared.Refusal.{Refusal}
use Rattle.refusals.specs.Numbered.{given_by}
use Rattle.request.specs.declared.Request.{Request}
use Rattle.request.specs.Read.{allowed_of, pair_for}
use Rattle.refusals.proofs.Told.{refusal_some}
use Rattle.writes.specs.List.{stands_below, stands_whole}
use Rattle.plan.specs.Wanted.{wanted}
use Rattle.plan.specs.Plan.{stands_in}

pub record Stood (r : Request) (image : List ℕ) : Type 0 where
  pub allowed : allowed_of r ≡ 0
  pub sized : length image ≡ 256
  pub paired : (pair_for r).refusal ≡ 0
  pub below : stands_below (wanted r) image 256 ≡ true

module _ (r : Request) (image : List ℕ) where
  pub stood : stands_in r image ≡ true → Stood r image
  unfolding stands_in
  stood t =
      let a : Bool = eqb (allowed_of r) 0 in
      let s : Bool = eqb (length image) 256 in
      let p : Bool = eqb (pair_for r).refusal 0 in
      let u : (a && s && p) ≡ true = both_left _ (stands_below (wanted r) image 256) t in
      let v : (a && s) ≡ true = both_left _ p u in
      record {
        allowed = eqb-true _ _ (both_left a s v);
        sized = eqb-true _ _ (both_right a s v);
        paired = eqb-true _ _ (both_right (a && s) p u);
        below = both_right (a && s && p) _ t;
      }

  pub standing : Stood r image → stands_in r image ≡ true
  unfolding stands_in
  standing h =
      rw (eq-eqb (allowed_of r) 0 h.allowed, eq-eqb (length image) 256 h.sized, eq-eqb (pair_for r).refusal 0 h.paired) h.below

  -- and where a part fails, it does not stand
  pub not_stood : (Stood r image → ⊥) → stands_in r image ≡ false
  not_stood n = go (stands_in r image) refl
    where
      go : (b : Bool) → stands_in r image ≡ b → b ≡ false
      go true e = absurd (n (stood e))
      go false e = refl

  pub allowed_stands : allowed_of r ≡ 0 → (pair_for r).refusal ≡ 0 → stands_whole (wanted r) image ≡ stands_in r image
  unfolding stands_in
  allowed_stands a p = rw (eq-eqb (allowed_of r) 0 a, eq-eqb (pair_for r).refusal 0 p) (go (eqb (length image) 256))
    where
      go : (b : Bool) → (b && stands_below (wanted r) image 256) ≡ (true && b && true && stands_below (wanted r) image 256)
      go true = refl
      go false = refl

-- what an answer says of its number
pub is_refused : {T : Type 0} (x : Result T Refusal) → is_err x ≡ true → given_by x ≢ 0
is_refused (Ok v) t = absurd (false≢true t)
is_refused (Err e) t = refusal_some e

pub is_given : {T : Type 0} (x : Result T Refusal) → is_err x ≡ false → given_by x ≡ 0
is_given (Ok v) t = refl
is_given (Err e) t = absurd (false≢true (sym t))
