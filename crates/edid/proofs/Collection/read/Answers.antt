-- `edid::Collection::read` meets its contract: by the tests of rows 21 to 23. Assumes nothing.
use mathlib.Core.Path.{◌≡◌, sym, ap, ◌∙◌}
use mathlib.Core.Bool.{false}
use mathlib.Core.List.{List}
use Prim.Native.Nat.{ℕ, ◌%◌}
use native.Mathlib.Omega.{arith}
use lib.ListN.{length, take}
use lib.Seq.{take_all}
use Rattle.frames.specs.Frames.{total}
use Rattle.edid.specs.Screen.{base, extension}
use Rattle.edid.specs.Found.{wrong_sum, edid_refusal}
use Rattle.edid.proofs.Sized.{extended, wrong_length, wrong_total, as_none, as_read, first_wrong, second_wrong, sums_right, missing}
use Rattle.edid.proofs.Collection.read.Goals as goal
use Rattle.edid.proofs.Collection.read.Goals.{After-first_chunk, then-sum-ne0-via-then-sum-ne0, then-sum-ne0-via-else-sum-ne0+then-sum-ne0-2}

pub returns-then-not-is_edid : goal.returns-then-not-is_edid
returns-then-not-is_edid c = let e = wrong_length c.args.edid.now (sym c.is_edid.ensures ∙ c.if-not-is_edid.true) in
    (omega arith, sym e)

pub returns-then-sum-ne0 : goal.returns-then-sum-ne0
returns-then-sum-ne0 c = let e = c.args.edid.now in
    let t = sym c.is_edid.ensures ∙ c.if-not-is_edid.false in
    let b : c.sum.result ≡ total (base e) % 256 = c.sum.ensures ∙ ap (λ (l : List ℕ). total l % 256) c.split_at.ensures.front in
    let k : edid_refusal e ≡ 22 =
    elim c.then-sum-ne0.branch [
      | then-sum-ne0-via-then-sum-ne0 w ↦ wrong_total e t (first_wrong e (λ z. w.if-sum-ne0.true (b ∙ z)))
      | then-sum-ne0-via-else-sum-ne0+then-sum-ne0-2 w ↦
          let x : w.sum-else-sum-ne0.result ≡ total (extension e) % 256 = w.sum-else-sum-ne0.ensures ∙ ap (λ (l : List ℕ). total l % 256) c.split_at.ensures.back in
          wrong_total e t (second_wrong e (sym b ∙ w.if-sum-ne0.false) (λ z. w.if-sum-ne0-2.true (x ∙ z)))
    ]
    in (omega (arith, k), sym k)

-- both sums are right
sums : (c : After-first_chunk) → wrong_sum c.args.edid.now ≡ false
sums c = let e = c.args.edid.now in
    sums_right e (sym (c.sum.ensures ∙ ap (λ (l : List ℕ). total l % 256) c.split_at.ensures.front) ∙ c.if-sum-ne0.false)
    (sym (c.sum-else-sum-ne0.ensures ∙ ap (λ (l : List ℕ). total l % 256) c.split_at.ensures.back) ∙ c.if-sum-ne0-2.false)

pub returns-in-None : goal.returns-in-None
returns-in-None c = let e = c.args.edid.now in
    let t = sym c.is_edid.ensures ∙ c.if-not-is_edid.false in
    as_none e t (sums (goal.at.returns-in-None c).After-first_chunk) (missing e t (omega (arith, ap length c.split_at.ensures.back, c.in-None.ensures.cases))) _ c.of.ensures

pub returns-in-Some : goal.returns-in-Some
returns-in-Some c = let e = c.args.edid.now in
    let t = sym c.is_edid.ensures ∙ c.if-not-is_edid.false in
    let k = c.in-Some.ensures.cases in
    let n : length (extension e) ≡ 128 = extended e t (omega (arith, k.enough, ap length c.split_at.ensures.back)) in
    let q : c.in-Some.ext.now ≡ extension e = k.same ∙ ap (take 128) c.split_at.ensures.back ∙ take_all 128 (extension e) (omega (arith, n)) in
    as_read e t (sums (goal.at.returns-in-Some c).After-first_chunk) _ q (ap length q ∙ n) _ c.of_extension.ensures
