-- `writes::stands` meets its contract: the finished image is made of the wanted bytes, and compared. Assumes nothing.
use mathlib.Core.Path.{◌≡◌, ◌∙◌}
use mathlib.Core.List.{List}
use Prim.Native.Nat.{ℕ}
use native.Mathlib.Omega.{arith}
use lib.ListN.{length, get_or, set, length-set}
use borrow.Author.Tests.{eq-eqb}
use borrow.Author.Rules.{rules}
use Rattle.map.specs.Map as reg
use Rattle.lists.specs.Same.{same_list}
use Rattle.writes.specs.List.{stands_whole}
use Rattle.writes.proofs.Columns.{opened_finished}
use Rattle.writes.proofs.Image.{stands_same}
use Rattle.writes.proofs.stands.Goals as goal

pub returns : goal.returns
returns c =
    let image : List ℕ = c.in-Ok.image.now in
    let bytes : List ℕ = c.closed-bytes.result in
    let want : ℕ → ℕ = λ b. get_or c.args.wanted.now b 0 in
    let whole = c.in-Ok.ensures.1 in
    let sized : length image ≡ 256 = rw whole.same whole.long in
    let long : length bytes ≡ 256 = search rules in
    let opened = opened_finished want image bytes c.raise.result long c.closed-bytes.ensures c.raise.ensures
    (λ j h. rw whole.same (omega (arith, c.type_inv.image j))) in
    let t : same_list (set bytes reg.av_mute c.raise.result) image ≡ stands_whole want image
    = simp (eq-eqb _ _ sized) (stands_same want image (set bytes reg.av_mute c.raise.result)
    (length-set bytes reg.av_mute c.raise.result ∙ long) opened sized) in
    let u : c.same.result ≡ stands_whole want image = c.same.ensures ∙ t in
    rw whole.same at u
