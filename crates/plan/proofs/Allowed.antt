-- Requests that are accepted: each is in range, and what is read of an input is one. Assumes nothing.
use mathlib.Core.Path.{◌≡◌, sym, ap, subst, ◌∙◌}
use mathlib.Core.List.{List}
use Prim.Native.Nat.{ℕ}
use lib.ListN.{length}
use Rattle.matrix.specs.Matrix.{Bytes}
use Rattle.request.specs.declared.Request.{Request}
use Rattle.request.specs.Numbered.{Checked}
use Rattle.request.specs.Bytes.{as_bytes}
use Rattle.request.specs.Read.{read_of, allowed_of}
use Rattle.request.specs.Fits.{Fits}
use Rattle.request.proofs.Back.{there_and_back}
use Rattle.request.proofs.Hand.{in_hand}
use Rattle.plan.specs.declared.Accepted.{Accepted}

pub in_range : (a : Accepted) → length a.request.matrix.coefficients ≡ 12 → Fits a.request
in_range a twelve = (in_hand a.request).fits twelve a.allowed

pub read_allowed : (input : List ℕ) → Bytes input → (r : Request) → record { refusal = 0; request = r } ≡ read_of input → allowed_of r ≡ 0
read_allowed input b r e =
    let z = sym (ap (λ (x : Checked). x.refusal) e) in
    let same = sym (ap (λ (x : Checked). x.request) e) in
    let back : as_bytes r ≡ input = subst (λ (q : Request). as_bytes q ≡ input) same (there_and_back.back input b z) in
    (in_hand r).said (ap read_of back ∙ sym e)
