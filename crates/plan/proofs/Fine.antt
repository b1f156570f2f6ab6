-- What it takes that planning accepts, and what it then leaves: of the image only its length and its holds count. Assumes nothing.
use mathlib.Core.Path.{◌≡◌, refl}
use mathlib.Core.Bool.{true, false}
use mathlib.Core.List.{List}
use Prim.Native.Nat.{ℕ}
use lib.Dec.{eqb, ltb}
use lib.ListN.{length}
use borrow.Author.Tests.{eqb-true, eq-eqb, not-false}
use Rattle.refusals.specs.Tests.{Test, lowest}
use Rattle.refusals.proofs.Tests.{none_in_stages, none_at}
use Rattle.request.specs.declared.Request.{Request}
use Rattle.request.specs.Read.{read_of, pair_for}
use Rattle.writes.specs.List.{write_list, fronted, ready}
use Rattle.plan.specs.Numbered.{Planned}
use Rattle.plan.specs.Wanted.{wanted}
use Rattle.plan.specs.Plan.{nothing, later_tests, later_refusal, plan_with, buffer_with, plan_of, plan_buffer}

pub record Fine (input image buffer : List ℕ) : Type 0 where
  pub read : (read_of input).refusal ≡ 0
  pub whole : length image ≡ 256
  pub clear : ready image ≡ true
  pub paired : eqb (pair_for (read_of input).request).refusal 0 ≡ true
  pub long : ltb (length buffer) 256 ≡ false

abbrev number : Planned → ℕ
number p = p.refusal

module _ (input image buffer : List ℕ) where
  pub fine : (plan_of input image buffer).refusal ≡ 0 → Fine input image buffer
  unfolding plan_of plan_with later_refusal
  fine z =
      let r : Request = (read_of input).request in
      let tests : List Test = later_tests r image buffer in
      let p = none_in_stages nothing (plan_with r image buffer) number (read_of input).refusal refl z in
      let n : lowest tests ≡ 0 = (none_in_stages nothing _ number (lowest tests) refl p.1).0 in
      record {
        read = p.0;
        whole = eqb-true _ 256 (not-false (eqb (length image) 256) (none_at tests 0 n));
        clear = not-false (ready image) (none_at tests 1 n);
        paired = not-false (eqb (pair_for r).refusal 0) (none_at tests 2 n);
        long = none_at tests 3 n;
      }

  module _ (f : Fine input image buffer) where
    none : later_refusal (read_of input).request image buffer ≡ 0
    unfolding later_refusal
    none = rw (eq-eqb _ 256 f.whole, f.clear, f.paired, f.long)

    pub accepts : plan_of input image buffer ≡ record { refusal = 0; count = length (write_list (wanted (read_of input).request) image) }
    unfolding plan_of plan_with
    accepts = rw (eq-eqb _ 0 f.read, none)

    pub leaves : plan_buffer input image buffer ≡ fronted (write_list (wanted (read_of input).request) image) buffer
    unfolding plan_buffer buffer_with
    leaves = rw (eq-eqb _ 0 f.read, none)
