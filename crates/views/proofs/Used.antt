-- What the converter goes by, byte by byte. Assumes nothing.
use mathlib.Core.Path.{◌≡◌, refl, sym, ap, ap₂, ◌∙◌}
use mathlib.Core.Logic.{◌≢◌}
use mathlib.Core.List.{List, ◌∷◌, ◌++◌}
use Prim.Native.Nat.{ℕ, ◌/◌, ◌%◌, ◌≤◌, ◌<◌}
use native.Mathlib.Omega.{arith}
use lib.Dec.{lit≤}
use lib.ListN.{length, get_or, drop}
use borrow.Author.Tests.{eq-eqb, ne_eqb, lt-ltb, le-ltb}
use Rattle.lists.proofs.Decides.{less}
use Rattle.lists.specs.Over.{over}
use Rattle.lists.proofs.Copied.{over_front}
use Rattle.refusals.specs.Rows.{Given}
use Rattle.refusals.proofs.Tests.{lowest_given, numbered}
use Rattle.matrix.specs.Coefficient.{coefficient_bytes}
use Rattle.matrix.specs.Matrix.{fields}
use Rattle.matrix.specs.Read.{twelve_of}
use Rattle.matrix.specs.Body.{body_of}
use Rattle.matrix.proofs.Body.{unmoved}
use Rattle.matrix.proofs.Pairs.{fields_small, length_fields, length_bytes, fields_said}
use Rattle.chip.specs.declared.Chip.{Chip}
use Rattle.chip.proofs.Used.{in_use_long}
use Rattle.views.specs.Numbered.{Count}
use Rattle.chip.specs.Machine.{matrix, converter, in_use, coefficients, mode_in_use}
use Rattle.views.specs.Entry.{marked}
use Rattle.views.specs.Converter.{asked_of, matrix_bytes, matrix_tests, matrix_refusal, no_count, matrix_answer, matrix_out}
use Rattle.views.specs.Refusals.{matrix_rules, MatrixRefusals}
use Rattle.bits.proofs.Laws.{two_bits_code}
use Rattle.views.proofs.Seen.{unlike}

-- a matrix of 24 bytes, as the request has it
pub as_sent : (mode : ℕ) (bytes : List ℕ) → length bytes ≡ 24
    → body_of (record { on = 1; mode = mode; coefficients = twelve_of bytes }) ≡ mode ∷ coefficient_bytes (fields bytes)
as_sent mode bytes l = rw (l, unmoved (fields bytes) (fields_small bytes))

module _ (image buffer : List ℕ) (mark : ℕ) (out : List ℕ) where
  -- the refusal, and the answer by its number
  refusal_given : Given (matrix_rules image buffer out) (matrix_refusal image buffer out)
  unfolding matrix_refusal
  refusal_given =
      lowest_given (matrix_tests image buffer out) (matrix_rules image buffer out) refl
      (refl, unlike (length image) (length buffer) 256 24, λ f. (refl, less (length out) 25, λ g. tt))

  counted : (matrix_answer image buffer out).refusal ≡ matrix_refusal image buffer out
  unfolding matrix_answer
  counted = numbered no_count _ (λ (c : Count). c.refusal) (matrix_refusal image buffer out) (λ _. refl) refl

  pub seven : length image ≢ 256 → matrix_refusal image buffer out ≡ 7
  unfolding matrix_refusal
  seven h = rw (ne_eqb _ _ h)

  pub seven_too : length image ≡ 256 → length buffer ≢ 24 → matrix_refusal image buffer out ≡ 7
  unfolding matrix_refusal
  seven_too l h = rw (eq-eqb _ _ l, ne_eqb _ _ h)

  pub ten : length image ≡ 256 → length buffer ≡ 24 → length out < 25 → matrix_refusal image buffer out ≡ 10
  unfolding matrix_refusal
  ten l k h = rw (eq-eqb _ _ l, eq-eqb _ _ k, lt-ltb _ _ h)

  pub refused : (n : ℕ) → n ≢ 0 → matrix_refusal image buffer out ≡ n
      → (record { refusal = n; count = 0 } ≡ matrix_answer image buffer out) × (out ≡ matrix_out image buffer mark out)
  unfolding matrix_answer matrix_out
  refused n h e = rw (e, ne_eqb n 0 h) (refl, refl)

  pub refusals : MatrixRefusals image buffer mark out
  refusals = record {
    given = rw counted refusal_given;
    kept = λ h. let r = refused (matrix_refusal image buffer out) (λ e. h (counted ∙ e)) refl in (sym (ap (λ (c : Count). c.count) r.0), sym r.1);
  }

  -- the bytes in use
  abbrev bytes_used : List ℕ
  bytes_used = in_use converter matrix (asked_of image buffer mark)

  module _ (l : length image ≡ 256) (k : length buffer ≡ 24) where
    -- 24 bytes
    pub twenty_four : length (in_use converter matrix (asked_of image buffer mark)) ≡ 24
    twenty_four = in_use_long converter matrix (asked_of image buffer mark) l (lit≤ tt) (omega arith)

    bytes_long : length (matrix_bytes image buffer mark) ≡ 25
    unfolding matrix_bytes coefficients
    bytes_long =
        let f = length_fields bytes_used in
        omega (arith, twenty_four, length_bytes (fields bytes_used))

    -- the mode, and the coefficients of the bytes in use after it, over the lent bytes
    pub written : (bytes : List ℕ) → bytes ≡ in_use converter matrix (asked_of image buffer mark) → 25 ≤ length out
        → {after : List ℕ} → after ≡ over (get_or image 0x18 0 / 32 % 4 ∷ coefficient_bytes (fields bytes)) out
        → (record { refusal = 0; count = 25 } ≡ matrix_answer image buffer out) × (after ≡ matrix_out image buffer mark out)
    unfolding matrix_answer matrix_out matrix_refusal matrix_bytes coefficients
    written bytes e h f = rw (eq-eqb _ _ l, eq-eqb _ _ k, le-ltb _ _ h) (
      refl,
      f ∙ ap₂ (λ (m : ℕ) (b : List ℕ). over (m ∷ coefficient_bytes (fields b)) out) (sym (two_bits_code 5 (get_or image 0x18 0))) e
          ∙ over_front (matrix_bytes image buffer mark) out (rw bytes_long h) ∙ ap (λ (n : ℕ). matrix_bytes image buffer mark ++ drop n out) bytes_long,
    )

-- what a state of the machine shows
module _ (s : Chip) (i : length s.image ≡ 256) (k : length s.coefficients ≡ 24) where
  shown : (mark : ℕ) → marked mark ≡ s.waiting → matrix_bytes s.image s.coefficients mark ≡ mode_in_use s ∷ coefficient_bytes (coefficients s)
  unfolding matrix_bytes coefficients in_use
  shown mark m = rw m

  pub counts : (out : List ℕ) → 25 ≤ length out → matrix_answer s.image s.coefficients out ≡ record { refusal = 0; count = 25 }
  unfolding matrix_answer matrix_refusal
  counts out h = rw (eq-eqb _ _ i, eq-eqb _ _ k, le-ltb _ _ h)

  pub answered : (mark : ℕ) → marked mark ≡ s.waiting → (out : List ℕ) → 25 ≤ length out
      → matrix_out s.image s.coefficients mark out ≡ (mode_in_use s ∷ coefficient_bytes (coefficients s)) ++ drop 25 out
  unfolding matrix_out matrix_refusal
  answered mark m out h = rw (eq-eqb _ _ i, eq-eqb _ _ k, le-ltb _ _ h) (ap (λ (l : List ℕ). l ++ drop 25 out) (shown mark m))

  pub said : fields (coefficient_bytes (coefficients s)) ≡ coefficients s
  unfolding coefficients
  said = fields_said (fields (in_use converter matrix s)) (fields_small (in_use converter matrix s))
