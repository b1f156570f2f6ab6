-- Which families the code tries, and what decoding answers, row by row. Assumes nothing.
use mathlib.Core.Path.{◌≡◌, refl, sym, ap, ◌∙◌}
use mathlib.Core.Logic.{◌≢◌}
use mathlib.Core.Bool.{Bool, true, false, false≢true}
use mathlib.Core.List.{List}
use Prim.Native.Nat.{ℕ, ◌<◌, ◌≤◌}
use lib.ListN.{length, get_or}
use borrow.Author.Tests.{eq-eqb, ne_eqb, lt-ltb, le-ltb}
use Rattle.request.specs.declared.Request.{Request}
use Rattle.request.specs.Sections.{longest}
use Rattle.request.specs.Bytes.{as_bytes, request_in_family}
use Rattle.request.proofs.Fits.{coefficients_small}
use Rattle.plan.specs.Plan.{stands_in}
use Rattle.decode.specs.Numbered.{Decoded, not_decoded}
use Rattle.decode.specs.Extract.{matrix_in, extract}
use Rattle.decode.specs.Decode.{is_coherent, some_ends, decode_refusal, decode_of, in_front, decoded_buffer}
use Rattle.decode.proofs.Answers.{shaped}
use Rattle.decode.proofs.Families.{spared}

-- where the first family is not found, and the sound is not coherent, neither is the second
pub not_second : (r : Request) (image : List ℕ) → length r.matrix.coefficients ≡ 12 → is_coherent r.sound ≡ false → stands_in (request_in_family 0 r) image ≡ false
    → stands_in (request_in_family 1 r) image ≡ false
not_second r image l n f = go (stands_in (request_in_family 1 r) image) refl
  where
    go : (b : Bool) → stands_in (request_in_family 1 r) image ≡ b → stands_in (request_in_family 1 r) image ≡ false
    go false e = e
    go true e = absurd (false≢true (sym f ∙ spared r l image n e))

-- each field of the matrix that is read off an image has 13 bits
pub small : (image : List ℕ) → length image ≡ 256 → (i : ℕ) → get_or (extract image).matrix.coefficients i 0 < 8192
unfolding extract
small image sized = coefficients_small (matrix_in image) (shaped image sized)

-- ---- rows 7, 10 and 11

module _ (image buffer : List ℕ) where
  pub seven : length image ≢ 256 → decode_refusal image buffer ≡ 7
  unfolding decode_refusal
  seven h = simp (ne_eqb _ _ h)

  module _ (l : length image ≡ 256) where
    pub ten : length buffer < longest → decode_refusal image buffer ≡ 10
    unfolding decode_refusal
    ten b = simp (eq-eqb _ _ l, lt-ltb _ _ b)

    module _ (b : longest ≤ length buffer) where
      pub eleven : some_ends image ≡ false → decode_refusal image buffer ≡ 11
      unfolding decode_refusal
      eleven f = simp (eq-eqb _ _ l, le-ltb _ _ b, f)

      pub none : some_ends image ≡ true → decode_refusal image buffer ≡ 0
      unfolding decode_refusal
      none f = simp (eq-eqb _ _ l, le-ltb _ _ b, f)

  -- a refusal has its number and count 0, and leaves the buffer alone
  pub refuses : (n : ℕ) {answer : Decoded} → answer ≡ not_decoded n → decode_refusal image buffer ≡ n → n ≢ 0
      → (answer ≡ decode_of image buffer) × (buffer ≡ decoded_buffer image buffer)
  unfolding decode_of decoded_buffer
  refuses n a e z = simp (e, ne_eqb n 0 z) (a, refl)

  -- otherwise the request stands at the front of the buffer
  pub accepts : decode_refusal image buffer ≡ 0 → {q : Request} {after : List ℕ} {count : ℕ} → q ≡ extract image → count ≡ length (as_bytes q)
      → after ≡ in_front (as_bytes q) buffer → (record { refusal = 0; count = count } ≡ decode_of image buffer) × (after ≡ decoded_buffer image buffer)
  unfolding decode_of decoded_buffer
  accepts e q c w =
      simp e (ap answer (c ∙ ap (λ (r : Request). length (as_bytes r)) q), w ∙ ap (λ (r : Request). in_front (as_bytes r) buffer) q)
    where
      answer : ℕ → Decoded
      answer n = record { refusal = 0; count = n }
