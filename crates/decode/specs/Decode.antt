-- What decoding answers, as the code finds it: refusals 7, 10 and 11. `ExactlyWhen` and `Refusals` (Theorems) tie it to document 01.
use Rattle.std.specs.Prelude.{◌≡◌, Bool, false, not, ◌||◌, List, [], ◌∷◌, ◌++◌, ℕ, eqb, length, drop}
use Rattle.refusals.specs.Rows.{no_request}
use Rattle.refusals.specs.Tests.{Test, ◌if◌, lowest, answer}
use Rattle.sound.specs.declared.Sound.{Sound}
use Rattle.sound.specs.declared.Sound.TheVariants.{Off, On}
use Rattle.request.specs.Sections.{longest}
use Rattle.request.specs.Bytes.{as_bytes, request_in_family}
use Rattle.plan.specs.Plan.{size_tests, buffer_tests, stands_in}
use Rattle.decode.specs.Numbered.{Decoded, not_decoded}
use Rattle.decode.specs.Extract.{extract}

-- sound that is coherent: only its N and CTS differ between the families, so the code tries the second with no other
abbrev pub is_coherent : Sound → Bool
is_coherent Off = false
is_coherent (On rate channels coherent) = eqb coherent 1

-- the request that is read off the image, in one of its families, is acceptable and stands there
unfoldable pub some_ends : List ℕ → Bool
some_ends image = stands_in (request_in_family 0 (extract image)) image || stands_in (request_in_family 1 (extract image)) image

-- the tests of rows 7, 10 and 11
abbrev pub decode_tests : List ℕ → List ℕ → List Test
decode_tests image buffer = size_tests image ++ buffer_tests longest buffer ++ no_request if not (some_ends image) ∷ []

unfoldable pub decode_refusal : List ℕ → List ℕ → ℕ
decode_refusal image buffer = lowest (decode_tests image buffer)

unfoldable pub decode_of : List ℕ → List ℕ → Decoded
decode_of image buffer = answer (decode_refusal image buffer) not_decoded (record { refusal = 0; count = length (as_bytes (extract image)) })

-- the buffer: a request at its front, and "Buffer bytes after the request stay"; a refusal "changes no lent byte"
abbrev pub in_front : List ℕ → List ℕ → List ℕ
in_front bytes buffer = bytes ++ drop (length bytes) buffer

unfoldable pub decoded_buffer : List ℕ → List ℕ → List ℕ
decoded_buffer image buffer = answer (decode_refusal image buffer) (λ n. buffer) (in_front (as_bytes (extract image)) buffer)

-- what decoding promises: its answer, and what it leaves in the lent buffer
abbrev pub Decodes : List ℕ → List ℕ → Decoded → List ℕ → Type 0
Decodes image buffer answer left = (answer ≡ decode_of image buffer) × (left ≡ decoded_buffer image buffer)
