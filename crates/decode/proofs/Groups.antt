-- Where a request stands in an image, its InfoFrames and its coefficients stand in the groups' registers. Assumes nothing.
use mathlib.Core.Path.{◌≡◌, refl, sym, ap, ap₂, ◌∙◌}
use mathlib.Core.Logic.{inl, inr}
use mathlib.Core.Bool.{Bool, true, ◌&&◌}
use mathlib.Core.List.{List, [], ◌∷◌, ◌++◌, map}
use Prim.Native.Nat.{ℕ, zero, suc, ◌+◌, ◌/◌, ◌%◌, ◌<◌, ◌≤◌}
use native.Mathlib.Numerals.{add-one, add-two}
use native.Mathlib.Omega.{arith}
use lib.Dec.{lit<, lit≤}
use lib.ListN.{length, get_or, take, drop}
use lib.Seq.{take_all, drop-cons}
use Rattle.lists.proofs.Both.{both_left, both_right}
use Rattle.bits.specs.Merge.{merge}
use Rattle.bits.proofs.Below.{at_below}
use Rattle.registers.specs.Classes.{class_at}
use Rattle.frames.specs.Frames.{avi_payload, avi_frame}
use Rattle.matrix.specs.declared.Matrix.{Matrix}
use Rattle.matrix.specs.Matrix.{fields}
use Rattle.request.specs.declared.Request.{Request}
use Rattle.request.specs.Read.{pair_for}
use Rattle.request.specs.ThereAndBack.{Shaped}
use Rattle.request.specs.Fits.{Fits}
use Rattle.request.proofs.Fits.{coefficients_small}
use Rattle.chip.specs.Machine.{Write, avi, audio, matrix, registers_of}
use Rattle.plan.specs.Places.{audio_packet, coefficient_places, places, Shows, Each}
use Rattle.plan.specs.Wanted.{wanted}
use Rattle.plan.proofs.Made.{frames_made}
use Rattle.plan.proofs.Shown.{◌▸◌, byte_wanted, picked}
use Rattle.writes.specs.List.{is_written, decided, byte}
use Rattle.decode.specs.Ends.{Stands}
use Rattle.decode.specs.Extract.{data_in}
use Rattle.decode.proofs.Standing.{clear, is_written_lem, reads, small_byte, there, each_shows}

-- ---- the values of a function from a place on

abbrev pub each : (ℕ → ℕ) → ℕ → ℕ → List ℕ
each f i zero = []
each f i (suc n) = f i ∷ each f (suc i) n

pub window : (l : List ℕ) (i n : ℕ) → i + n ≤ length l → take n (drop i l) ≡ each (λ a. get_or l a 0) i n
window l i zero h = refl
window l i (suc n) h = rw (drop-cons l i 0 (omega arith)) (ap (λ (m : List ℕ). get_or l i 0 ∷ m) (window l (suc i) n (omega arith)))

-- every register of a run is named whole
abbrev clear_run : ℕ → ℕ → Bool
clear_run i zero = true
clear_run i (suc n) = clear i 0 8 && clear_run (suc i) n

twelve : (m : Matrix) → Shaped m → length m.coefficients ≡ 12
twelve m (inl e) = rw e
twelve m (inr f) = f.twelve

abbrev double : ℕ → ℕ
double zero = zero
double (suc n) = suc (suc (double n))

-- coefficients whose rows an image of bytes shows
rows_read : (image k : List ℕ) (a i n : ℕ) → ((j : ℕ) → j < double n → get_or image (a + j) 0 < 256)
    → ((j : ℕ) → get_or k j 0 < 8192) → Each (Shows image) (coefficient_places a k i n)
    → fields (each (λ b. get_or image b 0) a (double n)) ≡ each (λ j. get_or k j 0) i n
unfolding fields
rows_read image k a i zero b s e = refl
rows_read image k a i (suc n) b s e =
    let high : get_or image a 0 / 1 % 32 ≡ get_or k i 0 / 256 = e.0 in
    let low : get_or image (suc a) 0 / 1 % 256 ≡ get_or k i 0 % 256 = rw (add-one a) at e.1.0 in
    let c : get_or k i 0 < 8192 = s i in
    let byte : get_or image (suc a) 0 < 256 = rw (add-one a) at (b 1 (omega arith)) in
    let bytes : (j : ℕ) → j < double n → get_or image (suc (suc a) + j) 0 < 256 = λ j h.
    let same : a + suc (suc j) ≡ suc (suc a) + j = omega arith in rw same at (b (suc (suc j)) (omega arith)) in
    ap₂ (λ (c : ℕ) (l : List ℕ). c ∷ l) (omega arith) (rows_read image k (suc (suc a)) (suc i) n bytes s (rw (add-two a) at e.1.1))

module _ (r : Request) (image : List ℕ) (long : length image ≡ 256) (g : Fits r) (st : Stands r image) where
  bytes_read : (i n : ℕ) → i + n ≤ 256 → clear_run i n ≡ true → each (λ a. get_or image a 0) i n ≡ each (wanted r) i n
  bytes_read i zero h t = refl
  bytes_read i (suc n) h t =
      let now : clear i 0 8 ≡ true = both_left _ (clear_run (suc i) n) t in
      let e = reads r image st i 0 8 (omega arith) now in
      let b : get_or image i 0 < 256 = small_byte r image st i (omega arith) (is_written_lem i 0 8 now) in
      let w : wanted r i < 256 = byte_wanted r g i (omega arith) in
      ap₂ (λ (x : ℕ) (l : List ℕ). x ∷ l) (omega arith) (bytes_read (suc i) n (omega arith) (both_right (clear i 0 8) _ t))

  -- the two InfoFrames but for their types
  frames_wanted : each (wanted r) 0x52 16 ++ each (wanted r) 0x70 13 ≡ drop 1 (avi_frame r.video) ++ drop 1 (audio_packet r.sound)
  unfolding wanted avi_frame
  frames_wanted = sym (ap (map (λ (w : Write). w.value)) (frames_made r (pair_for r) g.video))

  -- ---- AVI: the checksum and the data bytes

  avi_run : each (λ a. get_or image a 0) 0x54 14 ≡ drop 3 (avi_frame r.video)
  unfolding is_written decided class_at avi_frame
  avi_run = bytes_read 0x54 14 (lit≤ tt) refl ∙ ap (λ (l : List ℕ). take 14 (drop 2 l)) frames_wanted

  pub avi_in_lem : drop 2 (registers_of avi image) ≡ drop 3 (avi_frame r.video)
  avi_in_lem = ap (drop 2) (window image avi.first avi.count (omega arith)) ∙ avi_run

  pub avi_data : data_in image ≡ avi_payload r.video
  unfolding avi_frame
  avi_data = window image 0x55 13 (omega arith) ∙ ap (drop 1) avi_run

  -- ---- audio: the reserved bytes are mandated, 0

  reserved : each (λ a. get_or image a 0) 0x78 5 ≡ 0 ∷ 0 ∷ 0 ∷ 0 ∷ 0 ∷ []
  unfolding is_written byte class_at merge
  reserved =
      let zero_at : (a : ℕ) → get_or image a 0 ≡ 0 → get_or image a 0 ≡ 0 = λ a e. e in
      rw (
        zero_at 0x78 (sym (there r image st 0x78 (lit< tt) refl)),
        zero_at 0x79 (sym (there r image st 0x79 (lit< tt) refl)),
        zero_at 0x7A (sym (there r image st 0x7A (lit< tt) refl)),
        zero_at 0x7B (sym (there r image st 0x7B (lit< tt) refl)),
        zero_at 0x7C (sym (there r image st 0x7C (lit< tt) refl)),
      )

  pub audio_in_lem : drop 2 (registers_of audio image) ≡ drop 3 (audio_packet r.sound)
  unfolding is_written decided class_at avi_frame
  audio_in_lem =
      ap (drop 2) (window image audio.first audio.count (omega arith))
      ∙ ap₂ (λ (l m : List ℕ). l ++ m) (bytes_read 0x72 6 (lit≤ tt) refl ∙ ap (λ (l : List ℕ). take 6 (drop 18 l)) frames_wanted) reserved

  -- ---- the twelve coefficients

  bytes_there : (j : ℕ) → j < 24 → get_or image (0x18 + j) 0 < 256
  unfolding is_written
  bytes_there j h = small_byte r image st (0x18 + j) (omega arith) (at_below (λ j. is_written (0x18 + j)) 24 j refl h)

  pub matrix_in_lem : fields (registers_of matrix image) ≡ r.matrix.coefficients
  matrix_in_lem =
      let k : List ℕ = r.matrix.coefficients in
      let at = picked (Shows image) (places r (pair_for r)) (each_shows r image st g) in
      let e : Each (Shows image) (coefficient_places 0x18 k 0 12) =
      at 0x18 4 refl ▸ at 0x19 7 refl ▸ at 0x1A 4 refl ▸ at 0x1B 7 refl ▸ at 0x1C 4 refl ▸ at 0x1D 7 refl ▸ at 0x1E 4 refl ▸ at 0x1F 7 refl ▸
      at 0x20 4 refl ▸ at 0x21 7 refl ▸ at 0x22 4 refl ▸ at 0x23 7 refl ▸ at 0x24 4 refl ▸ at 0x25 7 refl ▸ at 0x26 4 refl ▸ at 0x27 7 refl ▸
      at 0x28 4 refl ▸ at 0x29 7 refl ▸ at 0x2A 4 refl ▸ at 0x2B 7 refl ▸ at 0x2C 4 refl ▸ at 0x2D 7 refl ▸ at 0x2E 4 refl ▸ at 0x2F 7 refl ▸ tt in
      ap fields (window image 0x18 24 (omega arith)) ∙ rows_read image k 0x18 0 12 bytes_there (coefficients_small r.matrix g.matrix) e
      ∙ sym (window k 0 12 (omega (arith, twelve r.matrix g.matrix))) ∙ take_all 12 k (omega (arith, twelve r.matrix g.matrix))
