-- Documents 01, "The request", "Refusal numbers" and "Modes and clocks", and 02, requests 01, 02, 06, 10 and 11, in bare numbers: for each byte of
-- a request, whatever else is asked, what is answered for each of its values. But for `read_of` and `ncts_of`, of which it speaks, the file has numbers alone.
use Rattle.std.specs.Prelude.{◌≡◌, ◌≢◌, Bool, true, false, cond, not, ◌&&◌, ◌||◌, List, [], ◌∷◌, ◌++◌, ℕ, ◌+◌, ◌*◌, ◌<◌, eqb, get_or, length, take, drop}
use Rattle.lists.specs.Among.{among}
use Rattle.lists.specs.Find.{every}
use Rattle.matrix.specs.Matrix.{Bytes}
use Rattle.sound.specs.declared.Sound.TheVariants.{Off, On}
use Rattle.wiring.specs.declared.Wiring.TheVariants.{Board, Four, Twelve}
use Rattle.request.specs.Read.{read_of, ncts_of}

-- each of some bytes stands in its row
abbrev pub in_theirs : List (List ℕ) → List ℕ → Bool
in_theirs (row ∷ rows) (byte ∷ bytes) = among byte row && in_theirs rows bytes
in_theirs (row ∷ rows) [] = true
in_theirs [] bytes = true

-- they do in none of some tables
abbrev pub in_none : List (List (List ℕ)) → List ℕ → Bool
in_none tables bytes = every (λ rows. not (in_theirs rows bytes)) tables

-- ---- 4: the VICs of family 0, and of family 1; there is no other family
abbrev pub vics : ℕ → List ℕ
vics family =
    get_or ((1 ∷ 2 ∷ 3 ∷ 4 ∷ 5 ∷ 16 ∷ 17 ∷ 18 ∷ 19 ∷ 20 ∷ 31 ∷ 32 ∷ 34 ∷ 60 ∷ 62 ∷ []) ∷
    (1 ∷ 2 ∷ 3 ∷ 4 ∷ 5 ∷ 16 ∷ 32 ∷ 34 ∷ 60 ∷ 62 ∷ []) ∷ []) family []

-- ---- 5: what is drawn of a wiring, in rows: the count, the input ID, the depth, the style, the justification; and the high byte of each sync
-- value, whatever its low byte is
abbrev pub drawn : List (List (List ℕ))
drawn =
    ((0 ∷ []) ∷ []) ∷
    ((4 ∷ []) ∷ (1 ∷ 6 ∷ []) ∷ (1 ∷ 2 ∷ 3 ∷ []) ∷ (1 ∷ 2 ∷ 3 ∷ []) ∷ (0 ∷ 1 ∷ 2 ∷ []) ∷ []) ∷
    ((4 ∷ []) ∷ (3 ∷ 7 ∷ []) ∷ (1 ∷ 2 ∷ 3 ∷ []) ∷ (1 ∷ 2 ∷ []) ∷ (0 ∷ 1 ∷ 2 ∷ []) ∷ []) ∷
    ((4 ∷ []) ∷ (5 ∷ []) ∷ (1 ∷ 2 ∷ 3 ∷ []) ∷ (1 ∷ 2 ∷ 3 ∷ []) ∷ (0 ∷ []) ∷ []) ∷
    ((12 ∷ []) ∷ (2 ∷ []) ∷ (1 ∷ 2 ∷ 3 ∷ []) ∷ (1 ∷ 2 ∷ 3 ∷ []) ∷ (0 ∷ 1 ∷ 2 ∷ []) ∷ []) ∷
    ((12 ∷ []) ∷ (4 ∷ 8 ∷ []) ∷ (1 ∷ 2 ∷ 3 ∷ []) ∷ (1 ∷ 2 ∷ []) ∷ (0 ∷ 1 ∷ 2 ∷ []) ∷ []) ∷ []

abbrev pub syncs_inside : List ℕ → Bool
syncs_inside [] = true
syncs_inside (high ∷ []) = true
syncs_inside (high ∷ low ∷ more) = among high (0 ∷ 1 ∷ 2 ∷ 3 ∷ []) && syncs_inside more

abbrev pub wiring_inside : List ℕ → Bool
wiring_inside wiring = not (in_none drawn (length wiring ∷ take 4 wiring)) && syncs_inside (drop 4 wiring)

-- the depth byte; the edition byte, D and E with any of its bits, and E's bits under D
abbrev pub depth_bytes : List ℕ
depth_bytes = 0x00 ∷ 0x01 ∷ 0x02 ∷ 0x10 ∷ 0x11 ∷ 0x12 ∷ 0x20 ∷ 0x21 ∷ 0x22 ∷ []

abbrev pub edition_bytes : List ℕ
edition_bytes = 0x00 ∷ 0x01 ∷ 0x05 ∷ 0x11 ∷ 0x15 ∷ 0x21 ∷ 0x25 ∷ 0x31 ∷ 0x35 ∷ []

abbrev pub bits_under_d : List ℕ
bits_under_d = 0x04 ∷ 0x10 ∷ 0x14 ∷ 0x20 ∷ 0x24 ∷ 0x30 ∷ 0x34 ∷ []

-- a row for each byte: encoding, link, range, depth byte, edition byte; rate, channels, coherent
abbrev pub video_bytes : List (List ℕ)
video_bytes = (0 ∷ 1 ∷ 2 ∷ []) ∷ (0 ∷ 1 ∷ []) ∷ (0 ∷ 1 ∷ []) ∷ depth_bytes ∷ (edition_bytes ++ bits_under_d) ∷ []

abbrev pub sound_bytes : List (List ℕ)
sound_bytes = (0 ∷ 1 ∷ 2 ∷ 3 ∷ 4 ∷ 5 ∷ 6 ∷ []) ∷ (2 ∷ 8 ∷ []) ∷ (0 ∷ 1 ∷ []) ∷ []

-- the matrix' mode; the high byte of each coefficient, whatever its low byte is
abbrev pub mode_bytes : List ℕ
mode_bytes = 0 ∷ 1 ∷ 2 ∷ []

abbrev pub high_bytes : List ℕ
high_bytes =
    0x00 ∷ 0x01 ∷ 0x02 ∷ 0x03 ∷ 0x04 ∷ 0x05 ∷ 0x06 ∷ 0x07 ∷ 0x08 ∷ 0x09 ∷ 0x0A ∷ 0x0B ∷ 0x0C ∷ 0x0D ∷ 0x0E ∷ 0x0F ∷
    0xF0 ∷ 0xF1 ∷ 0xF2 ∷ 0xF3 ∷ 0xF4 ∷ 0xF5 ∷ 0xF6 ∷ 0xF7 ∷ 0xF8 ∷ 0xF9 ∷ 0xFA ∷ 0xFB ∷ 0xFC ∷ 0xFD ∷ 0xFE ∷ 0xFF ∷ []

abbrev pub high_inside : List ℕ → Bool
high_inside [] = true
high_inside (high ∷ []) = true
high_inside (high ∷ low ∷ more) = among high high_bytes && high_inside more

abbrev pub matrix_inside : List ℕ → Bool
matrix_inside [] = true
matrix_inside (mode ∷ coefficients) = among mode mode_bytes && high_inside coefficients

-- ---- 6: what goes together, in rows: encoding, link, range, depth byte, edition byte, the count of the sound; and input ID,
-- encoding, count of the matrix: IDs 0 and 5 are RGB, the others YCbCr
abbrev pub together : List (List (List ℕ))
together =
    ((0 ∷ []) ∷ (1 ∷ []) ∷ (0 ∷ 1 ∷ []) ∷ depth_bytes ∷ edition_bytes ∷ (0 ∷ 3 ∷ []) ∷ []) ∷
    ((0 ∷ []) ∷ (0 ∷ []) ∷ (0 ∷ 1 ∷ []) ∷ (0x00 ∷ 0x10 ∷ 0x20 ∷ []) ∷ edition_bytes ∷ (0 ∷ []) ∷ []) ∷
    ((1 ∷ []) ∷ (1 ∷ []) ∷ (0 ∷ []) ∷ (0x00 ∷ 0x10 ∷ 0x20 ∷ []) ∷ edition_bytes ∷ (0 ∷ 3 ∷ []) ∷ []) ∷
    ((2 ∷ []) ∷ (1 ∷ []) ∷ (0 ∷ []) ∷ depth_bytes ∷ edition_bytes ∷ (0 ∷ 3 ∷ []) ∷ []) ∷ []

abbrev pub colour_rows : List (List (List ℕ))
colour_rows =
    ((0 ∷ 5 ∷ []) ∷ (0 ∷ []) ∷ (0 ∷ 25 ∷ []) ∷ []) ∷
    ((0 ∷ 5 ∷ []) ∷ (1 ∷ 2 ∷ []) ∷ (25 ∷ []) ∷ []) ∷
    ((1 ∷ 2 ∷ 3 ∷ 4 ∷ 6 ∷ 7 ∷ 8 ∷ []) ∷ (0 ∷ []) ∷ (25 ∷ []) ∷ []) ∷
    ((1 ∷ 2 ∷ 3 ∷ 4 ∷ 6 ∷ 7 ∷ 8 ∷ []) ∷ (1 ∷ 2 ∷ []) ∷ (0 ∷ 25 ∷ []) ∷ []) ∷ []

-- ---- 17: VIC and depth byte
abbrev pub too_fast : List (List (List ℕ))
too_fast =
    ((16 ∷ 31 ∷ []) ∷ (0x10 ∷ 0x11 ∷ 0x12 ∷ 0x20 ∷ 0x21 ∷ 0x22 ∷ []) ∷ []) ∷
    ((4 ∷ 5 ∷ 19 ∷ 20 ∷ 32 ∷ 34 ∷ 60 ∷ 62 ∷ []) ∷ (0x20 ∷ 0x21 ∷ 0x22 ∷ []) ∷ []) ∷ []

-- ---- 20: channels, rate, VIC and depth byte. Two channels always fit
abbrev pub will_not_fit : List (List (List ℕ))
will_not_fit =
    ((8 ∷ []) ∷ (3 ∷ 4 ∷ 5 ∷ 6 ∷ []) ∷ (1 ∷ 2 ∷ 3 ∷ 17 ∷ 18 ∷ []) ∷ (0x00 ∷ 0x01 ∷ 0x02 ∷ []) ∷ []) ∷
    ((8 ∷ []) ∷ (6 ∷ []) ∷ (2 ∷ 3 ∷ 17 ∷ 18 ∷ []) ∷ (0x10 ∷ 0x11 ∷ 0x12 ∷ []) ∷ []) ∷ []

-- ---- 9: VIC, family, depth byte, rate, of sound that is coherent
abbrev pub without_pair : List (List (List ℕ))
without_pair =
    ((4 ∷ 5 ∷ 32 ∷ 34 ∷ 62 ∷ []) ∷ (1 ∷ []) ∷ (0x00 ∷ 0x12 ∷ []) ∷ (0 ∷ []) ∷ []) ∷
    ((4 ∷ 5 ∷ 32 ∷ 34 ∷ 62 ∷ []) ∷ (1 ∷ []) ∷ (0x01 ∷ 0x02 ∷ 0x11 ∷ []) ∷ (0 ∷ 1 ∷ 2 ∷ 3 ∷ 4 ∷ 5 ∷ 6 ∷ []) ∷ []) ∷
    ((16 ∷ []) ∷ (1 ∷ []) ∷ (0x01 ∷ []) ∷ (0 ∷ 1 ∷ 2 ∷ 3 ∷ 4 ∷ 5 ∷ 6 ∷ []) ∷ []) ∷
    ((16 ∷ []) ∷ (1 ∷ []) ∷ (0x02 ∷ []) ∷ (0 ∷ []) ∷ []) ∷
    ((1 ∷ 60 ∷ []) ∷ (1 ∷ []) ∷ (0x01 ∷ []) ∷ (0 ∷ []) ∷ []) ∷
    ((2 ∷ 3 ∷ []) ∷ (0 ∷ []) ∷ (0x01 ∷ []) ∷ (0 ∷ []) ∷ []) ∷ []

-- a section: its count, its bytes, and what follows
abbrev pub counted : List ℕ → List ℕ → List ℕ
counted body rest = length body ∷ (body ++ rest)

-- a request, byte by byte, and what is answered for it: by reading 4, 5, 6, 17, 20 or none; where that is none, by N and CTS 9 or none
module _ (wiring : List ℕ) (vic family encoding link range pixel edition : ℕ) (sound matrix : List ℕ) where
  abbrev pub bytes_of : List ℕ
  bytes_of =
      counted wiring (7 ∷ vic ∷ family ∷ encoding ∷ link ∷ range ∷ pixel ∷ edition ∷ length sound ∷ (sound ++ (length matrix ∷ matrix)))

  abbrev pub inside_to : Bool
  inside_to =
      wiring_inside wiring
      && (in_theirs video_bytes (encoding ∷ link ∷ range ∷ pixel ∷ edition ∷ []) && (in_theirs sound_bytes sound && matrix_inside matrix))

  abbrev pub apart_to : Bool
  apart_to =
      in_none colour_rows (get_or wiring 0 0 ∷ encoding ∷ length matrix ∷ [])
      || in_none together (encoding ∷ link ∷ range ∷ pixel ∷ edition ∷ length sound ∷ [])

  abbrev pub answer_to : ℕ
  answer_to =
      cond (not (among vic (vics family))) 4
      (cond (not inside_to) 5
      (cond apart_to 6
      (cond (not (in_none too_fast (vic ∷ pixel ∷ []))) 17
      (cond (not (in_none will_not_fit (get_or sound 1 0 ∷ get_or sound 0 0 ∷ vic ∷ pixel ∷ []))) 20 0))))

  abbrev pub pair_to : ℕ
  pair_to = cond (eqb (get_or sound 2 0) 1 && not (in_none without_pair (vic ∷ family ∷ pixel ∷ get_or sound 0 0 ∷ []))) 9 0

  -- two bytes of the wiring, high byte first
  abbrev pub two_at : ℕ → ℕ
  two_at i = get_or wiring i 0 * 256 + get_or wiring (i + 1) 0

  pub record Answers : Type 0 where
    pub read : (read_of bytes_of).refusal ≡ answer_to
    pub pair : answer_to ≡ 0 → (ncts_of bytes_of).refusal ≡ pair_to
    -- and what is read: each byte at its place
    pub board : answer_to ≡ 0 → length wiring ≡ 0 → (read_of bytes_of).request.wiring ≡ Board
    pub four : answer_to ≡ 0 → length wiring ≡ 4
        → (read_of bytes_of).request.wiring ≡ Four (get_or wiring 0 0) (get_or wiring 1 0) (get_or wiring 2 0) (get_or wiring 3 0)
    pub twelve : answer_to ≡ 0 → length wiring ≡ 12
        → (read_of bytes_of).request.wiring
        ≡ Twelve (get_or wiring 0 0) (get_or wiring 1 0) (get_or wiring 2 0) (get_or wiring 3 0) (two_at 4) (two_at 6) (two_at 8) (two_at 10)
    pub video : answer_to ≡ 0
        → (read_of bytes_of).request.video
        ≡ record { vic = vic; family = family; encoding = encoding; link = link; range = range; pixel = pixel; edition = edition }
    pub silent : answer_to ≡ 0 → length sound ≡ 0 → (read_of bytes_of).request.sound ≡ Off
    pub sounding : answer_to ≡ 0 → length sound ≡ 3 → (read_of bytes_of).request.sound ≡ On (get_or sound 0 0) (get_or sound 1 0) (get_or sound 2 0)

-- the counts that the sections but the video section allow
abbrev pub of_wiring : List ℕ → Type 0
of_wiring body = among (length body) (0 ∷ 4 ∷ 12 ∷ []) ≡ true

abbrev pub of_sound : List ℕ → Type 0
of_sound body = among (length body) (0 ∷ 3 ∷ []) ≡ true

abbrev pub of_matrix : List ℕ → Type 0
of_matrix body = among (length body) (0 ∷ 25 ∷ []) ≡ true

pub record EachByte : Type 0 where
  -- the four or twelve bytes of the wiring or none, the seven of the video section, the three of the sound or none, the 25 of the matrix or none
  pub bytes : (wiring : List ℕ) (vic family encoding link range pixel edition : ℕ) (sound matrix : List ℕ)
      → Bytes wiring → Bytes (vic ∷ family ∷ encoding ∷ link ∷ range ∷ pixel ∷ edition ∷ []) → Bytes sound → Bytes matrix
      → of_wiring wiring → of_sound sound → of_matrix matrix
      → Answers wiring vic family encoding link range pixel edition sound matrix
  -- the four counts, whatever follows: 0, 4 or 12; 7; 0 or 3; 0 or 25
  pub wiring_count : (n : ℕ) (rest : List ℕ) → among n (0 ∷ 4 ∷ 12 ∷ []) ≡ false → (read_of (n ∷ rest)).refusal ≡ 2
  pub video_count : (wiring : List ℕ) (n : ℕ) (rest : List ℕ) → of_wiring wiring → n ≢ 7 → (read_of (counted wiring (n ∷ rest))).refusal ≡ 2
  pub sound_count : (wiring video : List ℕ) (n : ℕ) (rest : List ℕ) → of_wiring wiring → length video ≡ 7 → among n (0 ∷ 3 ∷ []) ≡ false
      → (read_of (counted wiring (counted video (n ∷ rest)))).refusal ≡ 2
  pub matrix_count : (wiring video sound : List ℕ) (n : ℕ) (rest : List ℕ) → of_wiring wiring → length video ≡ 7 → of_sound sound
      → among n (0 ∷ 25 ∷ []) ≡ false → (read_of (counted wiring (counted video (counted sound (n ∷ rest))))).refusal ≡ 2
  -- an input that ends before a count, or inside a section
  pub no_wiring : (read_of []).refusal ≡ 1
  pub in_wiring : (n : ℕ) (rest : List ℕ) → among n (4 ∷ 12 ∷ []) ≡ true → length rest < n → (read_of (n ∷ rest)).refusal ≡ 1
  pub no_video : (wiring : List ℕ) → of_wiring wiring → (read_of (counted wiring [])).refusal ≡ 1
  pub in_video : (wiring rest : List ℕ) → of_wiring wiring → length rest < 7 → (read_of (counted wiring (7 ∷ rest))).refusal ≡ 1
  pub no_sound : (wiring video : List ℕ) → of_wiring wiring → length video ≡ 7 → (read_of (counted wiring (counted video []))).refusal ≡ 1
  pub in_sound : (wiring video rest : List ℕ) → of_wiring wiring → length video ≡ 7 → length rest < 3
      → (read_of (counted wiring (counted video (3 ∷ rest)))).refusal ≡ 1
  pub no_matrix : (wiring video sound : List ℕ) → of_wiring wiring → length video ≡ 7 → of_sound sound
      → (read_of (counted wiring (counted video (counted sound [])))).refusal ≡ 1
  pub in_matrix : (wiring video sound rest : List ℕ) → of_wiring wiring → length video ≡ 7 → of_sound sound → length rest < 25
      → (read_of (counted wiring (counted video (counted sound (25 ∷ rest))))).refusal ≡ 1
  -- a byte after the matrix
  pub after : (wiring video sound matrix : List ℕ) (byte : ℕ) (rest : List ℕ) → of_wiring wiring → length video ≡ 7 → of_sound sound → of_matrix matrix
      → (read_of (counted wiring (counted video (counted sound (counted matrix (byte ∷ rest)))))).refusal ≡ 3
