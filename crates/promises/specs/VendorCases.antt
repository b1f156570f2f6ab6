-- Document 02, requests 03 and 04, in bare numbers: some lists that a vendor might bring, and what is answered for each.
use Rattle.std.specs.Prelude.{◌≡◌, Bool, true, false, ◌&&◌, List, [], ◌∷◌, ℕ, eqb, replicate, set}
use Rattle.lists.specs.Find.{every}
use Rattle.chip.specs.Write.{lent_as}
use Rattle.vendor.specs.Numbered.{Verdict}
use Rattle.vendor.specs.Found.{vet_of}

-- the registers, the two buffers, whether a matrix change waits, and the list; what is answered
pub record Case : Type 0 where
  pub image : List ℕ
  pub packet : List ℕ
  pub coefficients : List ℕ
  pub waiting : Bool
  pub list : List ℕ
  pub refusal : ℕ
  pub place : ℕ

abbrev pub vendor_zeros : List ℕ
vendor_zeros = replicate 256 0

-- on registers and buffers of zeros, in which no request ends and the picture is neither muted nor open; no change waits
abbrev pub answers : List ℕ → ℕ → ℕ → Case
answers list refusal place = record {
  image = vendor_zeros;
  packet = replicate 32 0;
  coefficients = replicate 24 0;
  waiting = false;
  list = list;
  refusal = refusal;
  place = place;
}

abbrev pub on_image : List ℕ → Case → Case
on_image image c = record {
  image = image;
  packet = c.packet;
  coefficients = c.coefficients;
  waiting = c.waiting;
  list = c.list;
  refusal = c.refusal;
  place = c.place;
}

abbrev pub with_packet : List ℕ → Case → Case
with_packet packet c = record {
  image = c.image;
  packet = packet;
  coefficients = c.coefficients;
  waiting = c.waiting;
  list = c.list;
  refusal = c.refusal;
  place = c.place;
}

-- a change waits: in use is A1 of the buffer, 7, and all zeros stand in the registers
abbrev pub waiting_seven : Case → Case
waiting_seven c = record {
  image = c.image;
  packet = c.packet;
  coefficients = 0x00 ∷ 0x07 ∷ replicate 22 0;
  waiting = true;
  list = c.list;
  refusal = c.refusal;
  place = c.place;
}

abbrev pub cases : List Case
cases =
    -- nothing bad, and a bad end: the empty list; one pair, which has no cut; mute and open; a reserved register of a packet
    answers [] 16 0 ∷
    answers (0x4B ∷ 0x80 ∷ []) 16 0 ∷
    answers (0x4B ∷ 0x40 ∷ 0x4B ∷ 0x80 ∷ []) 16 0 ∷
    answers (0x4B ∷ 0x40 ∷ 0x78 ∷ 0x00 ∷ 0x4B ∷ 0x80 ∷ []) 16 0 ∷
    -- "7 and 8", "14 an odd length or too many pairs", "15", "in that order"
    on_image (replicate 255 0) (answers (0x4B ∷ []) 7 0) ∷
    on_image (set vendor_zeros 0x4A 0x60) (answers (0x4B ∷ []) 8 0) ∷
    on_image (set vendor_zeros 0x4A 0x10) (answers (0x4B ∷ []) 8 0) ∷
    answers (0x35 ∷ []) 14 0 ∷
    answers (replicate 1026 0) 14 0 ∷
    answers (replicate 1024 0) 15 0 ∷
    -- a register of no list; a mandated bit of 0x98, which is 0x03; a free bit of 0x4B, and the GC hold
    answers (0x4B ∷ 0x40 ∷ 0x35 ∷ 0x00 ∷ 0x4B ∷ 0x80 ∷ []) 15 1 ∷
    answers (0x4B ∷ 0x40 ∷ 0x98 ∷ 0x00 ∷ 0x98 ∷ 0x03 ∷ 0x4B ∷ 0x80 ∷ []) 15 1 ∷
    answers (0x4B ∷ 0x40 ∷ 0x4B ∷ 0x41 ∷ 0x4B ∷ 0x80 ∷ []) 15 1 ∷
    answers (0x4B ∷ 0x40 ∷ 0x4A ∷ 0x10 ∷ 0x4B ∷ 0x80 ∷ []) 15 1 ∷
    -- read-only bits of a value are not looked at
    on_image (set vendor_zeros 0x4C 0xF0) (answers (0x4B ∷ 0x40 ∷ 0x4C ∷ 0x05 ∷ 0x4B ∷ 0x80 ∷ []) 16 0) ∷
    -- not muted at the cut after pair 0, neither or open: the pair before the cut is bad
    answers (0x01 ∷ 0x00 ∷ 0x4B ∷ 0x80 ∷ []) 15 0 ∷
    answers (0x4B ∷ 0x80 ∷ 0x4B ∷ 0x80 ∷ []) 15 0 ∷
    -- AVI half new: 0x55, and later 0x56
    answers (0x4B ∷ 0x40 ∷ 0x55 ∷ 0x01 ∷ 0x56 ∷ 0x02 ∷ 0x4B ∷ 0x80 ∷ []) 15 1 ∷
    -- new, old and new again: each cut is looked at by itself
    answers (0x4B ∷ 0x40 ∷ 0x55 ∷ 0x01 ∷ 0x55 ∷ 0x00 ∷ 0x55 ∷ 0x01 ∷ 0x4B ∷ 0x80 ∷ []) 16 0 ∷
    -- half new, with a bad pair between, which does not stop the run
    answers (0x4B ∷ 0x40 ∷ 0x55 ∷ 0x01 ∷ 0x98 ∷ 0x00 ∷ 0x56 ∷ 0x02 ∷ 0x4B ∷ 0x80 ∷ []) 15 1 ∷
    -- and with a pair between that would leave two packet holds up: "the list ends before it", with 0x55 new
    answers (0x4B ∷ 0x40 ∷ 0x55 ∷ 0x01 ∷ 0x4A ∷ 0x20 ∷ 0x4A ∷ 0x60 ∷ 0x56 ∷ 0x02 ∷ []) 15 3 ∷
    -- that end is no cut that must be muted
    answers (0x4A ∷ 0x40 ∷ 0x4A ∷ 0x60 ∷ []) 15 1 ∷
    -- audio, and the coefficients, likewise; with the hold up neither moves, and the mode in 0x18[7:5] is no coefficient
    answers (0x4B ∷ 0x40 ∷ 0x73 ∷ 0x01 ∷ 0x74 ∷ 0x02 ∷ 0x4B ∷ 0x80 ∷ []) 15 1 ∷
    answers (0x4B ∷ 0x40 ∷ 0x19 ∷ 0x01 ∷ 0x1B ∷ 0x02 ∷ 0x4B ∷ 0x80 ∷ []) 15 1 ∷
    answers (0x4B ∷ 0x40 ∷ 0x1A ∷ 0x20 ∷ 0x19 ∷ 0x01 ∷ 0x1B ∷ 0x02 ∷ 0x1A ∷ 0x00 ∷ 0x4B ∷ 0x80 ∷ []) 16 0 ∷
    answers (0x4B ∷ 0x40 ∷ 0x18 ∷ 0x20 ∷ 0x18 ∷ 0x40 ∷ 0x98 ∷ 0x00 ∷ 0x4B ∷ 0x80 ∷ []) 15 3 ∷
    -- "as it began": what is in use, from the buffer where the AVI hold is up; so lowering it before the registers are written tears AVI
    with_packet (0x07 ∷ replicate 31 0) (on_image (set vendor_zeros 0x4A 0x40)
    (answers (0x4B ∷ 0x40 ∷ 0x4A ∷ 0x00 ∷ 0x55 ∷ 0x01 ∷ 0x4B ∷ 0x80 ∷ []) 15 1)) ∷
    -- request 04: the hold dropped at the third byte only waits, and the event comes later, just before the last pair
    answers (0x4B ∷ 0x40 ∷ 0x1A ∷ 0x20 ∷ 0x19 ∷ 0x01 ∷ 0x1A ∷ 0x00 ∷ 0x1B ∷ 0x02 ∷ 0x4B ∷ 0x80 ∷ []) 16 0 ∷
    -- the state between the event and the last pair is looked at: A1 new and A2 to come; and before the new last pair of a list that ends
    -- early
    answers (0x4B ∷ 0x40 ∷ 0x1A ∷ 0x20 ∷ 0x19 ∷ 0x01 ∷ 0x1A ∷ 0x00 ∷ 0x1B ∷ 0x02 ∷ []) 15 3 ∷
    answers (0x4B ∷ 0x40 ∷ 0x1A ∷ 0x20 ∷ 0x19 ∷ 0x01 ∷ 0x1A ∷ 0x00 ∷ 0x1B ∷ 0x02 ∷ 0x4A ∷ 0x60 ∷ 0x4B ∷ 0x80 ∷ []) 15 3 ∷
    -- a change that waits at the start: what is written acts at the event alone; of one pair no cut is looked at; a rise in the wait copies
    -- nothing, and the hold then keeps what was in use
    waiting_seven (answers (0x4B ∷ 0x40 ∷ 0x19 ∷ 0x01 ∷ 0x1B ∷ 0x02 ∷ 0x4B ∷ 0x80 ∷ []) 16 0) ∷
    waiting_seven (answers (0x19 ∷ 0x01 ∷ []) 16 0) ∷
    waiting_seven (answers (0x4B ∷ 0x40 ∷ 0x1A ∷ 0x20 ∷ 0x19 ∷ 0x01 ∷ 0x1B ∷ 0x02 ∷ 0x1A ∷ 0x00 ∷ 0x4B ∷ 0x80 ∷ []) 16 0) ∷
    -- the Vsync before the last pair takes the registers as they then stand, which is neither as the list began nor as it ends
    waiting_seven (answers (0x4B ∷ 0x40 ∷ 0x19 ∷ 0x01 ∷ []) 15 0) ∷
    -- a mark beside a raised hold counts for nothing: the event leaves it
    on_image (set vendor_zeros 0x1A 0x20) (waiting_seven (answers (0x4B ∷ 0x40 ∷ 0x19 ∷ 0x01 ∷ 0x1B ∷ 0x02 ∷ 0x4B ∷ 0x80 ∷ []) 16 0)) ∷ []

abbrev pub right : Case → Bool
right c =
    let v : Verdict = vet_of (lent_as c.image c.packet c.coefficients c.waiting) c.list in
    eqb v.refusal c.refusal && eqb v.place c.place

abbrev pub VendorCases : Type 0
VendorCases = every right cases ≡ true
