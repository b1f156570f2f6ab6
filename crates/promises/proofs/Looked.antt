-- Images that agree at the registers that a list writes are the same to planning and to decoding. Assumes nothing.
use mathlib.Core.Path.{◌≡◌, refl, sym, ap, ap₂, ◌∙◌}
use mathlib.Core.Bool.{Bool, true, false, false≢true, beq, cond, ◌||◌}
use mathlib.Core.List.{List, [], ◌∷◌, ◌++◌, map}
use Prim.Native.Nat.{ℕ, ◌*◌, ◌<◌, ◌≤◌}
use lib.Dec.{eqb, ltb}
use lib.ListN.{length, take}
use borrow.Author.Tests.{eqb-true, ltb-false}
use Rattle.lists.specs.Among.{among}
use Rattle.lists.specs.Find.{every}
use Rattle.lists.specs.Those.{those}
use Rattle.lists.proofs.Both.{both_left, both_right, beq_true}
use Rattle.bits.proofs.Below.{at_below}
use Rattle.refusals.specs.Tests.{answer}
use Rattle.chip.specs.declared.Chip.{Chip}
use Rattle.chip.specs.Machine.{audio, packets, up, holds_of}
use Rattle.request.specs.declared.Request.{Request}
use Rattle.request.specs.Read.{read_of}
use Rattle.request.specs.Sections.{longest}
use Rattle.request.specs.Bytes.{as_bytes, request_in_family}
use Rattle.writes.specs.Steps.{Step, middle, steps}
use Rattle.writes.specs.List.{written, already_there, stays, write_list, fronted, pairs_of, is_written}
use Rattle.plan.specs.Numbered.{Planned}
use Rattle.plan.specs.Wanted.{wanted}
use Rattle.plan.specs.Plan.{later_refusal, nothing, plan_with, buffer_with, plan_of, plan_buffer}
use Rattle.writes.specs.Order.{addresses}
use Rattle.decode.specs.Ends.{Stands, Ends}
use Rattle.decode.specs.Decode.{some_ends, decode_refusal, decode_of, decoded_buffer}
use Rattle.decode.specs.Theorems.{Answered, Answer, ExactlyWhen, BitByBit}
use Rattle.promises.specs.LentBytes.{pairs_left}
use Rattle.promises.specs.AnyCut.{list_of, AnyCut}
use Rattle.promises.specs.Looked.{looked, Agree, AgreeInBits}
use Rattle.promises.proofs.AnyCut.{any_cut}

-- ---- the registers

abbrev is_row : ℕ → Bool
is_row a = beq (among a looked) (is_written a)

pub in_rows : (a : ℕ) → a < 256 → among a looked ≡ is_written a
unfolding is_written
in_rows a h = beq_true (among a looked) (is_written a) (at_below is_row 256 a refl h)

-- ---- planning

abbrev places : List Step → Bool
places = every (λ i. is_written i.register)

all_looked : (b : Bool) → places (steps (middle b)) ≡ true
unfolding middle is_written
all_looked true = refl
all_looked false = refl

module _ (image other : List ℕ) (g : Agree image other) where
  same_holds : holds_of packets other ≡ holds_of packets image
  unfolding is_written
  same_holds = g.bytes 0x4A refl

  module _ (want : ℕ → ℕ) where
    same_write : (i : Step) → is_written i.register ≡ true → written want other i ≡ written want image i
    unfolding written
    same_write i t = rw (g.bytes i.register t)

    same_stay : (i : Step) → is_written i.register ≡ true → stays other (written want other i) ≡ stays image (written want image i)
    unfolding written already_there
    same_stay i t = rw (g.bytes i.register t)

    same_left : (is : List Step) → places is ≡ true
        → those (stays other) (map (written want other) is) ≡ those (stays image) (map (written want image) is)
    same_left [] t = refl
    same_left (i ∷ is) t =
        let h : is_written i.register ≡ true = both_left (is_written i.register) (places is) t in
        λ j. cond (same_stay i h j) (same_write i h j ∷ []) [] ++ same_left is (both_right (is_written i.register) (places is) t) j

    same_list_lem : write_list want other ≡ write_list want image
    same_list_lem =
        ap (λ (n : ℕ). those (stays other) (map (written want other) (steps (middle (up audio n))))) same_holds
        ∙ same_left (steps (middle (up audio (holds_of packets image)))) (all_looked (up audio (holds_of packets image)))

  same_refusal : (r : Request) (buffer : List ℕ) → later_refusal r other buffer ≡ later_refusal r image buffer
  unfolding later_refusal
  same_refusal r buffer = rw (g.long, same_holds)

  same_plan : (r : Request) (buffer : List ℕ) → plan_with r other buffer ≡ plan_with r image buffer
  unfolding plan_with
  same_plan r buffer =
      λ j. answer (same_refusal r buffer j) nothing (record { refusal = 0; count = length (same_list_lem (wanted r) j) })

  same_buffer : (r : Request) (buffer : List ℕ) → buffer_with r other buffer ≡ buffer_with r image buffer
  unfolding buffer_with
  same_buffer r buffer = λ j. answer (same_refusal r buffer j) (λ _. buffer) (fronted (same_list_lem (wanted r) j) buffer)

  pub planned : (input buffer : List ℕ) → plan_of input other buffer ≡ plan_of input image buffer
  unfolding plan_of
  planned input buffer = ap (λ (p : Planned). answer (read_of input).refusal nothing p) (same_plan (read_of input).request buffer)

  pub left_in : (input buffer : List ℕ) → plan_buffer input other buffer ≡ plan_buffer input image buffer
  unfolding plan_buffer
  left_in input buffer =
      ap (λ (l : List ℕ). answer (read_of input).refusal (λ _. buffer) l) (same_buffer (read_of input).request buffer)

-- the list for the registers that the chip has
pub on_chip : (input other buffer : List ℕ) (s : Chip) → Agree s.image other → (plan_of input other buffer).refusal ≡ 0
    → (pairs_left input other buffer ≡ list_of input s.image) × AnyCut input buffer s
on_chip input other buffer s g z =
    let p : plan_of input other buffer ≡ plan_of input s.image buffer = planned s.image other g input buffer in
    let a : AnyCut input buffer s = any_cut input buffer s (ap (λ (q : Planned). q.refusal) (sym p) ∙ z) in
    (ap₂ (λ (q : Planned) (l : List ℕ). pairs_of (take (2 * q.count) l)) p (left_in s.image other g input buffer) ∙ a.listed.pairs, a)

-- ---- decoding, by the theorems of its own crate

-- the other way round
turned : (image other : List ℕ) → AgreeInBits image other → AgreeInBits other image
turned image other g = record {
  long = sym g.long;
  slices = (g.slices.1, g.slices.0);
  bits = λ a j w l c. sym (g.bits a j w l c);
}

-- a register of a list is one of these
listed : (want : ℕ → ℕ) (image : List ℕ) (a : ℕ) (is : List Step) → places is ≡ true
    → among a (addresses (map (written want image) is)) ≡ true → is_written a ≡ true
unfolding written
listed want image a [] p t = absurd (false≢true t)
listed want image a (i ∷ is) p t = go (eqb a i.register) refl t (listed want image a is (both_right (is_written i.register) (places is) p))
  where
    go : (b : Bool) → eqb a i.register ≡ b → (b || among a (addresses (map (written want image) is))) ≡ true
        → (among a (addresses (map (written want image) is)) ≡ true → is_written a ≡ true) → is_written a ≡ true
    go true e t rest = ap is_written (eqb-true a i.register e) ∙ both_left (is_written i.register) (places is) p
    go false e t rest = rest t

module _ (exactly : (image buffer : List ℕ) → ExactlyWhen image buffer)
    (bitwise : (r : Request) (before image : List ℕ) → BitByBit r before image) where
  stands_too : (image other : List ℕ) → AgreeInBits image other → (r : Request) → Stands r image → Stands r other
  stands_too image other g r s =
      (bitwise r image other g.slices.1).1
      (λ a j h l w c. g.bits a j (listed (wanted r) image a (steps (middle (up audio (holds_of packets image)))) (all_looked (up audio (holds_of packets image))) w) l c
      ∙ (bitwise r image image g.slices.0).0 s a j h l w c)

  ends_too : (image other : List ℕ) → AgreeInBits image other → (r : Request) → Ends r image → Ends r other
  ends_too image other g r e = record {
    family = e.family;
    answered = e.answered;
    acceptable = e.acceptable;
    stands = stands_too image other g (request_in_family e.family r) e.stands;
  }

  abbrev SameAnswer : List ℕ → List ℕ → List ℕ → Type 0
  SameAnswer image other room = (decode_of other room ≡ decode_of image room) × (decoded_buffer other room ≡ decoded_buffer image room)

  answered_too : (image other room : List ℕ) → AgreeInBits image other → length image ≡ 256 → longest ≤ length room
      → (decode_of image room).refusal ≡ 0 → SameAnswer image other room
  answered_too image other room g l h z =
      let a : Answer image room = (exactly image room).only z in
      let b : Answered (as_bytes a.request) other room =
      (exactly other room).each (g.long ∙ l) h a.request (ends_too image other g a.request a.ends) in
      (b.counted ∙ sym a.answered.counted, b.left ∙ sym a.answered.left)

  pub decoded : (image other room : List ℕ) → AgreeInBits image other → SameAnswer image other room
  unfolding decode_of decoded_buffer decode_refusal
  decoded image other room g = go (eqb (length image) 256) refl (ltb (length room) longest) refl (some_ends image) refl (some_ends other) refl
    where
      long : eqb (length other) 256 ≡ eqb (length image) 256
      long = ap (λ (n : ℕ). eqb n 256) g.long

      go : (m : Bool) → eqb (length image) 256 ≡ m → (k : Bool) → ltb (length room) longest ≡ k
          → (p : Bool) → some_ends image ≡ p → (q : Bool) → some_ends other ≡ q → SameAnswer image other room
      go false m k h p e q f = (rw (long, m), rw (long, m))
      go true m true h p e q f = (rw (long, m, h), rw (long, m, h))
      go true m false h true e q f =
          answered_too image other room g (eqb-true _ _ m) (ltb-false _ _ h) (rw (m, h, e))
      go true m false h false e true f =
          let r : SameAnswer other image room =
          answered_too other image room (turned image other g) (g.long ∙ eqb-true _ _ m) (ltb-false _ _ h) (rw (long, m, h, f)) in
          (sym r.0, sym r.1)
      go true m false h false e false f = (rw (long, m, h, e, f), rw (long, m, h, e, f))
