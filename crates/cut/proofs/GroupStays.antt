-- When a group in use stays what it is. Assumes nothing.
use mathlib.Core.Path.{◌≡◌, refl, sym, ap, ◌∙◌}
use mathlib.Core.Bool.{false≢true, Bool, true, false, not, ◌&&◌, ◌||◌, cond}
use mathlib.Core.List.{List, [], ◌∷◌, ◌++◌}
use Prim.Native.Nat.{ℕ, ◌+◌, ◌*◌, ◌-◌, ◌^◌, ◌≤◌, ◌<◌}
use native.Mathlib.Omega.{arith}
use lib.Dec.{eqb, leb, ltb}
use lib.ListN.{length, get_or, set, take, drop, length-set, length-take, length-drop}
use lib.Seq.{get_or-set_same, get_or-set_other, take_at, take-set-le, drop-set-lt, drop-set-add}
use borrow.Author.Tests.{eqb-true, eqb-false, leb-true, ltb-true}
use Rattle.bits.specs.Merge.{bit}
use Rattle.bits.proofs.Laws.{bit_code}
use Rattle.chip.specs.declared.Chip.{Chip}
use Rattle.chip.specs.Machine.{Write, Group, Buffer, packets, converter, avi, audio, gc, matrix, up, registers_of, holds_of}
use Rattle.chip.specs.Write.{filled}
use Rattle.chip.specs.Machine.{in_use}
use Rattle.chip.specs.Write.{put}
use Rattle.cut.proofs.MovesOnlyAt.{View, Faithful}

-- a write whose byte is stored as it is
abbrev pub store : Write → Chip → Chip
store w s = put w.address w.value s

-- a byte with nothing but the holds of some groups
abbrev pub only : List Group → ℕ → ℕ
only [] n = 0
only (g ∷ gs) n = 2 ^ g.hold * bit g.hold n + only gs n

-- what a walk goes by: a buffer's holds in an image, and these after a write
abbrev pub status : Buffer → List ℕ → ℕ
status B image = only B.groups (holds_of B image)

abbrev pub next : Buffer → ℕ → Write → ℕ
next B n w = cond (eqb w.address B.register) (only B.groups w.value) n

-- each group's hold is up in both or in none
abbrev Alike : List Group → ℕ → ℕ → Type 0
Alike [] m n = Unit {0}
Alike (g ∷ gs) m n = (up g m ≡ up g n) × Alike gs m n

filled_alike : (gs : List Group) (old m n : ℕ) (image bytes : List ℕ) → Alike gs m n
    → filled gs old m image bytes ≡ filled gs old n image bytes
filled_alike [] old m n image bytes a = refl
filled_alike (g ∷ gs) old m n image bytes a = rw (a.0, filled_alike gs old m n image bytes a.1)

three_holds : (a b c : ℕ) → a < 2 → b < 2 → c < 2
    → let n : ℕ = 64 * a + (32 * b + (16 * c + 0)) in (bit 6 n ≡ a) × (bit 5 n ≡ b) × (bit 4 n ≡ c)
three_holds a b c ha hb hc = (bit_code 6 _ ∙ omega arith, bit_code 5 _ ∙ omega arith, bit_code 4 _ ∙ omega arith)

packet_holds : (n : ℕ) → let m : ℕ = only packets.groups n in (bit 6 m ≡ bit 6 n) × (bit 5 m ≡ bit 5 n) × (bit 4 m ≡ bit 4 n)
packet_holds n = three_holds (bit 6 n) (bit 5 n) (bit 4 n) (omega arith) (omega arith) (omega arith)

pub avi_same : (n : ℕ) → up avi (only packets.groups n) ≡ up avi n
avi_same n = ap (λ (b : ℕ). eqb b 1) (packet_holds n).0

pub audio_same : (n : ℕ) → up audio (only packets.groups n) ≡ up audio n
audio_same n = ap (λ (b : ℕ). eqb b 1) (packet_holds n).1

pub gc_same : (n : ℕ) → up gc (only packets.groups n) ≡ up gc n
gc_same n = ap (λ (b : ℕ). eqb b 1) (packet_holds n).2

one_hold : (a : ℕ) → a < 2 → bit 5 (32 * a + 0) ≡ a
one_hold a h = bit_code 5 _ ∙ omega arith

pub matrix_same : (n : ℕ) → up matrix (only converter.groups n) ≡ up matrix n
matrix_same n = ap (λ (b : ℕ). eqb b 1) (one_hold (bit 5 n) (omega arith))

packets_alike : (n : ℕ) → Alike packets.groups (only packets.groups n) n
packets_alike n = (avi_same n, (audio_same n, (gc_same n, tt)))

-- under which a group stays: its hold is the only one up afterwards, or is down before and after and the write is elsewhere
abbrev pub quiet : Group → ℕ → ℕ → ℕ → Bool
quiet g n n' a = cond (up g n') (eqb n' (2 ^ g.hold)) (not (up g n) && (ltb a g.first || leb (g.first + g.count) a))

abbrev pub view : Buffer → Group → View Write
view B g = record { next = next B; quiet = λ n w. quiet g n (next B n w) w.address }

abbrev pub Whole : Chip → Type 0
Whole s = length s.image ≡ 256

-- a write outside a part of a list leaves the part
outside : (l : List ℕ) (b n a v : ℕ) → (ltb a b || leb (b + n) a) ≡ true → take n (drop b (set l a v)) ≡ take n (drop b l)
outside l b n a v = go (ltb a b) refl
  where
    go : (t : Bool) → ltb a b ≡ t → (t || leb (b + n) a) ≡ true → take n (drop b (set l a v)) ≡ take n (drop b l)
    go true p q = ap (λ (r : List ℕ). take n r) (drop-set-lt b l a v (ltb-true a b p))
    go false p q =
        let h : b + n ≤ a = leb-true (b + n) a q in
        let e : a ≡ b + (a - b) = omega arith in
        ap (λ (i : ℕ). take n (drop b (set l i v))) e ∙ ap (λ (r : List ℕ). take n r) (drop-set-add b l (a - b) v)
        ∙ take-set-le n (drop b l) (a - b) v (omega arith)

pub image_store : (w : Write) (s : Chip) → (store w s).image ≡ set s.image w.address w.value
unfolding put
image_store w s = refl

pub size_store : (w : Write) (s : Chip) → Whole s → Whole (store w s)
size_store w s e = ap (λ (l : List ℕ). length l) (image_store w s) ∙ length-set s.image w.address w.value ∙ e

pub outside_part : (g : Group) (w : Write) (s : Chip) → (ltb w.address g.first || leb (g.first + g.count) w.address) ≡ true
    → registers_of g (store w s).image ≡ registers_of g s.image
outside_part g w s t = ap (λ (l : List ℕ). registers_of g l) (image_store w s)
    ∙ outside s.image g.first g.count w.address w.value t

-- a group's registers at the front of a buffer
pub part_fills : (g : Group) (image buffer : List ℕ) → length image ≡ 256 → g.first + g.count ≤ 256
    → take g.count (registers_of g image ++ buffer) ≡ registers_of g image
part_fills g image buffer e h = take_at (registers_of g image) buffer g.count (simp (length-take, length-drop) (omega arith))

-- a group whose hold is down, and does not wait, is sent from the registers
pub down_part : (B : Buffer) (g : Group) (s : Chip) → B.waits s ≡ false → up g (holds_of B s.image) ≡ false
    → in_use B g s ≡ registers_of g s.image
unfolding in_use
down_part B g s i h = rw (i, h)

-- what is asked of a bank and a group of it; for the packets' groups all five compute
record Sound (B : Buffer) (g : Group) : Type 0 where
  inside : ltb B.register 256 ≡ true
  ending : leb (g.first + g.count) 256 ≡ true
  still : (s : Chip) → B.waits s ≡ false
  own : (w : Write) (s : Chip) → B.bytes (store w s)
      ≡ cond (eqb w.address B.register) (filled B.groups (holds_of B s.image) w.value s.image (B.bytes s)) (B.bytes s)
  alone : (n : ℕ) (image buffer : List ℕ)
      → filled B.groups n (2 ^ g.hold) image buffer ≡ cond (not (up g n)) (registers_of g image ++ drop g.count buffer) buffer

-- the holds after a write, of any buffer
pub status_store : (B : Buffer) → ltb B.register 256 ≡ true → (w : Write) (s : Chip) → Whole s
    → status B (store w s).image ≡ next B (status B s.image) w
unfolding put
status_store B inside w s e = go (eqb w.address B.register) refl
  where
    go : (r : Bool) → eqb w.address B.register ≡ r
        → status B (set s.image w.address w.value) ≡ cond r (only B.groups w.value) (status B s.image)
    go true q = ap (only B.groups) (ap (λ (a : ℕ). get_or (set s.image a w.value) B.register 0) (eqb-true _ _ q)
        ∙ get_or-set_same s.image B.register w.value 0 (rw e (ltb-true _ _ inside)))
    go false q = ap (only B.groups) (get_or-set_other s.image w.address B.register w.value 0 (λ h. eqb-false _ _ q (sym h)))

-- of a buffer whose holds never wait
module _ (B : Buffer) (g : Group) (alike : (n : ℕ) → Alike B.groups (only B.groups n) n)
    (same : (n : ℕ) → up g (only B.groups n) ≡ up g n) (ok : Sound B g) where
  -- the buffer after a write that leaves the group's hold the only one up
  buffer_store : (w : Write) (s : Chip) → next B (status B s.image) w ≡ 2 ^ g.hold → up g (next B (status B s.image) w) ≡ true
      → B.bytes (store w s)
      ≡ cond (not (up g (holds_of B s.image))) (registers_of g s.image ++ drop g.count (B.bytes s)) (B.bytes s)
  buffer_store w s h u = ok.own w s ∙ go (eqb w.address B.register) h u
    where
      go : (r : Bool) → cond r (only B.groups w.value) (status B s.image) ≡ 2 ^ g.hold
          → up g (cond r (only B.groups w.value) (status B s.image)) ≡ true
          → cond r (filled B.groups (holds_of B s.image) w.value s.image (B.bytes s)) (B.bytes s)
          ≡ cond (not (up g (holds_of B s.image))) (registers_of g s.image ++ drop g.count (B.bytes s)) (B.bytes s)
      go true p q =
          sym (filled_alike B.groups (holds_of B s.image) (only B.groups w.value) w.value s.image (B.bytes s)
          (alike w.value))
          ∙ rw p (ok.alone (holds_of B s.image) s.image (B.bytes s))
      go false p q = rw (sym (same (holds_of B s.image)) ∙ q)

  quiet_keeps : (w : Write) (s : Chip) → Whole s → quiet g (status B s.image) (next B (status B s.image) w) w.address ≡ true
      → in_use B g (store w s) ≡ in_use B g s
  unfolding in_use
  quiet_keeps w s e q =
      plain (store w s)
      ∙ rw (← same (holds_of B (store w s).image), status_store B ok.inside w s e) (go (up g (next B (status B s.image) w)) refl q)
      ∙ sym (plain s)
    where
      plain : (t : Chip) → in_use B g t ≡ cond (up g (holds_of B t.image)) (take g.count (B.bytes t)) (registers_of g t.image)
      plain t = rw (ok.still t)

      after : (u : Bool) → take g.count (cond (not u) (registers_of g s.image ++ drop g.count (B.bytes s)) (B.bytes s))
          ≡ cond u (take g.count (B.bytes s)) (registers_of g s.image)
      after true = refl
      after false = part_fills g s.image (drop g.count (B.bytes s)) e (leb-true _ _ ok.ending)

      down : (u : Bool) → (not u && (ltb w.address g.first || leb (g.first + g.count) w.address)) ≡ true
          → registers_of g (store w s).image ≡ cond u (take g.count (B.bytes s)) (registers_of g s.image)
      down true t = absurd (false≢true t)
      down false t = outside_part g w s t

      go : (u : Bool) → up g (next B (status B s.image) w) ≡ u
          → cond u (eqb (next B (status B s.image) w) (2 ^ g.hold))
          (not (up g (status B s.image)) && (ltb w.address g.first || leb (g.first + g.count) w.address)) ≡ true
          → cond u (take g.count (B.bytes (store w s))) (registers_of g (store w s).image)
          ≡ cond (up g (holds_of B s.image)) (take g.count (B.bytes s)) (registers_of g s.image)
      go true p t = ap (λ (l : List ℕ). take g.count l) (buffer_store w s (eqb-true _ _ t) p) ∙ after (up g (holds_of B s.image))
      go false p t = down (up g (holds_of B s.image)) (rw same at t)

  faithful : Faithful store (view B g) Whole (λ s. status B s.image) (in_use B g)
  faithful = record { lasts = size_store; tracks = status_store B ok.inside; keeps = quiet_keeps }

-- a group of the chip, shown truly by its view
abbrev pub Shown : Buffer → Group → Type 0
Shown B g = Faithful store (view B g) Whole (λ s. status B s.image) (in_use B g)

pub avi_shown : Shown packets avi
unfolding put
avi_shown = faithful packets avi packets_alike avi_same (search)

pub audio_shown : Shown packets audio
unfolding put
audio_shown = faithful packets audio packets_alike audio_same (search)

pub gc_shown : Shown packets gc
unfolding put
gc_shown = faithful packets gc packets_alike gc_same (search)
