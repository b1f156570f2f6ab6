-- What one write does and leaves alone. Assumes nothing.
use mathlib.Core.Path.{◌≡◌, refl, sym, ap, subst, ◌∙◌}
use mathlib.Core.Logic.{◌≢◌, ◌⊎◌}
use mathlib.Core.Bool.{Bool, true, false, false≢true, cond, not, ◌&&◌, ◌||◌}
use mathlib.Core.List.{List, [], ◌∷◌, ◌++◌}
use Prim.Native.Nat.{ℕ, ◌+◌, ◌%◌, ◌<◌, ◌≤◌}
use native.Mathlib.Omega.{arith}
use lib.Dec.{eqb, leb, lit<}
use lib.ListN.{length, get_or, set, drop, length-set, length-append, length-take, length-drop}
use lib.Seq.{get_or-set_same, get_or-set_other}
use borrow.Author.Tests.{eq-eqb, ne_eqb, eqb-true, eqb-false, leb-true, not-true}
use Rattle.lists.specs.Find.{every}
use Rattle.lists.proofs.Both.{both_left, both_right, neither_right}
use Rattle.lists.proofs.Decides.{Decides, itself, either, together}
use Rattle.refusals.specs.Rows.{Given}
use Rattle.refusals.specs.declared.Refusal.{Refusal}
use Rattle.refusals.specs.Numbered.{refusal_number}
use Rattle.refusals.specs.Tests.{lowest}
use Rattle.refusals.proofs.Told.{refusal_some}
use Rattle.refusals.proofs.Tests.{lowest_given, answer_given}
use Rattle.bits.specs.Merge.{bit}
use Rattle.bits.proofs.Laws.{merge_bit, bit_code, two_bits_code}
use Rattle.registers.specs.Classes.{read_only}
use Rattle.chip.specs.declared.Chip.{Chip}
use Rattle.chip.specs.Numbered.{Wrote}
use Rattle.chip.specs.Machine.{Group, Buffer, avi, audio, gc, matrix, packets, converter, up, registers_of, holds_of, held, in_use}
use Rattle.chip.specs.Write.{filled, buffer_after, mark_as, put, vsync_of, lent_as, stored, image_after, two, refuses, write_tests, refused_write, write_of, holds_after, Stores}
use Rattle.chip.specs.Step.{TwoUp, write_rules, rises, Keeps, OneWrite}
use Rattle.chip.specs.Turn.{Turn, AtOnce}

-- a test for two packet holds decides that two are up
pub two_up : (image : List ℕ) → Decides (two (holds_of packets image)) (TwoUp image)
two_up image =
    let n : ℕ = holds_of packets image in
    either (together (itself (up avi n)) (itself (up audio n)))
    (either (together (itself (up avi n)) (itself (up gc n))) (together (itself (up audio n)) (itself (up gc n))))

-- where no hold rises the buffer stays
filled_none : (gs : List Group) (n n' : ℕ) (image buffer : List ℕ) → every (λ g. not (up g n' && not (up g n))) gs ≡ true
    → filled gs n n' image buffer ≡ buffer
filled_none [] n n' image buffer t = refl
filled_none (g ∷ gs) n n' image buffer t =
    let r : Bool = up g n' && not (up g n) in
    let more : Bool = every (λ g. not (up g n' && not (up g n))) gs in
    rw (not-true r (both_left (not r) more t)) (filled_none gs n n' image buffer (both_right (not r) more t))

not_not : (b : Bool) → not (not b) ≡ b
not_not true = refl
not_not false = refl

quiet : (b : Bool) → not (b && not b) ≡ true
quiet true = refl
quiet false = refl

filled_same : (gs : List Group) (n : ℕ) (image buffer : List ℕ) → filled gs n n image buffer ≡ buffer
filled_same [] n image buffer = refl
filled_same (g ∷ gs) n image buffer = rw (not-true (up g n && not (up g n)) (quiet (up g n))) (filled_same gs n image buffer)

-- a buffer filled at its front keeps its length
abbrev fits : ℕ → Group → Bool
fits n g = leb (g.first + g.count) 256 && leb g.count n

filled_length : (gs : List Group) (old new n : ℕ) (image bytes : List ℕ) → length image ≡ 256 → length bytes ≡ n → every (fits n) gs ≡ true
    → length (filled gs old new image bytes) ≡ n
filled_length [] old new n image bytes w l t = l
filled_length (g ∷ gs) old new n image bytes w l t =
    go (up g new && not (up g old)) (filled_length gs old new n image bytes w l (both_right (fits n g) (every (fits n) gs) t))
  where
    go : (b : Bool) → length (filled gs old new image bytes) ≡ n
        → length (cond b (registers_of g image ++ drop g.count bytes) (filled gs old new image bytes)) ≡ n
    go true more =
        let f = both_left (fits n g) (every (fits n) gs) t in
        let h : g.first + g.count ≤ 256 = leb-true _ _ (both_left (leb (g.first + g.count) 256) (leb g.count n) f) in
        let k : g.count ≤ n = leb-true _ _ (both_right (leb (g.first + g.count) 256) (leb g.count n) f) in
        simp (length-append, length-take, length-drop) (omega arith)
    go false more = more

-- of three holds of which no two are up, the one that is up is alone
alone : (a b c : Bool) → ((a && b) || ((a && c) || (b && c))) ≡ false → ((b ≡ true → a ≡ false) × (c ≡ true → (a ≡ false) × (b ≡ false)))
alone true true c t = absurd (false≢true (sym t))
alone true false true t = absurd (false≢true (sym t))
alone true false false t = ((λ e. absurd (false≢true e)), (λ e. absurd (false≢true e)))
alone false true true t = absurd (false≢true (sym t))
alone false true false t = ((λ e. refl), (λ e. absurd (false≢true e)))
alone false false c t = ((λ e. refl), (λ e. (refl, refl)))

-- the packet holds after a byte is stored are those in the image then
pub holds_stored : (image : List ℕ) (address byte : ℕ) → length image ≡ 256 → holds_after address byte image ≡ holds_of packets (set image address byte)
holds_stored image address byte whole = go (eqb address packets.register) refl
  where
    go : (t : Bool) → eqb address packets.register ≡ t → cond t byte (holds_of packets image) ≡ holds_of packets (set image address byte)
    go true e = sym (rw (eqb-true address packets.register e) (get_or-set_same image packets.register byte 0 (rw whole (lit< tt))))
    go false e = sym (get_or-set_other image address packets.register byte 0 (λ q. eqb-false _ _ e (sym q)))

-- a bit that is not 0
odd : (n : ℕ) → n % 2 ≢ 0 → n % 2 ≡ 1
odd n h = omega arith

-- what the crates above cite of a write; `OneWrite` has it in the document's words
pub record Stepped (s : Chip) (address value : ℕ) : Type 0 where
  pub refusals : Given (write_rules s address value) (write_of s address value).refusal
  pub refused : (write_of s address value).refusal ≢ 0 → (write_of s address value).chip ≡ s
  pub after : (write_of s address value).refusal ≡ 0 → (write_of s address value).chip.image ≡ image_after s address value
  pub elsewhere : (a : ℕ) → a ≢ address → get_or (write_of s address value).chip.image a 0 ≡ get_or s.image a 0
  pub sized : length (write_of s address value).chip.image ≡ length s.image
  pub packet_sized : length s.packet ≡ 32 → length (write_of s address value).chip.packet ≡ 32
  pub coefficients_sized : length s.coefficients ≡ 24 → length (write_of s address value).chip.coefficients ≡ 24
  pub packet : Keeps packets s (write_of s address value).chip
  pub coefficients : Keeps converter s (write_of s address value).chip
  pub falls : (write_of s address value).refusal ≡ 0 → held s ≡ true → held (write_of s address value).chip ≡ false
      → (write_of s address value).chip.waiting ≡ true
  pub waits : held (write_of s address value).chip ≡ held s → (write_of s address value).chip.waiting ≡ s.waiting

module _ (s : Chip) (address value : ℕ) where
  -- a refused write, and one that is taken
  abbrev pub wrote : Bool → Wrote
  wrote b = cond b (refused_write s 13) (record { refusal = 0; chip = put address (stored address value s.image) s })

  pub written_as : (b : Bool) → refuses s address value ≡ b → write_of s address value ≡ wrote b
  unfolding write_of
  written_as true e = rw e
  written_as false e = rw e

  -- a write by what `store` answers and leaves
  module _ (whole : length s.image ≡ 256) (done : Bool) (left : Chip)
      (h : Stores s address (stored address value s.image) done left) where
    said : refuses s address value ≡ not done
    unfolding refuses
    said = rw (h.0, ← holds_stored s.image address (stored address value s.image) whole) (sym (not_not _))

    pub refused_write_lem : done ≡ false → record { refusal = 13; chip = s } ≡ write_of s address value
    refused_write_lem e = sym (written_as true (said ∙ ap not e))

    pub left_alone : done ≡ false → record { refusal = 13; chip = left } ≡ write_of s address value
    left_alone e = ap (λ (c : Chip). record { refusal = 13; chip = c }) (h.1 ∙ rw e) ∙ refused_write_lem e

    pub taken_write : done ≡ true → record { refusal = 0; chip = left } ≡ write_of s address value
    taken_write e = ap (λ (c : Chip). record { refusal = 0; chip = c }) (h.1 ∙ rw e) ∙ sym (written_as false (said ∙ ap not e))

  -- a write that is refused leaves the state
  pub refused_left : (e : Refusal) (left : Chip) → record { refusal = refusal_number e; chip = left } ≡ write_of s address value
      → record { refusal = refusal_number e; chip = s } ≡ write_of s address value
  refused_left e left h = go (refuses s address value) refl
    where
      number : (b : Bool) → refuses s address value ≡ b → refusal_number e ≡ (wrote b).refusal
      number b q = ap (λ (w : Wrote). w.refusal) (h ∙ written_as b q)

      go : (b : Bool) → refuses s address value ≡ b → record { refusal = refusal_number e; chip = s } ≡ write_of s address value
      go true q = ap (λ (n : ℕ). record { refusal = n; chip = s }) (number true q) ∙ sym (written_as true q)
      go false q = absurd (refusal_some e (number false q))

  -- a write that has no refusal is taken, and leaves the image that it would leave
  pub allowed : (write_of s address value).refusal ≡ 0 → refuses s address value ≡ false
  allowed z = go (refuses s address value) refl
    where
      go : (b : Bool) → refuses s address value ≡ b → b ≡ false
      go true e = let n : (write_of s address value).refusal ≡ 13 = ap (λ (w : Wrote). w.refusal) (written_as true e) in absurd (omega arith)
      go false e = refl

  image_after_lem : refuses s address value ≡ false → (write_of s address value).chip.image ≡ image_after s address value
  unfolding put
  image_after_lem e = ap (λ (w : Wrote). w.chip.image) (written_as false e)

  risen : (b : Buffer) (g : Group) → refuses s address value ≡ false → up g (holds_of b (write_of s address value).chip.image) ≡ true
      → up g (holds_of b (image_after s address value)) ≡ true
  risen b g e u = rw (image_after_lem e) at u

  -- the byte at the address, in and out of the image
  same_bit : (j : ℕ) → j < 8 → bit j (read_only address) ≡ 1 → bit j (stored address value s.image) ≡ bit j (get_or s.image address 0)
  unfolding stored
  same_bit j h r = merge_bit 8 j (read_only address) (get_or s.image address 0) value h ∙ rw (eq-eqb (bit j (read_only address)) 1 r)

  new_bit : (j : ℕ) → j < 8 → bit j (read_only address) ≡ 0 → bit j (stored address value s.image) ≡ bit j value
  unfolding stored
  new_bit j h r = merge_bit 8 j (read_only address) (get_or s.image address 0) value h ∙ rw (ne_eqb (bit j (read_only address)) 1 (λ e. omega arith))

  would_bit : (a j : ℕ) → a < length s.image → j < 8 → bit j (get_or (image_after s address value) a 0)
      ≡ cond (eqb a address && eqb (bit j (read_only a)) 0) (bit j value) (bit j (get_or s.image a 0))
  would_bit a j l h = go (eqb a address) refl
    where
      there : (t : Bool) → eqb (bit j (read_only address)) 0 ≡ t
          → bit j (stored address value s.image) ≡ cond t (bit j value) (bit j (get_or s.image address 0))
      there true e = new_bit j h (eqb-true _ _ e)
      there false e = let c = bit_code j (read_only address) in same_bit j h (c ∙ odd _ (λ n. eqb-false _ _ e (c ∙ n)))

      go : (t : Bool) → eqb a address ≡ t → bit j (get_or (image_after s address value) a 0)
          ≡ cond (t && eqb (bit j (read_only a)) 0) (bit j value) (bit j (get_or s.image a 0))
      go true e =
          let q : a ≡ address = eqb-true a address e in
          rw q (ap (bit j) (get_or-set_same s.image address _ 0 (subst (λ (x : ℕ). x < length s.image) q l))
          ∙ there (eqb (bit j (read_only address)) 0) refl)
      go false e = ap (bit j) (get_or-set_other s.image address a _ 0 (eqb-false a address e))

  other_byte : (a : ℕ) → a ≢ address → (b : Bool) → get_or (wrote b).chip.image a 0 ≡ get_or s.image a 0
  unfolding put
  other_byte a h true = refl
  other_byte a h false = get_or-set_other s.image address a _ 0 h

  image_sized : (b : Bool) → length (wrote b).chip.image ≡ length s.image
  unfolding put
  image_sized true = refl
  image_sized false = length-set s.image address _

  -- the number of a refusal, and the state that goes with it
  decided : Decides (refuses s address value) (TwoUp s.image ⊎ TwoUp (image_after s address value))
  unfolding refuses
  decided = either (two_up s.image) (two_up (image_after s address value))

  given : Given (write_rules s address value) (write_of s address value).refusal
  unfolding write_of
  given =
      answer_given (refused_write s) _ (λ (w : Wrote). w.refusal) (write_rules s address value) (lowest (write_tests s address value)) refl (λ _. refl)
      (lowest_given (write_tests s address value) (write_rules s address value) refl (refl, decided, λ _. tt))

  unchanged : (b : Bool) → (wrote b).refusal ≢ 0 → (wrote b).chip ≡ s
  unchanged true h = refl
  unchanged false h = absurd (h refl)

  -- a buffer's holds after a write, and its bytes after one that is taken
  module _ (b : Buffer) (inside : b.register < length s.image) where
    abbrev before : ℕ
    before = holds_of b s.image

    abbrev after : ℕ
    after = holds_of b (image_after s address value)

    -- what the holds fill, and the same where a lowered hold waits or not
    abbrev refilled : List ℕ
    refilled = filled b.groups before after s.image (b.bytes s)

    abbrev full : List ℕ
    full = cond (b.waits s) (b.bytes s) refilled

    same_holds : get_or (image_after s address value) b.register 0 ≡ get_or s.image b.register 0 → b.bytes s ≡ refilled
    same_holds e = sym (ap (λ (x : ℕ). filled b.groups before x s.image (b.bytes s)) e ∙ filled_same b.groups before s.image (b.bytes s))

    refreshed : buffer_after b address (stored address value s.image) s ≡ full
    refreshed = either (b.waits s)
      where
        go : (t : Bool) → eqb address b.register ≡ t
            → cond t (filled b.groups before (stored address value s.image) s.image (b.bytes s)) (b.bytes s) ≡ refilled
        go true e =
            ap (λ (x : ℕ). filled b.groups before x s.image (b.bytes s))
            (sym (rw (eqb-true address b.register e) (get_or-set_same s.image b.register (stored b.register value s.image) 0 inside)))
        go false e = same_holds (get_or-set_other s.image address b.register _ 0 (λ q. eqb-false address b.register e (sym q)))

        either : (w : Bool)
            → cond (not w && eqb address b.register) (filled b.groups before (stored address value s.image) s.image (b.bytes s)) (b.bytes s)
            ≡ cond w (b.bytes s) refilled
        either true = refl
        either false = go (eqb address b.register) refl

    -- where nothing is filled the bytes stay, waiting or not; and what keeps its length keeps it
    full_none : refilled ≡ b.bytes s → full ≡ b.bytes s
    full_none e = go (b.waits s)
      where
        go : (w : Bool) → cond w (b.bytes s) refilled ≡ b.bytes s
        go true = refl
        go false = e

    full_length : (n : ℕ) → length (b.bytes s) ≡ n → length refilled ≡ n → length full ≡ n
    full_length n l e = go (b.waits s)
      where
        go : (w : Bool) → length (cond w (b.bytes s) refilled) ≡ n
        go true = l
        go false = e

  -- each buffer, whatever the write
  module _ (whole : length s.image ≡ 256) where
    packet_after : refuses s address value ≡ false → (write_of s address value).chip.packet ≡ full packets (rw whole (lit< tt))
    unfolding put
    packet_after e = ap (λ (w : Wrote). w.chip.packet) (written_as false e) ∙ refreshed packets (rw whole (lit< tt))

    coefficients_after : refuses s address value ≡ false → (write_of s address value).chip.coefficients ≡ full converter (rw whole (lit< tt))
    unfolding put
    coefficients_after e = ap (λ (w : Wrote). w.chip.coefficients) (written_as false e) ∙ refreshed converter (rw whole (lit< tt))

    -- no two packet holds are up after a write that is taken
    lone : refuses s address value ≡ false → two (holds_of packets (image_after s address value)) ≡ false
    unfolding refuses
    lone e = neither_right (two (holds_of packets s.image)) _ e

    packet_stays : Keeps packets s (write_of s address value).chip
    packet_stays t = go (refuses s address value) refl
      where
        go : (b : Bool) → refuses s address value ≡ b → (write_of s address value).chip.packet ≡ s.packet
        go true e = ap (λ (w : Wrote). w.chip.packet) (written_as true e)
        go false e =
            packet_after e
            ∙ filled_none packets.groups (holds_of packets s.image) (holds_of packets (image_after s address value)) s.image s.packet
            (rw (image_after_lem e) at t)

    coefficients_stay : Keeps converter s (write_of s address value).chip
    coefficients_stay t = go (refuses s address value) refl
      where
        go : (b : Bool) → refuses s address value ≡ b → (write_of s address value).chip.coefficients ≡ s.coefficients
        go true e = ap (λ (w : Wrote). w.chip.coefficients) (written_as true e)
        go false e =
            coefficients_after e
            ∙ full_none converter (rw whole (lit< tt)) (filled_none converter.groups (holds_of converter s.image)
            (holds_of converter (image_after s address value)) s.image s.coefficients (rw (image_after_lem e) at t))

    packet_long : length s.packet ≡ 32 → length (write_of s address value).chip.packet ≡ 32
    packet_long l = go (refuses s address value) refl
      where
        go : (b : Bool) → refuses s address value ≡ b → length (write_of s address value).chip.packet ≡ 32
        go true e = ap (λ (w : Wrote). length w.chip.packet) (written_as true e) ∙ l
        go false e = ap length (packet_after e) ∙ filled_length packets.groups (holds_of packets s.image) (holds_of packets (image_after s address value)) 32 s.image s.packet whole l refl

    coefficients_long : length s.coefficients ≡ 24 → length (write_of s address value).chip.coefficients ≡ 24
    coefficients_long l = go (refuses s address value) refl
      where
        go : (b : Bool) → refuses s address value ≡ b → length (write_of s address value).chip.coefficients ≡ 24
        go true e = ap (λ (w : Wrote). length w.chip.coefficients) (written_as true e) ∙ l
        go false e = ap length (coefficients_after e) ∙ full_length converter (rw whole (lit< tt)) 24 l
            (filled_length converter.groups (holds_of converter s.image) (holds_of converter (image_after s address value)) 24 s.image
            s.coefficients whole l refl)

    -- the mark
    mark_after_lem : refuses s address value ≡ false → (write_of s address value).chip.waiting ≡ mark_as (held s) (held (write_of s address value).chip) s.waiting
    unfolding put
    mark_after_lem e = ap (λ (w : Wrote). w.chip.waiting) (written_as false e)
        ∙ go (eqb address converter.register) refl
        ∙ ap (λ (image : List ℕ). mark_as (held s) (up matrix (holds_of converter image)) s.waiting) (sym (image_after_lem e))
      where
        stays : (h : Bool) → s.waiting ≡ mark_as h h s.waiting
        stays true = refl
        stays false = refl

        go : (t : Bool) → eqb address converter.register ≡ t
            → cond t (mark_as (held s) (up matrix (stored address value s.image)) s.waiting) s.waiting
            ≡ mark_as (held s) (up matrix (holds_of converter (image_after s address value))) s.waiting
        go true q =
            let z : holds_of converter (image_after s address value) ≡ stored address value s.image =
            ap (λ (a : ℕ). get_or (image_after s address value) a 0) (sym (eqb-true address converter.register q))
            ∙ get_or-set_same s.image address _ 0 (rw (whole, eqb-true address converter.register q) (lit< tt)) in
            ap (λ (n : ℕ). mark_as (held s) (up matrix n) s.waiting) (sym z)
        go false q =
            let z : holds_of converter (image_after s address value) ≡ holds_of converter s.image =
            get_or-set_other s.image address converter.register _ 0 (λ z. eqb-false address converter.register q (sym z)) in
            stays (held s) ∙ ap (λ (n : ℕ). mark_as (held s) (up matrix n) s.waiting) (sym z)

    mark_stays : held (write_of s address value).chip ≡ held s → (write_of s address value).chip.waiting ≡ s.waiting
    mark_stays h = go (refuses s address value) refl
      where
        same : (b : Bool) → mark_as b b s.waiting ≡ s.waiting
        same true = refl
        same false = refl

        go : (b : Bool) → refuses s address value ≡ b → (write_of s address value).chip.waiting ≡ s.waiting
        go true e = ap (λ (w : Wrote). w.chip.waiting) (written_as true e)
        go false e = mark_after_lem e ∙ ap (λ (b : Bool). mark_as (held s) b s.waiting) h ∙ same (held s)

    rise_drops : s.waiting ≡ true → (write_of s address value).chip.coefficients ≡ s.coefficients
    rise_drops w = go (refuses s address value) refl
      where
        go : (b : Bool) → refuses s address value ≡ b → (write_of s address value).chip.coefficients ≡ s.coefficients
        go true e = ap (λ (w : Wrote). w.chip.coefficients) (written_as true e)
        go false e = coefficients_after e ∙ rw w

    -- a hold that rises does so in a write that is taken
    rising : (b : Buffer) (g : Group) → rises b g s (write_of s address value).chip ≡ true
        → (refuses s address value ≡ false) × (up g (holds_of b s.image) ≡ false) × (up g (holds_of b (image_after s address value)) ≡ true)
    rising b g r = go (refuses s address value) refl
      where
        u : up g (holds_of b (write_of s address value).chip.image) ≡ true
        u = both_left _ (not (up g (holds_of b s.image))) r

        d : up g (holds_of b s.image) ≡ false
        d = not-true _ (both_right (up g (holds_of b (write_of s address value).chip.image)) _ r)

        go : (t : Bool) → refuses s address value ≡ t → (refuses s address value ≡ false) × (up g (holds_of b s.image) ≡ false)
            × (up g (holds_of b (image_after s address value)) ≡ true)
        go true e =
            absurd (false≢true (sym d ∙ sym (ap (λ (w : Wrote). up g (holds_of b w.chip.image)) (written_as true e)) ∙ u))
        go false e = (e, d, risen b g e u)

    -- the mark, taken or refused
    marked_as : (h t w : Bool) → mark_as h t w ≡ cond t (h && w) (h || w)
    marked_as true true w = refl
    marked_as true false w = refl
    marked_as false true w = refl
    marked_as false false w = refl

    mark_then : let t : Chip = (write_of s address value).chip in t.waiting ≡ cond (held t) (held s && s.waiting) (held s || s.waiting)
    mark_then = go (refuses s address value) refl
      where
        same : (h w : Bool) → w ≡ cond h (h && w) (h || w)
        same true w = refl
        same false w = refl

        go : (b : Bool) → refuses s address value ≡ b → let t : Chip = (write_of s address value).chip in
            t.waiting ≡ cond (held t) (held s && s.waiting) (held s || s.waiting)
        go true e = rw (written_as true e) (same (held s) s.waiting)
        go false e = mark_after_lem e ∙ marked_as (held s) (held (write_of s address value).chip) s.waiting

    pub stepped : Stepped s address value
    stepped = record {
      refusals = given;
      refused = rw (written_as (refuses s address value) refl) (unchanged (refuses s address value));
      after = λ z. image_after_lem (allowed z);
      elsewhere = λ a h. rw (written_as (refuses s address value) refl) (other_byte a h (refuses s address value));
      sized = rw (written_as (refuses s address value) refl) (image_sized (refuses s address value));
      packet_sized = packet_long;
      coefficients_sized = coefficients_long;
      packet = packet_stays;
      coefficients = coefficients_stay;
      falls = λ z b a. mark_after_lem (allowed z) ∙ rw (b, a);
      waits = mark_stays;
    }

    pub step : OneWrite address value s (write_of s address value).refusal (write_of s address value).chip
    step =
        let n : ℕ = holds_of packets (image_after s address value) in
        record {
          refusals = given;
          refused = stepped.refused;
          would = would_bit;
          after = stepped.after;
          elsewhere = stepped.elsewhere;
          sized = stepped.sized;
          copies = (
            (λ r. let k = rising packets avi r in packet_after k.0 ∙ rw (k.2, k.1)),
            (λ r.
                let k = rising packets audio r in
                packet_after k.0 ∙ rw ((alone (up avi n) (up audio n) (up gc n) (lone k.0)).0 k.2, k.2, k.1)),
            λ r.
                let k = rising packets gc r in
                let o = (alone (up avi n) (up audio n) (up gc n) (lone k.0)).1 k.2 in
                packet_after k.0 ∙ rw (o.0, o.1, k.2, k.1),
          );
          packet = packet_stays;
          matrix = λ q r. let k = rising converter matrix r in coefficients_after k.0 ∙ rw (q, k.2, k.1);
          coefficients = coefficients_stay;
          dropped = rise_drops;
          mark = mark_then;
        }

-- ---- a Vsync

module _ (s : Chip) where
  abbrev marked : Bool → Chip
  marked w = lent_as s.image s.packet s.coefficients w

  pub turned : Turn s
  unfolding vsync_of in_use
  turned = record {
    image = refl;
    packet = refl;
    coefficients = refl;
    ends = λ d. rw d;
    takes = λ d. rw d;
    beside = λ u. ap marked (rw u);
    raised = λ u. rw (u, or_true s.waiting);
    waiting = λ w. rw w;
    idle = λ w. (ap marked (rw w (and_false (held s))), λ d. rw (w, d));
  }
    where
      or_true : (w : Bool) → (w || true) ≡ true
      or_true true = refl
      or_true false = refl

      and_false : (h : Bool) → (h && false) ≡ false
      and_false true = refl
      and_false false = refl

-- enable and mode in use
pub at_once_lem : (s : Chip) → AtOnce s
at_once_lem s = let byte : ℕ = get_or s.image 0x18 0 in record { enable = bit_code 7 byte; mode = two_bits_code 5 byte }
