-- Two states with the same buffers and the same mark, whose images agree at the registers that a list writes, stay so whatever is written, and
-- give the same verdict. Assumes nothing.
use mathlib.Core.Path.{◌≡◌, refl, sym, ap, subst, ◌∙◌}
use mathlib.Core.Bool.{Bool, true, false, cond, not, ◌&&◌, ◌||◌}
use mathlib.Core.List.{List, [], ◌∷◌, map}
use Prim.Native.Nat.{ℕ, zero, suc, ◌+◌, ◌%◌, ◌<◌}
use native.Mathlib.Omega.{arith}
use lib.Dec.{eqb, ltb}
use lib.ListN.{length, get_or, take, drop, length-take, length-drop, length-set}
use lib.Seq.{ext_get_or, get_or-take, get_or-drop, get_or-set_same, get_or-set_other}
use borrow.Author.Tests.{eqb-true, eqb-false, eq-eqb, ltb-true}
use Rattle.lists.proofs.Among.{Stands, stands}
use Rattle.lists.proofs.Find.{every_at}
use Rattle.bits.proofs.Below.{below, at_below}
use Rattle.refusals.specs.Rows.{image_length, holds_up, two_holds, list_length, bad_pair, bad_end}
use Rattle.refusals.specs.Tests.{◌if◌, lowest, answer}
use Rattle.request.specs.declared.Request.{Request}
use Rattle.request.specs.Bytes.{request_in_family}
use Rattle.chip.specs.declared.Chip.{Chip}
use Rattle.chip.specs.Numbered.{Wrote}
use Rattle.chip.specs.Machine.{Write, avi, audio, gc, matrix, packets, converter, holds_of, registers_of, in_use, coefficients, gc_in_use, mute}
use Rattle.chip.specs.Write.{lent_as, buffer_after, mark_after, put, stored, image_after, two, refuses, refused_write, write_of, vsync_of}
use Rattle.views.specs.Entry.{is_sized}
use Rattle.writes.specs.Rows.{list_rows}
use Rattle.writes.specs.Steps.{◌raising◌}
use Rattle.writes.specs.List.{written, left_up, is_written, finished, stands_below, pairs_of, ready}
use Rattle.plan.specs.Wanted.{wanted}
use Rattle.decode.specs.Extract.{extract}
use Rattle.plan.specs.Plan.{stands_in}
use Rattle.decode.specs.Decode.{some_ends}
use Rattle.cut.specs.Vsync.{waited}
use Rattle.cut.specs.Run.{Event, write, vsync, run, InUse, all_in_use}
use Rattle.vendor.specs.Numbered.{Verdict}
use Rattle.vendor.specs.Vendor.{shortened, end_of, most_pairs}
use Rattle.vendor.specs.Found.{fair_test, is_between, is_turned, is_next, is_last, is_event, first_fault, place_of, vet_refusal, vet_of}
use Rattle.promises.specs.Looked.{Agree}

-- ---- two images

small : (a : ℕ) → is_written a ≡ true → a < 256
unfolding is_written
small a t =
    let registers : List ℕ = map (λ row. row.0) (list_rows false) in
    let s : Stands a registers = stands a registers t in
    let h : ltb (get_or registers s.place 0) 256 ≡ true = every_at (λ b. ltb b 256) registers s.place 0 refl s.within in
    ltb-true a 256 (ap (λ (n : ℕ). ltb n 256) (sym s.there) ∙ h)

module _ (image other : List ℕ) (g : Agree image other) where
  -- a run of these registers
  abbrev inside : ℕ → ℕ → Bool
  inside first = below (λ i. is_written (first + i))

  same_run : (first count : ℕ) → inside first count ≡ true → take count (drop first other) ≡ take count (drop first image)
  same_run first count t =
      ext_get_or 0 _ _ (simp (length-take, length-drop, g.long))
      (λ i h. let k : i < count = omega (arith, rw (length-take count (drop first other)) at h) in
      get_or-take count (drop first other) i 0 k ∙ get_or-drop first other i 0
      ∙ g.bytes (first + i) (at_below (λ i. is_written (first + i)) count i t k)
      ∙ sym (get_or-take count (drop first image) i 0 k ∙ get_or-drop first image i 0))

  same_test : (want : ℕ → ℕ) (a : ℕ) → eqb (finished want other a) (get_or other a 0) ≡ eqb (finished want image a) (get_or image a 0)
  unfolding finished written
  same_test want a = go (is_written a) refl
    where
      go : (b : Bool) → is_written a ≡ b
          → eqb (cond (is_written a) (written want other (a raising left_up a)).value (get_or other a 0)) (get_or other a 0)
          ≡ eqb (cond (is_written a) (written want image (a raising left_up a)).value (get_or image a 0)) (get_or image a 0)
      go true w = rw (g.bytes a w)
      go false w = rw (w, eq-eqb (get_or other a 0) _ refl, eq-eqb (get_or image a 0) _ refl)

  same_below : (want : ℕ → ℕ) (n : ℕ) → stands_below want other n ≡ stands_below want image n
  unfolding stands_below
  same_below want zero = refl
  same_below want (suc a) = λ j. same_test want a j && same_below want a j

  same_request : extract other ≡ extract image
  unfolding extract is_written
  same_request =
      rw (
        g.bytes 0x44 refl,
        g.bytes 0x15 refl,
        g.bytes 0x16 refl,
        g.bytes 0x30 refl,
        g.bytes 0x31 refl,
        g.bytes 0x32 refl,
        g.bytes 0x33 refl,
        g.bytes 0x34 refl,
        g.bytes 0x48 refl,
        g.bytes 0x73 refl,
        g.bytes 0x0A refl,
        g.bytes 0x18 refl,
        g.bytes 0xAF refl,
        g.bytes 0x4C refl,
        same_run 0x18 24 refl,
        same_run 0x55 13 refl,
      )

  same_stands : (r : Request) → stands_in r other ≡ stands_in r image
  unfolding stands_in
  same_stands r = rw (g.long, same_below (wanted r) 256)

  same_ends : some_ends other ≡ some_ends image
  unfolding some_ends
  same_ends = λ j. family 0 j || family 1 j
    where
      family : (f : ℕ) → stands_in (request_in_family f (extract other)) other ≡ stands_in (request_in_family f (extract image)) image
      family f = ap (λ (r : Request). stands_in (request_in_family f r) other) same_request ∙ same_stands (request_in_family f (extract image))

-- ---- two states

pub record Near (s t : Chip) : Type 0 where
  pub whole : length s.image ≡ 256
  pub image : Agree s.image t.image
  pub packet : t.packet ≡ s.packet
  pub coefficients : t.coefficients ≡ s.coefficients
  pub waiting : t.waiting ≡ s.waiting

module _ (s t : Chip) (n : Near s t) where
  same_held : holds_of packets t.image ≡ holds_of packets s.image
  unfolding is_written
  same_held = n.image.bytes 0x4A refl

  same_hold : holds_of converter t.image ≡ holds_of converter s.image
  unfolding is_written
  same_hold = n.image.bytes 0x1A refl

  same_avi : registers_of avi t.image ≡ registers_of avi s.image
  unfolding is_written
  same_avi = same_run s.image t.image n.image 0x52 16 refl

  same_audio : registers_of audio t.image ≡ registers_of audio s.image
  unfolding is_written
  same_audio = same_run s.image t.image n.image 0x70 13 refl

  same_gc : registers_of gc t.image ≡ registers_of gc s.image
  unfolding is_written
  same_gc = same_run s.image t.image n.image 0x4B 1 refl

  same_matrix : registers_of matrix t.image ≡ registers_of matrix s.image
  unfolding is_written
  same_matrix = same_run s.image t.image n.image 0x18 24 refl

  -- what is in use
  same_use : all_in_use t ≡ all_in_use s
  unfolding coefficients in_use
  same_use = rw (n.packet, n.coefficients, n.waiting, same_held, same_hold, same_avi, same_audio, same_matrix)

  same_mute : mute (lent_as t.image t.packet [] false) ≡ mute (lent_as s.image s.packet [] false)
  unfolding gc_in_use in_use
  same_mute = rw (n.packet, same_held, same_gc)

  -- a byte stored
  module _ (a v : ℕ) where
    same_stored : is_written a ≡ true → stored a v t.image ≡ stored a v s.image
    unfolding stored
    same_stored w = rw (n.image.bytes a w)

    after_agrees : Agree (image_after s a v) (image_after t a v)
    after_agrees = record {
      long = length-set t.image a _ ∙ n.image.long ∙ sym (length-set s.image a _);
      bytes = λ b w. go b w (eqb b a) refl;
    }
      where
        go : (b : ℕ) → is_written b ≡ true → (e : Bool) → eqb b a ≡ e → get_or (image_after t a v) b 0 ≡ get_or (image_after s a v) b 0
        go b w true e =
            let i : b ≡ a = eqb-true b a e in
            let l : is_written a ≡ true = ap is_written (sym i) ∙ w in
            let h : a < 256 = small a l in
            ap (λ (c : ℕ). get_or (image_after t a v) c 0) i
            ∙ get_or-set_same t.image a (stored a v t.image) 0 (rw (n.image.long, n.whole) h) ∙ same_stored l
            ∙ sym (ap (λ (c : ℕ). get_or (image_after s a v) c 0) i ∙ get_or-set_same s.image a (stored a v s.image) 0 (rw n.whole h))
        go b w false e =
            get_or-set_other t.image a b _ 0 (eqb-false b a e) ∙ n.image.bytes b w ∙ sym (get_or-set_other s.image a b _ 0 (eqb-false b a e))

    same_refuses : refuses t a v ≡ refuses s a v
    unfolding refuses is_written
    same_refuses = λ j. two (same_held j) || two (after_agrees.bytes 0x4A refl j)

    near_put : Near (put a (stored a v s.image) s) (put a (stored a v t.image) t)
    unfolding put is_written
    near_put = record {
      whole = length-set s.image a _ ∙ n.whole;
      image = after_agrees;
      packet = in_packet (eqb a 0x4A) refl;
      coefficients = in_matrix_lem (eqb a 0x1A) refl;
      waiting = in_mark (eqb a 0x1A) refl;
    }
      where
        there : (r : ℕ) → eqb a r ≡ true → is_written r ≡ true → stored a v t.image ≡ stored a v s.image
        there r e w = same_stored (ap is_written (eqb-true a r e) ∙ w)

        neither : (b : Bool) → (b && false) ≡ false
        neither true = refl
        neither false = refl

        in_packet : (e : Bool) → eqb a 0x4A ≡ e → buffer_after packets a (stored a v t.image) t ≡ buffer_after packets a (stored a v s.image) s
        in_packet true e = rw (e, there 0x4A e refl, same_held, same_avi, same_audio, same_gc, n.packet)
        in_packet false e = rw (e, n.packet)

        in_matrix_lem : (e : Bool) → eqb a 0x1A ≡ e
            → buffer_after converter a (stored a v t.image) t ≡ buffer_after converter a (stored a v s.image) s
        in_matrix_lem true e = rw (e, there 0x1A e refl, same_hold, same_matrix, n.coefficients, n.waiting)
        in_matrix_lem false e = rw (e, neither (not t.waiting), neither (not s.waiting), n.coefficients)

        in_mark : (e : Bool) → eqb a 0x1A ≡ e → mark_after a (stored a v t.image) t ≡ mark_after a (stored a v s.image) s
        in_mark true e = rw (e, there 0x1A e refl, same_hold, n.waiting)
        in_mark false e = rw (e, n.waiting)

    -- a write
    abbrev made : Bool → Chip → Wrote
    made b u = answer (lowest (two_holds if b ∷ [])) (refused_write u) (record { refusal = 0; chip = put a (stored a v u.image) u })

    made_refusal : (b : Bool) → (made b t).refusal ≡ (made b s).refusal
    made_refusal true = refl
    made_refusal false = refl

    made_near : (b : Bool) → Near (made b s).chip (made b t).chip
    made_near true = n
    made_near false = near_put

    same_refused : (write_of t a v).refusal ≡ (write_of s a v).refusal
    unfolding write_of
    same_refused = ap (λ (b : Bool). (made b t).refusal) same_refuses ∙ made_refusal (refuses s a v)

    near_write : Near (write_of s a v).chip (write_of t a v).chip
    unfolding write_of
    near_write = subst (λ (b : Bool). Near (made (refuses s a v) s).chip (made b t).chip) (sym same_refuses) (made_near (refuses s a v))

  near_vsync : Near (vsync_of s) (vsync_of t)
  unfolding vsync_of
  near_vsync = record {
    whole = n.whole;
    image = n.image;
    packet = n.packet;
    coefficients = n.coefficients;
    waiting = rw (same_hold, n.waiting);
  }

-- ---- a list

near_run : (es : List Event) (s t : Chip) → Near s t → Near (run es s) (run es t)
near_run [] s t n = n
near_run (write w ∷ es) s t n =
    near_run es (write_of s w.address w.value).chip (write_of t w.address w.value).chip (near_write s t n w.address w.value)
near_run (vsync ∷ es) s t n = near_run es (vsync_of s) (vsync_of t) (near_vsync s t n)

same_shortened : (ws : List Write) (s t : Chip) → Near s t → shortened ws t ≡ shortened ws s
same_shortened [] s t n = refl
same_shortened (w ∷ ws) s t n =
    let rest : shortened ws (write_of t w.address w.value).chip ≡ shortened ws (write_of s w.address w.value).chip =
    same_shortened ws (write_of s w.address w.value).chip (write_of t w.address w.value).chip
    (near_write s t n w.address w.value) in
    λ j. cond (eqb (same_refused s t n w.address w.value j) 0) (w ∷ rest j) []

same_fair : (s t : Chip) → Near s t → (w : Write) → fair_test t.image w ≡ fair_test s.image w
same_fair s t n w = go (is_written w.address) refl
  where
    go : (b : Bool) → is_written w.address ≡ b → fair_test t.image w ≡ fair_test s.image w
    go true e = rw (n.image.bytes w.address e)
    go false e = rw e

same_next : (old new : InUse) (event : Bool) (a : ℕ) (s t s' t' : Chip) → Near s t → Near s' t'
    → is_next old new event a t t' ≡ is_next old new event a s s'
unfolding is_between is_turned
same_next old new event a s t s' t' n m =
    rw (same_mute s' t' m, same_held s t n, same_held s' t' m, same_hold s' t' m, same_avi s' t' m, same_audio s' t' m, same_matrix s' t' m, m.waiting)

same_fault : (old new : InUse) (ws : List Write) (s t : Chip) → Near s t → first_fault old new ws t ≡ first_fault old new ws s
same_fault old new [] s t n = refl
same_fault old new (w ∷ ws) s t n =
    let s' : Chip = (write_of s w.address w.value).chip in
    let t' : Chip = (write_of t w.address w.value).chip in
    let m : Near s' t' = near_write s t n w.address w.value in
    let rest : first_fault old new ws t' ≡ first_fault old new ws s' = same_fault old new ws s' t' m in
    let cutting : is_next old new (is_event ws) w.address t t' ≡ is_next old new (is_event ws) w.address s s' =
    same_next old new (is_event ws) w.address s t s' t' n m in
    λ j. cond (same_fair s t n w j && (is_last ws || cutting j)) (suc (rest j)) 0

module _ (ws : List Write) (s t : Chip) (n : Near s t) where
  near_end : Near (end_of (shortened ws s) s) (end_of (shortened ws t) t)
  near_end = subst (λ (l : List Write). Near (end_of (shortened ws s) s) (end_of l t)) (sym (same_shortened ws s t n))
      (near_run (waited (shortened ws s)) s t n)

  same_place : place_of ws t ≡ place_of ws s
  same_place =
      (λ j. first_fault (same_use s t n j) (same_use (end_of (shortened ws s) s) (end_of (shortened ws t) t) near_end j)
      (same_shortened ws s t n j) t)
      ∙ same_fault (all_in_use s) (all_in_use (end_of (shortened ws s) s)) (shortened ws s) s t n

  same_end : some_ends (end_of (shortened ws t) t).image ≡ some_ends (end_of (shortened ws s) s).image
  same_end = same_ends _ _ near_end.image

-- the verdict by what its tests find
by_tests : Bool → Bool → List ℕ → ℕ → Bool → Verdict
by_tests sized fit list place ended =
    let number : ℕ = lowest (
    image_length if not sized ∷ holds_up if not fit ∷ list_length if (eqb (length list % 2) 1 || ltb most_pairs (length (pairs_of list))) ∷
    bad_pair if ltb place (length (pairs_of list)) ∷ bad_end if not ended ∷ []
    ) in
    record { refusal = number; place = cond (eqb number 15) place 0 }

module _ (s t : Chip) (list : List ℕ) (g : Agree s.image t.image) (p : t.packet ≡ s.packet) (c : t.coefficients ≡ s.coefficients)
    (w : t.waiting ≡ s.waiting) where
  same_sized : is_sized t ≡ is_sized s
  same_sized = rw (g.long, p, c)

  -- an image of another length is refused, whatever it holds
  by_length : (b : Bool) → eqb (length s.image) 256 ≡ b → vet_of t list ≡ vet_of s list
  unfolding vet_of vet_refusal by_tests is_written
  by_length true e =
      let n : Near s t = record { whole = eqb-true _ _ e; image = g; packet = p; coefficients = c; waiting = w } in
      λ j. by_tests (same_sized j) (fit j) list (same_place (pairs_of list) s t n j) (same_end (pairs_of list) s t n j)
    where
      fit : ready t.image ≡ ready s.image
      fit = rw (g.bytes 0x4A refl)
  by_length false e = rw (g.long, e)

  pub same_verdict : vet_of t list ≡ vet_of s list
  same_verdict = by_length (eqb (length s.image) 256) refl
