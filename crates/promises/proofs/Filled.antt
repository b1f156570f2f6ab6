-- The finished image of an accepted request, and the N and CTS that are answered for it. Assumes nothing.
use mathlib.Core.Path.{◌≡◌, refl, sym, ap, subst, ◌∙◌}
use mathlib.Core.Bool.{Bool, cond}
use mathlib.Core.List.{List, [], ◌∷◌}
use Prim.Native.Nat.{ℕ, suc, ◌+◌, ◌*◌, ◌/◌, ◌%◌, ◌<◌, ◌≤◌}
use native.Mathlib.Omega.{arith}
use lib.Dec.{eqb}
use lib.ListN.{length, get_or, take, drop}
use borrow.Author.Tests.{eqb-true, eq-eqb, ne_eqb}
use Rattle.bits.proofs.Below.{at_below}
use Rattle.video.specs.declared.Video.{Video}
use Rattle.clock.specs.Numbered.{Pair}
use Rattle.clock.specs.Answers.{clock_of}
use Rattle.clock.specs.Pairs.{Coherent}
use Rattle.clock.specs.Answers.{other}
use Rattle.clock.specs.Found.{coherent_of, pair_of}
use Rattle.clock.proofs.Coherence.{in_mode_lem, pair_in_lem}
use Rattle.frames.specs.Frames.{total, frame, avi_frame}
use Rattle.frames.proofs.Sealed as frames
use Rattle.sound.specs.declared.Sound.{Sound}
use Rattle.sound.specs.declared.Sound.TheVariants.{Off, On}
use Rattle.request.specs.declared.Request.{Request}
use Rattle.request.specs.Read.{read_of, pair_in, pair_for, ncts_of}
use Rattle.sound.specs.Fits.{SoundFits}
use Rattle.request.specs.Fits.{Fits}
use Rattle.request.proofs.Fits.{fits}
use Rattle.lists.proofs.Those.{of_those}
use Rattle.bits.specs.Merge.{merge, under, bit, bits_in}
use Rattle.registers.specs.Classes.{class_at}
use Rattle.chip.specs.Machine.{Write, ◌gets◌}
use Rattle.writes.specs.List.{decided, finished, full_list, stays, write_list}
use Rattle.writes.specs.Carried.{requested}
use Rattle.writes.proofs.Carries.{masked, entries}
use Rattle.plan.specs.Wanted.{wanted}
use Rattle.wiring.specs.declared.Wires.{Wires}
use Rattle.wiring.specs.declared.Wiring.{Wiring}
use Rattle.wiring.specs.declared.Wiring.TheVariants.{Board, Four, Twelve}
use Rattle.wiring.specs.Wiring.{wires_of}
use Rattle.plan.proofs.Shown.{Wanted, each_wanted, shown, picked, Picked}
use Rattle.decode.specs.Ends.{Stands}
use Rattle.decode.proofs.Groups.{window, avi_in_lem, audio_in_lem}
use Rattle.decode.proofs.Answers.{finished_again}
use Rattle.plan.specs.Places.{audio_packet, places, Shows}
use Rattle.promises.specs.Finished.{NeverThree, FinishedFields, Paired, FourShown, SyncsShown, WiringShown}
use Rattle.bits.proofs.Fields.{field_same}
use Rattle.writes.proofs.Named.{ordered}

-- ---- N and CTS

-- a pair on fields in range
in_range_lem : (video : Video) (rate coherent : ℕ) → (clock_of video).refusal ≡ 0 → rate ≤ 6 → coherent ≤ 1
    → pair_of video rate coherent ≡ cond (eqb coherent 1) (coherent_of (clock_of video) rate) (other rate)
in_range_lem video rate coherent o h k = pair_in_lem video rate coherent o (omega arith) (omega arith)

paired_in : (r : Request) (s : Sound) → (clock_of r.video).refusal ≡ 0 → SoundFits s → Paired r.video s (pair_in r s)
paired_in r Off o h = (refl, refl, refl)
paired_in r (On rate channels coherent) o h =
    let e = in_range_lem r.video rate coherent o h.0 h.2 in (
      λ c. subst (λ (p : Pair). Coherent (clock_of r.video) rate p)
          (sym (e ∙ ap (λ (b : Bool). cond b (coherent_of (clock_of r.video) rate) (other rate)) (eq-eqb coherent 1 c)))
          (in_mode_lem r.video rate o (omega (arith, h.0))),
      λ c. let f = e ∙ ap (λ (b : Bool). cond b (coherent_of (clock_of r.video) rate) (other rate)) (ne_eqb coherent 1 c) in
          (ap (λ (p : Pair). p.refusal) f, ap (λ (p : Pair). p.n) f, ap (λ (p : Pair). p.cts) f),
    )

asked_pair : (input : List ℕ) → (read_of input).refusal ≡ 0 → ncts_of input ≡ pair_for (read_of input).request
unfolding ncts_of
asked_pair input z = rw z

pub paired : (input : List ℕ) → (read_of input).refusal ≡ 0
    → Paired (read_of input).request.video (read_of input).request.sound (ncts_of input)
unfolding pair_for
paired input z =
    let r : Request = (read_of input).request in
    let f : Fits r = fits input z in
    subst (λ (p : Pair). Paired r.video r.sound p) (sym (asked_pair input z)) (paired_in r r.sound f.clock f.sound)

-- ---- the finished image

twenty : (x y z n : ℕ) → x ≡ n / 65536 → y ≡ n / 256 % 256 → z ≡ n % 256 → x * 65536 + y * 256 + z ≡ n
twenty x y z n e f g = omega arith

-- the registers of a packet after its version and its length
after_two : (image : List ℕ) (a count : ℕ) → a + suc (suc count) ≤ length image
    → take count (drop (suc (suc a)) image) ≡ drop 2 (take (suc (suc count)) (drop a image))
after_two image a count h = window image (suc (suc a)) count (omega arith) ∙ sym (ap (drop 2) (window image a (suc (suc count)) h))

-- the sums of the two frames
sum_zero : (type version count : ℕ) (payload : List ℕ) → let header : List ℕ = type ∷ version ∷ count ∷ [] in
    (type + version + count + total (drop 3 (frame header payload))) % 256 ≡ 0
unfolding total
sum_zero type version count payload = omega (arith, (frames.holds).zero (type ∷ version ∷ count ∷ []) payload)

avi_zero : (video : Video) → (0x82 + 0x02 + 0x0D + total (drop 3 (avi_frame video))) % 256 ≡ 0
unfolding avi_frame
avi_zero video = sum_zero 0x82 0x02 0x0D _

audio_zero : (s : Sound) → (0x84 + 0x01 + 0x0A + total (drop 3 (audio_packet s))) % 256 ≡ 0
audio_zero s = sum_zero 0x84 0x01 0x0A _

abbrev Both : List ℕ → Wires → Type 0
Both after m =
    FourShown after m.input m.depth m.style m.justification × SyncsShown after m.hplacement m.hduration m.vplacement m.vduration

wiring_shown : (r : Request) (p : Pair) (after : List ℕ) → Picked (Shows after) (places r p) → WiringShown after r.wiring
wiring_shown r p after at = go r.wiring refl
  where
    n : Wires
    n = wires_of r.wiring

    four : FourShown after n.input n.depth n.style n.justification
    four = record { input = at 0x15 3 refl; depth = at 0x16 5 refl; style = at 0x16 3 refl; justification = at 0x48 4 refl }

    by4 : (h l m : ℕ) → h ≡ m / 4 → l ≡ m % 4 → h * 4 + l ≡ m
    by4 h l m x y = omega (arith, x, y)

    by16 : (h l m : ℕ) → h ≡ m / 16 → l ≡ m % 16 → h * 16 + l ≡ m
    by16 h l m x y = omega (arith, x, y)

    by64 : (h l m : ℕ) → h ≡ m / 64 → l ≡ m % 64 → h * 64 + l ≡ m
    by64 h l m x y = omega (arith, x, y)

    by256 : (h l m : ℕ) → h ≡ m / 256 → l ≡ m % 256 → h * 256 + l ≡ m
    by256 h l m x y = omega (arith, x, y)

    syncs : SyncsShown after n.hplacement n.hduration n.vplacement n.vduration
    syncs =
        record {
          hplacement = by4 _ _ n.hplacement (at 0x30 7 refl) (at 0x31 7 refl);
          hduration = by16 _ _ n.hduration (at 0x31 5 refl) (at 0x32 7 refl);
          vplacement = by64 _ _ n.vplacement (at 0x32 3 refl) (at 0x33 7 refl);
          vduration = by256 _ _ n.vduration (at 0x33 1 refl) (at 0x34 7 refl);
        }

    go : (w : Wiring) → r.wiring ≡ w → WiringShown after w
    go Board e = subst (λ (x : Wiring). Both after (wires_of x)) e (four, syncs)
    go (Four i d s j) e = subst (λ (x : Wiring). Both after (wires_of x)) e (four, syncs)
    go (Twelve i d s j a b c f) e = subst (λ (x : Wiring). Both after (wires_of x)) e (four, syncs)

pub filled : (input image : List ℕ) → (read_of input).refusal ≡ 0
    → (after : List ℕ) → length after ≡ 256 → ((a : ℕ) → a < 256 → get_or after a 0 ≡ finished (wanted (read_of input).request) image a)
    → FinishedFields (read_of input).request (ncts_of input) after
filled input image z after sized ends =
    let r : Request = (read_of input).request in
    let p : Pair = pair_for r in
    let g : Fits r = fits input z in
    let e = shown r g image after ends in
    let at = picked (Shows after) (places r p) e in
    let stands : Stands r after = λ a h. finished_again (wanted r) image after a (ends a h) in
    let v : bits_in 2 0 (get_or after 0x52 0) ≡ 0x02 = at 0x52 2 refl in
    let l : bits_in 4 0 (get_or after 0x53 0) ≡ 0x0D = at 0x53 4 refl in
    let va : bits_in 2 0 (get_or after 0x70 0) ≡ 0x01 = at 0x70 2 refl in
    let la : bits_in 4 0 (get_or after 0x71 0) ≡ 0x0A = at 0x71 4 refl in
    let d = after_two after 0x52 14 (omega arith) ∙ avi_in_lem r after sized g stands in
    let da = after_two after 0x70 11 (omega arith) ∙ audio_in_lem r after sized g stands in
    subst (λ (q : Pair). FinishedFields r q after) (sym (asked_pair input z)) (record {
      fields = e;
      n = twenty _ _ _ p.n (at 0x01 3 refl) (at 0x02 7 refl) (at 0x03 7 refl);
      cts = twenty _ _ _ p.cts (at 0x07 3 refl) (at 0x08 7 refl) (at 0x09 7 refl);
      wiring = wiring_shown r p after at;
      avi_sum = rw (v, l, d) (avi_zero r.video);
      audio_sum = rw (va, la, da) (audio_zero r.sound);
      mode = omega (arith, at 0x18 6 refl, g.mode);
      ordered = λ a h w. rw (ends a h) (ordered (wanted r) image a h w);
    })

-- ---- the mode in each write of 0x18

requested_bit : (j : ℕ) → j < 8 → bit j (requested 0x18) ≡ 1
unfolding class_at decided merge
requested_bit j h = eqb-true _ _ (at_below (λ j. eqb (bit j (requested 0x18)) 1) 8 j refl h)

-- a write of 0x18 has the wanted mode
in_full : (want : ℕ → ℕ) (image : List ℕ) (k : ℕ) → k < length (full_list want image)
    → (get_or (full_list want image) k (0 gets 0)).address ≡ 0x18
    → bits_in 6 5 (get_or (full_list want image) k (0 gets 0)).value ≡ bits_in 6 5 (want 0x18)
in_full want image k h e =
    let w : Write = get_or (full_list want image) k (0 gets 0) in
    let c : under (requested 0x18) w.value ≡ under (requested 0x18) (want 0x18)
    = subst (λ (a : ℕ). under (requested a) w.value ≡ under (requested a) (want a)) e (entries want image k h).its_named in
    field_same 5 2 w.value (want 0x18) (λ j u.
    let b : j + 5 < 8 = omega arith in
    let m : bit (j + 5) (requested 0x18) ≡ 1 = requested_bit (j + 5) b in
    sym (masked (requested 0x18) (j + 5) w.value b m) ∙ ap (λ (x : ℕ). bit (j + 5) x) c ∙ masked (requested 0x18) (j + 5) (want 0x18) b m)

in_entry : (want : ℕ → ℕ) (image : List ℕ) (k : ℕ) → k < length (write_list want image)
    → (get_or (write_list want image) k (0 gets 0)).address ≡ 0x18
    → bits_in 6 5 (get_or (write_list want image) k (0 gets 0)).value ≡ bits_in 6 5 (want 0x18)
in_entry want image =
    of_those (λ w. w.address ≡ 0x18 → bits_in 6 5 w.value ≡ bits_in 6 5 (want 0x18)) (stays image) (0 gets 0) (full_list want image)
    (in_full want image)

pub never_three_lem : (input image : List ℕ) → (read_of input).refusal ≡ 0 → NeverThree (write_list (wanted (read_of input).request) image)
never_three_lem input image z k h e =
    let r : Request = (read_of input).request in
    let g : Fits r = fits input z in
    omega (arith, in_entry (wanted r) image k h e, picked (Wanted r g) (places r (pair_for r)) (each_wanted r g) 0x18 6 refl, g.mode)
