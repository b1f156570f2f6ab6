-- Any list that is `Good`, one that mutes first and opens last, whose walks pass, and that leaves each register as the finished image has
-- it: what its writes do to the registers and the packets in use, at every cut. What the walks show of the groups in use is `MovesOnlyAt`'s; the
-- coefficients, and Vsyncs, come in `Runs`. Assumes nothing.
use mathlib.Core.Path.{◌≡◌, refl, sym, ap, subst, ◌∙◌}
use mathlib.Core.Logic.{◌⊎◌, inl, inr, ◌≢◌}
use mathlib.Core.Bool.{false≢true, Bool, true, false, not, ◌||◌, cond}
use mathlib.Core.List.{List, [], ◌∷◌, ◌++◌, map, map-append}
use Prim.Native.Nat.{ℕ, zero, suc, ◌+◌, ◌*◌, ◌≤◌, ◌<◌}
use native.Mathlib.Nat.{not-suc-le-zero, le_of_suc-le-suc}
use native.Mathlib.Omega.{arith}
use lib.Dec.{eqb, ltb, lit<}
use lib.ListN.{length-append, length, get_or, take}
use lib.Seq.{ext_get_or, take-append-le, get_or-take, get_or-drop, get_or-set_same, get_or-set_other}
use borrow.Author.Tests.{eqb-true, eqb-false, ltb-true, ltb-false}
use Rattle.lists.specs.Find.{every}
use Rattle.map.specs.Map as reg
use Rattle.bits.specs.Merge.{bit}
use Rattle.bits.proofs.Below.{at_below}
use Rattle.chip.specs.declared.Chip.{Chip}
use Rattle.chip.specs.Machine.{Write, ◌gets◌, Group, Buffer, avi, audio, gc, matrix, packets, converter, up, registers_of, holds_of, in_use}
use Rattle.chip.specs.Machine.{held, gc_in_use, Muted, Open, mute}
use Rattle.chip.specs.Write.{write_of}
use Rattle.writes.specs.Steps.{Step, ◌raising◌, steps}
use Rattle.writes.specs.List.{decided, written, list_with, is_written, left_up, finished, ready}
use Rattle.cut.proofs.PlannedStates.{Planner, cut_of, end_of, OldOrNew}
use Rattle.cut.proofs.MovesOnlyAt.{nexts, walk, acts, Faithful, status_acts, calm, once}
use Rattle.cut.proofs.GroupStays.{store, only, status, avi_same, audio_same, gc_same, matrix_same, view, Whole, Shown, image_store}
use Rattle.cut.proofs.GroupStays.{size_store, down_part, status_store, avi_shown, audio_shown, gc_shown}
use Rattle.cut.proofs.BytesKept.{clean, place, mute_byte, Seen, packets_seen, converter_seen, walk_seen, nexts_seen}
use Rattle.cut.proofs.BytesKept.{Agree, agree_self, agree_trans, written_agree, agree_acts}
use Rattle.cut.proofs.CoefficientsInUse.{mark, safe, lead, safe_seen, lead_seen}
use Rattle.cut.proofs.NoneRefused.{neat, neat_only, tidy, neat_at, tidy_seen, Fit, run_acts, run_all, taken_at}
use Rattle.writes.proofs.Last.{last, read, last_none}
use Rattle.cut.proofs.LastWritten.{stored_last}

-- an image on which planning is not refused by 7 or 8
pub record Ready (image : List ℕ) : Type 0 where
  pub whole : length image ≡ 256
  pub holds : ready image ≡ true

-- the packet holds of such an image: none, audio's or AVI's
abbrev three : ℕ → Bool
three n = eqb n 0 || eqb n 32 || eqb n 64

pub neat_elim : (P : ℕ → Type 0) → P 0 → P 32 → P 64 → (q : ℕ) → neat (only packets.groups q) ≡ true → P (only packets.groups q)
neat_elim P p0 p32 p64 q t =
    let i : ℕ = 4 * bit 6 q + 2 * bit 5 q + bit 4 q in
    let e : only packets.groups q ≡ 16 * i = sixteens (bit 6 q) (bit 5 q) (bit 4 q) in
    let n : ℕ = 16 * i in
    subst P (sym e) (go n (eqb n 0) (eqb n 32) (eqb n 64) refl refl refl
    (rw (sym (ap neat e) ∙ t) at (at_below (λ i. cond (neat (16 * i)) (three (16 * i)) true) 8 i refl (omega arith))))
  where
    go : (n : ℕ) (x y z : Bool) → eqb n 0 ≡ x → eqb n 32 ≡ y → eqb n 64 ≡ z → (x || y || z) ≡ true → P n
    go n true y z e f g t = subst P (sym (eqb-true _ _ e)) p0
    go n false true z e f g t = subst P (sym (eqb-true _ _ f)) p32
    go n false false true e f g t = subst P (sym (eqb-true _ _ g)) p64
    go n false false false e f g t = absurd (false≢true t)

    sixteens : (a b c : ℕ) → 64 * a + (32 * b + (16 * c + 0)) ≡ 16 * (4 * a + 2 * b + c)
    sixteens a b c = omega arith

-- what a list between mute and open must do: pass the walks, and leave each register as the finished image has it
pub record Walked (n m : ℕ) (ms : List Step) : Type 0 where
  pub avi_once : walk (view packets avi) true n (map clean (steps ms)) ≡ true
  pub audio_once : walk (view packets audio) true n (map clean (steps ms)) ≡ true
  pub matrix_safe : safe true (mark (up matrix m) false) (map clean (steps ms)) ≡ true
  pub matrix_leads : lead (map clean (steps ms)) ≡ true
  pub gc_calm : walk (view packets gc) false n (map clean ms) ≡ true
  pub tidies : walk tidy false n (map clean (steps ms)) ≡ true
  pub ends : nexts tidy n (map clean (steps ms)) ≡ 0
  pub closes : nexts tidy n (map clean ms) ≡ 0
  pub matrix_ends : nexts (view converter matrix) m (map clean (steps ms)) ≡ 0

-- a step is not to the coefficient hold's register, or it has the hold up
abbrev pub elsewhere_or_up : Step → Bool
elsewhere_or_up i = not (eqb i.register reg.coefficient_update) || up matrix (clean i).value

abbrev pub not_hold : Step → Bool
not_hold i = not (eqb i.register reg.coefficient_update)

-- the step that lowers the coefficient hold, with those before it and after it
pub record Lowers (ms : List Step) : Type 0 where
  pub front : List Step
  pub back : List Step
  pub split : ms ≡ front ++ reg.coefficient_update raising 0 ∷ back
  pub raised : every elsewhere_or_up front ≡ true
  pub risen : every not_hold front ≡ false
  pub lowered : every not_hold back ≡ true

pub record Good (want : ℕ → ℕ) (image : List ℕ) (ms : List Step) : Type 0 where
  pub lowers : Lowers ms
  pub walked : Walked (status packets image) (status converter image) ms
  pub finishes : (a : ℕ) → a < 256 → read (written want image) a (last a (steps ms) 0) (get_or image a 0) ≡ finished want image a
  pub rests : (a : ℕ) → a < 256 → is_written a ≡ false → last a (steps ms) 0 ≡ 0

pub take_map : (f : Step → Write) (k : ℕ) (l : List Step) → take k (map f l) ≡ map f (take k l)
take_map f zero l = refl
take_map f (suc k) [] = refl
take_map f (suc k) (x ∷ xs) = ap (λ (r : List Write). f x ∷ r) (take_map f k xs)

pub sized_acts : (ws : List Write) (s : Chip) → Whole s → Whole (acts store ws s)
sized_acts [] s e = e
sized_acts (w ∷ ws) s e = sized_acts ws (store w s) (size_store w s e)

acts_append : (vs ws : List Write) (s : Chip) → acts store (vs ++ ws) s ≡ acts store ws (acts store vs s)
acts_append [] ws s = refl
acts_append (v ∷ vs) ws s = acts_append vs ws (store v s)

-- a write leaves the other registers
elsewhere : (w : Write) (s : Chip) (a : ℕ) → a ≢ w.address → get_or (store w s).image a 0 ≡ get_or s.image a 0
elsewhere w s a h = ap (λ (l : List ℕ). get_or l a 0) (image_store w s) ∙ get_or-set_other s.image w.address a w.value 0 h

-- so at most the last write's register moves once the writes before it are done
tail_stays : (ws : List Write) (w : Write) (s : Chip) (a k : ℕ) → a ≢ w.address → length ws ≤ k
    → get_or (acts store (take k (ws ++ w ∷ [])) s).image a 0 ≡ get_or (acts store ws s).image a 0
tail_stays [] w s a zero h l = refl
tail_stays [] w s a (suc zero) h l = elsewhere w s a h
tail_stays [] w s a (suc (suc k)) h l = elsewhere w s a h
tail_stays (v ∷ vs) w s a zero h l = absurd (not-suc-le-zero l)
tail_stays (v ∷ vs) w s a (suc k) h l = tail_stays vs w (store v s) a k h (le_of_suc-le-suc l)

-- on an image that planning takes the GC hold is down
gc_bit : (x : ℕ) → neat (only packets.groups x) ≡ true → bit 4 x ≡ 0
gc_bit x h =
    let z : up gc x ≡ false = sym (gc_same x) ∙ neat_elim (λ (n : ℕ). up gc n ≡ false) refl refl refl x h in
    let y : (bit 4 x ≡ 1) → ⊥ = eqb-false (bit 4 x) 1 z in
    omega arith

-- the two mute bits, from their number
pub is_muted : (u : Chip) → mute u ≡ 1 → Muted u
is_muted u e = (omega arith, omega arith)

is_open_lem : (u : Chip) → mute u ≡ 2 → Open u
is_open_lem u e = (omega arith, omega arith)

-- a state that cut runs may lead to: the read-only and free bits, and the registers that no list writes, are as they were
pub record Near (s u : Chip) : Type 0 where
  pub ready : Ready u.image
  pub kept : Agree u.image s.image
  pub rest : (a : ℕ) → a < 256 → is_written a ≡ false → get_or u.image a 0 ≡ get_or s.image a 0

pub near_self : (s : Chip) → Ready s.image → Near s s
near_self s r = record { ready = r; kept = agree_self s.image; rest = λ a h t. refl }

pub near_trans : (s u v : Chip) → Near s u → Near u v → Near s v
near_trans s u v n m = record {
  ready = m.ready;
  kept = agree_trans v.image u.image s.image m.kept n.kept;
  rest = λ a h w. m.rest a h w ∙ n.rest a h w;
}

-- what is near by its registers
pub near_image : (s u v : Chip) → v.image ≡ u.image → Near s u → Near s v
near_image s u v e n = record {
  ready = subst Ready (sym e) n.ready;
  kept = subst (λ (l : List ℕ). Agree l s.image) (sym e) n.kept;
  rest = λ a h w. ap (λ (l : List ℕ). get_or l a 0) e ∙ n.rest a h w;
}

pub finished_near : (want : ℕ → ℕ) (s u : Chip) → Near s u → (a : ℕ) → a < 256 → finished want u.image a ≡ finished want s.image a
unfolding finished
finished_near want s u near a h = go (is_written a) refl
  where
    end : Step
    end = a raising left_up a

    go : (t : Bool) → is_written a ≡ t
        → cond t (written want u.image end).value (get_or u.image a 0)
        ≡ cond t (written want s.image end).value (get_or s.image a 0)
    go true t = ap (λ (w : Write). w.value) (written_agree want u.image s.image end near.kept)
    go false t = near.rest a h t

-- after the last write: the picture is open, and the packets in use are those of the registers
pub record PacketsAfter (r : Chip) : Type 0 where
  pub opened : Open r
  pub avi : in_use packets avi r ≡ registers_of avi r.image
  pub audio : in_use packets audio r ≡ registers_of audio r.image

-- the coefficient hold, as a view of nothing
converter_tracked : Faithful store (view converter matrix) Whole (λ s. status converter s.image) (λ s. [])
converter_tracked = record { lasts = size_store; tracks = status_store converter refl; keeps = λ w s z q. refl }

-- a value that is old or new at every cut of every run, and that ends as the registers do
pub record Latched (P : Planner) (shown : Chip → List ℕ) : Type 0 where
  pub either : (want : ℕ → ℕ) (s : Chip) → Ready s.image → (k : ℕ) → OldOrNew shown s (end_of P want s) (cut_of P want s k)
  pub ending : (want : ℕ → ℕ) (s u : Chip) → Ready s.image → Near s u → shown (end_of P want u) ≡ shown (end_of P want s)

module _ (mid : (ℕ → ℕ) → List ℕ → List Step)
    (good : (want : ℕ → ℕ) (image : List ℕ) → Ready image → Good want image (mid want image)) where
  abbrev P : Planner
  P = list_with mid

  module _ (want : ℕ → ℕ) (s : Chip) (r : Ready s.image) where
    -- the steps between mute and open, all steps, and their bytes
    abbrev ms : List Step
    ms = mid want s.image

    abbrev is : List Step
    is = steps ms

    abbrev f : Step → Write
    f = written want s.image

    facts : Walked (status packets s.image) (status converter s.image) ms
    facts = (good want s.image r).walked

    neat_start : neat (status packets s.image) ≡ true
    neat_start = neat_only (holds_of packets s.image) ∙ r.holds

    seen_p : Seen want s.image packets
    seen_p = packets_seen want s.image (gc_bit (get_or s.image reg.infoframe_update 0) neat_start)

    -- no write is refused, so a run, and a cut one, store their bytes as they are
    pub fit : Fit want s.image s is
    fit = record {
      agree = agree_self s.image;
      sized = r.whole;
      holds = neat_start;
      walks = tidy_seen want s.image seen_p (status packets s.image) is ∙ facts.tidies;
    }

    pub cut_acts : (k : ℕ) → cut_of P want s k ≡ acts store (take k (map f is)) s
    cut_acts k = run_acts want s.image is s k fit

    pub done_acts : end_of P want s ≡ acts store (map f is) s
    done_acts = run_all want s.image is s fit

    pub taken : (k : ℕ) → k < length (map f is)
        → let w : Write = get_or (map f is) k (0 gets 0) in (write_of (cut_of P want s k) w.address w.value).refusal ≡ 0
    taken k h = rw (cut_acts k) (taken_at want s.image is s k fit h)

    -- one group: old or new at every cut, and at the end as it stands in the registers
    module _ (B : Buffer) (g : Group) (F : Shown B g) (see : Seen want s.image B) where
      holds_acts : (vs : List Step) (u : Chip) → Whole u
          → status B (acts store (map f vs) u).image ≡ nexts (view B g) (status B u.image) (map clean vs)
      holds_acts vs u e = status_acts store F (map f vs) u e ∙ nexts_seen want s.image B g see (status B u.image) vs

      group_cut : walk (view B g) true (status B s.image) (map clean is) ≡ true → (k : ℕ)
          → OldOrNew (in_use B g) s (end_of P want s) (cut_of P want s k)
      group_cut t k = rw (cut_acts k, done_acts)
          (once store F (map f is) s k r.whole (walk_seen want s.image B g see true (status B s.image) is ∙ t))

      group_done : ((t : Chip) → B.waits t ≡ false) → nexts (view B g) (status B s.image) (map clean is) ≡ 0 → up g 0 ≡ false
          → ((n : ℕ) → up g (only B.groups n) ≡ up g n)
          → in_use B g (end_of P want s) ≡ registers_of g (end_of P want s).image
      group_done i t z same =
          down_part B g (end_of P want s) (i (end_of P want s))
          (sym (same (holds_of B (end_of P want s).image)) ∙ ap (λ (n : ℕ). up g n) (rw done_acts (holds_acts is s r.whole) ∙ t) ∙ z)

    pub ready_cut : (k : ℕ) → Ready (cut_of P want s k).image
    ready_cut k = record {
      whole = rw (cut_acts k) (sized_acts (take k (map f is)) s r.whole);
      holds = sym (neat_only (holds_of packets (cut_of P want s k).image))
          ∙ rw (cut_acts k, take_map f k is, holds_acts packets gc gc_shown seen_p (take k is) s r.whole, ← take_map clean k is)
          (neat_at _ (map clean is) k neat_start facts.tidies);
    }

    -- the mute bits after a write to their register
    mute_store : (x : ℕ) (u : Chip) → Whole u → up gc (status packets u.image) ≡ false
        → mute (store (f (reg.av_mute raising x)) u) ≡ bit 6 x + 2 * bit 7 x
    unfolding gc_in_use written decided
    mute_store x u e h =
        let d : in_use packets gc (store (f (reg.av_mute raising x)) u) ≡ registers_of gc (store (f (reg.av_mute raising x)) u).image =
        down_part packets gc (store (f (reg.av_mute raising x)) u) refl
        (sym (gc_same (holds_of packets (store (f (reg.av_mute raising x)) u).image))
        ∙ ap (λ (n : ℕ). up gc n) (gc_shown.tracks (f (reg.av_mute raising x)) u e) ∙ h) in
        rw (d, image_store, get_or-take {A = ℕ} 1 _ 0 0 (lit< tt), get_or-drop, get_or-set_same u.image reg.av_mute _ 0 (rw e (lit< tt)))
        (mute_byte (get_or s.image reg.av_mute 0) x (want reg.av_mute))

    -- the state after the first write
    dark : Chip
    dark = store (f (reg.av_mute raising reg.set_av_mute_mask)) s

    dark_sized : Whole dark
    unfolding dark
    dark_sized = size_store (f (reg.av_mute raising reg.set_av_mute_mask)) s r.whole

    dark_holds : status packets dark.image ≡ status packets s.image
    unfolding dark written
    dark_holds = gc_shown.tracks (f (reg.av_mute raising reg.set_av_mute_mask)) s r.whole

    -- the writes between, and the last
    abbrev ws : List Write
    ws = map f ms

    abbrev opening : Write
    opening = f (reg.av_mute raising reg.clear_av_mute_mask)

    shape : map f (ms ++ reg.av_mute raising reg.clear_av_mute_mask ∷ []) ≡ ws ++ opening ∷ []
    shape = map-append f ms _

    count : length (P want s.image) ≡ suc (suc (length ws))
    count = ap (λ (l : List Write). suc (length l)) shape ∙ rw (length-append ws (opening ∷ [])) (omega arith)

    cut_dark : (j : ℕ) → cut_of P want s (suc j) ≡ acts store (take j (ws ++ opening ∷ [])) dark
    unfolding dark
    cut_dark j = cut_acts (suc j) ∙ ap (λ (l : List Write). acts store (take j l) dark) shape

    opens : Open (end_of P want s)
    unfolding dark
    opens =
        let u : Chip = acts store ws dark in
        let e : end_of P want s ≡ store opening u = done_acts ∙ rw (map-append, acts_append) in
        let h : status packets u.image ≡ 0 =
        holds_acts packets gc gc_shown seen_p ms dark dark_sized ∙ ap (λ (n : ℕ). nexts (view packets gc) n (map clean ms)) dark_holds
        ∙ facts.closes in
        is_open_lem (end_of P want s) (rw e (mute_store reg.clear_av_mute_mask u (sized_acts ws dark dark_sized) (ap (λ (n : ℕ). up gc n) h)))

    pub mutes : (j : ℕ) → suc j < length (P want s.image) → Muted (cut_of P want s (suc j))
    unfolding gc_in_use dark
    mutes j h =
        let le : j ≤ length ws = omega (arith, count) in
        let e : cut_of P want s (suc j) ≡ acts store (take j ws) dark =
        cut_dark j ∙ ap (λ (l : List Write). acts store l dark) (take-append-le j ws (opening ∷ []) le) in
        let c : in_use packets gc (acts store (take j ws) dark) ≡ in_use packets gc dark =
        calm store gc_shown ws dark j dark_sized
        (rw dark_holds (walk_seen want s.image packets gc seen_p false (status packets s.image) ms ∙ facts.gc_calm)) in
        is_muted (cut_of P want s (suc j)) (rw (e, c) (mute_store reg.set_av_mute_mask s r.whole
        (neat_elim (λ (n : ℕ). up gc n ≡ false) refl refl refl (holds_of packets s.image) neat_start)))

    pub ended : PacketsAfter (end_of P want s)
    ended = record {
      opened = opens;
      avi = group_done packets avi avi_shown seen_p (λ t. refl) facts.ends refl avi_same;
      audio = group_done packets audio audio_shown seen_p (λ t. refl) facts.ends refl audio_same;
    }

    -- the coefficient hold is down
    pub held_end : held (end_of P want s) ≡ false
    held_end =
        let e : status converter (end_of P want s).image ≡ 0 =
        rw done_acts (status_acts store converter_tracked (map f is) s r.whole
        ∙ nexts_seen want s.image converter matrix (converter_seen want s.image) (status converter s.image) is) ∙ facts.matrix_ends in
        sym (matrix_same (holds_of converter (end_of P want s).image)) ∙ ap (λ (n : ℕ). up matrix n) e

    -- and whatever a walk over the steps says of the coefficients, it says of the writes
    pub safe_list : safe true (mark (held s) false) (P want s.image) ≡ true
    safe_list =
        safe_seen want s.image true (mark (held s) false) is
        ∙ ap (λ (b : Bool). safe true (mark b false) (map clean is)) (sym (matrix_same (holds_of converter s.image))) ∙ facts.matrix_safe

    pub lead_list : lead (P want s.image) ≡ true
    lead_list = lead_seen want s.image is ∙ facts.matrix_leads

    -- the registers after some of the steps
    pub stand : (vs : List Step) (a : ℕ) → a < 256 → get_or (acts store (map f vs) s).image a 0 ≡ read f a (last a vs 0) (get_or s.image a 0)
    stand vs a h = stored_last f (place want s.image) a (get_or s.image a 0) h vs s 0 r.whole refl

    pub registers : (a : ℕ) → a < 256 → get_or (end_of P want s).image a 0 ≡ finished want s.image a
    registers a h = rw done_acts (stand is a h) ∙ (good want s.image r).finishes a h

    pub others_stay : (k a : ℕ) → a < 256 → is_written a ≡ false → get_or (cut_of P want s k).image a 0 ≡ get_or s.image a 0
    others_stay k a h t = rw (cut_acts k, take_map f k is, stand (take k is) a h, last_none a is 0 k ((good want s.image r).rests a h t))

    -- a register that a write moves is the mute's, or the picture is muted before and after
    pub covered : (a k : ℕ) → a ≢ reg.av_mute → get_or (cut_of P want s (suc k)).image a 0 ≢ get_or (cut_of P want s k).image a 0
        → Muted (cut_of P want s k) × Muted (cut_of P want s (suc k))
    unfolding dark written
    covered a zero h m =
        absurd (m (ap (λ (t : Chip). get_or t.image a 0) (cut_dark 0) ∙ elsewhere (f (reg.av_mute raising reg.set_av_mute_mask)) s a h))
    covered a (suc j) h m = go (ltb (suc (suc j)) (length (P want s.image))) refl
      where
        late : (i : ℕ) → length ws ≤ i → get_or (cut_of P want s (suc i)).image a 0 ≡ get_or (acts store ws dark).image a 0
        late i l = ap (λ (t : Chip). get_or t.image a 0) (cut_dark i) ∙ tail_stays ws opening dark a i h l

        go : (t : Bool) → ltb (suc (suc j)) (length (P want s.image)) ≡ t
            → Muted (cut_of P want s (suc j)) × Muted (cut_of P want s (suc (suc j)))
        go true e =
            let l : suc (suc j) < length (P want s.image) = ltb-true (suc (suc j)) (length (P want s.image)) e in
            (mutes j (omega (arith, l)), mutes (suc j) l)
        go false e =
            let l : length ws ≤ j = omega (arith, count, ltb-false (suc (suc j)) (length (P want s.image)) e) in
            absurd (m (late (suc j) (omega (arith, l)) ∙ sym (late j l)))

    pub vic : (k : ℕ) → get_or (cut_of P want s k).image reg.vic_manual 0 ≢ get_or s.image reg.vic_manual 0
        → Muted (cut_of P want s k) ⊎ (length (P want s.image) ≤ k)
    vic zero m = absurd (m refl)
    vic (suc j) m = go (ltb (suc j) (length (P want s.image))) refl
      where
        go : (t : Bool) → ltb (suc j) (length (P want s.image)) ≡ t
            → Muted (cut_of P want s (suc j)) ⊎ (length (P want s.image) ≤ suc j)
        go true e = inl (mutes j (ltb-true (suc j) (length (P want s.image)) e))
        go false e = inr (ltb-false (suc j) (length (P want s.image)) e)

  pub near_cut : (want : ℕ → ℕ) (s u : Chip) (k : ℕ) → Near s u → Near s (cut_of P want u k)
  near_cut want s u k near =
      let vs : List Step = take k (is want u near.ready) in
      record {
        ready = ready_cut want u near.ready k;
        kept = agree_trans _ u.image _
            (rw (cut_acts want u near.ready k, take_map (written want u.image) k)
            (agree_acts want u.image vs u (agree_self u.image))) near.kept;
        rest = λ a h t. others_stay want u near.ready k a h t ∙ near.rest a h t;
      }

  -- a run from a near state ends in the same registers
  pub ends_alike : (want : ℕ → ℕ) (s u : Chip) → Ready s.image → Near s u → (end_of P want u).image ≡ (end_of P want s).image
  ends_alike want s u r near = ext_get_or 0 _ _ (size u near.ready ∙ sym (size s r)) (λ a h. at_each a (rw (size u near.ready) at h))
    where
      size : (t : Chip) → Ready t.image → length (end_of P want t).image ≡ 256
      size t q = rw (done_acts want t q) (sized_acts (P want t.image) t q.whole)

      at_each : (a : ℕ) → a < 256 → get_or (end_of P want u).image a 0 ≡ get_or (end_of P want s).image a 0
      at_each a h = registers want u near.ready a h ∙ finished_near want s u near a h ∙ sym (registers want s r a h)

  ending_part : (g : Group) (shown : Chip → List ℕ) (of : List ℕ → List ℕ)
      → ((want : ℕ → ℕ) (t : Chip) → Ready t.image → shown (end_of P want t) ≡ of (registers_of g (end_of P want t).image))
      → (want : ℕ → ℕ) (s u : Chip) → Ready s.image → Near s u → shown (end_of P want u) ≡ shown (end_of P want s)
  ending_part g shown of h want s u r near = h want u near.ready
      ∙ ap (λ (l : List ℕ). of (registers_of g l)) (ends_alike want s u r near) ∙ sym (h want s r)

  pub avi_latched : Latched P (in_use packets avi)
  avi_latched = record {
    either = λ want s r k. group_cut want s r packets avi avi_shown (seen_p want s r) (facts want s r).avi_once k;
    ending = ending_part avi (in_use packets avi) (λ l. l) (λ want s r. (ended want s r).avi);
  }

  pub audio_latched : Latched P (in_use packets audio)
  audio_latched = record {
    either = λ want s r k. group_cut want s r packets audio audio_shown (seen_p want s r) (facts want s r).audio_once k;
    ending = ending_part audio (in_use packets audio) (λ l. l) (λ want s r. (ended want s r).audio);
  }
