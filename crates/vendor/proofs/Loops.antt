-- The passes over a list, turn by turn: what is done and what is left make up the whole.
--     pair_code      a pair as the code has it; pairs_code, length_writes
--     by_code        a turn's write, by what `store` leaves; plain_write
--     Counts         how many are taken, at a place; counts_start, counts_away, counts_next, counts_stop, counts_end
--     Ends           the first pass at a place; ends_start, ends_next, ends_end
--     Left           the second; left_start, left_next, left-stop, left_end
-- Assumes nothing.
use mathlib.Core.Path.{◌≡◌, refl, sym, ap, ap₂, subst, ◌∙◌}
use mathlib.Core.Bool.{Bool, true, false, cond, not, ◌&&◌, ◌||◌}
use mathlib.Core.List.{List, [], ◌∷◌}
use Prim.Native.Nat.{ℕ, zero, suc, ◌+◌, ◌/◌, ◌<◌, ◌≤◌, suc-le-suc}
use native.Mathlib.Nat.{suc-ne-zero}
use native.Mathlib.Numerals.{add-one}
use native.Mathlib.Omega.{arith}
use lib.Dec.{eqb, ltb}
use lib.ListN.{length, get_or, set, drop, length-set, length-drop, drop_of_length-le}
use lib.Seq.{drop-cons, drop-length}
use borrow.Author.Tests.{not-true, eqb-true, eqb-false, ne_eqb, ltb-true, ltb-false}
use Rattle.lists.proofs.Both.{both_left, both_right, neither_left}
use Rattle.bits.specs.Merge.{merge, under}
use Rattle.bits.proofs.Below.{at_below}
use Rattle.registers.specs.declared.Class.{Class}
use Rattle.registers.specs.declared.ByColumn.{ByColumn}
use Rattle.registers.specs.Classes.{class_at, read_only, mandated, free, bits}
use Rattle.registers.specs.ByColumns.{HasColumns}
use Rattle.registers.proofs.Columns.{at_address}
use Rattle.chip.specs.declared.Chip.{Chip}
use Rattle.chip.specs.Numbered.{Wrote}
use Rattle.chip.specs.Machine.{Write, ◌gets◌, packets, converter, holds_of}
use Rattle.chip.specs.Write.{lent_as, put, stored, two, holds_after, refuses, write_of, vsync_of, Stores}
use Rattle.chip.proofs.Writes.{written_as, refused_write_lem, taken_write}
use Rattle.std.specs.Simd.{first_chunks}
use Rattle.writes.specs.List.{pairs_of, is_written, column}
use Rattle.writes.specs.Columns.{kept_bits}
use Rattle.writes.proofs.Image.{column_at}
use Rattle.cut.specs.Run.{InUse}
use Rattle.cut.proofs.VsyncsLeave.{alike_self, alike_vsync, alike_write}
use Rattle.vendor.specs.Numbered.{writes_in}
use Rattle.vendor.specs.Vendor.{pair_at, end_of, shortened}
use Rattle.vendor.specs.Found.{taken_by, fair_test, is_last, is_event, is_next, first_fault}

-- pair i of a list, written to a state
abbrev pub wrote : List Write → ℕ → Chip → Wrote
wrote ws i t = write_of t (pair_at ws i).address (pair_at ws i).value

-- a pair as the code has it
pub pair_code : (ps : List (List ℕ)) (i : ℕ) → pair_at (writes_in ps) i ≡ get_or (get_or ps i []) 0 0 gets get_or (get_or ps i []) 1 0
pair_code [] i = refl
pair_code (p ∷ ps) zero = refl
pair_code (p ∷ ps) (suc i) = pair_code ps i

pub pairs_code : (k : ℕ) (l : List ℕ) → k ≡ length l / 2 → writes_in (first_chunks 2 k l) ≡ pairs_of l
pairs_code zero [] e = refl
pairs_code (suc k) [] e = absurd (omega arith)
pairs_code zero (a ∷ []) e = refl
pairs_code (suc k) (a ∷ []) e = absurd (omega arith)
pairs_code zero (a ∷ v ∷ l) e = absurd (omega arith)
pairs_code (suc k) (a ∷ v ∷ l) e = ap (λ (ws : List Write). a gets v ∷ ws) (pairs_code k l (omega arith))

pub length_writes : (ps : List (List ℕ)) → length (writes_in ps) ≡ length ps
length_writes [] = refl
length_writes (p ∷ ps) = ap suc (length_writes ps)

-- a state keeps the length of its image
kept_length : (t : Chip) (address byte : ℕ) (done : Bool) → length (cond done (put address byte t) t).image ≡ length t.image
unfolding put
kept_length t address byte true = length-set t.image address byte
kept_length t address byte false = refl

-- the byte that the code stores, and the answer of the write
module _ (ws : List Write) (i : ℕ) (t left : Chip) (byte : ℕ) (done : Bool) (whole : length t.image ≡ 256)
    (b : byte ≡ merge 8 (read_only (pair_at ws i).address) (get_or t.image (pair_at ws i).address 0) (pair_at ws i).value)
    (st : Stores t (pair_at ws i).address byte done left) where
  its_byte : byte ≡ stored (pair_at ws i).address (pair_at ws i).value t.image
  unfolding stored
  its_byte = b

  stores : Stores t (pair_at ws i).address (stored (pair_at ws i).address (pair_at ws i).value t.image) done left
  stores = subst (λ (n : ℕ). Stores t (pair_at ws i).address n done left) its_byte st

  not_taken : done ≡ false → wrote ws i t ≡ record { refusal = 13; chip = t }
  not_taken e = sym (refused_write_lem t (pair_at ws i).address (pair_at ws i).value whole done left stores e)

  taken : done ≡ true → wrote ws i t ≡ record { refusal = 0; chip = left }
  taken e = sym (taken_write t (pair_at ws i).address (pair_at ws i).value whole done left stores e)

  -- the state that is left
  left_sized : length left.image ≡ 256
  left_sized = ap (λ (u : Chip). length u.image) st.1 ∙ kept_length t (pair_at ws i).address byte done ∙ whole

-- where a write is not refused, no two packet holds are up before it
one_hold : (ws : List Write) (i : ℕ) (t : Chip) → ((wrote ws i t).refusal ≡ 13 → ⊥) → two (holds_of packets t.image) ≡ false
unfolding refuses
one_hold ws i t n = go (refuses t (pair_at ws i).address (pair_at ws i).value) refl
  where
    go : (b : Bool) → refuses t (pair_at ws i).address (pair_at ws i).value ≡ b → two (holds_of packets t.image) ≡ false
    go true e = absurd (n (ap (λ (w : Wrote). w.refusal) (written_as t (pair_at ws i).address (pair_at ws i).value true e)))
    go false e = neither_left (two (holds_of packets t.image)) _ e

-- where no two packet holds are up: at an address that has no hold a write is to the image alone; at the others it is `store` of the machine
pub plain_write : (t : Chip) (address byte : ℕ) → (not (eqb address packets.register) && not (eqb address converter.register)) ≡ true
    → two (holds_of packets t.image) ≡ false
    → Stores t address byte (not (two (holds_after address byte t.image))) (lent_as (set t.image address byte) t.packet t.coefficients t.waiting)
unfolding put
plain_write t address byte h g =
    let p : Bool = eqb address packets.register in
    let c : Bool = eqb address converter.register in
    let e : p ≡ false = not-true p (both_left (not p) (not c) h) in
    let f : c ≡ false = not-true c (both_right (not p) (not c) h) in
    (rw (e, g), rw (e, g, f, neither t.waiting))
  where
    neither : (b : Bool) → (not b && false) ≡ false
    neither true = refl
    neither false = refl

-- a write that is not refused
by_done : (ws : List Write) (i : ℕ) (t left : Chip) (byte : ℕ) (done : Bool) → length t.image ≡ 256
    → byte ≡ merge 8 (read_only (pair_at ws i).address) (get_or t.image (pair_at ws i).address 0) (pair_at ws i).value
    → (two (holds_of packets t.image) ≡ false → Stores t (pair_at ws i).address byte done left) → ((wrote ws i t).refusal ≡ 13 → ⊥)
    → (wrote ws i t ≡ record { refusal = 0; chip = left }) × (length left.image ≡ 256)
by_done ws i t left byte true z b st n =
    let s = st (one_hold ws i t n) in (taken ws i t left byte true z b s refl, left_sized ws i t left byte true z b s)
by_done ws i t left byte false z b st n =
    absurd (n (ap (λ (w : Wrote). w.refusal) (not_taken ws i t left byte false z b (st (one_hold ws i t n)) refl)))

-- of a pair as the code has it, w
pub by_code : (ws : List Write) (i : ℕ) (w : Write) → pair_at ws i ≡ w → (t left : Chip) (byte : ℕ) (done : Bool) → length t.image ≡ 256
    → byte ≡ merge 8 (read_only w.address) (get_or t.image w.address 0) w.value
    → (two (holds_of packets t.image) ≡ false → Stores t w.address byte done left) → ((wrote ws i t).refusal ≡ 13 → ⊥)
    → (wrote ws i t ≡ record { refusal = 0; chip = left }) × (length left.image ≡ 256)
by_code ws i w e t left byte done z b st n =
    by_done ws i t left byte done z (subst (λ (p : Write). byte ≡ merge 8 (read_only p.address) (get_or t.image p.address 0) p.value) (sym e) b)
    (λ h. subst (λ (p : Write). Stores t p.address byte done left) (sym e) (st h)) n

-- what is taken from a place on
shortened_on : (ws : List Write) (i : ℕ) (t : Chip) → i < length ws
    → shortened (drop i ws) t ≡ cond (eqb (wrote ws i t).refusal 0) (pair_at ws i ∷ shortened (drop (suc i) ws) (wrote ws i t).chip) []
shortened_on ws i t h = ap (λ (l : List Write). shortened l t) (drop-cons ws i _ h)

-- what is taken is no longer than the list
pub shortened_short : (ws : List Write) (s : Chip) → length (shortened ws s) ≤ length ws
shortened_short [] s = omega arith
shortened_short (w ∷ ws) s = go (eqb (write_of s w.address w.value).refusal 0) (shortened_short ws (write_of s w.address w.value).chip)
  where
    go : (b : Bool) → length (shortened ws (write_of s w.address w.value).chip) ≤ length ws
        → length (cond b (w ∷ shortened ws (write_of s w.address w.value).chip) []) ≤ suc (length ws)
    go true h = suc-le-suc h
    go false h = omega arith

-- ---- how many pairs are taken

-- at place i the byte of the holds is `held`
pub record Counts (start : ℕ) (ws : List Write) (i held : ℕ) : Type 0 where
  pub count : taken_by start ws ≡ i + taken_by held (drop i ws)

pub counts_start : (start : ℕ) (ws : List Write) → Counts start ws 0 start
counts_start start ws = record { count = omega arith }

module _ (start : ℕ) (ws : List Write) (i held : ℕ) (c : Counts start ws i held) where
  pub counts_end : i ≡ length ws → i ≡ taken_by start ws
  counts_end e = let n : drop i ws ≡ [] = rw (e, drop-length ws) in sym (c.count ∙ rw n (omega arith))

  module _ (h : i < length ws) where
    abbrev byte : ℕ
    byte = merge 8 (read_only (pair_at ws i).address) held (pair_at ws i).value

    on_pair : taken_by held (drop i ws) ≡ taken_by held (pair_at ws i ∷ drop (suc i) ws)
    on_pair = ap (taken_by held) (drop-cons ws i _ h)

    by_pair : (r t : Bool) → eqb (pair_at ws i).address packets.register ≡ r → two byte ≡ t → taken_by held (drop i ws)
        ≡ cond r (cond t 0 (suc (taken_by byte (drop (suc i) ws)))) (suc (taken_by held (drop (suc i) ws)))
    by_pair r t e f =
        on_pair
        ∙ ap₂ (λ (x y : Bool). elim x as (λ z. ℕ) [
          | true ↦ elim y as (λ z. ℕ) [ true ↦ 0 | false ↦ suc (taken_by byte (drop (suc i) ws)) ]
          | false ↦ suc (taken_by held (drop (suc i) ws))
        ]) e f
        ∙ shape r t
      where
        shape : (r t : Bool) → elim r as (λ z. ℕ) [
          | true ↦ elim t as (λ z. ℕ) [ true ↦ 0 | false ↦ suc (taken_by byte (drop (suc i) ws)) ]
          | false ↦ suc (taken_by held (drop (suc i) ws))
        ] ≡ cond r (cond t 0 (suc (taken_by byte (drop (suc i) ws)))) (suc (taken_by held (drop (suc i) ws)))
        shape true true = refl
        shape true false = refl
        shape false t = refl

    pub counts_away : eqb (pair_at ws i).address packets.register ≡ false → Counts start ws (i + 1) held
    counts_away e = let q = by_pair false (two byte) e refl in record { count = c.count ∙ rw (q, add-one) (omega arith) }

    pub counts_next : eqb (pair_at ws i).address packets.register ≡ true → two byte ≡ false → Counts start ws (i + 1) byte
    counts_next e f = let q = by_pair true false e f in record { count = c.count ∙ rw (q, add-one) (omega arith) }

    pub counts_stop : eqb (pair_at ws i).address packets.register ≡ true → two byte ≡ true → i ≡ taken_by start ws
    counts_stop e f = let q = by_pair true true e f in sym (c.count ∙ rw q (omega arith))

-- ---- the first pass

-- the event leaves the image
pub turned_long : (event : Bool) (s t : Chip) → t ≡ cond event (vsync_of s) s → length s.image ≡ 256 → length t.image ≡ 256
unfolding vsync_of
turned_long true s t e h = ap (λ (u : Chip). length u.image) e ∙ h
turned_long false s t e h = ap (λ (u : Chip). length u.image) e ∙ h

-- where a list goes on
abbrev tail : List Write → List Write
tail [] = []
tail (w ∷ ws) = ws

nothing_dropped : (ws : List Write) (i : ℕ) → i < length ws → drop i ws ≡ [] → ⊥
nothing_dropped ws i h e = let n : length (drop i ws) ≡ 0 = ap length e in omega (arith, n, length-drop i ws)

module _ (ws : List Write) (s : Chip) where
  abbrev hs : List Write
  hs = shortened ws s

  -- at place i the state is t
  pub record Ends (i : ℕ) (t : Chip) : Type 0 where
    pub ends : end_of hs s ≡ end_of (drop i hs) t
    pub rest : i < length hs → drop i hs ≡ shortened (drop i ws) t

  pub ends_start : Ends 0 s
  ends_start = record { ends = refl; rest = λ _. refl }

  module _ (i : ℕ) (t : Chip) (l : Ends i t) where
    pub ends_end : i ≡ length hs → t ≡ end_of hs s
    ends_end e = let n : drop i hs ≡ [] = rw (e, drop-length hs) in sym (l.ends ∙ rw n)

    module _ (h : i < length hs) (k : i < length ws) where
      -- the machine takes the pair, before the event and after it
      taken_here : (wrote ws i t).refusal ≡ 13 → ⊥
      taken_here e = nothing_dropped hs i h (l.rest h ∙ shortened_on ws i t k ∙ rw e)

      pub taken_so : (event : Bool) → (wrote ws i (cond event (vsync_of t) t)).refusal ≡ 13 → ⊥
      taken_so true e =
          taken_here (sym (alike_write (pair_at ws i).address (pair_at ws i).value (vsync_of t) t (alike_vsync t t (alike_self t))).refusal ∙ e)
      taken_so false e = taken_here e

      that_pair : pair_at hs i ≡ pair_at ws i
      that_pair =
          let c : drop i hs ≡ pair_at hs i ∷ drop (suc i) hs = drop-cons hs i _ h in
          let d : drop i hs ≡ cond (eqb (wrote ws i t).refusal 0) (pair_at ws i ∷ shortened (drop (suc i) ws) (wrote ws i t).chip) [] =
          l.rest h ∙ shortened_on ws i t k in
          go (eqb (wrote ws i t).refusal 0) (sym c ∙ d)
        where
          go : (b : Bool) → pair_at hs i ∷ drop (suc i) hs ≡ cond b (pair_at ws i ∷ shortened (drop (suc i) ws) (wrote ws i t).chip) []
              → pair_at hs i ≡ pair_at ws i
          go true e = ap (λ (l : List Write). get_or l 0 (0 gets 0)) e
          go false e = absurd (suc-ne-zero _ (ap length e))

      onward : drop i hs ≡ pair_at ws i ∷ drop (suc i) hs
      onward = drop-cons hs i _ h ∙ ap (λ (w : Write). w ∷ drop (suc i) hs) that_pair

      pub ends_next : (event : Bool) → eqb (i + 1) (length hs) ≡ event → (u : Chip)
          → wrote ws i (cond event (vsync_of t) t) ≡ record { refusal = 0; chip = u } → Ends (i + 1) u
      ends_next true e u w =
          let q : i + 1 ≡ length hs = eqb-true (i + 1) (length hs) e in
          let le : length hs ≤ suc i = omega (arith, q) in
          let n : drop (suc i) hs ≡ [] = drop_of_length-le hs le in
          record {
            ends = l.ends ∙ ap (λ (r : List Write). end_of r t) (onward ∙ ap (λ (r : List Write). pair_at ws i ∷ r) n)
                ∙ ap (λ (x : Wrote). x.chip) w ∙ sym (ap (λ (r : List Write). end_of r u) (ap (λ (j : ℕ). drop j hs) (add-one i) ∙ n));
            rest = λ g. absurd (omega (arith, g, q));
          }
      ends_next false e u w =
          let q : (i + 1 ≡ length hs) → ⊥ = eqb-false (i + 1) (length hs) e in
          let g : suc i < length hs = omega (arith, h, q) in
          let d : drop (suc i) hs ≡ pair_at hs (suc i) ∷ drop (suc (suc i)) hs = drop-cons hs (suc i) _ g in
          record {
            ends = l.ends ∙ ap (λ (r : List Write). end_of r t) (onward ∙ ap (λ (r : List Write). pair_at ws i ∷ r) d)
                ∙ ap (λ (x : Wrote). end_of (pair_at hs (suc i) ∷ drop (suc (suc i)) hs) x.chip) w
                ∙ sym (ap (λ (r : List Write). end_of r u) (ap (λ (j : ℕ). drop j hs) (add-one i) ∙ d));
            rest = λ _.
                let z : shortened (drop i ws) t ≡ pair_at ws i ∷ shortened (drop (suc i) ws) u = shortened_on ws i t k ∙ rw w in
                ap (λ (j : ℕ). drop j hs) (add-one i) ∙ ap (λ (r : List Write). tail r) (sym onward ∙ l.rest h ∙ z)
                ∙ ap (λ (j : ℕ). shortened (drop j ws) u) (sym (add-one i));
          }

-- ---- the second pass

-- the last pair, by its place
last_at : (ws : List Write) (i : ℕ) → i < length ws → is_last (drop (suc i) ws) ≡ eqb (i + 1) (length ws)
last_at ws i h = go (eqb (i + 1) (length ws)) refl
  where
    go : (t : Bool) → eqb (i + 1) (length ws) ≡ t → is_last (drop (suc i) ws) ≡ t
    go true e = let q : i + 1 ≡ length ws = eqb-true (i + 1) (length ws) e in let k : length ws ≤ suc i = omega (arith, q) in ap is_last (drop_of_length-le ws k)
    go false e = let q : (i + 1 ≡ length ws) → ⊥ = eqb-false (i + 1) (length ws) e in ap is_last (drop-cons ws (suc i) (pair_at ws (suc i)) (omega (arith, q)))

-- the pair before which the event comes, by the place of the one before it
event_at : (ws : List Write) (i : ℕ) → i < length ws → is_event (drop (suc i) ws) ≡ eqb (i + 2) (length ws)
event_at ws i h = go (ltb (suc i) (length ws)) refl
  where
    go : (t : Bool) → ltb (suc i) (length ws) ≡ t → is_event (drop (suc i) ws) ≡ eqb (i + 2) (length ws)
    go true e =
        let l : suc i < length ws = ltb-true (suc i) (length ws) e in
        let m : suc i + 1 ≡ i + 2 = omega arith in
        ap is_event (drop-cons ws (suc i) (pair_at ws (suc i)) l) ∙ last_at ws (suc i) l ∙ ap (λ (n : ℕ). eqb n (length ws)) m
    go false e =
        let l : length ws ≤ suc i = ltb-false (suc i) (length ws) e in
        ap is_event (drop_of_length-le ws l) ∙ sym (ne_eqb (i + 2) (length ws) (λ q. omega (arith, q, l)))

-- a register that a list keeps whole is one that it does not write
abbrev alike : Bool → Bool → Bool
alike a b = cond a b (not b)

same : (a b : Bool) → alike a b ≡ true → a ≡ b
same true b e = sym e
same false true e = e
same false false e = refl

abbrev told : ℕ → Bool
told a = alike (not (eqb (kept_bits a) 255)) (is_written a)

pub kept_whole : (a : ℕ) → a < 256 → not (eqb (kept_bits a) 255) ≡ is_written a
unfolding is_written class_at merge
kept_whole a h = same _ _ (at_below told 256 a refl h)

-- a pair's byte and its test, by the code's columns
module _ (c : ByColumn) (cs : HasColumns c) (a old v : ℕ) where
  pub merged : merge 8 (get_or c.read_only a 0) old v ≡ merge 8 (read_only a) old v
  merged = ap (λ (n : ℕ). merge 8 n old v) (ap (λ (l : List ℕ). get_or l a 0) cs.read_only ∙ at_address (λ (r : Class). r.read_only) a)

  fairly : (image keep : List ℕ) → old ≡ get_or image a 0 → keep ≡ column kept_bits → a < 256
      → (not (eqb (get_or keep a 0) 255) && (eqb (under (get_or c.mandated a 0) v) (under (get_or c.mandated a 0) (get_or c.bits a 0)) &&
      eqb (under (get_or c.free a 0) v) (under (get_or c.free a 0) old))) ≡ fair_test image (a gets v)
  fairly image keep o ks small =
      let k : get_or keep a 0 ≡ kept_bits a = ap (λ (l : List ℕ). get_or l a 0) ks ∙ column_at kept_bits a small in
      let m : get_or c.mandated a 0 ≡ mandated a = ap (λ (l : List ℕ). get_or l a 0) cs.mandated ∙ at_address (λ (r : Class). r.mandated) a in
      let f : get_or c.free a 0 ≡ free a = ap (λ (l : List ℕ). get_or l a 0) cs.free ∙ at_address (λ (r : Class). r.free) a in
      let b : get_or c.bits a 0 ≡ bits a = ap (λ (l : List ℕ). get_or l a 0) cs.bits ∙ at_address (λ (r : Class). r.bits) a in
      let t : not (eqb (kept_bits a) 255) ≡ is_written a = kept_whole a small in
      (λ j. not (eqb (k j) 255) && (eqb (under (m j) v) (under (m j) (b j)) && eqb (under (f j) v) (under (f j) old)))
      ∙ (λ j. t j && (eqb (under (mandated a) v) (under (mandated a) (bits a)) && eqb (under (free a) v) (under (free a) (o j))))

pub fairly_code : (c : ByColumn) → HasColumns c → (ps : List (List ℕ)) (i : ℕ) (image keep : List ℕ) → keep ≡ column kept_bits
    → let a : ℕ = get_or (get_or ps i []) 0 0 in
    let v : ℕ = get_or (get_or ps i []) 1 0 in
    a < 256 → (not (eqb (get_or keep a 0) 255) && (eqb (under (get_or c.mandated a 0) v) (under (get_or c.mandated a 0) (get_or c.bits a 0)) &&
    eqb (under (get_or c.free a 0) v) (under (get_or c.free a 0) (get_or image a 0)))) ≡ fair_test image (pair_at (writes_in ps) i)
fairly_code c cs ps i image keep k small =
    fairly c cs _ _ (get_or (get_or ps i []) 1 0) image keep refl k small ∙ ap (fair_test image) (sym (pair_code ps i))

module _ (old new : InUse) (ws : List Write) (s : Chip) where
  -- at place i the state is t
  pub record Left (i : ℕ) (t : Chip) : Type 0 where
    pub place : first_fault old new (shortened ws s) s ≡ i + first_fault old new (drop i (shortened ws s)) t
    pub rest : drop i (shortened ws s) ≡ shortened (drop i ws) t

  pub left_start : Left 0 s
  left_start = record { place = omega arith; rest = refl }

  module _ (i : ℕ) (t : Chip) (l : Left i t) where
    pub left_end : i ≡ length (shortened ws s) → i ≡ first_fault old new (shortened ws s) s
    left_end e =
        let n : drop i (shortened ws s) ≡ [] = rw (e, drop-length (shortened ws s)) in
        sym (l.place ∙ rw n (omega arith))

    module _ (h : i < length (shortened ws s)) (k : i < length ws) where
      -- the machine takes the pair
      pub is_taken : (wrote ws i t).refusal ≡ 13 → ⊥
      is_taken e =
          let n : drop i (shortened ws s) ≡ [] = l.rest ∙ shortened_on ws i t k ∙ rw e in
          nothing_dropped (shortened ws s) i h n

      module _ (u : Chip) (e : wrote ws i t ≡ record { refusal = 0; chip = u }) where
        on : drop i (shortened ws s) ≡ pair_at ws i ∷ shortened (drop (suc i) ws) u
        on = l.rest ∙ shortened_on ws i t k ∙ rw e

        further : drop (suc i) (shortened ws s) ≡ shortened (drop (suc i) ws) u
        further = ap (λ (r : List Write). tail r) (sym (drop-cons (shortened ws s) i (pair_at ws i) h) ∙ on)

        turn : first_fault old new (drop i (shortened ws s)) t
            ≡ cond (fair_test t.image (pair_at ws i) && (is_last (drop (suc i) (shortened ws s)) ||
            is_next old new (is_event (drop (suc i) (shortened ws s))) (pair_at ws i).address t u))
            (suc (first_fault old new (drop (suc i) (shortened ws s)) u)) 0
        turn = rw (on, further) (ap (λ (w : Wrote). cond (fair_test t.image (pair_at ws i) &&
            (is_last (shortened (drop (suc i) ws) u) || is_next old new (is_event (shortened (drop (suc i) ws) u)) (pair_at ws i).address t w.chip))
            (suc (first_fault old new (shortened (drop (suc i) ws) u) w.chip)) 0) e)

        -- whether the cut after the pair is as it must be
        abbrev pub goes : Bool
        goes =
            eqb (i + 1) (length (shortened ws s)) || is_next old new (eqb (i + 2) (length (shortened ws s))) (pair_at ws i).address t u

        by_goes : (b : Bool) → fair_test t.image (pair_at ws i) ≡ true → goes ≡ b
            → first_fault old new (drop i (shortened ws s)) t ≡ cond b (suc (first_fault old new (drop (suc i) (shortened ws s)) u)) 0
        by_goes b f e =
            turn ∙ rw (f, last_at (shortened ws s) i h, event_at (shortened ws s) i h)
            (ap (λ (c : Bool). cond c (suc (first_fault old new (drop (suc i) (shortened ws s)) u)) 0) e)

        pub left_next : fair_test t.image (pair_at ws i) ≡ true → goes ≡ true → Left (i + 1) u
        left_next f n =
            let q = by_goes true f n in
            record { place = l.place ∙ rw (q, add-one) (omega arith); rest = rw add-one further }

        pub left_torn : fair_test t.image (pair_at ws i) ≡ true → goes ≡ false → i ≡ first_fault old new (shortened ws s) s
        left_torn f n = let q = by_goes false f n in sym (l.place ∙ rw q (omega arith))

      takes : wrote ws i t ≡ record { refusal = 0; chip = (wrote ws i t).chip }
      takes = go (refuses t (pair_at ws i).address (pair_at ws i).value) refl
        where
          go : (b : Bool) → refuses t (pair_at ws i).address (pair_at ws i).value ≡ b
              → wrote ws i t ≡ record { refusal = 0; chip = (wrote ws i t).chip }
          go true e =
              absurd (is_taken (ap (λ (w : Wrote). w.refusal) (written_as t (pair_at ws i).address (pair_at ws i).value true e)))
          go false e =
              let q = written_as t (pair_at ws i).address (pair_at ws i).value false e in
              q ∙ ap (λ (w : Wrote). record { refusal = 0; chip = w.chip }) (sym q)

      pub left_unfair : fair_test t.image (pair_at ws i) ≡ false → i ≡ first_fault old new (shortened ws s) s
      left_unfair f =
          let q : first_fault old new (drop i (shortened ws s)) t ≡ 0 = turn (wrote ws i t).chip takes ∙ rw f in
          sym (l.place ∙ rw q (omega arith))
