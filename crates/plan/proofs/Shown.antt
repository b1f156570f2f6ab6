-- The table of named fields, of a request that fits: its rows are tidy, each number fits its width, and so the finished image shows each of
-- them. Assumes nothing.
use mathlib.Core.Path.{◌≡◌, refl, ap, ◌∙◌}
use mathlib.Core.Logic.{⊎_elim}
use mathlib.Core.Bool.{Bool, true, false, false≢true, cond, not, ◌&&◌, ◌||◌}
use mathlib.Core.List.{List, [], ◌∷◌}
use Prim.Native.Nat.{ℕ, ◌+◌, ◌-◌, ◌/◌, ◌%◌, ◌<◌}
use native.Mathlib.Omega.{arith}
use lib.Dec.{eqb, ltb, lit<}
use lib.ListN.{get_or}
use borrow.Author.Tests.{eqb-true, ltb-true}
use Rattle.lists.specs.Find.{find, every}
use Rattle.lists.specs.Among.{among}
use Rattle.lists.proofs.Both.{both_left, both_right}
use Rattle.bits.specs.Merge.{bits_in}
use Rattle.bits.proofs.Below.{below, at_below}
use Rattle.registers.specs.Classes.{class_at}
use Rattle.wiring.specs.Theorems.{WiresFit}
use Rattle.wiring.specs.Wiring.{wires_of}
use Rattle.wiring.proofs.Fits.{wires_fit}
use Rattle.video.specs.Video.{depth, repetition}
use Rattle.video.proofs.Fits.{vic_small, encoding_fits, link_fits, range_fits, repetition_fits, depth_fits}
use Rattle.clock.specs.Numbered.{Pair}
use Rattle.frames.specs.Frames.{avi_frame}
use Rattle.sound.proofs.Rates.{table}
use Rattle.sound.specs.declared.Sound.{Sound}
use Rattle.sound.specs.declared.Sound.TheVariants.{Off, On}
use Rattle.request.specs.declared.Request.{Request}
use Rattle.request.specs.Read.{pair_for}
use Rattle.sound.specs.Fits.{SoundFits}
use Rattle.request.specs.Fits.{Fits}
use Rattle.request.proofs.Fits.{on_small, coefficients_small}
use Rattle.writes.specs.List.{decided, is_written, left_up, finished}
use Rattle.writes.proofs.Named.{is_field, small_address, field}
use Rattle.plan.specs.Places.{Place, place, places, Shows, Each}
use Rattle.plan.specs.Places.{with_sound, eight_channels, manual_cts, rate_code_of, in_pr, depth_numbers, in_cc, in_ca}
use Rattle.plan.specs.Wanted.{wanted}
use Rattle.plan.proofs.Numbers.{pair_twenty}
use Rattle.plan.proofs.Tidy.{Narrow, tidy, byte_placed, each_placed}

-- ---- how large the numbers are

-- a number by a test, and one by a table
less : {n : ℕ} (b : Bool) (x y : ℕ) → x < n → y < n → cond b x y < n
less true x y h k = h
less false x y h k = k

in_table : (f : ℕ → ℕ) (most count n : ℕ) → below (λ i. ltb (f i) most) count ≡ true → n < count → f n < most
in_table f most count n t h = ltb-true _ _ (at_below (λ i. ltb (f i) most) count n t h)

-- what a sound has, whatever it is
record Heard (s : Sound) : Type 0 where
  on : with_sound s < 2
  eight : eight_channels s < 2
  cts : manual_cts s < 2
  rate : rate_code_of s < 16
  cc : in_cc s < 8
  ca : in_ca s < 256

heard : (s : Sound) → SoundFits s → Heard s
heard Off h = record { on = lit< tt; eight = lit< tt; cts = lit< tt; rate = lit< tt; cc = lit< tt; ca = lit< tt }
heard (On rate channels coherent) h = record {
  on = lit< tt;
  eight = less (eqb channels 8) 1 0 (lit< tt) (lit< tt);
  cts = omega (arith, h.2);
  rate = table.bits rate;
  cc = ⊎_elim (λ e. omega arith) (λ e. omega arith) h.1;
  ca = less (eqb channels 8) 0x13 0x00 (lit< tt) (lit< tt);
}

-- one row, and the others
infixr 20 ◌▸◌
pub ◌▸◌ : {A B : Type 0} → A → B → A × B
a ▸ b = (a, b)

-- ---- what is computed of the table, whatever the numbers

-- a row is a field of a written register: no step decides it, or one does and leaves its number
abbrev stepped : Place → Bool
stepped f = not (eqb (bits_in f.high f.low (decided f.address)) 0)

abbrev is_row : Place → Bool
is_row f = is_field (stepped f) f.address f.low (f.high + 1 - f.low)

abbrev is_left : Place → Bool
is_left f = cond (stepped f) (eqb (bits_in f.high f.low (left_up f.address)) f.number) true

abbrev is_named : Place → Bool
is_named f = is_row f && is_left f

are_named : (r : Request) (p : Pair) → every is_named (places r p) ≡ true
unfolding class_at decided is_written
are_named r p = refl

are_tidy : (r : Request) (p : Pair) → tidy (places r p) ≡ true
are_tidy r p = refl

module _ (r : Request) (f : Fits r) where
  abbrev rows : List Place
  rows = places r (pair_for r)

  narrow : Each Narrow rows
  unfolding avi_frame
  narrow =
      let n = (pair_twenty r f).0 in
      let c = (pair_twenty r f).1 in
      let s = heard r.sound f.sound in
      let vic = vic_small r.video f.video in
      let link = link_fits r.video f.video in
      let y = encoding_fits r.video f.video in
      let w : WiresFit (wires_of r.wiring) = wires_fit r.wiring f.wiring in
      let hp = w.hplacement in
      let hd = w.hduration in
      let vp = w.vplacement in
      let vd = w.vduration in
      let on = on_small r.matrix f.matrix in
      let mode = f.mode in
      let k : (i : ℕ) → (get_or r.matrix.coefficients i 0 / 256 < 32) × (get_or r.matrix.coefficients i 0 % 256 < 256)
      = λ i. let c = coefficients_small r.matrix f.matrix i in (omega arith, omega arith) in
      let rep : repetition r.video < 3 = omega (arith, repetition_fits r.video f.video) in
      omega arith ▸ omega arith ▸ omega arith ▸ omega arith ▸ omega arith ▸ omega arith ▸
      s.cts ▸ lit< tt ▸ lit< tt ▸
      s.eight ▸ s.eight ▸ s.eight ▸ s.on ▸ lit< tt ▸
      s.rate ▸ w.input ▸ less (eqb r.video.encoding 1) 1 0 (lit< tt) (lit< tt) ▸
      omega arith ▸ omega arith ▸ lit< tt ▸
      (k 0).0 ▸ (k 0).1 ▸ (k 1).0 ▸ (k 1).1 ▸ (k 2).0 ▸ (k 2).1 ▸ (k 3).0 ▸ (k 3).1 ▸
      (k 4).0 ▸ (k 4).1 ▸ (k 5).0 ▸ (k 5).1 ▸ (k 6).0 ▸ (k 6).1 ▸ (k 7).0 ▸ (k 7).1 ▸
      (k 8).0 ▸ (k 8).1 ▸ (k 9).0 ▸ (k 9).1 ▸ (k 10).0 ▸ (k 10).1 ▸ (k 11).0 ▸ (k 11).1 ▸
      lit< tt ▸ omega arith ▸ omega arith ▸ vic ▸
      omega arith ▸ s.on ▸ s.on ▸ omega arith ▸ s.on ▸
      lit< tt ▸ lit< tt ▸ lit< tt ▸ lit< tt ▸ omega arith ▸
      lit< tt ▸ lit< tt ▸ omega arith ▸
      lit< tt ▸ omega arith ▸ lit< tt ▸ lit< tt ▸
      less (eqb r.video.encoding 0) 0 _ (lit< tt) (less (among r.video.vic (1 ∷ 2 ∷ 3 ∷ 17 ∷ 18 ∷ [])) 1 2 (lit< tt) (lit< tt)) ▸
      less (among r.video.vic (1 ∷ 2 ∷ 17 ∷ [])) 1 2 (lit< tt) (lit< tt) ▸ lit< tt ▸
      lit< tt ▸
      less (eqb r.video.encoding 0) _ 0
      (in_table (λ i. get_or (1 ∷ 2 ∷ []) i 0) 4 2 r.video.range refl (omega (arith, range_fits r.video f.video))) (lit< tt) ▸ lit< tt ▸
      omega arith ▸
      omega arith ▸ omega arith ▸ in_table in_pr 16 3 (repetition r.video) refl rep ▸
      lit< tt ▸ lit< tt ▸ lit< tt ▸ lit< tt ▸ lit< tt ▸ lit< tt ▸ lit< tt ▸ lit< tt ▸
      lit< tt ▸ lit< tt ▸ omega arith ▸
      lit< tt ▸ s.cc ▸ lit< tt ▸ lit< tt ▸ s.ca ▸ lit< tt ▸
      in_table (λ i. get_or depth_numbers i 0) 16 3 (depth r.video) refl (omega (arith, depth_fits r.video f.video)) ▸
      w.depth ▸ w.style ▸ w.justification ▸
      omega arith ▸ omega arith ▸ omega arith ▸ omega arith ▸ omega arith ▸ omega arith ▸ omega arith ▸ omega arith ▸ tt

  pub byte_wanted : (a : ℕ) → a < 256 → wanted r a < 256
  unfolding wanted
  byte_wanted = byte_placed rows narrow (are_tidy r (pair_for r))

  abbrev pub Wanted : Place → Type 0
  Wanted f = bits_in f.high f.low (wanted r f.address) ≡ f.number

  pub each_wanted : Each Wanted rows
  unfolding wanted
  each_wanted = each_placed rows narrow (are_tidy r (pair_for r))

  -- ---- the finished image

  module _ (image after : List ℕ) (ends : (a : ℕ) → a < 256 → get_or after a 0 ≡ finished (wanted r) image a) where
    one : (f : Place) → is_named f ≡ true → Wanted f → Shows after f
    one f t s =
        let o : is_row f ≡ true = both_left _ (is_left f) t in
        let h : f.address < 256 = small_address (stepped f) f.address f.low (f.high + 1 - f.low) o in
        ap (bits_in f.high f.low) (ends f.address h) ∙ field (wanted r) image f.address (stepped f) f.low (f.high + 1 - f.low) o
        ∙ go (stepped f) (both_right (is_row f) _ t)
      where
        go : (b : Bool) → cond b (eqb (bits_in f.high f.low (left_up f.address)) f.number) true ≡ true
            → bits_in f.high f.low (cond b (left_up f.address) (wanted r f.address)) ≡ f.number
        go true e = eqb-true _ _ e
        go false e = s

    each : (fs : List Place) → every is_named fs ≡ true → Each Wanted fs → Each (Shows after) fs
    each [] t s = tt
    each (f ∷ fs) t s = (one f (both_left _ (every is_named fs) t) s.0, each fs (both_right (is_named f) _ t) s.1)

    pub shown : Each (Shows after) rows
    shown = each rows (are_named r (pair_for r)) each_wanted

-- ---- one row of them all, by its register and its highest bit

abbrev is_at : ℕ → ℕ → Place → Bool
is_at address high f = eqb f.address address && eqb f.high high

abbrev is_there : (Place → Bool) → List Place → Bool
is_there test [] = false
is_there test (f ∷ fs) = test f || is_there test fs

pick : (P : Place → Type 0) (test : Place → Bool) (fs : List Place) → Each P fs → is_there test fs ≡ true → P (find test (place 0 0 0 0) fs)
pick P test [] e h = absurd (false≢true h)
pick P test (f ∷ fs) e h = go (test f) h (pick P test fs e.1)
  where
    go : (b : Bool) → (b || is_there test fs) ≡ true → (is_there test fs ≡ true → P (find test (place 0 0 0 0) fs))
        → P (cond b f (find test (place 0 0 0 0) fs))
    go true t more = e.0
    go false t more = more t

abbrev pub Picked : (Place → Type 0) → List Place → Type 0
Picked P fs = (address high : ℕ) → is_there (is_at address high) fs ≡ true → P (find (is_at address high) (place 0 0 0 0) fs)

pub picked : (P : Place → Type 0) (fs : List Place) → Each P fs → Picked P fs
picked P fs e address high = pick P (is_at address high) fs e
