-- Two chains with the same last request end with the same named bits. Assumes nothing.
use mathlib.Core.Path.{◌≡◌, refl, sym, ap, ◌∙◌}
use mathlib.Core.Bool.{true}
use mathlib.Core.List.{List}
use Prim.Native.Nat.{ℕ, zero, suc, ◌+◌, ◌≤◌, ◌<◌}
use native.Mathlib.Nat.{add-zero, not-suc-le-zero, le_of_suc-le-suc}
use native.Mathlib.Omega.{arith}
use lib.Dec.{lit≤}
use lib.ListN.{get_or, drop}
use lib.Seq.{get_or-take, get_or-drop}
use borrow.Author.Tests.{ne_eqb}
use Rattle.lists.proofs.Emit.{map_at}
use Rattle.bits.specs.Merge.{merge, bit}
use Rattle.bits.proofs.Laws.{merge_bit}
use Rattle.registers.specs.Classes.{class_at, read_only, named, free, Rule}
use Rattle.chip.specs.declared.Chip.{Chip}
use Rattle.chip.specs.Machine.{Group, avi, audio, packets, registers_of, in_use}
use Rattle.writes.specs.Rows.{from, Touched}
use Rattle.writes.specs.List.{decided, byte, written, is_written, left_up, finished, column, finished_image}
use Rattle.cut.specs.Run.{Event, run}
use Rattle.promises.specs.Rules.{asked}
use Rattle.promises.specs.AnyCut.{EveryCut}
use Rattle.chains.specs.Theorems.{Last, NamedIn, Alike}
use Rattle.chains.proofs.Whole.{its_registers, ended, its_coefficients}

-- a register of a group, by its place
at_place : (g : Group) (image : List ℕ) (i : ℕ) → i < g.count → get_or (registers_of g image) i 0 ≡ get_or image (g.first + i) 0
at_place g image i h = get_or-take {A = ℕ} g.count (drop g.first image) i 0 h ∙ get_or-drop g.first image i 0

bit_zero : (j : ℕ) → bit j 0 ≡ 0
bit_zero zero = refl
bit_zero (suc j) = bit_zero j

-- a register of the finished image
from_at : (first count i : ℕ) → i < count → get_or (from first count) i 0 ≡ first + i
from_at first zero i h = absurd (not-suc-le-zero h)
from_at first (suc count) zero h = sym (add-zero first)
from_at first (suc count) (suc i) h = from_at (suc first) count i (le_of_suc-le-suc h) ∙ omega arith

image_at : (want : ℕ → ℕ) (image : List ℕ) (a : ℕ) → a < 256 → get_or (finished_image want image) a 0 ≡ finished want image a
unfolding column
image_at want image a h = map_at (finished want image) (from 0 256) a 0 0 h ∙ ap (finished want image) (from_at 0 256 a h ∙ omega arith)

module _ (every : EveryCut) (touched : Touched) (rule : (a : ℕ) → a < 256 → Rule (class_at a)) where
  -- a named bit is the wanted one, or a step's
  module _ (a j : ℕ) (h : a < 256) (l : j < 8) (n : bit j (named a) ≡ 1) where
    is_written_lem : is_written a ≡ true
    is_written_lem = touched a h ∙ rw (ne_eqb (named a) 0 (λ z. omega (arith, ap (λ (n : ℕ). bit j n) z, n, bit_zero j)))

    named_bit : (want : ℕ → ℕ) (image : List ℕ) → bit j (finished want image a) ≡ bit j (merge 8 (decided a) (left_up a) (want a))
    unfolding finished written byte
    named_bit want image =
        let one = (rule a h).one j l in
        let reads : bit j (read_only a) ≡ 1 → ⊥ = λ z. omega (arith, z, n, one) in
        let frees : bit j (free a) ≡ 1 → ⊥ = λ z. omega (arith, z, n, one) in
        rw (
          is_written_lem,
          merge_bit 8 j (read_only a) _ _ l,
          ne_eqb (bit j (read_only a)) 1 reads,
          merge_bit 8 j (free a) _ _ l,
          ne_eqb (bit j (free a)) 1 frees,
          merge_bit 8 j (named a) _ _ l,
          n,
        )

  module _ (s t : Chip) (input room other : List ℕ) (es fs : List Event) (p : Last input room es s) (q : Last input other fs t) where
    abbrev x : Chip
    x = run es s

    abbrev y : Chip
    y = run fs t

    registers_alike : (a j : ℕ) → a < 256 → j < 8 → bit j (named a) ≡ 1 → bit j (get_or x.image a 0) ≡ bit j (get_or y.image a 0)
    registers_alike a j h l n =
        let at : (z image : List ℕ) → z ≡ finished_image (asked input) image
        → bit j (get_or z a 0) ≡ bit j (merge 8 (decided a) (left_up a) (asked input a)) =
        λ z image e. ap (λ (b : ℕ). bit j b) (ap (λ (i : List ℕ). get_or i a 0) e ∙ image_at (asked input) image a h) ∙ named_bit a j h l n (asked input) image in
        at x.image s.image (its_registers every input room es s p) ∙ sym (at y.image t.image (its_registers every input other fs t q))

    -- a packet in use stands in the registers
    packet_alike : (g : Group) → g.first + g.count ≤ 256 → in_use packets g x ≡ registers_of g x.image → in_use packets g y ≡ registers_of g y.image
        → NamedIn g (in_use packets g x) (in_use packets g y)
    packet_alike g inside d e i j h l n =
        ap (λ (b : ℕ). bit j b) (ap (λ (b : List ℕ). get_or b i 0) d ∙ at_place g x.image i h)
        ∙ registers_alike (g.first + i) j (omega (arith, inside, h)) l n
        ∙ sym (ap (λ (b : ℕ). bit j b) (ap (λ (b : List ℕ). get_or b i 0) e ∙ at_place g y.image i h))

    pub alone : Alike x y
    alone =
        let a = ended every input room es s p in
        let b = ended every input other fs t q in
        record {
          registers = registers_alike;
          avi = packet_alike avi (lit≤ tt) a.avi b.avi;
          audio = packet_alike audio (lit≤ tt) a.audio b.audio;
          matrix = its_coefficients every input room es s p ∙ sym (its_coefficients every input other fs t q);
        }
