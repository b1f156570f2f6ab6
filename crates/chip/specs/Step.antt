-- What one write does, as a reader of document 01 and of request 04 would check it: `step` proves it of `write_of`, which is what
-- `Chip::write` promises. `MachineCases` (Cases) has it in bare numbers.
use Rattle.std.specs.Prelude.{◌≡◌, ◌≢◌, ◌⊎◌, Bool, true, false, cond, not, ◌&&◌, ◌||◌, List, [], ◌∷◌, ◌++◌, ℕ, ◌<◌, eqb, length, get_or, drop}
use Rattle.lists.specs.Find.{every}
use Rattle.bits.specs.Merge.{bit}
use Rattle.refusals.specs.Rows.{two_holds, Condition, ◌when◌, Given}
use Rattle.registers.specs.Classes.{read_only}
use Rattle.chip.specs.declared.Chip.{Chip}
use Rattle.chip.specs.Numbered.{Wrote}
use Rattle.chip.specs.Machine.{Group, Buffer, avi, audio, gc, matrix, packets, converter, up, registers_of, holds_of, held}
use Rattle.chip.specs.Write.{image_after, write_of}

-- "(machine) two packet holds are up, or the write would leave two up"
abbrev pub TwoUp : List ℕ → Type 0
TwoUp image = let Up : Group → Type 0 = λ g. up g (holds_of packets image) ≡ true in (Up avi × Up audio) ⊎ (Up avi × Up gc) ⊎ (Up audio × Up gc)

abbrev pub write_rules : Chip → ℕ → ℕ → List Condition
write_rules s address value = two_holds when (TwoUp s.image ⊎ TwoUp (image_after s address value)) ∷ []

-- ---- a state before a write, s, and the state after it, t

-- a group's hold rises
abbrev pub rises : Buffer → Group → Chip → Chip → Bool
rises b g s t = up g (holds_of b t.image) && not (up g (holds_of b s.image))

-- "A hold going 0 to 1 copies that packet's registers, as they stood before the write, to the .. buffer": its front, "the rest stays"
abbrev pub Copies : Buffer → Group → Chip → Chip → Type 0
Copies b g s t = rises b g s t ≡ true → b.bytes t ≡ registers_of g s.image ++ drop g.count (b.bytes s)

-- where none of a buffer's holds rises, its bytes stay
abbrev pub Keeps : Buffer → Chip → Chip → Type 0
Keeps b s t = every (λ g. not (rises b g s t)) b.groups ≡ true → b.bytes t ≡ b.bytes s

-- a write of a value at an address, and the number of its refusal
pub record OneWrite (address value : ℕ) (s : Chip) (number : ℕ) (t : Chip) : Type 0 where
  -- a write is refused by 13 alone, and a refused one changes nothing
  pub refusals : Given (write_rules s address value) number
  pub refused : number ≢ 0 → t ≡ s
  -- what "the write would leave", refused or not: the value's bits at the address, but "Read-only bits never change", and else the image's
  pub would : (a j : ℕ) → a < length s.image → j < 8 → bit j (get_or (image_after s address value) a 0)
      ≡ cond (eqb a address && eqb (bit j (read_only a)) 0) (bit j value) (bit j (get_or s.image a 0))
  -- that is what a write that is not refused leaves: "one byte changed in the image"
  pub after : number ≡ 0 → t.image ≡ image_after s address value
  pub elsewhere : (a : ℕ) → a ≢ address → get_or t.image a 0 ≡ get_or s.image a 0
  pub sized : length t.image ≡ length s.image
  -- the buffers
  pub copies : Copies packets avi s t × Copies packets audio s t × Copies packets gc s t
  pub packet : Keeps packets s t
  pub matrix : s.waiting ≡ false → Copies converter matrix s t
  pub coefficients : Keeps converter s t
  -- request 04: "A hold lowered and raised again before Vsync ..: that rise copies nothing and drops the mark"
  pub dropped : s.waiting ≡ true → t.coefficients ≡ s.coefficients
  -- "lowering the coefficient hold acts at the next Vsync": a fall sets the mark, a rise drops it, and a hold that stays leaves it
  pub mark : t.waiting ≡ cond (held t) (held s && s.waiting) (held s || s.waiting)

-- whatever the state and the write: an image of 256 bytes, and `write_of`
abbrev pub AnyStep : Type 0
AnyStep = (s : Chip) → length s.image ≡ 256 → (address value : ℕ)
    → let wrote : Wrote = write_of s address value in OneWrite address value s wrote.refusal wrote.chip
