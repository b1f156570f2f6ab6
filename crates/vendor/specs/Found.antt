-- How the code reads a vendor's list: a first pass for the end, a second for the tests. `Vetted` (Theorems) ties it to document 02.
use Rattle.std.specs.Prelude.{◌≡◌, Bool, true, false, cond, not, ◌&&◌, ◌||◌, List, [], ◌∷◌, ℕ, suc, ◌%◌, eqb, ltb, length, get_or, take, drop}
use Rattle.lists.specs.Same.{same_list}
use Rattle.bits.specs.Merge.{merge, under}
use Rattle.registers.specs.Classes.{read_only, mandated, free, bits}
use Rattle.refusals.specs.Rows.{image_length, holds_up, list_length, bad_pair, bad_end}
use Rattle.refusals.specs.Tests.{Test, ◌if◌, lowest}
use Rattle.matrix.specs.Matrix.{fields}
use Rattle.chip.specs.declared.Chip.{Chip}
use Rattle.chip.specs.Machine.{Write, Group, avi, audio, matrix, packets, converter, up, holds_of, registers_of, mute}
use Rattle.chip.specs.Groups.{in_run}
use Rattle.chip.specs.Write.{lent_as, two, write_of}
use Rattle.views.specs.Entry.{is_sized}
use Rattle.writes.specs.List.{pairs_of, is_written, ready}
use Rattle.decode.specs.Decode.{some_ends}
use Rattle.cut.specs.Run.{InUse, all_in_use}
use Rattle.vendor.specs.Numbered.{Verdict, Moving}
use Rattle.vendor.specs.declared.Used.{Used}
use Rattle.vendor.specs.Vendor.{shortened, end_of, most_pairs}

-- a pair on its own
abbrev pub fair_test : List ℕ → Write → Bool
fair_test image w =
    let a : ℕ = w.address in
    is_written a && (eqb (under (mandated a) w.value) (under (mandated a) (bits a)) &&
    eqb (under (free a) w.value) (under (free a) (get_or image a 0)))

-- what the code has in use
abbrev pub shown : Used → InUse
shown u = record { avi = u.avi; audio = u.audio; matrix = u.matrix }

-- a group at a write, by whether its buffer was in use before the write and is after it
abbrev pub at_write : Group → Bool → Bool → Moving
at_write g before after = record { first = g.first; count = g.count; before = before; after = after }

-- a packet, by the byte of its holds before the write and the image after it; the coefficients, by the mark and the image after it: a write
-- alone never brings them out of their buffer
abbrev pub packet_moving : Group → ℕ → List ℕ → Moving
packet_moving g held image = at_write g (up g held) (up g (holds_of packets image))

abbrev pub matrix_moving : Bool → List ℕ → Moving
matrix_moving waiting image = at_write matrix false (waiting || up matrix (holds_of converter image))

-- a write at an address may have moved what is in use of a group: its registers are, and its buffer was or the write is to one of them
abbrev pub may_move : Moving → ℕ → Bool
may_move m a = not m.after && (m.before || in_run m.first m.count a)

-- what may have moved is now one of the two
abbrev pub one_of : Bool → List ℕ → List ℕ → List ℕ → Bool
one_of moved old new x = not moved || (same_list x old || same_list x new)

-- a group after a write: where it may have moved, what its registers are read as is one of the two; else it is what it was
abbrev pub is_kept : Moving → (List ℕ → List ℕ) → List ℕ → List ℕ → ℕ → List ℕ → Bool
is_kept m read old new a image = one_of (may_move m a) old new (read (take m.count (drop m.first image)))

-- the cut after a write: each group is kept; and it is muted. `held` is the byte of the packet holds before the write; `image`, `packet` and
-- `waiting` are the state after it.
abbrev pub is_whole : InUse → InUse → ℕ → ℕ → List ℕ → Bool → Bool
is_whole old new a held image waiting =
    is_kept (packet_moving avi held image) (λ x. x) old.avi new.avi a image &&
    (is_kept (packet_moving audio held image) (λ x. x) old.audio new.audio a image &&
    is_kept (matrix_moving waiting image) fields old.matrix new.matrix a image)

unfoldable pub is_between : InUse → InUse → ℕ → ℕ → List ℕ → List ℕ → Bool → Bool
is_between old new a held image packet waiting = eqb (mute (lent_as image packet [] false)) 1 && is_whole old new a held image waiting

-- the cut after the event that may follow: where a change waits, the registers come into use
unfoldable pub is_turned : InUse → InUse → List ℕ → Bool → Bool
is_turned old new image waiting =
    one_of (waiting && not (up matrix (holds_of converter image))) old.matrix new.matrix (fields (registers_of matrix image))

-- both, from one state to the next
abbrev pub is_next : InUse → InUse → Bool → ℕ → Chip → Chip → Bool
is_next old new event a s t =
    is_between old new a (holds_of packets s.image) t.image t.packet t.waiting &&
    (not event || is_turned old new t.image t.waiting)

-- whether no other pair follows, and whether just one does, before which the event comes
abbrev pub is_last : List Write → Bool
is_last [] = true
is_last (w ∷ ws) = false

abbrev pub is_event : List Write → Bool
is_event [] = false
is_event (w ∷ ws) = is_last ws

-- how many pairs the machine takes, by the byte of the packet holds: those before the first that would leave two up
abbrev pub taken_by : ℕ → List Write → ℕ
taken_by held [] = 0
taken_by held (w ∷ ws) =
    elim (eqb w.address packets.register) [
      | true ↦ elim (two (merge 8 (read_only w.address) held w.value)) [
        | true ↦ 0
        | false ↦ suc (taken_by (merge 8 (read_only w.address) held w.value) ws)
      ]
      | false ↦ suc (taken_by held ws)
    ]

-- the first pair that fails, of a list that the machine takes; its length where none does
abbrev pub first_fault : InUse → InUse → List Write → Chip → ℕ
first_fault old new [] s = 0
first_fault old new (w ∷ ws) s =
    cond (fair_test s.image w && (is_last ws || is_next old new (is_event ws) w.address s (write_of s w.address w.value).chip))
    (suc (first_fault old new ws (write_of s w.address w.value).chip)) 0

-- the first bad pair; the list's length where none is
abbrev pub place_of : List Write → Chip → ℕ
place_of ws s = first_fault (all_in_use s) (all_in_use (end_of (shortened ws s) s)) (shortened ws s) s

-- the tests of rows 7, 8, 14, 15 and 16
abbrev pub wrong_length : List ℕ → Bool
wrong_length list = eqb (length list % 2) 1 || ltb most_pairs (length (pairs_of list))

abbrev pub vet_tests : Chip → List ℕ → List Test
vet_tests s list =
    image_length if not (is_sized s) ∷
    holds_up if not (ready s.image) ∷
    list_length if wrong_length list ∷
    bad_pair if ltb (place_of (pairs_of list) s) (length (pairs_of list)) ∷
    bad_end if not (some_ends (end_of (shortened (pairs_of list) s) s).image) ∷ []

-- the first three do not apply
pub record Untold (s : Chip) (list : List ℕ) : Type 0 where
  pub sized : not (is_sized s) ≡ false
  pub fit : not (ready s.image) ≡ false
  pub whole : wrong_length list ≡ false

unfoldable pub vet_refusal : Chip → List ℕ → ℕ
vet_refusal s list = lowest (vet_tests s list)

-- 15 "with the place of the first bad pair"; beside another number it is 0
unfoldable pub vet_of : Chip → List ℕ → Verdict
vet_of s list =
    record { refusal = vet_refusal s list; place = cond (eqb (vet_refusal s list) 15) (place_of (pairs_of list) s) 0 }

-- what `vet` promises
abbrev pub Vets : Chip → List ℕ → Verdict → Type 0
Vets s list verdict = verdict ≡ vet_of s list
