-- Document 02, request 03: a list that a vendor brings, ws, "a list of address and value pairs", run "on the chip machine from the present
-- state" s: when it is accepted, and which pair is bad. Request 04: "A vendor's list gets its event just before its last pair."
use Rattle.std.specs.Prelude.{◌≡◌, ◌⊎◌, true, cond, List, [], ◌∷◌, ℕ, suc, ◌%◌, ◌<◌, eqb, length, get_or}
use Rattle.bits.specs.Merge.{under}
use Rattle.registers.specs.Classes.{mandated, free, bits}
use Rattle.refusals.specs.Rows.{image_length, holds_up, list_length, bad_pair, bad_end, Condition, ◌when◌}
use Rattle.request.specs.declared.Request.{Request}
use Rattle.chip.specs.declared.Chip.{Chip}
use Rattle.chip.specs.Machine.{Write, ◌gets◌, avi, audio, packets, in_use, coefficients, Muted}
use Rattle.chip.specs.Write.{image_after, write_of}
use Rattle.chip.specs.Step.{TwoUp}
use Rattle.views.specs.Refusals.{WrongLengths}
use Rattle.writes.specs.Rows.{is_written}
use Rattle.writes.specs.List.{pairs_of}
use Rattle.plan.specs.Rules.{HoldsUp}
use Rattle.decode.specs.Ends.{Ends}
use Rattle.cut.specs.Run.{run, cut, writes_by, InUse, all_in_use, Either, Between, Fair}
use Rattle.cut.specs.Vsync.{waited}

abbrev pub pair_at : List Write → ℕ → Write
pair_at ws k = get_or ws k (0 gets 0)

-- the state after k events of the list with its Vsync, and at the end. Up to the last pair these are pairs: pair k finds the registers of
-- `cut_at ws s k`, for a Vsync changes none.
abbrev pub cut_at : List Write → Chip → ℕ → Chip
cut_at ws s k = cut (waited ws) s k

abbrev pub end_of : List Write → Chip → Chip
end_of ws s = run (waited ws) s

-- how many pairs these events have; "after the first write and before the last"
abbrev pub pairs_by : List Write → ℕ → ℕ
pairs_by ws k = writes_by (waited ws) k

abbrev pub Inside : List Write → ℕ → Type 0
Inside ws k = (0 < pairs_by ws k) × (pairs_by ws k < length ws)

-- pair k "would leave two packet holds up"
abbrev pub LeavesTwo : List Write → Chip → ℕ → Type 0
LeavesTwo ws s k = TwoUp (image_after (cut_at ws s k) (pair_at ws k).address (pair_at ws k).value)

-- "an image that decodes": a request ends in it
pub record Decodable (image : List ℕ) : Type 0 where
  pub request : Request
  pub ends : Ends request image

-- "accepts exactly if each pair .."
pub record Passes (ws : List Write) (s : Chip) : Type 0 where
  -- "touches only registers that hold a named bit, belong to the AVI or audio packet or stand in Table 14"
  pub touches : (k : ℕ) → k < length ws → is_written (pair_at ws k).address ≡ true
  -- "carries mandated bits as the table says"
  pub carries : (k : ℕ) → k < length ws
      → let w : Write = pair_at ws k in under (mandated w.address) w.value ≡ under (mandated w.address) (bits w.address)
  -- "keeps free bits": those of the image as it stands before the pair
  pub keeps : (k : ℕ) → k < length ws
      → let w : Write = pair_at ws k in
      under (free w.address) w.value ≡ under (free w.address) (get_or (cut_at ws s k).image w.address 0)
  -- "never leaves two packet holds up"
  pub holds : (k : ℕ) → k < length ws → LeavesTwo ws s k → ⊥
  -- "is muted at every cut after the first write and before the last"
  pub muted : (k : ℕ) → Inside ws k → Muted (cut_at ws s k)
  -- "keeps each group at each cut as it began or as the list ends"
  pub avi : (k : ℕ) → Inside ws k → Either (in_use packets avi s) (in_use packets avi (end_of ws s)) (in_use packets avi (cut_at ws s k))
  pub audio : (k : ℕ) → Inside ws k → Either (in_use packets audio s) (in_use packets audio (end_of ws s)) (in_use packets audio (cut_at ws s k))
  pub matrix : (k : ℕ) → Inside ws k → Either (coefficients s) (coefficients (end_of ws s)) (coefficients (cut_at ws s k))
  -- "and ends in an image that decodes"
  pub decodes : Decodable (end_of ws s).image

-- ---- "the place of the first bad pair"

-- "If a pair would leave two packet holds up, the list ends before it for the tests of earlier pairs": the pairs before the first that the
-- machine refuses (13). That this pair would leave two up is in `Bad`.
abbrev pub shortened : List Write → Chip → List Write
shortened [] s = []
shortened (w ∷ ws) s =
    cond (eqb (write_of s w.address w.value).refusal 0) (w ∷ shortened ws (write_of s w.address w.value).chip) []

-- a cut after pair k, and before the next, is not muted or has a group that is neither as it began nor as the list ends. (Before the last
-- pair there are two such cuts, before the event and after it.)
pub record Torn (old new : InUse) (ws : List Write) (s : Chip) (k : ℕ) : Type 0 where
  pub follows : suc k < length ws
  pub cut : ℕ
  pub after : pairs_by ws cut ≡ suc k
  pub torn : Between old new (cut_at ws s cut) → ⊥

-- pair k of a list that the machine takes breaks a rule by itself, one of the three lines of `Fair`; or a cut after it is torn
abbrev pub Fails : List Write → Chip → ℕ → Type 0
Fails ws s k =
    ((k < length ws) × (Fair (cut_at ws s k).image (pair_at ws k) → ⊥)) ⊎ Torn (all_in_use s) (all_in_use (end_of ws s)) ws s k

-- a bad pair: it fails so, or it is the first that would leave two packet holds up. (Pairs after that one are not looked at.)
abbrev pub Bad : List Write → Chip → ℕ → Type 0
Bad ws s k = Fails (shortened ws s) s k ⊎ ((k ≡ length (shortened ws s)) × (k < length ws) × LeavesTwo ws s k)

pub record FirstBad (ws : List Write) (s : Chip) (place : ℕ) : Type 0 where
  pub within : place < length ws
  pub bad : Bad ws s place
  pub earlier : (i : ℕ) → i < place → Bad ws s i → ⊥

pub record SomeBad (ws : List Write) (s : Chip) : Type 0 where
  pub place : ℕ
  pub bad : Bad ws s place

-- ---- "Refusals: 14 an odd length or too many pairs, 15 with the place of the first bad pair, counted from 0, 16 a bad end; in that order,
-- after 7 and 8."

-- "At most 512 pairs."
abbrev pub most_pairs : ℕ
most_pairs = 512

abbrev pub WrongLength : List ℕ → Type 0
WrongLength list = (length list % 2 ≡ 1) ⊎ (most_pairs < length (pairs_of list))

abbrev pub vet_rules : Chip → List ℕ → List Condition
vet_rules s list =
    image_length when WrongLengths s ∷
    holds_up when HoldsUp s.image ∷
    list_length when WrongLength list ∷
    bad_pair when SomeBad (pairs_of list) s ∷
    bad_end when (Decodable (end_of (pairs_of list) s).image → ⊥) ∷ []
