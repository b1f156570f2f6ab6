-- Document 02, request 04: a list leaves room for its Vsync, and which place that is.
use Rattle.std.specs.Prelude.{◌≡◌, ◌↔◌, true, false, not, ◌||◌, List, [], ◌∷◌, ◌++◌, map, ℕ, ◌<◌, eqb, length}
use Rattle.lists.specs.Find.{every}
use Rattle.bits.specs.Merge.{bit}
use Rattle.chip.specs.Machine.{Write}
use Rattle.cut.specs.Run.{Event, write, vsync, event, writes_of, writes_by}
use Rattle.cut.specs.Vsync.{leaves_hold, FinishedRun}

-- a list of writes, sent one after the other with no Vsync
abbrev pub sent : List Write → List Event
sent = map write

-- a Vsync comes after the write at place n and before the last of m writes
pub record VsyncBetween (n m : ℕ) (es : List Event) : Type 0 where
  pub place : ℕ
  pub within : place < length es
  pub turns : event es place ≡ vsync
  pub after : n < writes_by es place
  pub before : writes_by es place < m

-- there is room for it: the last write to 0x1A lowers the hold, those before it have it up, and there is one of them; the last write of all
-- is to 0x4B. So just before the last write is such a place, and the host finds it without looking at a pair.
pub record Room (ws : List Write) : Type 0 where
  pub front : List Write
  pub lowering : Write
  pub back : List Write
  pub opening : Write
  pub split : ws ≡ front ++ lowering ∷ back ++ opening ∷ []
  pub raised : every (λ w. not (eqb w.address 0x1A) || eqb (bit 5 w.value) 1) front ≡ true
  pub risen : leaves_hold front ≡ false
  pub hold : lowering.address ≡ 0x1A
  pub down : bit 5 lowering.value ≡ 0
  pub lowered : leaves_hold back ≡ true
  pub mute : opening.address ≡ 0x4B
  pub opens : (bit 6 opening.value ≡ 0) × (bit 7 opening.value ≡ 1)
  -- a run is finished exactly if a Vsync comes between these two writes, the lowering one and the opening one
  pub exactly : (es : List Event) → writes_of es ≡ ws → FinishedRun ws es ↔ VsyncBetween (length front) (length ws) es
