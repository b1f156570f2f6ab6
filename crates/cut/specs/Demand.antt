-- Demand 3, as request 04 of document 02 changes it: what planning adds to a careful run. `planned image` is the list for an image; `want a`
-- is the byte whose named bits are wanted in register a.
use Rattle.std.specs.Prelude.{◌≡◌, ◌⊎◌, true, List, [], ◌∷◌, ◌++◌, ℕ, length}
use Rattle.matrix.specs.Matrix.{fields}
use Rattle.chip.specs.declared.Chip.{Chip}
use Rattle.chip.specs.Machine.{Write, avi, audio, matrix, packets, registers_of, in_use, coefficients, Open}
use Rattle.chip.specs.Write.{vsync_of}
use Rattle.chip.specs.Turn.{AtOnce}
use Rattle.writes.specs.List.{finished_image, ready}
use Rattle.cut.specs.Run.{Event, run, cut, writes_of, writes_by, standing, Either, Careful, Covered, Untouched}
use Rattle.cut.specs.Vsync.{old, waited, FinishedRun}

-- planned on the registers as they stand, "and run to its end", with its Vsync
abbrev pub to_its_end : (List ℕ → List Write) → Chip → Chip
to_its_end planned s = run (waited (planned s.image)) s

-- ---- cuts

-- a run that was cut: its events, and how many of them happened
pub record Cut : Type 0 where
  pub events : List Event
  pub place : ℕ

-- cut, planned again "on the registers as the cut left them", with whatever wait it left, cut again, and so on: the state that the last cut
-- leaves
abbrev pub cuts : List Cut → Chip → Chip
cuts [] s = s
cuts (c ∷ cs) s = cuts cs (cut c.events s c.place)

-- each a run of the list that is planned where the one before left off
abbrev pub PlannedAgain : (List ℕ → List Write) → List Cut → Chip → Type 0
PlannedAgain planned [] s = Unit {0}
PlannedAgain planned (c ∷ cs) s = (writes_of c.events ≡ planned s.image) × PlannedAgain planned cs (cut c.events s c.place)

-- ---- the demand

-- "all are new and the picture is open": what is in use is what stands in the registers
pub record After (r : Chip) : Type 0 where
  pub opened : Open r
  pub avi : in_use packets avi r ≡ registers_of avi r.image
  pub audio : in_use packets audio r ≡ registers_of audio r.image
  pub matrix : coefficients r ≡ fields (registers_of matrix r.image)

-- "the registers and all three groups in use are those of the run without a cut"
pub record Same (s t : Chip) : Type 0 where
  pub registers : t.image ≡ s.image
  pub avi : in_use packets avi t ≡ in_use packets avi s
  pub audio : in_use packets audio t ≡ in_use packets audio s
  pub matrix : coefficients t ≡ coefficients s

-- what no sentence asks for, of a run that need not be finished: it has opened the picture all the same, its coefficients old or new; and all
-- are new after one Vsync more
pub record Unfinished (end : List ℕ) (es : List Event) (s : Chip) : Type 0 where
  pub opened : Open (run es s)
  pub either : Either (old es s).matrix (standing end).matrix (coefficients (run es s))
  pub late : After (vsync_of (run es s))

-- of one run of the list ws, with Vsync events anywhere, that ends in the image `end`
pub record Clauses (end : List ℕ) (ws : List Write) (es : List Event) (s : Chip) : Type 0 where
  -- "Before the first write nothing has moved", but by Vsync
  pub before : (k : ℕ) → writes_by es k ≡ 0 → (cut es s k ≡ s) ⊎ (cut es s k ≡ vsync_of s)
  -- "From the first write until the last the picture is muted, and .. each all old or all new." No write is refused.
  pub careful : Careful (λ fs. old fs s) (standing end) es s
  pub covered : Covered es s
  pub untouched : Untouched es s
  -- the registers after the last write
  pub registers : (run es s).image ≡ end
  -- "After the last, all are new and the picture is open.", of a finished run
  pub ended : FinishedRun ws es → After (run es s)
  -- and so from the last write on: the picture does not open on what is old
  pub since : FinishedRun ws es → (k : ℕ) → writes_by es k ≡ length ws → After (cut es s k)
  -- "Enable and mode in 0x18[7:5] act at once", at every cut
  pub at_once : (k : ℕ) → AtOnce (cut es s k)
  -- beside the demand
  pub unfinished : Unfinished end es s

pub record Demand3 (planned : List ℕ → List Write) (want : ℕ → ℕ) (s : Chip) : Type 0 where
  -- every run of the list: "Vsync events anywhere between the writes"
  pub runs : (es : List Event) → writes_of es ≡ planned s.image → Clauses (finished_image want s.image) (planned s.image) es s
  -- with one Vsync just before its last write a run is finished
  pub waits : FinishedRun (planned s.image) (waited (planned s.image))
  -- `PlannedAgain` leaves no cuts out: from none on, any run of the list that is planned where some cuts left off, cut anywhere, is one more
  pub none : PlannedAgain planned [] s
  pub more : (cs : List Cut) → PlannedAgain planned cs s → (c : Cut) → writes_of c.events ≡ planned (cuts cs s).image
      → PlannedAgain planned (cs ++ c ∷ []) s × (cuts (cs ++ c ∷ []) s ≡ cut c.events (cuts cs s) c.place)
  -- after one cut, two, or any number of them the registers can be planned on: not refused by (7) or (8)
  pub sized : (cs : List Cut) → PlannedAgain planned cs s → length (cuts cs s).image ≡ 256
  pub ready : (cs : List Cut) → PlannedAgain planned cs s → ready (cuts cs s).image ≡ true
  -- "If the same request is planned again on the registers as the cut left them, and run to its end, the registers and all three groups in
  -- use are those of the run without a cut": of finished runs
  pub again : (cs : List Cut) → PlannedAgain planned cs s → (es fs : List Event) → FinishedRun (planned s.image) es
      → FinishedRun (planned (cuts cs s).image) fs → Same (run es s) (run fs (cuts cs s))
