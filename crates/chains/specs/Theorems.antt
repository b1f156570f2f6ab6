-- What is proved of chains: document 02, request 14.
use Rattle.std.specs.Prelude.{◌≡◌, ◌⊎◌, ◌≢◌, true, false, List, [], ◌∷◌, ◌++◌, map, ℕ, ◌+◌, ◌<◌, length, get_or, take}
use Rattle.lists.specs.Find.{every}
use Rattle.bits.specs.Merge.{bit}
use Rattle.refusals.specs.Rows.{buffer_short, Condition, ◌when◌, Given}
use Rattle.registers.specs.Classes.{read_only, named, free}
use Rattle.matrix.specs.Matrix.{Bytes}
use Rattle.request.specs.declared.Request.{Request}
use Rattle.request.specs.Sections.{walked}
use Rattle.request.specs.Request.{ncts_rules}
use Rattle.request.specs.Read.{read_of, ncts_of}
use Rattle.chip.specs.declared.Chip.{Chip}
use Rattle.chip.specs.Machine.{Write, Group, avi, audio, packets, in_use, coefficients, Muted, Open, mute}
use Rattle.chip.specs.Write.{vsync_of}
use Rattle.views.specs.Entry.{Lent, state_of}
use Rattle.views.specs.Sized.{LentSized}
use Rattle.writes.specs.Rows.{is_written}
use Rattle.writes.specs.List.{pairs_of}
use Rattle.plan.specs.Plan.{plan_of}
use Rattle.decode.specs.Ends.{Ends}
use Rattle.vendor.specs.Found.{vet_of}
use Rattle.vendor.specs.Vendor.{end_of}
use Rattle.cut.specs.Run.{Event, run, cut, writes_of, all_in_use, Stays}
use Rattle.cut.specs.Vsync.{change_waits, waited, FinishedRun}
use Rattle.cut.specs.Demand.{Same, Cut}
use Rattle.promises.specs.Finished as field
use Rattle.promises.specs.LentBytes.{pairs_left, entered, entered_cuts}
use Rattle.promises.specs.Said.{SaidAfter}
use Rattle.chains.specs.Chain.{Hand, plugin, vendor, is_plugin, Accepted, pairs_for, Link, left, Chain, happened, whole_as, OneOf, all_asked, mute_by, unopened}

-- ---- "any chain": `Chain` leaves none out

-- one more link, with any run of its pairs, cut anywhere: it begins where the others left off
pub record Next (hand : Hand) (c : Cut) (ls : List Link) (s : Chip) : Type 0 where
  pub chain : Chain (ls ++ record { hand = hand; run = c } ∷ []) s
  pub left : left (ls ++ record { hand = hand; run = c } ∷ []) s ≡ cut c.events (left ls s) c.place
  pub happened : happened (ls ++ record { hand = hand; run = c } ∷ []) ≡ happened ls ++ take c.place c.events

-- "and the last one finished": a plug-in's, accepted as the others left the chip, t, and run to its end, with its Vsync
pub record Last (input room : List ℕ) (es : List Event) (t : Chip) : Type 0 where
  pub accepted : (plan_of input t.image room).refusal ≡ 0
  pub finished : FinishedRun (pairs_left input t.image room) es

-- from no link on: a request that planning accepts where a chain ends, with the pairs that planning leaves in the buffer; a vendor's list
-- that the verdict passes there
pub record AnyChain (s : Chip) : Type 0 where
  pub none : Chain [] s × (left [] s ≡ s) × (happened [] ≡ [])
  pub request : (ls : List Link) → Chain ls s → (input room : List ℕ) (c : Cut) → (plan_of input (left ls s).image room).refusal ≡ 0
      → writes_of c.events ≡ pairs_left input (left ls s).image room → Next (plugin input room) c ls s × (is_plugin (plugin input room) ≡ true)
  pub list : (ls : List Link) → Chain ls s → (list : List ℕ) (c : Cut) → (vet_of (left ls s) list).refusal ≡ 0
      → writes_of c.events ≡ pairs_of list → (r : Request) → Ends r (end_of (pairs_of list) (left ls s)).image → Next (vendor list r) c ls s
  -- a request that is accepted may be the last, with any finished run; its pairs with one Vsync before the last of them are one
  pub last : (input room : List ℕ) → (plan_of input s.image room).refusal ≡ 0 → let ws : List Write = pairs_left input s.image room in
      ((es : List Event) → FinishedRun ws es → Last input room es s) × FinishedRun ws (waited ws)

-- ---- "At every point"

-- the rows that a request meets by itself and by its buffer, on any image: 1 to 6, 17, 20, 9 and 10
abbrev pub own_rules : List ℕ → List ℕ → List Condition
own_rules input room = ncts_rules (walked input) ++ buffer_short when (length room < 256) ∷ []

-- "free bits are those of the beginning"; and so is every read-only bit, and every register that no list writes
pub record Kept (s t : Chip) : Type 0 where
  pub bits : (a j : ℕ) → j < 8 → (bit j (free a) ≡ 1) ⊎ (bit j (read_only a) ≡ 1) → Stays a j s t
  pub unwritten : (a : ℕ) → a < 256 → is_written a ≡ false → get_or t.image a 0 ≡ get_or s.image a 0

-- where a chain from s ends, `left ls s`
pub record Point (ls : List Link) (s : Chip) : Type 0 where
  pub kept : Kept s (left ls s)
  -- "a group in use is what it was at the beginning or whole as one request of the chain asked", each of the three by itself
  pub avi : OneOf (in_use packets avi s) (map (λ g. g.avi) (all_asked s.image ls)) (in_use packets avi (left ls s))
  pub audio : OneOf (in_use packets audio s) (map (λ g. g.audio) (all_asked s.image ls)) (in_use packets audio (left ls s))
  -- "No matrix change waits at the beginning." With a vendor's list in the chain nothing is said of the coefficients here: it may lower
  -- their hold half way. At the end `Ended` says it, whoever the links were and whatever waited
  pub matrix : change_waits s ≡ false → every (λ l. is_plugin l.hand) ls ≡ true
      → OneOf (coefficients s) (map (λ g. g.matrix) (all_asked s.image ls)) (coefficients (left ls s))
  -- the picture: as at the beginning until the first write, muted from a link's first write until its last, and then open until the next
  -- link's first
  pub mute : mute (left ls s) ≡ mute_by ls (mute s)
  -- and so muted once a write is made, until some link has made its last
  pub muted : 0 < length (writes_of (happened ls)) → every unopened ls ≡ true → Muted (left ls s)
  -- whoever plans next is refused by his own rules alone, never by 7 or 8; and no vendor's list is refused by 8
  pub next : 0 < length ls → (input room : List ℕ) → Bytes input → Given (own_rules input room) (plan_of input (left ls s).image room).refusal
  pub next_list : 0 < length ls → (list : List ℕ) → (vet_of (left ls s) list).refusal ≢ 8
  -- by the calls, over lent slices that hold the beginning: they hold this state
  pub slices : (lent : Lent) → LentSized lent → state_of lent ≡ s
      → let there : Lent = entered_cuts (map (λ l. l.run) ls) lent in LentSized there × (state_of there ≡ left ls s)

-- the point after the first k events: the chain's first links, the last of them cut there, are a chain that ends there
pub record Reached (k : ℕ) (ls : List Link) (s : Chip) : Type 0 where
  pub links : List Link
  pub first : map (λ l. l.hand) links ≡ map (λ l. l.hand) (take (length links) ls)
  pub events : happened links ≡ take k (happened ls)
  pub chain : Chain links s
  pub there : left links s ≡ cut (happened ls) s k
  pub point : Point links s

-- where a chain ends, and inside every link, after every write and every Vsync
abbrev pub EveryPoint : Type 0
EveryPoint = (ls : List Link) (s : Chip) → Chain ls s → Point ls s × ((k : ℕ) → Reached k ls s)

-- ---- "and the last one finished"

-- where the last link ends
pub record Ended (input room : List ℕ) (es : List Event) (ls : List Link) (s : Chip) : Type 0 where
  -- "the named bits, in the registers ..": the number of each named field is the last request's; mandated bits are the table's
  pub fields : field.FinishedFields (read_of input).request (ncts_of input) (run es (left ls s)).image
  -- ".. and in the three groups in use"; "and free bits are those of the beginning"
  pub groups : all_in_use (run es (left ls s)) ≡ whole_as s.image (read_of input).request
  pub kept : Kept s (run es (left ls s))
  pub opened : Open (run es (left ls s))
  -- as if the last request alone had been run, from the beginning, where it is accepted too
  pub accepted : (plan_of input s.image room).refusal ≡ 0
  pub same : (fs : List Event) → FinishedRun (pairs_left input s.image room) fs → Same (run fs s) (run es (left ls s))
  -- no change waits, so that another chain may begin here
  pub idle : change_waits (run es (left ls s)) ≡ false
  -- what the calls then answer, over lent slices that hold the beginning
  pub said : (lent : Lent) → LentSized lent → state_of lent ≡ s
      → SaidAfter (read_of input).request (entered es (entered_cuts (map (λ l. l.run) ls) lent))

-- "any chain .., and the last one finished"
abbrev pub LastFinished : Type 0
LastFinished = (ls : List Link) (s : Chip) → Chain ls s → (input room : List ℕ) (es : List Event) → Last input room es (left ls s)
    → Ended input room es ls s

-- a vendor's list as the last link, sent whole, wherever Vsyncs come: of the request in which it ends, one Vsync later at the latest
pub record EndedList (ending : Request) (es : List Event) (ls : List Link) (s : Chip) : Type 0 where
  pub registers : Ends ending (run es (left ls s)).image
  pub groups : all_in_use (vsync_of (run es (left ls s))) ≡ whole_as s.image ending
  pub kept : Kept s (run es (left ls s))
  pub opened : Open (run es (left ls s))

abbrev pub LastList : Type 0
LastList = (ls : List Link) (s : Chip) → Chain ls s → (list : List ℕ) (ending : Request) (es : List Event)
    → Accepted (vendor list ending) (left ls s) → writes_of es ≡ pairs_for (vendor list ending) (left ls s) → EndedList ending es ls s

-- ---- "depend on the last request alone"

-- two packets in use, of one group, have the same named bits
abbrev pub NamedIn : Group → List ℕ → List ℕ → Type 0
NamedIn g xs ys = (i j : ℕ) → i < g.count → j < 8 → bit j (named (g.first + i)) ≡ 1 → bit j (get_or xs i 0) ≡ bit j (get_or ys i 0)

-- two states with the same named bits, "in the registers and in the three groups in use"; each bit of a coefficient is named
pub record Alike (d e : Chip) : Type 0 where
  pub registers : (a j : ℕ) → a < 256 → j < 8 → bit j (named a) ≡ 1 → bit j (get_or d.image a 0) ≡ bit j (get_or e.image a 0)
  pub avi : NamedIn avi (in_use packets avi d) (in_use packets avi e)
  pub audio : NamedIn audio (in_use packets audio d) (in_use packets audio e)
  pub matrix : coefficients d ≡ coefficients e

-- two chains from two beginnings, with the same last request, whatever the buffers
abbrev pub LastAlone : Type 0
LastAlone = (ls ms : List Link) (s t : Chip) → Chain ls s → Chain ms t → (input room other : List ℕ) (es fs : List Event)
    → Last input room es (left ls s) → Last input other fs (left ms t) → Alike (run es (left ls s)) (run fs (left ms t))
