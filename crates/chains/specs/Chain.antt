-- Document 02, request 14: "any chain of accepted requests, each cut at any place or finished". A vendor's list, request 03, may be a link too.
use Rattle.std.specs.Prelude.{◌≡◌, ◌⊎◌, Bool, true, false, cond, List, [], ◌∷◌, ◌++◌, map, ℕ, ◌+◌, eqb, ltb, length, get_or, take, drop}
use Rattle.bits.specs.Merge.{under}
use Rattle.registers.specs.Classes.{free}
use Rattle.frames.specs.Frames.{avi_frame}
use Rattle.request.specs.declared.Request.{Request}
use Rattle.request.specs.Read.{read_of}
use Rattle.chip.specs.declared.Chip.{Chip}
use Rattle.chip.specs.Machine.{Write}
use Rattle.writes.specs.List.{pairs_of}
use Rattle.plan.specs.Plan.{plan_of}
use Rattle.decode.specs.Ends.{Ends}
use Rattle.cut.specs.Run.{Event, cut, writes_of, writes_by, InUse}
use Rattle.cut.specs.Demand.{Cut, cuts}
use Rattle.vendor.specs.Vendor.{end_of}
use Rattle.vendor.specs.Found.{vet_of}
use Rattle.plan.specs.Places.{audio_packet}
use Rattle.promises.specs.LentBytes.{pairs_left}

-- whose list comes next: a plug-in's request, as bytes, with the buffer that is lent for its list; or a vendor's own list, with the request
-- in which it ends
pub data Hand : Type 0 where
  plugin : (input room : List ℕ) → Hand
  vendor : (list : List ℕ) (ending : Request) → Hand

abbrev pub is_plugin : Hand → Bool
is_plugin (plugin input room) = true
is_plugin (vendor list ending) = false

-- what it asks for
abbrev pub asks : Hand → Request
asks (plugin input room) = (read_of input).request
asks (vendor list ending) = ending

-- it is accepted on a state as it stands: by planning; or by the verdict, and it ends in that request
abbrev pub Accepted : Hand → Chip → Type 0
Accepted (plugin input room) s = (plan_of input s.image room).refusal ≡ 0
Accepted (vendor list ending) s = ((vet_of s list).refusal ≡ 0) × Ends ending (end_of (pairs_of list) s).image

-- the pairs that are then sent: those that planning leaves in the buffer, or the list's own
abbrev pub pairs_for : Hand → Chip → List Write
pairs_for (plugin input room) s = pairs_left input s.image room
pairs_for (vendor list ending) s = pairs_of list

-- a link: a hand, and its run, with the place of its cut; a place after the last event is no cut
pub record Link : Type 0 where
  pub hand : Hand
  pub run : Cut

-- the state after a link, and after all of them: each begins "on the registers as the cut left them", with whatever wait it left
abbrev pub after_link : Link → Chip → Chip
after_link l s = cut l.run.events s l.run.place

abbrev pub left : List Link → Chip → Chip
left ls = cuts (map (λ l. l.run) ls)

-- a chain from a state: each link is accepted as the link before left the chip, and its run has its pairs in their order, with Vsyncs
-- anywhere among them
abbrev pub Chain : List Link → Chip → Type 0
Chain [] s = Unit {0}
Chain (l ∷ ls) s = Accepted l.hand s × (writes_of l.run.events ≡ pairs_for l.hand s) × Chain ls (after_link l s)

-- all that has happened in it, one event after the other: each point is a cut of this
abbrev pub happened : List Link → List Event
happened [] = []
happened (l ∷ ls) = take l.run.place l.run.events ++ happened ls

-- ---- what a request asks

-- a packet's version and length, each beside the free bits of an image
abbrev pub heads : ℕ → ℕ → ℕ → List ℕ → List ℕ
heads first version count image =
    (version + under (free first) (get_or image first 0)) ∷ (count + under (free (first + 1)) (get_or image (first + 1) 0)) ∷ []

-- "whole as one request of the chain asked": its own two InfoFrames and its own coefficients, with the free bits of the beginning, whose
-- registers are `image`. "AVI header 0x82, 0x02, 0x0D; audio header 0x84, 0x01, 0x0A"; the first byte has no register.
abbrev pub whole_as : List ℕ → Request → InUse
whole_as image r = record {
  avi = heads 0x52 0x02 0x0D image ++ drop 3 (avi_frame r.video);
  audio = heads 0x70 0x01 0x0A image ++ drop 3 (audio_packet r.sound);
  matrix = r.matrix.coefficients;
}

-- "what it was at the beginning or whole as one request of the chain asked"
abbrev pub OneOf : List ℕ → List (List ℕ) → List ℕ → Type 0
OneOf was [] x = x ≡ was
OneOf was (y ∷ ys) x = (x ≡ y) ⊎ OneOf was ys x

abbrev pub all_asked : List ℕ → List Link → List InUse
all_asked image = map (λ l. whole_as image (asks l.hand))

-- ---- muted or open

-- the mute, 1 muted and 2 open, after a run as far as its cut: as it was until the first write, muted until the last, then open
abbrev pub mute_after : Cut → ℕ → ℕ
mute_after c was =
    let n : ℕ = writes_by c.events c.place in
    cond (eqb n 0) was (cond (ltb n (length (writes_of c.events))) 1 2)

abbrev pub mute_by : List Link → ℕ → ℕ
mute_by [] was = was
mute_by (l ∷ ls) was = mute_by ls (mute_after l.run was)

-- a link has not made its last write
abbrev pub unopened : Link → Bool
unopened l = ltb (writes_by l.run.events l.run.place) (length (writes_of l.run.events))
