-- A link with a vendor's list, and either kind of link. Assumes nothing.
use mathlib.Core.Path.{◌≡◌, refl, sym, ap, subst, ◌∙◌}
use mathlib.Core.Logic.{inl, inr, ⊎_elim}
use mathlib.Core.List.{List}
use Prim.Native.Nat.{ℕ, ◌<◌}
use lib.Dec.{lit≤}
use lib.ListN.{length, take, replicate}
use Rattle.frames.specs.Frames.{avi_frame}
use Rattle.request.specs.declared.Request.{Request}
use Rattle.request.specs.Numbered.{Checked}
use Rattle.request.specs.Read.{read_of}
use Rattle.request.specs.Bytes.{request_in_family}
use Rattle.chip.specs.declared.Chip.{Chip}
use Rattle.chip.specs.Machine.{Write, Group, avi, audio, packets, registers_of, in_use, Open, mute}
use Rattle.chip.specs.Write.{vsync_of}
use Rattle.writes.specs.List.{pairs_of, finished_image}
use Rattle.plan.specs.Plan.{plan_of}
use Rattle.decode.specs.Ends.{Ends}
use Rattle.cut.specs.Run.{Event, run, cut, writes_of, writes_by, InUse, all_in_use, standing}
use Rattle.cut.specs.Vsync.{waited}
use Rattle.cut.specs.Demand.{Cut}
use Rattle.vendor.specs.Vendor.{end_of}
use Rattle.vendor.specs.Found.{vet_of}
use Rattle.promises.specs.Rules.{asked}
use Rattle.promises.specs.Vendors.{input_of, Passing, PassingToo}
use Rattle.chains.specs.Chain.{Hand, plugin, vendor, asks, Accepted, pairs_for, Link, after_link, whole_as}
use Rattle.chains.specs.Below.{Below}
use Rattle.chains.proofs.Runs.{waited_writes, Ready, Near, near_cut}
use Rattle.chains.proofs.Whole.{sized, planned_ready, its_last}
use Rattle.chains.proofs.Links.{Three, unmoved, Some, by_place_lem, mute_of_lem, open_of, muted_one, open_two, vsync_use, vsync_gc, Moved}
use Rattle.chains.proofs.Links.{asked_new, plugin_moved}

-- a request's frames do not ask for its family
any_family : (image : List ℕ) (r : Request) (family : ℕ) → whole_as image (request_in_family family r) ≡ whole_as image r
unfolding avi_frame
any_family image r family = refl

module _ (b : Below) (list : List ℕ) (ending : Request) (u : Chip) (z : (vet_of u list).refusal ≡ 0) (ends : Ends ending (end_of (pairs_of list) u).image) where
  p : Passing list u
  p = (b.vendors.passing list u z).0

  too : PassingToo list u
  too = (b.vendors.passing list u z).1

  abbrev ws : List Write
  ws = pairs_of list

  abbrev last : Chip
  last = end_of ws u

  -- our own list for the request in which it ends
  abbrev input : List ℕ
  input = input_of p.ends

  abbrev room : List ℕ
  room = replicate 256 0

  ours : (plan_of input u.image room).refusal ≡ 0
  ours = p.accepted room (lit≤ tt)

  pub vetted_ready : Ready u.image
  vetted_ready = planned_ready b.every input room u ours

  last_image : last.image ≡ finished_image (asked input) u.image
  last_image = sym (b.turn last).image ∙ p.ours.registers ∙ its_last b.every input room u ours

  is_ending : (read_of input).request ≡ request_in_family p.ends.ends.family ending
  is_ending =
      ap (λ (x : Checked). x.request) p.ends.ends.acceptable.read
      ∙ ap (request_in_family p.ends.ends.family) ((b.one last.image).ends (ap length last_image ∙ sized (asked input) u.image)
      p.ends.request ending p.ends.ends ends)

  ending_new : standing last.image ≡ whole_as u.image ending
  ending_new =
      ap standing last_image ∙ asked_new b input room u ours ∙ ap (whole_as u.image) is_ending
      ∙ any_family u.image ending p.ends.ends.family

  module _ (c : Cut) (e : writes_of c.events ≡ ws) where
    abbrev fs : List Event
    fs = c.events

    abbrev k : ℕ
    k = c.place

    abbrev t : Chip
    t = cut fs u k

    hi : Some fs k → writes_by fs k < length ws
    hi q = subst (λ (l : List Write). writes_by fs k < length l) e q.unended

    -- one Vsync more leaves the packets, and then they stand in the registers
    stood : (g : Group) (x : Chip) → x.image ≡ last.image → in_use packets g (vsync_of x) ≡ registers_of g (vsync_of x).image
        → in_use packets g x ≡ registers_of g last.image
    stood g x i h = sym (vsync_use b.turn g x) ∙ h ∙ ap (registers_of g) ((b.turn x).image ∙ i)

    here_list : Three u (standing last.image) t
    here_list = by_place_lem fs k (λ _. Three u (standing last.image) t) 0 (λ q. unmoved u (standing last.image) t ((b.runs fs u).before k q)) (λ q.
        let a = too.anywhere fs e k q.begun (hi q) in
        record {
          avi = ⊎_elim inl (λ x. inr (inr (x ∙ stood avi last refl p.ended.avi))) a.1;
          audio = ⊎_elim inl (λ x. inr (inr (x ∙ stood audio last refl p.ended.audio))) a.2;
        }) (λ lo q.
        let a = too.any_end (take k fs) (q ∙ e) in
        record { avi = inr (inr (stood avi t a.0 a.1.avi)); audio = inr (inr (stood audio t a.0 a.1.audio)) })

    pub vendor_moved : Moved u c (whole_as u.image ending)
    vendor_moved = record {
      good = (b.runs (waited ws) u).anywhere (λ i h. (p.careful.fair i h, p.careful.taken i h)) fs (e ∙ sym (waited_writes ws));
      three = subst (λ (new : InUse). Three u new t) ending_new here_list;
      mutes = by_place_lem fs k (λ m. mute t ≡ m) (mute u)
          (λ q. ⊎_elim (λ x. ap mute x) (λ x. ap mute x ∙ mute_of_lem (vsync_of u) u (vsync_gc b.turn u)) ((b.runs fs u).before k q))
          (λ q. muted_one t (too.anywhere fs e k q.begun (hi q)).0)
          (λ lo q. mute_of_lem t (vsync_of t) (sym (vsync_gc b.turn t)) ∙ open_two (vsync_of t) (too.any_end (take k fs) (q ∙ e)).1.opened);
    }

    -- sent whole, and one Vsync later
    pub list_after : Open (run fs u) × (all_in_use (vsync_of (run fs u)) ≡ whole_as u.image ending)
    list_after =
        let a = too.any_end fs e in
        let x : Chip = run fs u in (
          open_of x (vsync_of x) (sym (vsync_gc b.turn x)) a.1.opened,
          (λ j. record { avi = a.1.avi j; audio = a.1.audio j; matrix = a.1.matrix j }) ∙ ap standing ((b.turn x).image ∙ a.0) ∙ ending_new,
        )

-- ---- either

module _ (b : Below) where
  pub link_ready : (h : Hand) (u : Chip) → Accepted h u → Ready u.image
  link_ready (plugin input room) u a = planned_ready b.every input room u a
  link_ready (vendor list ending) u a = vetted_ready b list ending u a.0 a.1

  pub moved : (l : Link) (u : Chip) → Accepted l.hand u → writes_of l.run.events ≡ pairs_for l.hand u
      → Moved u l.run (whole_as u.image (asks l.hand))
  moved l u = go l.hand
    where
      go : (h : Hand) → Accepted h u → writes_of l.run.events ≡ pairs_for h u → Moved u l.run (whole_as u.image (asks h))
      go (plugin input room) a e = plugin_moved b input room u a l.run e
      go (vendor list ending) a e = vendor_moved b list ending u a.0 a.1 l.run e

  pub link_near : (l : Link) (u : Chip) → Accepted l.hand u → writes_of l.run.events ≡ pairs_for l.hand u → Near u (after_link l u)
  link_near l u a e = near_cut b l.run.events u l.run.place (link_ready l.hand u a) (moved l u a e).good
