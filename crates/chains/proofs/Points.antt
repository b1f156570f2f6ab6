-- Where a chain ends, at any of its points, by induction over its links. Assumes nothing.
use mathlib.Core.Path.{◌≡◌, refl, sym, ap, subst, ◌∙◌}
use mathlib.Core.Logic.{◌⊎◌, inl, inr, ⊎_elim, ◌≢◌}
use mathlib.Core.Bool.{Bool, true, false, false≢true, cond, not, ◌&&◌}
use mathlib.Core.List.{List, [], ◌∷◌, ◌++◌, map, append_assoc, append-nil}
use Prim.Native.Nat.{ℕ, zero, suc, ◌+◌, ◌<◌}
use native.Mathlib.Nat.{not-suc-le-zero}
use native.Mathlib.Omega.{arith}
use lib.Dec.{eqb}
use lib.ListN.{length, take, length-append}
use lib.Seq.{take-length}
use borrow.Author.Tests.{eqb-true}
use Rattle.lists.specs.Find.{every}
use Rattle.lists.proofs.Both.{both_left, both_right}
use Rattle.refusals.specs.Rows.{number, at}
use Rattle.chip.specs.declared.Chip.{Chip}
use Rattle.chip.specs.Machine.{Write, Group, avi, audio, gc, packets, up, holds_of, held, in_use, coefficients, Muted, mute}
use Rattle.chip.specs.Write.{vsync_of}
use Rattle.views.specs.Entry.{Lent, state_of}
use Rattle.views.specs.Sized.{LentSized}
use Rattle.views.specs.Theorems.{Entered, EnteredVsync}
use Rattle.writes.specs.List.{write_list, ready}
use Rattle.plan.specs.Rules.{HoldsUp}
use Rattle.vendor.specs.Vendor.{vet_rules}
use Rattle.vendor.specs.Found.{vet_of}
use Rattle.vendor.specs.Theorems.{Vetted}
use Rattle.cut.specs.Run.{Event, write, vsync, run, cut, writes_of, writes_by, InUse}
use Rattle.cut.specs.Vsync.{change_waits, waited, FinishedRun}
use Rattle.cut.specs.AnyRun.{Good}
use Rattle.cut.specs.Demand.{Cut, Same}
use Rattle.promises.specs.LentBytes.{enters, entered, entered_cuts}
use Rattle.promises.specs.AnyCut.{EveryCut}
use Rattle.plan.specs.Another.{AnyOther}
use Rattle.chains.specs.Chain.{Hand, plugin, vendor, is_plugin, asks, Accepted, pairs_for, Link, after_link, left, Chain, happened, whole_as, OneOf, all_asked}
use Rattle.chains.specs.Chain.{mute_after, mute_by, unopened}
use Rattle.chains.specs.Theorems.{Next, AnyChain, Point, Reached}
use Rattle.chains.specs.Below.{Below}
use Rattle.chains.proofs.Runs.{run_append, writes_append, good_append, good_take, Ready, Near, near_self, near_trans}
use Rattle.chains.proofs.Whole.{any, pairs, whole_kept}
use Rattle.chains.proofs.Links.{OfThree, vsync_use, plugin_matrix}
use Rattle.chains.proofs.Vetted.{link_ready, link_near, moved}

-- a chain leaves what its events do
left_run : (ls : List Link) (s : Chip) → left ls s ≡ run (happened ls) s
left_run [] s = refl
left_run (l ∷ ls) s = left_run ls (after_link l s) ∙ sym (run_append (take l.run.place l.run.events) (happened ls) s)

-- one more link
module _ (h : Hand) (c : Cut) where
  abbrev l : Link
  l = record { hand = h; run = c }

  pub grown : (ls : List Link) (s : Chip) → Chain ls s → Accepted h (left ls s) → writes_of c.events ≡ pairs_for h (left ls s) → Chain (ls ++ l ∷ []) s
  grown [] s k a e = (a, e, tt)
  grown (m ∷ ls) s k a e = (k.0, k.1, grown ls (after_link m s) k.2 a e)

  pub goes_on_lem : (ls : List Link) (s : Chip) → left (ls ++ l ∷ []) s ≡ cut c.events (left ls s) c.place
  goes_on_lem [] s = refl
  goes_on_lem (m ∷ ls) s = goes_on_lem ls (after_link m s)

  has_happened : (ls : List Link) → happened (ls ++ l ∷ []) ≡ happened ls ++ take c.place c.events
  has_happened [] = append-nil (take c.place c.events)
  has_happened (m ∷ ls) =
      ap (λ (f : List Event). take m.run.place m.run.events ++ f) (has_happened ls)
      ∙ sym (append_assoc (take m.run.place m.run.events) (happened ls) (take c.place c.events))

  one_more : (ls : List Link) (s : Chip) → Chain ls s → Accepted h (left ls s) → writes_of c.events ≡ pairs_for h (left ls s) → Next h c ls s
  one_more ls s k a e = record { chain = grown ls s k a e; left = goes_on_lem ls s; happened = has_happened ls }

pub any_chain : EveryCut → (s : Chip) → AnyChain s
any_chain every s = record {
  none = (tt, refl, refl);
  request = λ ls k input room c a e. (one_more (plugin input room) c ls s k a e, refl);
  list = λ ls k list c a e r ends. one_more (vendor list r) c ls s k (a, ends) e;
  last = λ input room a. (
    λ es f. record { accepted = a; finished = f },
    subst (λ (ws : List Write). FinishedRun ws (waited ws)) (sym (pairs every input room s a)) (any every input room s a).demand.waits,
  );
}

-- ---- one of the groups in use

abbrev All : (List ℕ → Type 0) → List (List ℕ) → Type 0
All Q [] = Unit {0}
All Q (y ∷ ys) = Q y × All Q ys

all_map : (P Q : List ℕ → Type 0) → ((x : List ℕ) → P x → Q x) → (ys : List (List ℕ)) → All P ys → All Q ys
all_map P Q f [] a = tt
all_map P Q f (y ∷ ys) a = (f y a.0, all_map P Q f ys a.1)

-- each that was asked for is one of them, and so is what was
all_of : (was : List ℕ) (ys : List (List ℕ)) → All (OneOf was ys) ys
all_of was [] = tt
all_of was (y ∷ ys) = (inl refl, all_map (OneOf was ys) (OneOf was (y ∷ ys)) (λ x o. inr o) ys (all_of was ys))

was_of : (was : List ℕ) (ys : List (List ℕ)) → OneOf was ys was
was_of was [] = refl
was_of was (y ∷ ys) = inr (was_of was ys)

-- what a link leaves of a group, and what it would be after one Vsync more
pub record Latches (shown : Chip → List ℕ) (pick : InUse → List ℕ) (l : Link) (u : Chip) : Type 0 where
  pub now : OfThree shown u (pick (whole_as u.image (asks l.hand))) (shown (after_link l u))
  pub later : OfThree shown u (pick (whole_as u.image (asks l.hand))) (shown (vsync_of (after_link l u)))

module _ (b : Below) (shown : Chip → List ℕ) (pick : InUse → List ℕ) (ok : Link → Bool)
    (latch : (l : Link) (u : Chip) → Accepted l.hand u → writes_of l.run.events ≡ pairs_for l.hand u → ok l ≡ true → Latches shown pick l u)
    (s : Chip) where
  -- what is true of it at the beginning, after a Vsync too, and of what each link asks, is true of it
  always : (Q : List ℕ → Type 0) (ls : List Link) (u : Chip) → Chain ls u → every ok ls ≡ true → Near s u
      → All Q (map pick (all_asked s.image ls)) → Q (shown u) → Q (shown (vsync_of u)) → Q (shown (left ls u))
  always Q [] u c t n a q v = q
  always Q (l ∷ ls) u c t n a q v =
      let r = latch l u c.0 c.1 (both_left (ok l) (every ok ls) t) in
      let new : Q (pick (whole_as u.image (asks l.hand))) =
      subst (λ (g : InUse). Q (pick g)) (sym (whole_kept (asks l.hand) s u n.kept)) a.0 in
      let of : (x : List ℕ) → OfThree shown u (pick (whole_as u.image (asks l.hand))) x → Q x =
      λ x o. ⊎_elim (λ e. subst Q (sym e) q) (λ o. ⊎_elim (λ e. subst Q (sym e) v) (λ e. subst Q (sym e) new) o) o in
      always Q ls (after_link l u) c.2 (both_right (ok l) (every ok ls) t) (near_trans s u (after_link l u) n (link_near b l u c.0 c.1)) a.1
      (of _ r.now) (of _ r.later)

  one_of : (ls : List Link) → Chain ls s → every ok ls ≡ true → Ready s.image → shown (vsync_of s) ≡ shown s
      → OneOf (shown s) (map pick (all_asked s.image ls)) (shown (left ls s))
  one_of ls c t r e =
      let ys : List (List ℕ) = map pick (all_asked s.image ls) in
      let was : OneOf (shown s) ys (shown s) = was_of (shown s) ys in
      always (OneOf (shown s) ys) ls s c t (near_self s r) (all_of (shown s) ys) was (subst (OneOf (shown s) ys) (sym e) was)

-- ---- the registers: near those of the beginning

module _ (b : Below) where
  pub near_chain : (s : Chip) (ls : List Link) (u : Chip) → Chain ls u → Near s u → Near s (left ls u)
  near_chain s [] u c n = n
  near_chain s (l ∷ ls) u c n = near_chain s ls (after_link l u) c.2 (near_trans s u (after_link l u) n (link_near b l u c.0 c.1))

  -- planning takes the beginning of a chain, and so a chain ends near it
  pub start_ready : (ls : List Link) (s : Chip) → Chain ls s → Ready (left ls s).image → Ready s.image
  start_ready [] s c r = r
  start_ready (l ∷ ls) s c r = link_ready b l.hand s c.0

  pub near_left : (ls : List Link) (s : Chip) → Chain ls s → Ready (left ls s).image → Near s (left ls s)
  near_left ls s c r = near_chain s ls s c (near_self s (start_ready ls s c r))

  -- all that has happened in it is fair and taken, and so a list planned where it ends ends as one planned at the beginning
  chain_good : (ls : List Link) (s : Chip) → Chain ls s → Good (happened ls) s
  chain_good [] s c = λ k h. absurd (not-suc-le-zero h)
  chain_good (l ∷ ls) s c =
      let es : List Event = l.run.events in
      good_append (take l.run.place es) (happened ls) s (good_take l.run.place es s (moved b l s c.0 c.1).good)
      (chain_good ls (after_link l s) c.2)

  pub same_end : (ls : List Link) (s : Chip) → Chain ls s → Ready s.image → (want : ℕ → ℕ) (fs gs : List Event)
      → FinishedRun (write_list want s.image) fs → FinishedRun (write_list want (left ls s).image) gs → Same (run fs s) (run gs (left ls s))
  same_end ls s c r want fs gs f =
      let es : List Event = happened ls in
      let g : Good es s = chain_good ls s c in
      let there : cut es s (length es) ≡ left ls s = ap (λ (l : List Event). run l s) (take-length es) ∙ sym (left_run ls s) in
      subst (λ (t : Chip). FinishedRun (write_list want t.image) gs → Same (run fs s) (run gs t)) there
      ((b.mended want es s r.whole r.holds (λ i h. (g i h).0) (λ i h. (g i h).1)).again (length es) fs gs f)

  -- ---- the mute

  pub mute_chain : (ls : List Link) (u : Chip) → Chain ls u → mute (left ls u) ≡ mute_by ls (mute u)
  mute_chain [] u c = refl
  mute_chain (l ∷ ls) u c = mute_chain ls (after_link l u) c.2 ∙ ap (mute_by ls) (moved b l u c.0 c.1).mutes

  -- ---- of each group what a link leaves

  -- where no change waits a Vsync changes nothing
  idle : (s : Chip) → change_waits s ≡ false → vsync_of s ≡ s
  idle s w = go (held s) refl w
    where
      go : (h : Bool) → held s ≡ h → (not h && s.waiting) ≡ false → vsync_of s ≡ s
      go true e w = (b.turn s).beside e
      go false e w = ((b.turn s).idle w).0

  latch_matrix : (l : Link) (u : Chip) → Accepted l.hand u → writes_of l.run.events ≡ pairs_for l.hand u → is_plugin l.hand ≡ true
      → Latches coefficients (λ g. g.matrix) l u
  latch_matrix l u a e t = record { now = (go l.hand a e t).0; later = (go l.hand a e t).1 }
    where
      go : (h : Hand) → Accepted h u → writes_of l.run.events ≡ pairs_for h u → is_plugin h ≡ true
          → let new : List ℕ = (whole_as u.image (asks h)).matrix in
          OfThree coefficients u new (coefficients (after_link l u)) × OfThree coefficients u new (coefficients (vsync_of (after_link l u)))
      go (plugin input room) a e t = plugin_matrix b input room u a l.run e
      go (vendor list ending) a e t = absurd (false≢true t)

  -- a packet does not see a Vsync
  latch_packet : (g : Group) (pick : InUse → List ℕ) (l : Link) (u : Chip)
      → OfThree (in_use packets g) u (pick (whole_as u.image (asks l.hand))) (in_use packets g (after_link l u)) → Latches (in_use packets g) pick l u
  latch_packet g pick l u m = record { now = m; later = subst (OfThree (in_use packets g) u _) (sym (vsync_use b.turn g (after_link l u))) m }

-- ---- muted

-- the mute, from its number
is_muted : (u : Chip) → mute u ≡ 1 → Muted u
is_muted u e = (omega arith, omega arith)

-- muted, it stays so until a link has made its last write
module _ (l : Link) (o : unopened l ≡ true) where
  abbrev n : ℕ
  n = writes_by l.run.events l.run.place

  stays_muted : mute_after l.run 1 ≡ 1
  stays_muted = rw o (go (eqb n 0))
    where
      go : (b : Bool) → ◌≡◌ {A = ℕ} (cond b 1 1) 1
      go true = refl
      go false = refl

  becomes_muted : (was : ℕ) → eqb n 0 ≡ false → mute_after l.run was ≡ 1
  becomes_muted was b = rw (o, b)

muted_on : (ls : List Link) → every unopened ls ≡ true → mute_by ls 1 ≡ 1
muted_on [] t = refl
muted_on (l ∷ ls) t = rw (stays_muted l (both_left (unopened l) (every unopened ls) t)) (muted_on ls (both_right (unopened l) (every unopened ls) t))

muted_since : (ls : List Link) (was : ℕ) → 0 < length (writes_of (happened ls)) → every unopened ls ≡ true → mute_by ls was ≡ 1
muted_since [] was b t = absurd (not-suc-le-zero b)
muted_since (l ∷ ls) was b t = go (eqb (n l one) 0) refl (λ h. muted_since ls (mute_after l.run was) h more)
  where
    one : unopened l ≡ true
    one = both_left (unopened l) (every unopened ls) t

    more : every unopened ls ≡ true
    more = both_right (unopened l) (every unopened ls) t

    sum : length (writes_of (happened (l ∷ ls))) ≡ writes_by l.run.events l.run.place + length (writes_of (happened ls))
    sum =
        ap length (writes_append (take l.run.place l.run.events) (happened ls))
        ∙ length-append (writes_of (take l.run.place l.run.events)) (writes_of (happened ls))

    go : (x : Bool) → eqb (n l one) 0 ≡ x → (0 < length (writes_of (happened ls)) → mute_by ls (mute_after l.run was) ≡ 1)
        → mute_by ls (mute_after l.run was) ≡ 1
    go true e ih = let z : n l one ≡ 0 = eqb-true (n l one) 0 e in ih (omega (arith, z, sum, b))
    go false e ih = rw (becomes_muted l one was e) (muted_on ls more)

-- ---- whoever comes next

-- row 8 does not apply
no_holds : (image : List ℕ) → ready image ≡ true → HoldsUp image → ⊥
no_holds image = let n : ℕ = holds_of packets image in go (up gc n) (up avi n) (up audio n)
  where
    go : (g a b : Bool) → (not g && not (a && b)) ≡ true → (g ≡ true) ⊎ ((a ≡ true) × (b ≡ true)) → ⊥
    go true a b r h = false≢true r
    go false true true r h = false≢true r
    go false true false r h = ⊎_elim false≢true (λ x. false≢true x.1) h
    go false false b r h = ⊎_elim false≢true (λ x. false≢true x.0) h

never_eight : (t : Chip) (list : List ℕ) → Vetted t list → Ready t.image → (vet_of t list).refusal ≢ 8
never_eight t list v r e = let f = v.given.some (λ z. omega (arith, z, e)) in go f.place f.within f.numbered f.applies
  where
    go : (place : ℕ) → place < 5 → (vet_of t list).refusal ≡ number (at (vet_rules t list) place).row → (at (vet_rules t list) place).When → ⊥
    go zero h n w = omega (arith, n, e)
    go (suc zero) h n w = no_holds t.image r.holds w
    go (suc (suc zero)) h n w = omega (arith, n, e)
    go (suc (suc (suc zero))) h n w = omega (arith, n, e)
    go (suc (suc (suc (suc zero)))) h n w = omega (arith, n, e)
    go (suc (suc (suc (suc (suc place))))) h n w = omega (arith, h)

-- ---- over slices

module _ (enter : (l : Lent) → LentSized l → (address value : ℕ) → Entered l address value) (turn : (l : Lent) → LentSized l → EnteredVsync l) where
  by_events : (es : List Event) (l : Lent) → LentSized l → LentSized (entered es l) × (state_of (entered es l) ≡ run es (state_of l))
  by_events [] l z = (z, refl)
  by_events (write w ∷ es) l z =
      let e = enter l z w.address w.value in
      let q = by_events es (enters (write w) l).slices e.sized in
      (q.0, q.1 ∙ ap (run es) e.state)
  by_events (vsync ∷ es) l z =
      let e = turn l z in
      let q = by_events es (enters vsync l).slices e.sized in
      (q.0, q.1 ∙ ap (run es) e.state)

  pub over_slices : (ls : List Link) (u : Chip) (l : Lent) → LentSized l → state_of l ≡ u
      → LentSized (entered_cuts (map (λ l. l.run) ls) l) × (state_of (entered_cuts (map (λ l. l.run) ls) l) ≡ left ls u)
  over_slices [] u l z e = (z, e)
  over_slices (x ∷ ls) u l z e =
      let es : List Event = take x.run.place x.run.events in
      let q = by_events es l z in
      over_slices ls (after_link x u) (entered es l) q.0 (q.1 ∙ ap (run es) e)

-- ---- every point

-- the first k of some events and more: within them, or all of them and some of the rest
record Within (k : ℕ) (xs ys : List Event) : Type 0 where
  rest : ℕ
  is : (take k (xs ++ ys) ≡ take k xs) ⊎ (take k (xs ++ ys) ≡ xs ++ take rest ys)

within : (k : ℕ) (xs ys : List Event) → Within k xs ys
within zero xs ys = record { rest = 0; is = inl refl }
within (suc k) [] ys = record { rest = suc k; is = inr refl }
within (suc k) (x ∷ xs) ys =
    let w = within k xs ys in
    record { rest = w.rest; is = ⊎_elim (λ e. inl (ap (λ (l : List Event). x ∷ l) e)) (λ e. inr (ap (λ (l : List Event). x ∷ l) e)) w.is }

-- a part of a part, by its length
front_of : (k p : ℕ) (es : List Event) → take (length (take k (take p es))) es ≡ take k (take p es)
front_of zero p es = refl
front_of (suc k) zero es = refl
front_of (suc k) (suc p) [] = refl
front_of (suc k) (suc p) (e ∷ es) = ap (λ (l : List Event). e ∷ l) (front_of k p es)

-- a chain that reaches the point
record Reaching (k : ℕ) (ls : List Link) (s : Chip) : Type 0 where
  links : List Link
  first : map (λ l. l.hand) links ≡ map (λ l. l.hand) (take (length links) ls)
  events : happened links ≡ take k (happened ls)
  chain : Chain links s

reaching : (ls : List Link) (s : Chip) → Chain ls s → (k : ℕ) → Reaching k ls s
reaching [] s c zero = record { links = []; first = refl; events = refl; chain = tt }
reaching [] s c (suc k) = record { links = []; first = refl; events = refl; chain = tt }
reaching (l ∷ ls) s c k =
    let es : List Event = l.run.events in
    let p : ℕ = l.run.place in
    let w = within k (take p es) (happened ls) in
    let more = reaching ls (after_link l s) c.2 w.rest in
    ⊎_elim
    (λ e. record {
      links = record { hand = l.hand; run = record { events = es; place = length (take k (take p es)) } } ∷ [];
      first = refl;
      events = append-nil (take (length (take k (take p es))) es) ∙ front_of k p es ∙ sym e;
      chain = (c.0, c.1, tt);
    })
    (λ e. record {
      links = l ∷ more.links;
      first = ap (λ (h : List Hand). l.hand ∷ h) more.first;
      events = ap (λ (f : List Event). take p es ++ f) more.events ∙ sym e;
      chain = (c.0, c.1, more.chain);
    }) w.is

-- ---- a point

all_true : (ls : List Link) → every (λ _. true) ls ≡ true
all_true [] = refl
all_true (l ∷ ls) = all_true ls

module _ (b : Below) (enter : (l : Lent) → LentSized l → (address value : ℕ) → Entered l address value)
    (turn : (l : Lent) → LentSized l → EnteredVsync l) (vetted : (s : Chip) (list : List ℕ) → Vetted s list)
    (another : AnyOther) where
  pub point : (ls : List Link) (s : Chip) → Chain ls s → Point ls s
  point [] s c = record {
    kept = record { bits = λ a j h f. refl; unwritten = λ a h w. refl };
    avi = refl;
    audio = refl;
    matrix = λ w t. refl;
    mute = refl;
    muted = λ b. absurd (not-suc-le-zero b);
    next = λ h. absurd (not-suc-le-zero h);
    next_list = λ h. absurd (not-suc-le-zero h);
    slices = over_slices enter turn [] s;
  }
  point (l ∷ ls) s c =
      let ms : List Link = l ∷ ls in
      let r : Ready s.image = link_ready b l.hand s c.0 in
      let near : Near s (left ms s) = near_chain b s ms s c (near_self s r) in
      record {
        kept = near.kept;
        avi = one_of b (in_use packets avi) (λ g. g.avi) (λ _. true) (λ l u a e t. latch_packet b avi (λ g. g.avi) l u (moved b l u a e).three.avi) s ms c
            (all_true ms) r (vsync_use b.turn avi s);
        audio = one_of b (in_use packets audio) (λ g. g.audio) (λ _. true) (λ l u a e t. latch_packet b audio (λ g. g.audio) l u (moved b l u a e).three.audio) s ms
            c (all_true ms) r (vsync_use b.turn audio s);
        matrix = λ w t. one_of b coefficients (λ g. g.matrix) (λ l. is_plugin l.hand) (latch_matrix b) s ms c t r (ap coefficients (idle b s w));
        mute = mute_chain b ms s c;
        muted = λ w t. is_muted (left ms s) (mute_chain b ms s c ∙ muted_since ms (mute s) w t);
        next = λ h input room. (another input room (left ms s).image near.ready.whole near.ready.holds).refused;
        next_list = λ h list. never_eight (left ms s) list (vetted (left ms s) list) near.ready;
        slices = over_slices enter turn ms s;
      }

  pub reached : (ls : List Link) (s : Chip) → Chain ls s → (k : ℕ) → Reached k ls s
  reached ls s c k =
      let r = reaching ls s c k in
      record {
        links = r.links;
        first = r.first;
        events = r.events;
        chain = r.chain;
        there = left_run r.links s ∙ ap (λ (f : List Event). run f s) r.events;
        point = point r.links s r.chain;
      }
