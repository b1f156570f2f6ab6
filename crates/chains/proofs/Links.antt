-- One link of a chain: what its run, cut anywhere, makes of each group in use and of the mute. Assumes nothing.
use mathlib.Core.Path.{◌≡◌, refl, sym, ap, subst, ◌∙◌}
use mathlib.Core.Logic.{◌⊎◌, inl, inr, ⊎_elim}
use mathlib.Core.Bool.{Bool, true, false, cond, not, ◌&&◌}
use mathlib.Core.List.{List, [], ◌∷◌}
use Prim.Native.Nat.{ℕ, zero, suc, ◌+◌, ◌*◌, ◌<◌, ◌≤◌}
use native.Mathlib.Omega.{arith}
use lib.Dec.{eqb, ltb}
use lib.ListN.{length, take}
use borrow.Author.Tests.{eqb-true, eqb-false, ltb-true, ltb-false, not-true}
use Rattle.lists.proofs.Both.{both_left}
use Rattle.bits.specs.Merge.{bit}
use Rattle.matrix.specs.Matrix.{fields}
use Rattle.request.specs.Read.{read_of}
use Rattle.chip.specs.declared.Chip.{Chip}
use Rattle.chip.specs.Machine.{Write, Group, avi, audio, matrix, packets, registers_of, held, in_use, coefficients, gc_in_use, Muted, Open, mute}
use Rattle.chip.specs.Write.{vsync_of}
use Rattle.chip.specs.Turn.{Turn}
use Rattle.writes.specs.List.{finished_image}
use Rattle.plan.specs.Plan.{plan_of}
use Rattle.cut.specs.Run.{Event, write, vsync, happens, cut, writes_of, writes_by, InUse, standing}
use Rattle.cut.specs.Vsync.{change_waits, turned_over, old}
use Rattle.cut.specs.AnyRun.{Good}
use Rattle.cut.specs.Demand.{Cut, Clauses, Demand3}
use Rattle.promises.specs.Rules.{asked}
use Rattle.promises.specs.LentBytes.{pairs_left}
use Rattle.promises.specs.AnyCut.{list_of}
use Rattle.chains.specs.Chain.{whole_as, mute_after}
use Rattle.chains.specs.Below.{Below}
use Rattle.chains.proofs.Runs.{all_writes}
use Rattle.chains.proofs.Whole.{any, pairs, stands_whole_lem}

-- ---- a group of a state, as it was, as it was after a Vsync, or new

abbrev pub OfThree : (Chip → List ℕ) → Chip → List ℕ → List ℕ → Type 0
OfThree shown u new x = (x ≡ shown u) ⊎ (x ≡ shown (vsync_of u)) ⊎ (x ≡ new)

-- each group in a state t is so
pub record Three (u : Chip) (new : InUse) (t : Chip) : Type 0 where
  pub avi : OfThree (in_use packets avi) u new.avi (in_use packets avi t)
  pub audio : OfThree (in_use packets audio) u new.audio (in_use packets audio t)

module _ (u : Chip) (new : InUse) where
  pub unmoved : (t : Chip) → (t ≡ u) ⊎ (t ≡ vsync_of u) → Three u new t
  unmoved t e = record { avi = go (in_use packets avi) new.avi; audio = go (in_use packets audio) new.audio }
    where
      go : (shown : Chip → List ℕ) (x : List ℕ) → OfThree shown u x (shown t)
      go shown x = ⊎_elim (λ q. inl (ap shown q)) (λ q. inr (inl (ap shown q))) e

-- ---- the places of a cut

-- none of its writes, some, or all
module _ (es : List Event) (k : ℕ) where
  abbrev n : ℕ
  n = writes_by es k

  abbrev m : ℕ
  m = length (writes_of es)

  pub record Some : Type 0 where
    pub begun : 0 < n
    pub unended : n < m

  -- what holds in each of the three holds
  pub by_place_lem : (P : ℕ → Type 0) (was : ℕ) → (n ≡ 0 → P was) → (Some → P 1) → (0 < n → writes_of (take k es) ≡ writes_of es → P 2)
      → P (mute_after (record { events = es; place = k }) was)
  by_place_lem P was none some all = go (eqb n 0) refl (ltb n m) refl
    where
      go : (a : Bool) → eqb n 0 ≡ a → (b : Bool) → ltb n m ≡ b → P (cond a was (cond b 1 2))
      go true e b f = none (eqb-true n 0 e)
      go false e true f = let z : n ≡ 0 → ⊥ = eqb-false n 0 e in some (record { begun = omega (arith, z); unended = ltb-true n m f })
      go false e false f =
          let z : n ≡ 0 → ⊥ = eqb-false n 0 e in
          let l : m ≤ n = ltb-false n m f in
          all (omega (arith, z)) (all_writes es k l)

-- the mute, from its two bits
pub mute_of_lem : (a b : Chip) → gc_in_use a ≡ gc_in_use b → mute a ≡ mute b
mute_of_lem a b e = ap (λ (x : ℕ). bit 6 x + 2 * bit 7 x) e

pub open_of : (a b : Chip) → gc_in_use a ≡ gc_in_use b → Open b → Open a
open_of a b e o = rw e o

pub muted_one : (t : Chip) → Muted t → mute t ≡ 1
muted_one t h = omega (arith, h.0, h.1)

pub open_two : (t : Chip) → Open t → mute t ≡ 2
open_two t h = omega (arith, h.0, h.1)

-- what a link owes: its events are fair and taken, each packet is one of the three, and the mute is as `mute_after` has it
pub record Moved (u : Chip) (c : Cut) (new : InUse) : Type 0 where
  pub good : Good c.events u
  pub three : Three u new (cut c.events u c.place)
  pub mutes : mute (cut c.events u c.place) ≡ mute_after c (mute u)

-- ---- one Vsync more, at a place of a run

abbrev inserted : ℕ → List Event → List Event
inserted zero es = vsync ∷ es
inserted (suc k) [] = vsync ∷ []
inserted (suc k) (e ∷ es) = e ∷ inserted k es

inserted_writes : (k : ℕ) (es : List Event) → writes_of (inserted k es) ≡ writes_of es
inserted_writes zero es = refl
inserted_writes (suc k) [] = refl
inserted_writes (suc k) (write w ∷ es) = ap (λ (l : List Write). w ∷ l) (inserted_writes k es)
inserted_writes (suc k) (vsync ∷ es) = inserted_writes k es

inserted_cut : (k : ℕ) (es : List Event) (u : Chip) → cut (inserted k es) u (suc k) ≡ vsync_of (cut es u k)
inserted_cut zero es u = refl
inserted_cut (suc k) [] u = refl
inserted_cut (suc k) (e ∷ es) u = inserted_cut k es (happens e u).chip

-- ---- a Vsync leaves the packets

module _ (turn : (s : Chip) → Turn s) where
  pub vsync_use : (g : Group) (t : Chip) → in_use packets g (vsync_of t) ≡ in_use packets g t
  unfolding in_use
  vsync_use g t = rw ((turn t).image, (turn t).packet)

  pub vsync_gc : (t : Chip) → gc_in_use (vsync_of t) ≡ gc_in_use t
  unfolding gc_in_use in_use
  vsync_gc t = rw ((turn t).image, (turn t).packet)

  -- what is old of the coefficients is as it was, or as a Vsync left it
  old_three : (u : Chip) (fs : List Event) (new x : List ℕ) → x ≡ (old fs u).matrix → OfThree coefficients u new x
  unfolding coefficients
  old_three u fs new x e = go (change_waits u && turned_over fs) refl e
    where
      go : (b : Bool) → (change_waits u && turned_over fs) ≡ b → x ≡ cond b (fields (registers_of matrix u.image)) (coefficients u) → OfThree coefficients u new x
      go true w q =
          let d : held u ≡ false = not-true (held u) (both_left (not (held u)) u.waiting (both_left (change_waits u) (turned_over fs) w)) in
          inr (inl (q ∙ ap fields (sym ((turn u).takes d))))
      go false w q = inl q

-- ---- a plug-in's request

module _ (b : Below) (input room : List ℕ) (u : Chip) (z : (plan_of input u.image room).refusal ≡ 0) where
  abbrev end : List ℕ
  end = finished_image (asked input) u.image

  pub d : Demand3 (list_of input) (asked input) u
  d = (any b.every input room u z).demand

  pub asked_new : standing end ≡ whole_as u.image (read_of input).request
  asked_new = stands_whole_lem b.every input room u z

  left : pairs_left input u.image room ≡ list_of input u.image
  left = pairs b.every input room u z

  module _ (es : List Event) (e : writes_of es ≡ list_of input u.image) (k : ℕ) where
    abbrev t : Chip
    t = cut es u k

    clauses : Clauses end (list_of input u.image) es u
    clauses = d.runs es e

    -- the run as far as the cut, where it has all writes
    short : writes_of (take k es) ≡ writes_of es → Clauses end (list_of input u.image) (take k es) u
    short q = d.runs (take k es) (q ∙ e)

    late : (g : Group) → writes_of (take k es) ≡ writes_of es → in_use packets g (vsync_of t) ≡ registers_of g (vsync_of t).image
        → in_use packets g t ≡ registers_of g end
    late g q h = sym (vsync_use b.turn g t) ∙ h ∙ ap (registers_of g) ((b.turn t).image ∙ (short q).registers)

    here : Three u (standing end) t
    here = by_place_lem es k (λ _. Three u (standing end) t) 0 (λ q. unmoved u (standing end) t (clauses.before k q)) (λ q.
        let b = clauses.careful.between k q.begun q.unended in
        record { avi = ⊎_elim inl (λ x. inr (inr x)) b.avi; audio = ⊎_elim inl (λ x. inr (inr x)) b.audio })
        (λ lo q. record { avi = inr (inr (late avi q (short q).unfinished.late.avi)); audio = inr (inr (late audio q (short q).unfinished.late.audio)) })

    matrix_here : OfThree coefficients u (standing end).matrix (coefficients t)
    matrix_here = by_place_lem es k (λ _. OfThree coefficients u (standing end).matrix (coefficients t)) 0
        (λ q. ⊎_elim (λ x. inl (ap coefficients x)) (λ x. inr (inl (ap coefficients x))) (clauses.before k q))
        (λ q. ⊎_elim (old_three b.turn u (take k es) (standing end).matrix _) (λ x. inr (inr x)) (clauses.careful.between k q.begun q.unended).matrix)
        (λ lo q. ⊎_elim (old_three b.turn u (take k es) (standing end).matrix _) (λ x. inr (inr x)) (short q).unfinished.either)

    mute_here : mute t ≡ mute_after (record { events = es; place = k }) (mute u)
    mute_here = by_place_lem es k (λ m. mute t ≡ m) (mute u)
        (λ q. ⊎_elim (λ x. ap mute x) (λ x. ap mute x ∙ mute_of_lem (vsync_of u) u (vsync_gc b.turn u)) (clauses.before k q))
        (λ q. muted_one t (clauses.careful.between k q.begun q.unended).muted) (λ lo q. open_two t (short q).unfinished.opened)

  module _ (c : Cut) (e : writes_of c.events ≡ pairs_left input u.image room) where
    abbrev es : List Event
    es = c.events

    pub plugin_moved : Moved u c (whole_as u.image (read_of input).request)
    plugin_moved = record {
      good = let f = (d.runs es (e ∙ left)).careful in λ k h. (f.fair k h, f.taken k h);
      three = subst (λ (new : InUse). Three u new (cut es u c.place)) asked_new (here es (e ∙ left) c.place);
      mutes = mute_here es (e ∙ left) c.place;
    }

    -- the coefficients, and as one Vsync more would leave them
    pub plugin_matrix : let t : Chip = cut es u c.place in let new : List ℕ = (whole_as u.image (read_of input).request).matrix in
        OfThree coefficients u new (coefficients t) × OfThree coefficients u new (coefficients (vsync_of t))
    plugin_matrix =
        let t : Chip = cut es u c.place in
        let k : ℕ = c.place in
        let at : (x : Chip) → OfThree coefficients u (standing end).matrix (coefficients x)
        → OfThree coefficients u (whole_as u.image (read_of input).request).matrix (coefficients x) =
        λ x. subst (λ (new : InUse). OfThree coefficients u new.matrix (coefficients x)) asked_new in (
          at t (matrix_here es (e ∙ left) k),
          at (vsync_of t) (subst (λ (x : Chip). OfThree coefficients u (standing end).matrix (coefficients x)) (inserted_cut k es u)
              (matrix_here (inserted k es) (inserted_writes k es ∙ e ∙ left) (suc k))),
        )
