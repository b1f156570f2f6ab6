-- The first pair that fails, by the code's pass, is the first that fails; where the machine stops hearing, a pair would leave two packet
-- holds up. Assumes nothing.
use mathlib.Core.Path.{◌≡◌, refl, sym, ap, subst, ◌∙◌}
use mathlib.Core.Logic.{◌⊎◌, inl, inr}
use mathlib.Core.Bool.{Bool, true, false, cond, not, ◌&&◌, ◌||◌}
use mathlib.Core.List.{List, [], ◌∷◌}
use Prim.Native.Nat.{ℕ, zero, suc, ◌<◌, ◌≤◌, suc-le-suc}
use native.Mathlib.Nat.{not-suc-le-zero, le_of_suc-le-suc, zero-lt-suc, suc-ne-zero}
use native.Mathlib.Omega.{arith}
use lib.Dec.{eqb}
use lib.ListN.{length, get_or, take}
use borrow.Author.Tests.{eq-eqb, eqb-true}
use Rattle.bits.specs.Merge.{merge}
use Rattle.registers.specs.Classes.{read_only}
use Rattle.lists.proofs.Decides.{Decides, itself, equal, together, restated}
use Rattle.chip.specs.declared.Chip.{Chip}
use Rattle.chip.specs.Numbered.{Wrote}
use Rattle.chip.specs.Machine.{Write, avi, audio, packets, holds_of, in_use, coefficients}
use Rattle.chip.specs.Write.{image_after, stored, two, refuses, write_of, vsync_of}
use Rattle.chip.specs.Step.{TwoUp}
use Rattle.chip.proofs.Writes.{two_up, written_as, holds_stored, stepped}
use Rattle.writes.specs.List.{is_written}
use Rattle.cut.specs.Run.{InUse, Either, Between, Fair}
use Rattle.vendor.specs.Vendor.{pair_at, cut_at, pairs_by, LeavesTwo, shortened, Torn}
use Rattle.vendor.specs.Found.{taken_by, fair_test, is_last, is_between, is_turned, first_fault}
use Rattle.cut.proofs.MendedRun.{lone}
use Rattle.vendor.proofs.Moved.{between_decides, turned_decides}

-- a pair's own test
pub fair_decides : (image : List ℕ) (w : Write) → Decides (fair_test image w) (Fair image w)
fair_decides image w =
    restated (λ h. record { its_register = h.0; its_mandated = h.1.0; its_free = h.1.1 }) (λ f. (f.its_register, (f.its_mandated, f.its_free)))
    (together (itself (is_written w.address)) (together (equal _ _) (equal _ _)))

-- a state from which a list goes on: of its length, no two packet holds up
pub record Sound (s : Chip) : Type 0 where
  pub whole : length s.image ≡ 256
  pub single : two (holds_of packets s.image) ≡ false

pub sound_next : (s : Chip) (a v : ℕ) → Sound s → (write_of s a v).refusal ≡ 0 → Sound (write_of s a v).chip
sound_next s a v z e = record { whole = (stepped s a v z.whole).sized ∙ z.whole; single = lone s a v e }

-- every pair is taken
abbrev pub Takes : List Write → Chip → Type 0
Takes [] s = Unit {0}
Takes (w ∷ ws) s = ((write_of s w.address w.value).refusal ≡ 0) × Takes ws (write_of s w.address w.value).chip

-- what is taken of a list with a first pair
module _ (w : Write) (ws : List Write) (s : Chip) where
  abbrev after : Chip
  after = (write_of s w.address w.value).chip

  pub not_taken_first : refuses s w.address w.value ≡ true → shortened (w ∷ ws) s ≡ []
  not_taken_first e = rw (written_as s w.address w.value true e)

  pub is_taken : refuses s w.address w.value ≡ false → (write_of s w.address w.value).refusal ≡ 0
  is_taken e = ap (λ (r : Wrote). r.refusal) (written_as s w.address w.value false e)

  pub is_taken_first : refuses s w.address w.value ≡ false → shortened (w ∷ ws) s ≡ w ∷ shortened ws after
  is_taken_first e = rw (eq-eqb (write_of s w.address w.value).refusal 0 (is_taken e))

pub shortened_takes : (ws : List Write) (s : Chip) → Takes (shortened ws s) s
shortened_takes [] s = tt
shortened_takes (w ∷ ws) s = go (refuses s w.address w.value) refl (shortened_takes ws (write_of s w.address w.value).chip)
  where
    go : (b : Bool) → refuses s w.address w.value ≡ b
        → Takes (shortened ws (write_of s w.address w.value).chip) (write_of s w.address w.value).chip → Takes (shortened (w ∷ ws) s) s
    go true e r = subst (λ (l : List Write). Takes l s) (sym (not_taken_first w ws s e)) tt
    go false e r = subst (λ (l : List Write). Takes l s) (sym (is_taken_first w ws s e)) (is_taken w ws s e, r)

-- all of a list is taken where as many pairs are
pub shortened_whole : (ws : List Write) (s : Chip) → length (shortened ws s) ≡ length ws → shortened ws s ≡ ws
shortened_whole [] s e = refl
shortened_whole (w ∷ ws) s e = go (refuses s w.address w.value) refl (shortened_whole ws (write_of s w.address w.value).chip) e
  where
    go : (b : Bool) → refuses s w.address w.value ≡ b
        → (length (shortened ws (write_of s w.address w.value).chip) ≡ length ws → shortened ws (write_of s w.address w.value).chip ≡ ws)
        → length (shortened (w ∷ ws) s) ≡ suc (length ws) → shortened (w ∷ ws) s ≡ w ∷ ws
    go true r ih e = let q : 0 ≡ suc (length ws) = sym (ap length (not_taken_first w ws s r)) ∙ e in absurd (omega (arith, q))
    go false r ih e =
        let q : suc (length (shortened ws (write_of s w.address w.value).chip)) ≡ suc (length ws) = sym (ap length (is_taken_first w ws s r)) ∙ e in
        is_taken_first w ws s r ∙ ap (λ (l : List Write). w ∷ l) (ih (omega (arith, q)))

-- what is taken is the front of the list, and of it all is taken
pub shortened_front : (ws : List Write) (s : Chip) → take (length (shortened ws s)) ws ≡ shortened ws s
shortened_front [] s = refl
shortened_front (w ∷ ws) s = go (eqb (write_of s w.address w.value).refusal 0) (shortened_front ws (write_of s w.address w.value).chip)
  where
    go : (b : Bool) → take (length (shortened ws (write_of s w.address w.value).chip)) ws ≡ shortened ws (write_of s w.address w.value).chip
        → take (length (cond b (w ∷ shortened ws (write_of s w.address w.value).chip) [])) (w ∷ ws)
        ≡ cond b (w ∷ shortened ws (write_of s w.address w.value).chip) []
    go true h = ap (λ (l : List Write). w ∷ l) h
    go false h = refl

pub shortened_twice : (ws : List Write) (s : Chip) → shortened (shortened ws s) s ≡ shortened ws s
shortened_twice [] s = refl
shortened_twice (w ∷ ws) s = go (refuses s w.address w.value) refl (shortened_twice ws (write_of s w.address w.value).chip)
  where
    go : (b : Bool) → refuses s w.address w.value ≡ b
        → shortened (shortened ws (write_of s w.address w.value).chip) (write_of s w.address w.value).chip ≡ shortened ws (write_of s w.address w.value).chip
        → shortened (shortened (w ∷ ws) s) s ≡ shortened (w ∷ ws) s
    go true e h = let n = not_taken_first w ws s e in ap (λ (l : List Write). shortened l s) n ∙ sym n
    go false e h =
        let n = is_taken_first w ws s e in
        ap (λ (l : List Write). shortened l s) n ∙ is_taken_first w (shortened ws (write_of s w.address w.value).chip) s e
        ∙ ap (λ (l : List Write). w ∷ l) h ∙ sym n

module _ (old new : InUse) where
  -- each group in use is one of the two
  pub record Kept (s : Chip) : Type 0 where
    pub avi : Either old.avi new.avi (in_use packets avi s)
    pub audio : Either old.audio new.audio (in_use packets audio s)
    pub matrix : Either old.matrix new.matrix (coefficients s)

  -- pair k is as it must be, by itself and by the cuts after it
  abbrev pub FineAt : List Write → Chip → ℕ → Type 0
  FineAt ws s k =
      Fair (cut_at ws s k).image (pair_at ws k) × (suc k < length ws → (j : ℕ) → pairs_by ws j ≡ suc k → Between old new (cut_at ws s j))

  abbrev pub FailsAt : List Write → Chip → ℕ → Type 0
  FailsAt ws s k = ((k < length ws) × (Fair (cut_at ws s k).image (pair_at ws k) → ⊥)) ⊎ Torn old new ws s k

  pub record Found (ws : List Write) (s : Chip) (n : ℕ) : Type 0 where
    pub within : n ≤ length ws
    pub fine : (k : ℕ) → k < n → FineAt ws s k
    pub fails : n < length ws → FailsAt ws s n

  none : (s : Chip) → Found [] s 0
  none s = record { within = omega arith; fine = λ k h. absurd (not-suc-le-zero h); fails = λ h. absurd (not-suc-le-zero h) }

  -- the last pair alone: the event comes before it, and no cut is looked at
  alone : (w : Write) (s : Chip) (b : Bool) → fair_test s.image w ≡ b → Found (w ∷ []) s (cond b 1 0)
  alone w s true e = record {
    within = omega arith;
    fine = λ k h. front k h;
    fails = λ h. absurd (not-suc-le-zero (le_of_suc-le-suc h));
  }
    where
      front : (k : ℕ) → k < 1 → FineAt (w ∷ []) s k
      front zero h = ((fair_decides s.image w).passes e, λ l. absurd (not-suc-le-zero (le_of_suc-le-suc l)))
      front (suc k) h = absurd (not-suc-le-zero (le_of_suc-le-suc h))
  alone w s false e = record {
    within = omega arith;
    fine = λ k h. absurd (not-suc-le-zero h);
    fails = λ _. inl (zero-lt-suc _, (fair_decides s.image w).fails e);
  }

  -- one pair in front of others, x and vs
  module _ (w x : Write) (vs : List Write) (s : Chip) (z : Sound s) (g : Kept s) (t : (write_of s w.address w.value).refusal ≡ 0) where
    abbrev u : Chip
    u = (write_of s w.address w.value).chip

    -- the cuts after it: one, and where one pair follows another after the event
    abbrev After : Type 0
    After = (j : ℕ) → pairs_by (x ∷ vs) j ≡ 0 → Between old new (cut_at (x ∷ vs) u j)

    more : (n : ℕ) → Fair s.image w → After → Found (x ∷ vs) u n → Found (w ∷ x ∷ vs) s (suc n)
    more n f a r = record { within = suc-le-suc r.within; fine = front; fails = λ h. later (r.fails (le_of_suc-le-suc h)) }
      where
        front : (k : ℕ) → k < suc n → FineAt (w ∷ x ∷ vs) s k
        front zero h = (f, λ l j e. first j e)
          where
            first : (j : ℕ) → pairs_by (w ∷ x ∷ vs) j ≡ 1 → Between old new (cut_at (w ∷ x ∷ vs) s j)
            first zero e = absurd (suc-ne-zero 0 (sym e))
            first (suc j) e = a j (omega (arith, e))
        front (suc k) h = let q = r.fine k (le_of_suc-le-suc h) in (q.0, λ l j e. next q l j e)
          where
            next : FineAt (x ∷ vs) u k → suc (suc k) < length (w ∷ x ∷ vs) → (j : ℕ) → pairs_by (w ∷ x ∷ vs) j ≡ suc (suc k)
                → Between old new (cut_at (w ∷ x ∷ vs) s j)
            next q l zero e = absurd (suc-ne-zero (suc k) (sym e))
            next q l (suc j) e = q.1 (le_of_suc-le-suc l) j (omega (arith, e))

        later : FailsAt (x ∷ vs) u n → FailsAt (w ∷ x ∷ vs) s (suc n)
        later (inl q) = inl (suc-le-suc q.0, q.1)
        later (inr q) = inr (record { follows = suc-le-suc q.follows; cut = suc q.cut; after = ap suc q.after; torn = q.torn })

    here : FailsAt (w ∷ x ∷ vs) s 0 → Found (w ∷ x ∷ vs) s 0
    here q = record { within = omega arith; fine = λ k h. absurd (not-suc-le-zero h); fails = λ _. q }

    -- torn before the event, or after it
    torn_first : (Between old new u → ⊥) → Torn old new (w ∷ x ∷ vs) s 0
    torn_first n = record { follows = suc-le-suc (zero-lt-suc _); cut = 1; after = refl; torn = n }

  torn_event : (w x : Write) (s : Chip) → let u : Chip = (write_of s w.address w.value).chip in (Between old new (vsync_of u) → ⊥)
      → Torn old new (w ∷ x ∷ []) s 0
  torn_event w x s n = record { follows = suc-le-suc (zero-lt-suc _); cut = 2; after = refl; torn = n }

  -- no other cut comes before the next pair
  one_cut : (x y : Write) (vs : List Write) (u : Chip) → Between old new u
      → (j : ℕ) → pairs_by (x ∷ y ∷ vs) j ≡ 0 → Between old new (cut_at (x ∷ y ∷ vs) u j)
  one_cut x y vs u b zero e = b
  one_cut x y vs u b (suc j) e = absurd (suc-ne-zero _ e)

  two_cuts : (x : Write) (u : Chip) → Between old new u → Between old new (vsync_of u)
      → (j : ℕ) → pairs_by (x ∷ []) j ≡ 0 → Between old new (cut_at (x ∷ []) u j)
  two_cuts x u b c zero e = b
  two_cuts x u b c (suc zero) e = c
  two_cuts x u b c (suc (suc zero)) e = absurd (suc-ne-zero _ e)
  two_cuts x u b c (suc (suc (suc j))) e = absurd (suc-ne-zero _ e)

  step : (w x : Write) (vs : List Write) (s : Chip) → Sound s → Kept s → (write_of s w.address w.value).refusal ≡ 0
      → let u : Chip = (write_of s w.address w.value).chip in (Kept u → Found (x ∷ vs) u (first_fault old new (x ∷ vs) u))
      → Found (w ∷ x ∷ vs) s (first_fault old new (w ∷ x ∷ vs) s)
  step w x vs s z g t rest =
      go (fair_test s.image w) refl (is_between old new w.address (holds_of packets s.image) u₀.image u₀.packet u₀.waiting) refl
      (is_turned old new u₀.image u₀.waiting) refl vs rest
    where
      u₀ : Chip
      u₀ = (write_of s w.address w.value).chip

      d : Decides (is_between old new w.address (holds_of packets s.image) u₀.image u₀.packet u₀.waiting) (Between old new u₀)
      d = between_decides s w.address w.value z.whole t old new g.avi g.audio g.matrix

      kept : Between old new u₀ → Kept u₀
      kept m = record { avi = m.avi; audio = m.audio; matrix = m.matrix }

      go : (f : Bool) → fair_test s.image w ≡ f
          → (b : Bool) → is_between old new w.address (holds_of packets s.image) u₀.image u₀.packet u₀.waiting ≡ b
          → (c : Bool) → is_turned old new u₀.image u₀.waiting ≡ c → (vs : List Write)
          → (Kept u₀ → Found (x ∷ vs) u₀ (first_fault old new (x ∷ vs) u₀))
          → Found (w ∷ x ∷ vs) s (cond (f && (b && (not (is_last vs) || c))) (suc (first_fault old new (x ∷ vs) u₀)) 0)
      go false e b q c r vs rest = here w x vs s z g t (inl (zero-lt-suc _, (fair_decides s.image w).fails e))
      go true e false q c r vs rest = here w x vs s z g t (inr (torn_first w x vs s z g t (d.fails q)))
      go true e true q c r (y ∷ ys) rest =
          let m : Between old new u₀ = d.passes q in
          more w x (y ∷ ys) s z g t _ ((fair_decides s.image w).passes e) (one_cut x y ys u₀ m) (rest (kept m))
      go true e true q true r [] rest =
          let m : Between old new u₀ = d.passes q in
          more w x [] s z g t _ ((fair_decides s.image w).passes e) (two_cuts x u₀ m ((turned_decides u₀ old new m).passes r)) (rest (kept m))
      go true e true q false r [] rest =
          here w x [] s z g t (inr (torn_event w x s ((turned_decides u₀ old new (d.passes q)).fails r)))

  pub found : (ws : List Write) (s : Chip) → Sound s → Kept s → Takes ws s → Found ws s (first_fault old new ws s)
  found [] s z g t = none s
  found (w ∷ []) s z g t = go (fair_test s.image w) refl
    where
      go : (b : Bool) → fair_test s.image w ≡ b → Found (w ∷ []) s (cond (b && true) 1 0)
      go true e = alone w s true e
      go false e = alone w s false e
  found (w ∷ x ∷ vs) s z g t =
      step w x vs s z g t.0 (λ k. found (x ∷ vs) (write_of s w.address w.value).chip (sound_next s w.address w.value z t.0) k t.1)

-- a write that is refused where no two holds are up would leave two up
right : (s : Chip) (a v : ℕ) → two (holds_of packets s.image) ≡ false → refuses s a v ≡ true → two (holds_of packets (image_after s a v)) ≡ true
unfolding refuses
right s a v e r = rw e at r

raised : (w : Write) (s : Chip) → Sound s → refuses s w.address w.value ≡ true → TwoUp (image_after s w.address w.value)
raised w s z e = (two_up (image_after s w.address w.value)).passes (right s w.address w.value z.single e)

-- where the machine stops, a pair would leave two packet holds up
pub stops : (ws : List Write) (s : Chip) → Sound s → length (shortened ws s) < length ws → LeavesTwo ws s (length (shortened ws s))
stops [] s z h = absurd (not-suc-le-zero h)
stops (w ∷ []) s z h = go (refuses s w.address w.value) refl
  where
    go : (b : Bool) → refuses s w.address w.value ≡ b → LeavesTwo (w ∷ []) s (length (shortened (w ∷ []) s))
    go true e = subst (λ (l : List Write). LeavesTwo (w ∷ []) s (length l)) (sym (not_taken_first w [] s e)) (raised w s z e)
    go false e = let q : length (shortened (w ∷ []) s) ≡ 1 = ap length (is_taken_first w [] s e) in absurd (omega (arith, q, h))
stops (w ∷ x ∷ ws) s z h =
    go (refuses s w.address w.value) refl
    (λ t l. stops (x ∷ ws) (write_of s w.address w.value).chip (sound_next s w.address w.value z t) l)
  where
    go : (b : Bool) → refuses s w.address w.value ≡ b
        → ((write_of s w.address w.value).refusal ≡ 0 → length (shortened (x ∷ ws) (write_of s w.address w.value).chip) < length (x ∷ ws)
        → LeavesTwo (x ∷ ws) (write_of s w.address w.value).chip (length (shortened (x ∷ ws) (write_of s w.address w.value).chip)))
        → LeavesTwo (w ∷ x ∷ ws) s (length (shortened (w ∷ x ∷ ws) s))
    go true e rest = subst (λ (l : List Write). LeavesTwo (w ∷ x ∷ ws) s (length l)) (sym (not_taken_first w (x ∷ ws) s e)) (raised w s z e)
    go false e rest =
        let q : length (shortened (w ∷ x ∷ ws) s) ≡ suc (length (shortened (x ∷ ws) (write_of s w.address w.value).chip)) =
        ap length (is_taken_first w (x ∷ ws) s e) in
        subst (λ (l : List Write). LeavesTwo (w ∷ x ∷ ws) s (length l)) (sym (is_taken_first w (x ∷ ws) s e))
        (rest (is_taken w (x ∷ ws) s e) (omega (arith, q, h)))

-- ---- how many pairs are taken, by the packet holds alone

holds_after : (s : Chip) (a v : ℕ) → length s.image ≡ 256
    → holds_of packets (image_after s a v) ≡ cond (eqb a packets.register) (merge 8 (read_only a) (holds_of packets s.image) v) (holds_of packets s.image)
unfolding stored
holds_after s a v z = sym (holds_stored s.image a (stored a v s.image) z) ∙ go (eqb a packets.register) refl
  where
    go : (r : Bool) → eqb a packets.register ≡ r → cond r (merge 8 (read_only a) (get_or s.image a 0) v) (holds_of packets s.image)
        ≡ cond r (merge 8 (read_only a) (holds_of packets s.image) v) (holds_of packets s.image)
    go true e = ap (λ (b : ℕ). merge 8 (read_only a) (get_or s.image b 0) v) (eqb-true a packets.register e)
    go false e = refl

-- one pair, by whether the machine refuses it
module _ (w : Write) (ws : List Write) (s : Chip) (z : Sound s) where
  refusal : (n : ℕ) → holds_of packets (image_after s w.address w.value) ≡ n → refuses s w.address w.value ≡ two n
  unfolding refuses
  refusal n e = rw (z.single, e)

  stopped : (n : ℕ) → holds_of packets (image_after s w.address w.value) ≡ n → two n ≡ true → 0 ≡ length (shortened (w ∷ ws) s)
  stopped n e t = sym (ap length (not_taken_first w ws s (refusal n e ∙ t)))

  goes_on_lem : (n : ℕ) → holds_of packets (image_after s w.address w.value) ≡ n → two n ≡ false
      → (Sound (write_of s w.address w.value).chip → taken_by (holds_of packets (write_of s w.address w.value).chip.image) ws
      ≡ length (shortened ws (write_of s w.address w.value).chip))
      → suc (taken_by n ws) ≡ length (shortened (w ∷ ws) s)
  goes_on_lem n e t rest =
      let r : refuses s w.address w.value ≡ false = refusal n e ∙ t in
      let k : (write_of s w.address w.value).refusal ≡ 0 = is_taken w ws s r in
      let h : holds_of packets (write_of s w.address w.value).chip.image ≡ n =
      ap (holds_of packets) ((stepped s w.address w.value z.whole).after k) ∙ e in
      ap (λ (m : ℕ). suc (taken_by m ws)) (sym h) ∙ ap suc (rest (sound_next s w.address w.value z k)) ∙ sym (ap length (is_taken_first w ws s r))

pub taken_by_lem : (ws : List Write) (s : Chip) → Sound s → taken_by (holds_of packets s.image) ws ≡ length (shortened ws s)
taken_by_lem [] s z = refl
taken_by_lem (w ∷ ws) s z =
    go (eqb w.address packets.register) (two (merge 8 (read_only w.address) (holds_of packets s.image) w.value)) refl
    (holds_after s w.address w.value z.whole) (taken_by_lem ws (write_of s w.address w.value).chip)
  where
    go : (r t : Bool) → two (merge 8 (read_only w.address) (holds_of packets s.image) w.value) ≡ t
        → holds_of packets (image_after s w.address w.value)
        ≡ cond r (merge 8 (read_only w.address) (holds_of packets s.image) w.value) (holds_of packets s.image)
        → (Sound (write_of s w.address w.value).chip → taken_by (holds_of packets (write_of s w.address w.value).chip.image) ws
        ≡ length (shortened ws (write_of s w.address w.value).chip))
        → elim r [
          | true ↦ elim t [ true ↦ 0 | false ↦ suc (taken_by (merge 8 (read_only w.address) (holds_of packets s.image) w.value) ws) ]
          | false ↦ suc (taken_by (holds_of packets s.image) ws)
        ] ≡ length (shortened (w ∷ ws) s)
    go true true e h rest = stopped w ws s z _ h e
    go true false e h rest = goes_on_lem w ws s z _ h e rest
    go false t e h rest = goes_on_lem w ws s z _ h z.single rest
