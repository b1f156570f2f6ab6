-- A list that passes is careful, and a careful one that ends in an image that decodes passes. Assumes nothing.
use mathlib.Core.Path.{◌≡◌, refl, sym, ap, subst, ◌∙◌}
use mathlib.Core.Logic.{⊎_elim}
use mathlib.Core.Bool.{true}
use mathlib.Core.List.{List, [], ◌∷◌}
use Prim.Native.Nat.{ℕ, zero, suc, ◌<◌, suc-le-suc}
use native.Mathlib.Nat.{not-suc-le-zero, le_of_suc-le-suc, zero-lt-suc, suc-ne-zero}
use native.Mathlib.Omega.{arith}
use lib.ListN.{length, get_or}
use Rattle.chip.specs.declared.Chip.{Chip}
use Rattle.chip.specs.Machine.{Write, ◌gets◌}
use Rattle.chip.specs.Write.{image_after, write_of}
use Rattle.chip.proofs.Writes.{two_up}
use Rattle.views.specs.Refusals.{Sized}
use Rattle.writes.specs.List.{pairs_of, ready}
use Rattle.cut.specs.Run.{Event, write, vsync, event, happens, cut, writes_of, writes_by, all_in_use, Between, Careful, Fair, IsFair}
use Rattle.cut.specs.Vsync.{waited}
use Rattle.cut.specs.Room.{sent}
use Rattle.cut.proofs.VsyncsLeave.{Alike, alike_write, cut_alike, which}
use Rattle.cut.proofs.DemandOfGoodLists.{waited_writes}
use Rattle.vendor.specs.Vendor.{pair_at, cut_at, end_of, pairs_by, Inside, Decodable, Passes}
use Rattle.vendor.proofs.Faults.{Takes, shortened_takes}
use Rattle.vendor.proofs.Judged.{not_two, is_fair, hears}

-- ---- pairs among events

-- where a write of a list stands among the events
pub record Place (es : List Event) (k : ℕ) : Type 0 where
  pub at : ℕ
  pub within : at < length es
  pub is : event es at ≡ write (get_or (writes_of es) k (0 gets 0))
  pub count : writes_by es at ≡ k

find : (es : List Event) (k : ℕ) → k < length (writes_of es) → Place es k
find [] k h = absurd (not-suc-le-zero h)
find (write w ∷ es) zero h = record { at = 0; within = zero-lt-suc _; is = refl; count = refl }
find (write w ∷ es) (suc k) h =
    let p = find es k (le_of_suc-le-suc h) in
    record { at = suc p.at; within = suc-le-suc p.within; is = p.is; count = ap suc p.count }
find (vsync ∷ es) k h = let p = find es k h in record { at = suc p.at; within = suc-le-suc p.within; is = p.is; count = p.count }

-- up to the last pair no event has come
pub pairs_first : (ws : List Write) (k : ℕ) → k < length ws → pairs_by ws k ≡ k
pairs_first [] k h = absurd (not-suc-le-zero h)
pairs_first (w ∷ []) zero h = refl
pairs_first (w ∷ []) (suc k) h = absurd (not-suc-le-zero (le_of_suc-le-suc h))
pairs_first (w ∷ x ∷ ws) zero h = refl
pairs_first (w ∷ x ∷ ws) (suc k) h = ap suc (pairs_first (x ∷ ws) k (le_of_suc-le-suc h))

-- the last pair stands after the event
pub last_event : (ws : List Write) (k : ℕ) → suc k ≡ length ws
    → (event (waited ws) (suc k) ≡ write (pair_at ws k)) × (pairs_by ws (suc k) ≡ k) × (suc (suc k) ≡ length (waited ws))
last_event [] k e = absurd (suc-ne-zero k e)
last_event (w ∷ []) zero e = (refl, refl, refl)
last_event (w ∷ []) (suc k) e = absurd (suc-ne-zero k (let q : suc k ≡ 0 = omega (arith, e) in q))
last_event (w ∷ x ∷ ws) zero e = absurd (suc-ne-zero (length ws) (let q : suc (length ws) ≡ 0 = omega (arith, e) in q))
last_event (w ∷ x ∷ ws) (suc k) e =
    let r = last_event (x ∷ ws) k (let q : suc k ≡ length (x ∷ ws) = omega (arith, e) in q) in
    (r.0, ap suc r.1, ap suc r.2)

-- a cut, by the pairs alone
pub cut_by_pairs : (ws : List Write) (s : Chip) (j : ℕ) → Alike (cut_at ws s j) (cut (sent ws) s (pairs_by ws j))
cut_by_pairs ws s j = subst (λ (l : List Write). Alike (cut_at ws s j) (cut (sent l) s (pairs_by ws j))) (waited_writes ws) (cut_alike (waited ws) s j)

-- pair k finds the registers of cut k, at whatever event it stands
same_registers : (ws : List Write) (s : Chip) (j k : ℕ) → k < length ws → pairs_by ws j ≡ k → (cut_at ws s j).image ≡ (cut_at ws s k).image
same_registers ws s j k h e =
    (cut_by_pairs ws s j).image ∙ ap (λ (n : ℕ). (cut (sent ws) s n).image) (e ∙ sym (pairs_first ws k h)) ∙ sym (cut_by_pairs ws s k).image

takes_at : (ws : List Write) (s : Chip) (k : ℕ) → Takes ws s → k < length ws
    → (write_of (cut (sent ws) s k) (pair_at ws k).address (pair_at ws k).value).refusal ≡ 0
takes_at [] s k t h = absurd (not-suc-le-zero h)
takes_at (w ∷ ws) s zero t h = t.0
takes_at (w ∷ ws) s (suc k) t h = takes_at ws (write_of s w.address w.value).chip k t.1 (le_of_suc-le-suc h)

-- ---- both ways

-- what a passing list is: careful, by what is in use at its start and at its end
abbrev pub CarefulList : List Write → Chip → Type 0
CarefulList ws s = Careful (λ fs. all_in_use s) (all_in_use (end_of ws s)) (waited ws) s

module _ (ws : List Write) (s : Chip) where
  abbrev es : List Event
  es = waited ws

  as_many : length (writes_of es) ≡ length ws
  as_many = ap length (waited_writes ws)

  pub careful_passes : CarefulList ws s → Decodable (end_of ws s).image → Passes ws s
  careful_passes c d = record {
    touches = λ k h. (fair k h).its_register;
    carries = λ k h. (fair k h).its_mandated;
    keeps = λ k h. (fair k h).its_free;
    holds = λ k h. (two_up (image_after (cut_at ws s k) (pair_at ws k).address (pair_at ws k).value)).fails
        (not_two (cut_at ws s k) (pair_at ws k).address (pair_at ws k).value (taken k h));
    muted = λ k i. (between k i).muted;
    avi = λ k i. (between k i).avi;
    audio = λ k i. (between k i).audio;
    matrix = λ k i. (between k i).matrix;
    decodes = d;
  }
    where
      place : (k : ℕ) → k < length ws → Place es k
      place k h = find es k (rw as_many h)

      pair : (k : ℕ) (h : k < length ws) → event es (place k h).at ≡ write (pair_at ws k)
      pair k h = (place k h).is ∙ ap (λ (l : List Write). write (get_or l k (0 gets 0))) (waited_writes ws)

      fair : (k : ℕ) → k < length ws → Fair (cut_at ws s k).image (pair_at ws k)
      fair k h = subst (λ (image : List ℕ). Fair image (pair_at ws k)) (same_registers ws s (place k h).at k h (place k h).count)
          (subst (λ (e : Event). IsFair e (cut_at ws s (place k h).at)) (pair k h) (c.fair (place k h).at (place k h).within))

      taken : (k : ℕ) → k < length ws → (write_of (cut_at ws s k) (pair_at ws k).address (pair_at ws k).value).refusal ≡ 0
      taken k h =
          let j : ℕ = (place k h).at in
          let a : Alike (cut_at ws s k) (cut (sent ws) s k) =
          subst (λ (n : ℕ). Alike (cut_at ws s k) (cut (sent ws) s n)) (pairs_first ws k h) (cut_by_pairs ws s k) in
          let b : Alike (cut_at ws s j) (cut (sent ws) s k) =
          subst (λ (n : ℕ). Alike (cut_at ws s j) (cut (sent ws) s n)) (place k h).count (cut_by_pairs ws s j) in
          (alike_write (pair_at ws k).address (pair_at ws k).value (cut_at ws s k) (cut (sent ws) s k) a).refusal
          ∙ sym (alike_write (pair_at ws k).address (pair_at ws k).value (cut_at ws s j) (cut (sent ws) s k) b).refusal
          ∙ ap (λ (e : Event). (happens e (cut_at ws s j)).refusal) (sym (pair k h)) ∙ c.taken j (place k h).within

      between : (k : ℕ) → Inside ws k → Between (all_in_use s) (all_in_use (end_of ws s)) (cut_at ws s k)
      between k i = c.between k i.0 (rw as_many i.1)

pub passes_careful : (list : List ℕ) (s : Chip) → Sized s → ready s.image ≡ true → Passes (pairs_of list) s → CarefulList (pairs_of list) s
passes_careful list s z r q = record {
  fair = λ j h. ⊎_elim (λ e. subst (λ (v : Event). IsFair v (cut_at (pairs_of list) s j)) (sym e) tt)
      (λ e. subst (λ (v : Event). IsFair v (cut_at (pairs_of list) s j)) (sym (pair j e.0))
      (let k : pairs_by (pairs_of list) j < length (pairs_of list) = fewer j e.1 in
      subst (λ (image : List ℕ). Fair image (pair_at (pairs_of list) (pairs_by (pairs_of list) j))) (sym (same_registers (pairs_of list) s j (pairs_by (pairs_of list) j) k refl))
      (is_fair (pairs_of list) s q (pairs_by (pairs_of list) j) k))) (which (waited (pairs_of list)) j h);
  taken = λ j h. ⊎_elim (λ e. subst (λ (v : Event). (happens v (cut_at (pairs_of list) s j)).refusal ≡ 0) (sym e) refl)
      (λ e. subst (λ (v : Event). (happens v (cut_at (pairs_of list) s j)).refusal ≡ 0) (sym (pair j e.0))
      ((alike_write _ _ (cut_at (pairs_of list) s j) (cut (sent (pairs_of list)) s (pairs_by (pairs_of list) j)) (cut_by_pairs (pairs_of list) s j)).refusal
      ∙ takes_at (pairs_of list) s (pairs_by (pairs_of list) j) t (fewer j e.1))) (which (waited (pairs_of list)) j h);
  between = λ k lo hi.
      let i : Inside (pairs_of list) k = (lo, fewer k hi) in
      record { muted = q.muted k i; avi = q.avi k i; audio = q.audio k i; matrix = q.matrix k i };
}
  where
    t : Takes (pairs_of list) s
    t = subst (λ (l : List Write). Takes l s) (hears s list z r q) (shortened_takes (pairs_of list) s)

    pair : (j : ℕ) → event (waited (pairs_of list)) j ≡ write (get_or (writes_of (waited (pairs_of list))) (pairs_by (pairs_of list) j) (0 gets 0))
        → event (waited (pairs_of list)) j ≡ write (pair_at (pairs_of list) (pairs_by (pairs_of list) j))
    pair j e = e ∙ ap (λ (l : List Write). write (get_or l (pairs_by (pairs_of list) j) (0 gets 0))) (waited_writes (pairs_of list))

    fewer : (j : ℕ) → pairs_by (pairs_of list) j < length (writes_of (waited (pairs_of list))) → pairs_by (pairs_of list) j < length (pairs_of list)
    fewer j h = subst (λ (l : List Write). pairs_by (pairs_of list) j < length l) (waited_writes (pairs_of list)) h
