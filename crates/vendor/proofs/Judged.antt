-- What the verdict says of a list: the theorem of `specs/Theorems.antt`. Assumes nothing.
use mathlib.Core.Path.{◌≡◌, refl, sym, ap, subst, ◌∙◌}
use mathlib.Core.Logic.{◌≢◌, inl, inr}
use mathlib.Core.Bool.{Bool, true, false, not, ◌||◌}
use mathlib.Core.List.{List, [], ◌∷◌}
use Prim.Native.Nat.{ℕ, zero, suc, ◌%◌, ◌<◌}
use native.Mathlib.Nat.{not-suc-le-zero, le_of_suc-le-suc}
use native.Mathlib.Omega.{arith}
use lib.Dec.{eqb, ltb}
use lib.ListN.{length}
use borrow.Author.Tests.{ne_eqb, lt-ltb, ltb-true, ltb-false, not-false}
use Rattle.lists.proofs.Both.{neither_right}
use Rattle.lists.proofs.Decides.{Decides, equal, less, either, restated, refuted}
use Rattle.refusals.specs.Tests.{lowest}
use Rattle.refusals.proofs.Tests.{Decided, lowest_given, none_at}
use Rattle.chip.specs.declared.Chip.{Chip}
use Rattle.chip.specs.Machine.{Write, packets, holds_of}
use Rattle.chip.specs.Write.{image_after, two, refuses, write_of}
use Rattle.chip.proofs.Writes.{two_up, allowed}
use Rattle.views.specs.Entry.{is_sized}
use Rattle.views.specs.Refusals.{Sized}
use Rattle.views.specs.Refusals.{WrongLengths}
use Rattle.views.proofs.Lent.{sized, wrong_lengths}
use Rattle.writes.specs.List.{pairs_of, ready}
use Rattle.plan.specs.Rules.{HoldsUp}
use Rattle.plan.proofs.Ordered.{holds_up_lem}
use Rattle.decode.specs.Decode.{some_ends}
use Rattle.decode.specs.Extract.{extract}
use Rattle.decode.proofs.Answers.{none_ends, found_ends}
use Rattle.cut.specs.Run.{all_in_use, Between, Fair}
use Rattle.cut.proofs.NoneRefused.{neat_two}
use Rattle.vendor.specs.Numbered.{Verdict}
use Rattle.vendor.specs.Vendor.{pair_at, cut_at, end_of, pairs_by, Inside, LeavesTwo, Decodable, Passes, shortened, Fails, Bad, FirstBad, SomeBad, most_pairs, WrongLength, vet_rules}
use Rattle.vendor.specs.Found.{place_of, vet_tests, vet_refusal, vet_of, Untold}
use Rattle.vendor.specs.Theorems.{Readable, Vetted}
use Rattle.vendor.proofs.Loops.{shortened_short}
use Rattle.vendor.proofs.Verdicts as verdicts
use Rattle.vendor.proofs.Verdicts.{ends_whole}
use Rattle.vendor.proofs.Faults.{Sound, Takes, shortened_takes, shortened_whole, Found, found, stops}

-- a pair that is taken leaves no two holds up
pub not_two : (s : Chip) (a v : ℕ) → (write_of s a v).refusal ≡ 0 → two (holds_of packets (image_after s a v)) ≡ false
unfolding refuses
not_two s a v e = neither_right (two (holds_of packets s.image)) _ (allowed s a v e)

never_two : (ws : List Write) (s : Chip) (k : ℕ) → Takes ws s → k < length ws → LeavesTwo ws s k → ⊥
never_two [] s k t h = absurd (not-suc-le-zero h)
never_two (w ∷ []) s zero t h = (two_up (image_after s w.address w.value)).fails (not_two s w.address w.value t.0)
never_two (w ∷ []) s (suc k) t h = absurd (not-suc-le-zero (le_of_suc-le-suc h))
never_two (w ∷ x ∷ ws) s zero t h = (two_up (image_after s w.address w.value)).fails (not_two s w.address w.value t.0)
never_two (w ∷ x ∷ ws) s (suc k) t h = never_two (x ∷ ws) (write_of s w.address w.value).chip k t.1 (le_of_suc-le-suc h)

-- a test of what holds is true
not_not : {b : Bool} {P : Type 0} → Decides b P → P → b ≡ true
not_not {b} {P} d x = go b d
  where
    go : (b : Bool) → Decides b P → b ≡ true
    go true d = refl
    go false d = absurd (d.fails refl x)

-- the three rules that a pair keeps by itself
pub is_fair : (ws : List Write) (s : Chip) → Passes ws s → (k : ℕ) → k < length ws → Fair (cut_at ws s k).image (pair_at ws k)
is_fair ws s q k h = record { its_register = q.touches k h; its_mandated = q.carries k h; its_free = q.keeps k h }

-- no two places are the first
one_first : (ws : List Write) (s : Chip) (i k : ℕ) → FirstBad ws s i → FirstBad ws s k → i ≡ k
one_first ws s i k f g = go (ltb i k) (ltb k i) refl refl
  where
    go : (a b : Bool) → ltb i k ≡ a → ltb k i ≡ b → i ≡ k
    go true b e q = absurd (g.earlier i (ltb-true i k e) f.bad)
    go false true e q = absurd (f.earlier k (ltb-true k i q) g.bad)
    go false false e q = omega (arith, ltb-false i k e, ltb-false k i q)

module _ (s : Chip) (list : List ℕ) where
  abbrev ws : List Write
  ws = pairs_of list

  abbrev hs : List Write
  hs = shortened ws s

  abbrev p : ℕ
  p = place_of ws s

  module _ (z : Sized s) (r : ready s.image ≡ true) where
    sound : Sound s
    sound = record { whole = z.image; single = neat_two (holds_of packets s.image) r }

    f : Found (all_in_use s) (all_in_use (end_of hs s)) hs s p
    f = found (all_in_use s) (all_in_use (end_of hs s)) hs s sound (record { avi = inl refl; audio = inl refl; matrix = inl refl }) (shortened_takes ws s)

    bad_here : p < length ws → Bad ws s p
    bad_here h = go (ltb p (length hs)) refl
      where
        go : (t : Bool) → ltb p (length hs) ≡ t → Bad ws s p
        go true e = inl (f.fails (ltb-true _ _ e))
        go false e =
            let q : p ≡ length hs = omega (arith, f.within, ltb-false p (length hs) e) in
            inr (q, h, subst (λ (n : ℕ). LeavesTwo ws s n) (sym q) (stops ws s sound (omega (arith, q, h))))

    earlier : (i : ℕ) → i < p → Bad ws s i → ⊥
    earlier i h (inl (inl q)) = q.1 (f.fine i h).0
    earlier i h (inl (inr q)) = q.torn ((f.fine i h).1 q.follows q.cut q.after)
    earlier i h (inr q) = omega (arith, h, f.within, q.0)

    bad_within : (k : ℕ) → Bad ws s k → k < length ws
    bad_within k (inl (inl q)) = omega (arith, q.0, shortened_short ws s)
    bad_within k (inl (inr q)) = omega (arith, q.follows, shortened_short ws s)
    bad_within k (inr q) = q.1

    first : p < length ws → FirstBad ws s p
    first h = record { within = h; bad = bad_here h; earlier = earlier }

    some_bad : Decides (ltb p (length ws)) (SomeBad ws s)
    some_bad = record {
      passes = λ t. record { place = p; bad = bad_here (ltb-true _ _ t) };
      fails = λ n b. earlier b.place (omega (arith, bad_within b.place b.bad, ltb-false p (length ws) n)) b.bad;
    }

    -- no pair is bad
    module _ (n : ltb p (length ws) ≡ false) where
      all_taken : hs ≡ ws
      all_taken = shortened_whole ws s (omega (arith, f.within, shortened_short ws s, ltb-false p (length ws) n))

      full : Found (all_in_use s) (all_in_use (end_of ws s)) ws s p
      full = subst (λ (l : List Write). Found (all_in_use s) (all_in_use (end_of l s)) l s p) all_taken f

      at_end_lem : Decides (not (some_ends (end_of hs s).image)) (Decodable (end_of ws s).image → ⊥)
      at_end_lem = subst (λ (l : List Write). Decides (not (some_ends (end_of hs s).image)) (Decodable (end_of l s).image → ⊥)) all_taken
          (restated (λ h d. h d.request d.ends) (λ h q e. h (record { request = q; ends = e }))
          (none_ends (end_of hs s).image [] (ends_whole hs s z.image)))

      between : (k : ℕ) → Inside ws k → Between (all_in_use s) (all_in_use (end_of ws s)) (cut_at ws s k)
      between k i = go (pairs_by ws k) refl i.0 i.1
        where
          go : (j : ℕ) → pairs_by ws k ≡ j → 0 < j → j < length ws → Between (all_in_use s) (all_in_use (end_of ws s)) (cut_at ws s k)
          go zero e lo hi = absurd (not-suc-le-zero lo)
          go (suc j) e lo hi = (full.fine j (omega (arith, hi, ltb-false p (length ws) n))).1 hi k e

      fairly : (k : ℕ) → k < length ws → Fair (cut_at ws s k).image (pair_at ws k)
      fairly k h = (full.fine k (omega (arith, h, ltb-false p (length ws) n))).0

      passes : Decodable (end_of ws s).image → Passes ws s
      passes d = record {
        touches = λ k h. (fairly k h).its_register;
        carries = λ k h. (fairly k h).its_mandated;
        keeps = λ k h. (fairly k h).its_free;
        holds = λ k h. never_two ws s k (subst (λ (l : List Write). Takes l s) all_taken (shortened_takes ws s)) h;
        muted = λ k i. (between k i).muted;
        avi = λ k i. (between k i).avi;
        audio = λ k i. (between k i).audio;
        matrix = λ k i. (between k i).matrix;
        decodes = d;
      }

    -- a list that passes has no bad pair
    module _ (q : Passes ws s) where
      pub hears : hs ≡ ws
      hears = go (ltb (length hs) (length ws)) refl
        where
          go : (t : Bool) → ltb (length hs) (length ws) ≡ t → hs ≡ ws
          go true e = absurd (q.holds (length hs) (ltb-true _ _ e) (stops ws s sound (ltb-true _ _ e)))
          go false e = shortened_whole ws s (omega (arith, shortened_short ws s, ltb-false (length hs) (length ws) e))

      not_bad : (k : ℕ) → Bad ws s k → ⊥
      not_bad k (inl b) = go (subst (λ (l : List Write). Fails l s k) hears b)
        where
          go : Fails ws s k → ⊥
          go (inl b) = b.1 (is_fair ws s q k b.0)
          go (inr b) =
              let i : Inside ws b.cut = (omega (arith, b.after), omega (arith, b.after, b.follows)) in
              b.torn (record { muted = q.muted b.cut i; avi = q.avi b.cut i; audio = q.audio b.cut i; matrix = q.matrix b.cut i })
      not_bad k (inr b) = let e : length hs ≡ length ws = ap length hears in omega (arith, b.0, b.1, e)

      none_bad : ltb p (length ws) ≡ false
      none_bad = refuted some_bad (λ b. not_bad b.place b.bad)

  -- ---- the tests decide the rows

  wrong_length_lem : Decides (eqb (length list % 2) 1 || ltb most_pairs (length ws)) (WrongLength list)
  wrong_length_lem = either (equal _ _) (less _ _)

  fit : not (ready s.image) ≡ false → ready s.image ≡ true
  fit b = not-false (ready s.image) b

  decided : Decided (vet_tests s list) (vet_rules s list)
  decided = (
    refl,
    wrong_lengths s,
    λ a. (
      refl,
      holds_up_lem s.image,
      λ b. (refl, wrong_length_lem, λ c. (refl, some_bad (sized s a) (fit b), λ d. (refl, at_end_lem (sized s a) (fit b) d, λ _. tt))),
    ),
  )

  -- 7 and 8 do not apply
  is_sized_lem : Sized s → not (is_sized s) ≡ false
  is_sized_lem z = refuted (wrong_lengths s) go
    where
      go : WrongLengths s → ⊥
      go (inl n) = n z.image
      go (inr (inl n)) = n z.packet
      go (inr (inr n)) = n z.coefficients

  is_ready : (HoldsUp s.image → ⊥) → not (ready s.image) ≡ false
  is_ready h = refuted (holds_up_lem s.image) h

  -- 14 or not, by the length alone
  module _ (z : Sized s) (h : HoldsUp s.image → ⊥) where
    pub fourteen : WrongLength list → (vet_of s list).refusal ≡ 14
    fourteen w = sym (ap (λ (v : Verdict). v.refusal) (verdicts.wrong_length_lem s list (is_sized_lem z) (is_ready h) (not_not wrong_length_lem w)))

    pub not_fourteen : (WrongLength list → ⊥) → (vet_of s list).refusal ≢ 14
    not_fourteen w n = go (ltb p (length ws)) (some_ends (end_of hs s).image) refl refl
      where
        u : Untold s list
        u = record { sized = is_sized_lem z; fit = is_ready h; whole = refuted wrong_length_lem w }

        go : (d e : Bool) → ltb p (length ws) ≡ d → some_ends (end_of hs s).image ≡ e → ⊥
        go true e q t = let x : ◌≡◌ {A = ℕ} 15 14 = ap (λ (v : Verdict). v.refusal) (verdicts.bad_pair_lem s list u p refl q) ∙ n in omega (arith, x)
        go false false q t = let x : ◌≡◌ {A = ℕ} 16 14 = ap (λ (v : Verdict). v.refusal) (verdicts.bad_end_lem s list u q t) ∙ n in omega (arith, x)
        go false true q t = let x : ◌≡◌ {A = ℕ} 0 14 = ap (λ (v : Verdict). v.refusal) (verdicts.passed s list u q t) ∙ n in omega (arith, x)

  -- nor does 14
  module _ (e : Readable s list) where
    u : Untold s list
    u = record { sized = is_sized_lem e.sized; fit = is_ready e.holds; whole = refuted wrong_length_lem e.whole }

    pub passed : Passes ws s → record { refusal = 0; place = 0 } ≡ vet_of s list
    passed q =
        let d = none_bad e.sized (fit u.fit) q in
        verdicts.passed s list u d (not-false _ (refuted (at_end_lem e.sized (fit u.fit) d) (λ n. n q.decodes)))

    bad_pair_lem : p < length ws → record { refusal = 15; place = p } ≡ vet_of s list
    bad_pair_lem h = verdicts.bad_pair_lem s list u p refl (lt-ltb _ _ h)

    to : (k : ℕ) → vet_of s list ≡ record { refusal = 15; place = k } → FirstBad ws s k
    to k v = go (ltb p (length ws)) refl
      where
        other : ltb p (length ws) ≡ false → (t : Bool) → some_ends (end_of hs s).image ≡ t → (vet_of s list).refusal ≢ 15
        other d true t n = let x : ◌≡◌ {A = ℕ} 0 15 = ap (λ (w : Verdict). w.refusal) (verdicts.passed s list u d t) ∙ n in omega (arith, x)
        other d false t n = let x : ◌≡◌ {A = ℕ} 16 15 = ap (λ (w : Verdict). w.refusal) (verdicts.bad_end_lem s list u d t) ∙ n in omega (arith, x)

        go : (t : Bool) → ltb p (length ws) ≡ t → FirstBad ws s k
        go true d =
            let h : p < length ws = ltb-true p (length ws) d in
            subst (λ (n : ℕ). FirstBad ws s n) (ap (λ (w : Verdict). w.place) (bad_pair_lem h ∙ v)) (first e.sized (fit u.fit) h)
        go false d = absurd (other d (some_ends (end_of hs s).image) refl (ap (λ (w : Verdict). w.refusal) v))

    from : (k : ℕ) → FirstBad ws s k → vet_of s list ≡ record { refusal = 15; place = k }
    from k g =
        let h : p < length ws = ltb-true p (length ws) (not_not (some_bad e.sized (fit u.fit)) (record { place = k; bad = g.bad })) in
        sym (bad_pair_lem h) ∙ ap (λ (n : ℕ). record { refusal = 15; place = n }) (one_first ws s p k (first e.sized (fit u.fit) h) g)

  number : (vet_of s list).refusal ≡ lowest (vet_tests s list)
  unfolding vet_of vet_refusal
  number = refl

  readable : (vet_of s list).refusal ≡ 0 → Readable s list
  readable v =
      let z : lowest (vet_tests s list) ≡ 0 = sym number ∙ v in
      record {
        sized = sized s (none_at (vet_tests s list) 0 z);
        holds = (holds_up_lem s.image).fails (none_at (vet_tests s list) 1 z);
        whole = wrong_length_lem.fails (none_at (vet_tests s list) 2 z);
      }

  accepted : (vet_of s list).refusal ≡ 0 → Passes ws s
  accepted v =
      let z : lowest (vet_tests s list) ≡ 0 = sym number ∙ v in
      let g = sized s (none_at (vet_tests s list) 0 z) in
      let r = fit (none_at (vet_tests s list) 1 z) in
      let d = none_at (vet_tests s list) 3 z in
      passes g r d (ended g r d (not-false _ (none_at (vet_tests s list) 4 z)))
    where
      ended : (g : Sized s) (r : ready s.image ≡ true) (d : ltb p (length ws) ≡ false) → some_ends (end_of hs s).image ≡ true
          → Decodable (end_of ws s).image
      ended g r d t = subst (λ (l : List Write). Decodable (end_of l s).image) (all_taken g r d)
          (record { request = extract (end_of hs s).image; ends = found_ends (end_of hs s).image (ends_whole hs s g.image) t })

  zero_beside : (vet_of s list).refusal ≢ 15 → (vet_of s list).place ≡ 0
  unfolding vet_of
  zero_beside h = rw (ne_eqb (vet_refusal s list) 15 h)

  pub vetted : Vetted s list
  vetted = record {
    given = rw number (lowest_given (vet_tests s list) (vet_rules s list) refl decided);
    accepted = ((λ v. (readable v, accepted v)), (λ q. ap (λ (w : Verdict). w.refusal) (sym (passed q.0 q.1))));
    place = λ e k. (to e k, from e k);
    zero = zero_beside;
  }
