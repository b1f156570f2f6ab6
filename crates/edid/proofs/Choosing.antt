-- The first wish that fits: the tests decide the rows, the one found is the first, and with it the request is accepted. Assumes nothing.
use mathlib.Core.Path.{◌≡◌, refl, sym, ap, subst, ◌∙◌}
use mathlib.Core.Logic.{◌≢◌}
use mathlib.Core.Bool.{Bool, true, false, cond, not, true≢false, false≢true, ◌||◌}
use mathlib.Core.List.{List, [], ◌∷◌}
use Prim.Native.Nat.{ℕ, zero, suc, ◌+◌, ◌%◌, ◌<◌, suc-le-suc}
use native.Mathlib.Omega.{arith}
use lib.Dec.{eqb}
use lib.ListN.{length, get_or, set}
use lib.Seq.{get_or-set_same, get_or-set_other, set_out}
use borrow.Author.Tests.{eqb-true, eqb-false, eq-eqb, not-true, not-false}
use Rattle.lists.specs.Find.{some}
use Rattle.lists.proofs.Both.{both_left, both_right, neither_left, neither_right}
use Rattle.lists.proofs.Decides.{Decides, equal, less, opposite, either, itself, confirmed}
use Rattle.refusals.specs.Rows.{at}
use Rattle.refusals.proofs.Tests.{answer_beside, answer_none, none_in_stages}
use Rattle.sound.specs.declared.Sound.{Sound}
use Rattle.sound.specs.declared.Sound.TheVariants.{Off, On}
use Rattle.matrix.specs.Matrix.{Bytes}
use Rattle.clock.specs.Numbered.{Pair}
use Rattle.clock.specs.Answers.{no_pair}
use Rattle.request.specs.declared.Request.{Request}
use Rattle.request.specs.Sections.{walked}
use Rattle.request.specs.Request.{request_of, ncts_rules}
use Rattle.request.specs.Read.{ask_of, read_of, limit_of, pair_for, ncts_of}
use Rattle.request.proofs.Coherent.{rows}
use Rattle.edid.specs.declared.Ask.TheVariants.{Vic, Pcm}
use Rattle.edid.specs.Numbered.{Choice}
use Rattle.edid.specs.Screen.{extension, collection, tells}
use Rattle.edid.specs.Wish.{Wish, wishes_in, wish_at, in_place, SoundCovered, WishFits, WrongWishes, NoneFits, choose_rules}
use Rattle.edid.specs.Found.{sound_told, is_shown, is_fitting, first_at, vic_in, vic_at, wrong_wishes, lowest_row, choose_tests, no_choice, choose_of}
use Rattle.edid.specs.Theorems.{FirstFit, put_at}
use Rattle.edid.specs.Order.{GivenFirst}
use Rattle.edid.proofs.Order.{lowest_first, none_at, answer_first}
use Rattle.edid.proofs.Placed.{placed, room, in_place_lem}
use Rattle.edid.proofs.Rows.{unplaced, no_fit}
use Rattle.edid.proofs.Answers.{wrong_length_lem, wrong_sum_lem, bad_block_lem}

-- bytes, with another one stored
set_bytes : (l : List ℕ) (i a : ℕ) → Bytes l → a < 256 → Bytes (set l i a)
set_bytes l i a f h j = let k = f j in grind (arith, get_or-set_same {A = ℕ}, get_or-set_other {A = ℕ}, set_out {A = ℕ})

pub in_bytes : (w : Wish) (input : List ℕ) → Bytes input → w.vic < 256 → w.family < 256 → Bytes (in_place w input)
in_bytes w input f v k = go (eqb (vic_in (walked input)) 0) refl
  where
    go : (b : Bool) → eqb (vic_in (walked input)) 0 ≡ b → Bytes (in_place w input)
    go true e = subst Bytes (sym (unplaced w input (eqb-true _ _ e))) f
    go false e =
        subst Bytes (placed input (eqb-false _ _ e) w)
        (set_bytes (set input (vic_in (walked input)) w.vic) (suc (vic_in (walked input))) w.family (set_bytes input (vic_in (walked input)) w.vic f v) k)

wish_bytes : (wishes : List ℕ) → Bytes wishes → (i : ℕ) → ((wish_at wishes i).vic < 256) × ((wish_at wishes i).family < 256)
wish_bytes [] f i = (omega arith, omega arith)
wish_bytes (a ∷ []) f i = (omega arith, omega arith)
wish_bytes (a ∷ b ∷ l) f zero = (f 0, f 1)
wish_bytes (a ∷ b ∷ l) f (suc i) = wish_bytes l (λ k. f (suc (suc k))) i

-- an accepted request is the one that its sections say
module _ (input : List ℕ) (z : (ncts_of input).refusal ≡ 0) where
  both_none : ((read_of input).refusal ≡ 0) × ((pair_for (read_of input).request).refusal ≡ 0)
  unfolding ncts_of
  both_none = none_in_stages no_pair (pair_for (read_of input).request) (λ (p : Pair). p.refusal) (read_of input).refusal refl z

  pub read_none : (read_of input).refusal ≡ 0
  read_none = both_none.0

  asked_none : (ask_of input).refusal ≡ 0
  unfolding read_of
  asked_none = (none_in_stages (λ (n : ℕ). n) (limit_of (ask_of input).request.video (ask_of input).request.sound) (λ (n : ℕ). n) (ask_of input).refusal refl read_none).0

  pub said : (read_of input).request ≡ request_of (walked input)
  said = (rows input).known ∙ (rows input).said asked_none

-- the sound
told : (e : List ℕ) (s : Sound) → Decides (sound_told (collection (extension e)) s) (SoundCovered e s)
told e Off = record { passes = λ _. tt; fails = λ f _. true≢false f }
told e (On rate channels coherent) = itself (tells (collection (extension e)) (Pcm rate channels))

module _ (e input : List ℕ) (f : Bytes input) (w : Wish) (v : w.vic < 256) (k : w.family < 256) where
  abbrev i : List ℕ
  i = in_place w input

  pub accepts : ((ncts_of (in_place w input)).refusal ≡ 0 → (n : ℕ) → n < length (ncts_rules (walked (in_place w input))) → (at (ncts_rules (walked (in_place w input))) n).When → ⊥)
      × (((n : ℕ) → n < length (ncts_rules (walked (in_place w input))) → (at (ncts_rules (walked (in_place w input))) n).When → ⊥) → (ncts_of (in_place w input)).refusal ≡ 0)
  accepts = ((rows (in_place w input)).ncts (in_bytes w input f v k)).none

  fits_is : is_fitting (collection (extension e)) input w ≡ true → WishFits e input w
  unfolding is_fitting
  fits_is t =
      let l = both_left (tells (collection (extension e)) (Vic w.vic)) (is_shown (collection (extension e)) i) t in
      let s = both_right (tells (collection (extension e)) (Vic w.vic)) (is_shown (collection (extension e)) i) t in
      let z = eqb-true (ncts_of i).refusal 0 (both_left (eqb (ncts_of i).refusal 0) (sound_told (collection (extension e)) (read_of i).request.sound) s) in
      let c = (told e (read_of i).request.sound).passes (both_right (eqb (ncts_of i).refusal 0) (sound_told (collection (extension e)) (read_of i).request.sound) s) in
      record { listed = l; covered = subst (λ (r : Request). SoundCovered e r.sound) (said i z) c; permitted = accepts.0 z }

  is_fits : WishFits e input w → is_fitting (collection (extension e)) input w ≡ true
  unfolding is_fitting
  is_fits h =
      let z = accepts.1 h.permitted in
      let c = subst (λ (r : Request). SoundCovered e r.sound) (sym (said i z)) h.covered in
      rw (h.listed, eq-eqb (ncts_of i).refusal 0 z) (confirmed (told e (read_of i).request.sound) c)

  pub decides : Decides (is_fitting (collection (extension e)) input w) (WishFits e input w)
  decides = record { passes = fits_is; fails = λ n h. false≢true (sym n ∙ is_fits h) }

-- some entry passes, and the first that does
module _ {A : Type 0} (test : A → Bool) (d : A) where
  pub none_passes : (xs : List A) → some test xs ≡ false → (i : ℕ) → i < length xs → test (get_or xs i d) ≡ false
  none_passes [] n i h = absurd (omega arith)
  none_passes (x ∷ xs) n zero h = neither_left (test x) (some test xs) n
  none_passes (x ∷ xs) n (suc i) h = none_passes xs (neither_right (test x) (some test xs) n) i (omega arith)

  pub record FirstOf (xs : List A) (place : ℕ) : Type 0 where
    pub within : place < length xs
    pub passes : test (get_or xs place d) ≡ true
    pub earlier : (i : ℕ) → i < place → test (get_or xs i d) ≡ false

  pub first_of : (xs : List A) → some test xs ≡ true → FirstOf xs (first_at test xs)
  first_of [] t = absurd (false≢true t)
  first_of (x ∷ xs) t = go (test x) refl (first_of xs) t
    where
      go : (b : Bool) → test x ≡ b → (some test xs ≡ true → FirstOf xs (first_at test xs)) → (b || some test xs) ≡ true → FirstOf (x ∷ xs) (cond b 0 (suc (first_at test xs)))
      go true e more t = record { within = omega arith; passes = e; earlier = λ i h. absurd (omega arith) }
      go false e more t =
          let r = more t in
          record { within = suc-le-suc r.within; passes = r.passes; earlier = sooner e (first_at test xs) r.earlier }
        where
          sooner : test x ≡ false → (n : ℕ) → ((i : ℕ) → i < n → test (get_or xs i d) ≡ false) → (i : ℕ) → i < suc n → test (get_or (x ∷ xs) i d) ≡ false
          sooner e n f zero h = e
          sooner e n f (suc i) h = f i (omega arith)

-- row 21, of the wishes
wrong_wishes_lem : (wishes : List ℕ) → Decides (wrong_wishes wishes) (WrongWishes wishes)
wrong_wishes_lem wishes = either (opposite (equal (length wishes % 2) 0)) (less 32 (length wishes))

module _ (e input wishes : List ℕ) where
  abbrev test : Wish → Bool
  test = is_fitting (collection (extension e)) input

  abbrev nobody : Wish
  nobody = record { vic = 0; family = 0 }

  -- row 24
  none_fits : Bytes input → Bytes wishes → Decides (not (some test (wishes_in wishes))) (NoneFits e input wishes)
  none_fits f g =
      record {
        passes = λ t i h p.
            (decides e input f (wish_at wishes i) (wish_bytes wishes g i).0 (wish_bytes wishes g i).1).fails
            (none_passes test nobody (wishes_in wishes) (not-true (some test (wishes_in wishes)) t) i h) p;
        fails = λ n q.
            let r = first_of test nobody (wishes_in wishes) (not-false (some test (wishes_in wishes)) n) in
            q (first_at test (wishes_in wishes)) r.within ((decides e input f (wish_at wishes (first_at test (wishes_in wishes))) (wish_bytes wishes g (first_at test (wishes_in wishes))).0 (wish_bytes wishes g (first_at test (wishes_in wishes))).1).passes r.passes);
      }

  abbrev choice : Choice
  choice = record { refusal = 0; place = first_at test (wishes_in wishes); at = vic_at input }

  abbrev number : ℕ
  number = lowest_row (choose_tests e input wishes)

  pub choose_given : Bytes input → Bytes wishes → GivenFirst (choose_rules e input wishes) (choose_of e input wishes).refusal
  unfolding choose_of
  choose_given f g =
      answer_first no_choice choice (λ (c : Choice). c.refusal) (choose_rules e input wishes) number refl (λ _. refl)
      (lowest_first (choose_tests e input wishes) (choose_rules e input wishes) refl
      ((refl, either (wrong_length_lem e) (wrong_wishes_lem wishes), λ _. (refl, wrong_sum_lem e, λ _. (refl, bad_block_lem e, λ _. (refl, none_fits f g, λ _. tt))))))

  pub nothing_beside : (choose_of e input wishes).refusal ≢ 0 → choose_of e input wishes ≡ no_choice (choose_of e input wishes).refusal
  unfolding choose_of
  nothing_beside h =
      let b = answer_beside no_choice choice (λ (c : Choice). c.refusal) number (λ _. refl) h in
      b ∙ ap no_choice (sym (ap (λ (c : Choice). c.refusal) b))

  module _ (z : (choose_of e input wishes).refusal ≡ 0) where
    none_given : lowest_row (choose_tests e input wishes) ≡ 0
    unfolding choose_of
    none_given = (none_in_stages no_choice choice (λ (c : Choice). c.refusal) number refl z).0

    is_choice : choose_of e input wishes ≡ choice
    unfolding choose_of
    is_choice = answer_none no_choice choice number none_given

    some_fits : some test (wishes_in wishes) ≡ true
    some_fits = not-false (some test (wishes_in wishes)) (none_at (choose_tests e input wishes) 3 none_given)

    found : FirstOf test nobody (wishes_in wishes) (first_at test (wishes_in wishes))
    found = first_of test nobody (wishes_in wishes) some_fits

    abbrev place : ℕ
    place = first_at test (wishes_in wishes)

    pub first_fit : Bytes input → Bytes wishes → FirstFit e input wishes (choose_of e input wishes).place
    first_fit f g =
        subst (FirstFit e input wishes) (sym (ap (λ (c : Choice). c.place) is_choice))
        (record {
          within = found.within;
          fits = (decides e input f (wish_at wishes place) (wish_bytes wishes g place).0 (wish_bytes wishes g place).1).passes found.passes;
          earlier = λ i h. (decides e input f (wish_at wishes i) (wish_bytes wishes g i).0 (wish_bytes wishes g i).1).fails (found.earlier i h);
        })

    placed_there : vic_at input ≢ 0
    placed_there n = false≢true (sym (no_fit (collection (extension e)) input n (wish_at wishes place)) ∙ found.passes)

    pub put_there : put_at (choose_of e input wishes).at (wish_at wishes (choose_of e input wishes).place) input ≡ in_place (wish_at wishes (choose_of e input wishes).place) input
    put_there =
        subst (λ (c : Choice). put_at c.at (wish_at wishes c.place) input ≡ in_place (wish_at wishes c.place) input) (sym is_choice)
        (let s : suc (vic_at input) ≡ vic_at input + 1 = omega arith in rw s (in_place_lem input (vic_at input) refl placed_there (wish_at wishes place)))

    pub inside : suc (choose_of e input wishes).at < length input
    inside =
        subst (λ (c : Choice). suc c.at < length input) (sym is_choice) (omega (arith, room input (vic_at input) refl placed_there))

    pub accepted_there : (ncts_of (put_at (choose_of e input wishes).at (wish_at wishes (choose_of e input wishes).place) input)).refusal ≡ 0
    unfolding is_fitting
    accepted_there =
        let w : Wish = wish_at wishes place in
        let b : List ℕ = collection (extension e) in
        let t = both_right (tells b (Vic w.vic)) (is_shown b (in_place w input)) found.passes in
        ap (λ (l : List ℕ). (ncts_of l).refusal) put_there
        ∙ subst (λ (c : Choice). (ncts_of (in_place (wish_at wishes c.place) input)).refusal ≡ 0) (sym is_choice)
        (eqb-true (ncts_of (in_place w input)).refusal 0 (both_left (eqb (ncts_of (in_place w input)).refusal 0) (sound_told b (read_of (in_place w input)).request.sound) t))
